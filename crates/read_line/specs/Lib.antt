-- What a kind that can stand asks of what has been read.
pub mod Standing
