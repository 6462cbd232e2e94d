-- What a written line leaves in the buffer.
pub mod Fills
