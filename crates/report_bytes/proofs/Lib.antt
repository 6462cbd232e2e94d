-- Laws of writing into a lent buffer.
pub mod Writes
pub mod LoopParts
