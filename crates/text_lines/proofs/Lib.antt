-- Parts written from the end to the start, the fields of numbers, bytes written one behind the other, and lines that a
-- number counts.
pub mod Backwards
pub mod FieldsWritten
pub mod Fills
pub mod JoinedLines
