-- Laws on first fields.
pub mod Words
