-- Registers at a line of a row.
pub mod Rows
