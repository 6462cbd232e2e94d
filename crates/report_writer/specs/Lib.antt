-- The report from the parts that the code has, written whole or not at all.
pub mod Writing
