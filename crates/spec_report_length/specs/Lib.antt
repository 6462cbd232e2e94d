-- The length that no report exceeds.
pub mod Longest
