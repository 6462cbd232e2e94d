-- How a schedule of records ends.
pub mod Ending
