-- How a run from the opening on ends.
pub mod Ends
