-- The lines of a plan before its updates.
pub mod BeforeUpdates
