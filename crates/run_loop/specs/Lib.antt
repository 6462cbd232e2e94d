-- The commits as rows, and how far a run of records has come.
pub mod CommitRows
pub mod RunReached
