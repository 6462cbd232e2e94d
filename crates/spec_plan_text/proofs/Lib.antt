-- What is written has the longest runs, is short, is read back, and is reported alike; it is written just where the run
-- is accepted, and alike for texts of the same meaning.
pub mod Runnable
pub mod LongestRuns
pub mod FullyJoined
pub mod Length
pub mod Leads
pub mod PlanReadBack
pub mod EntriesReadBack
pub mod ReadBack
pub mod SameRun
pub mod ReadEntries
pub mod WrittenTexts
mod Examples
