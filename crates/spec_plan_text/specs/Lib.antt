-- The one text of a plan and a list of single entries, and what the writer gives.
pub mod EntryLines
pub mod PlanText
pub mod Writing
pub mod WrittenTexts
pub mod LongestText
