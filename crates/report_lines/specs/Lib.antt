-- The report's lines.
pub mod ReportLines
