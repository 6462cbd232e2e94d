-- The laws of how a run ends.
pub mod WrittenOut
pub mod ReportOfTables
