-- The report, and what a text or a schedule of records comes to.
pub mod Report
pub mod Outcomes
pub mod Backed
pub mod RunsAlike
