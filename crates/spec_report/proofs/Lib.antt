-- The definitions computed on the runs of document 01, the laws of what is left in a lent buffer and of where a run
-- ends, the report of a run of steps and of the steps in its place, the length of joined parts, and the nearest wrong
-- machine held against the right one.
pub mod Texts
pub mod MarkedRuns
pub mod Buffers
pub mod WholeAtCommit
pub mod Backed
pub mod Ends
pub mod MarkedSchedules
pub mod RunReports
pub mod JoinedLengths
