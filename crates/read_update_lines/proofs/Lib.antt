-- Laws on the last of updates.
pub mod Updates
