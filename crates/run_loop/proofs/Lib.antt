-- The laws of a run of records.
pub mod NextEntry
pub mod Others
pub mod OneEntry
pub mod OneAfterAnother
pub mod Starting
