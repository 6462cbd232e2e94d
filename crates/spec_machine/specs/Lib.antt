-- The machine as definitions, from the bottom up.
pub mod Selected
pub mod Memory
pub mod Places
pub mod Status
pub mod Working
pub mod Cells
pub mod Moves
pub mod Steps
pub mod Machine
pub mod Ranges
pub mod Entries
pub mod History
pub mod Demand3
pub mod StockRule
pub mod Counters
