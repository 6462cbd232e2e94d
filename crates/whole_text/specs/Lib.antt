-- What running an accepted text asks.
pub mod Reads
