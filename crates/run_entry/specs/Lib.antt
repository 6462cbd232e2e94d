-- What acting on a judged entry promises and asks.
pub mod Stepping
pub mod Acting
