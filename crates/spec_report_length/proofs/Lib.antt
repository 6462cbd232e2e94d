-- No report is longer than 75,101 bytes, in the order in which it is read; and the bound computed.
pub mod Committed
pub mod LineLengths
pub mod Short
mod Examples
