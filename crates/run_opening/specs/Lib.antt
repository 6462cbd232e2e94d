-- What the tables hold at the opening.
pub mod Opened
