-- The machine that the tables are, the book that is kept beside it, what an item's answer stands for, and what the
-- items ask.
pub mod Tables
pub mod Changed
pub mod Book
pub mod Effects
pub mod Fits
