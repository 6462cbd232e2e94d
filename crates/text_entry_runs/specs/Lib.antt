-- The entry lines that notes stand for, and one more single entry at their end.
pub mod Joined
pub mod Behind
