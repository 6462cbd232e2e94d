-- The text of a plan and the entry lines that notes stand for.
pub mod TextIn
