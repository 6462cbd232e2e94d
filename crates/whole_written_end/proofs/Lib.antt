-- The text of a plan and of notes, in parts, and written out.
pub mod TextParts
