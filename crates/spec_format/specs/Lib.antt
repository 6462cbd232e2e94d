-- The plan, the kinds of lines, the faults of the table, and what a whole text gives, as definitions over bytes.
pub mod Plan
pub mod Kinds
pub mod ParsedLines
pub mod Faults
pub mod Reading
pub mod FirstFault
pub mod RunIsSteps
pub mod UpdateNumbers
pub mod Sound
