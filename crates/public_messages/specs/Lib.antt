-- A refusal in plain words.
pub mod Messages
