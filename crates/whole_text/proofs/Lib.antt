-- The laws of running a text.
pub mod AcceptedText
