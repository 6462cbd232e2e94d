-- The laws of carrying out a change.
pub mod Carrying
