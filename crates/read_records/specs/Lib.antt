-- What the notes on a schedule of records hold.
pub mod Noted
