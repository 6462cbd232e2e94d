-- What there is before the records run.
pub mod Begun
