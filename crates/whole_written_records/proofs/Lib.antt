-- The laws of a plan's text with records that is written.
pub mod RecordsWritten
