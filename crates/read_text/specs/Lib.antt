-- What reading a whole text promises.
pub mod Readings
