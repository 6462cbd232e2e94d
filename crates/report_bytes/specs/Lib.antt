-- What writing into a lent buffer promises.
pub mod Writes
