-- What always holds of what has been read, and what the functions that read one line promise.
pub mod Consistent
pub mod Promises
