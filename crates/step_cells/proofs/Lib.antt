-- Laws of the tables.
pub mod StoreRoom
pub mod Works
pub mod Whole
