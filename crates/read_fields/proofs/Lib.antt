-- Laws on lines and fields by their places: they are the lines and fields of the definitions. Assumes nothing.
pub mod FieldPlaces
pub mod Scanned
pub mod NumbersRead
pub mod LinePlaces
