-- Lines and fields by their places in a text.
pub mod FieldPlaces
