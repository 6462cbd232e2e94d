-- Lines, fields and numbers of a text, read and written, as definitions over lists of bytes; and numbers in the first
-- places of a list.
pub mod Bytes
pub mod Numbers
pub mod Decimal
pub mod Lines
pub mod WrittenLines
pub mod FirstPlaces
