-- Laws on the definitions of specs/. Assumes nothing.
pub mod Cases
pub mod Decimal
pub mod Digits
pub mod WrittenLines
