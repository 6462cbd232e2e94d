-- What the programs print.
pub mod Printing
