-- Every run stays in the ranges of the machine's numbers, in the order in which it is read.
pub mod Every
pub mod Bounded
pub mod BoundedKept
pub mod Ranges
