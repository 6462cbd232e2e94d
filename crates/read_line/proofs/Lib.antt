-- Laws on a line taken apart.
pub mod Arms
