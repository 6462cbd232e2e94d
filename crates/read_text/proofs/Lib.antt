-- Laws on reading a text line by line.
pub mod ReadOn
