-- Laws that the proofs of this crate cite.
pub mod Behind
pub mod NotedLines
