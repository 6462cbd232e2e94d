-- Laws that the proofs of this crate cite, and how long its lines can be.
pub mod NotedBytes
pub mod EntryLengths
