-- Laws that the proofs of this crate cite, and the definitions computed.
pub mod Sentences
pub mod Examples
