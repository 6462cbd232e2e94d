-- The laws that the proofs of this crate cite.
pub mod Items
pub mod Ready
pub mod Stepping
pub mod Acts
