-- Laws for proofs that go through a function statement by statement.
pub mod JoinedSteps
pub mod AtExit
pub mod Local
pub mod Spots
pub mod Lent
pub mod Front
pub mod Structs
pub mod Again
pub mod Muts
