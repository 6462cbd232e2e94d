-- The bounds of tallies.
pub mod LowTally
