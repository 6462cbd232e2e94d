-- Registers on to another place, and the effects that items give.
pub mod Registers
