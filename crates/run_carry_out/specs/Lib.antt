-- What carrying out a change asks.
pub mod Asks
