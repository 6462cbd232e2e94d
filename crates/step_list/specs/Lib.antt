-- What an item of the step list asks.
pub mod Ready
