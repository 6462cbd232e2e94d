-- What every stage of a move asks.
pub mod AtMove
