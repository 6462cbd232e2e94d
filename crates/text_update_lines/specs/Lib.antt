-- The lines of moves.
pub mod MoveLines
