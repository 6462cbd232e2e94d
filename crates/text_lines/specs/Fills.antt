-- Bytes written into exactly their own part of a lent buffer. Assumes nothing.
use Rattle.std.specs.Prelude.{ℕ, ◌+◌, ◌≤◌, ◌≡◌, List, ◌++◌, length, take, drop}

-- A buffer with bytes from a place on; the other places stay.
abbrev pub filled : List ℕ → ℕ → List ℕ → List ℕ
filled buffer at bytes = take at buffer ++ (bytes ++ drop (at + length bytes) buffer)

-- Some bytes were written from a place on, where the buffer has room for them, and the place behind them is known.
pub record Fills (bytes : List ℕ) (at : ℕ) (before : List ℕ) (next : ℕ) (after : List ℕ) : Type 0 where
  pub next_is : next ≡ at + length bytes
  pub room : next ≤ length before
  pub after_is : after ≡ filled before at bytes
