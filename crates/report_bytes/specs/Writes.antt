-- Bytes written into a lent buffer, as far as it has room. Assumes nothing.
use Rattle.std.specs.Prelude.{ℕ, ◌+◌, ◌≤◌, ◌≡◌, List, [], ◌∷◌, length, set}

-- A buffer with bytes written from a place on. What lies past its end is not written.
unfoldable pub put : List ℕ → ℕ → List ℕ → List ℕ
put buffer at [] = buffer
put buffer at (b ∷ bs) = put (set buffer at b) (at + 1) bs

-- Some bytes were written from a place on, at most so many, and the place behind them is known.
pub record Writes (written : List ℕ) (most at : ℕ) (before : List ℕ) (next : ℕ) (after : List ℕ) : Type 0 where
  pub next_is : next ≡ at + length written
  pub at_most : next ≤ at + most
  pub after_is : after ≡ put before at written
