-- Tallies that count no more than there is. Assumes nothing.
use Rattle.std.specs.Prelude.{ℕ, ◌≤◌}
use Rattle.vectors_agreement.specs.declared.Tally.{Tally}
use Rattle.vectors_agreement.specs.declared.Tallies.{Tallies}

-- No more cases agree than were tried, and no more than n were tried.
abbrev pub Low : Tally → ℕ → Type 0
Low t n = (t.agree ≤ t.tried) × (t.tried ≤ n)

-- The same of every kind.
pub record AllLow (t : Tallies) (n : ℕ) : Type 0 where
  pub checks : Low t.checks n
  pub runs : Low t.runs n
  pub schedules : Low t.schedules n
  pub writings : Low t.writings n
