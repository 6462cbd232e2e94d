-- Digits judged from left to right, and judged whole. Assumes nothing.
use Prim.Native.Nat.{ℕ, ◌<◌}
use mathlib.Core.Path.{◌≡◌, refl}
use mathlib.Core.Bool.{true, false, cond, ◌&&◌, and-false}
use mathlib.Core.List.{List, [], ◌∷◌}
use native.Mathlib.Omega.{arith}
use borrow.Author.Tests.{lt-leb, ne_eqb}
use lib.Dec.{leb}
use lib.ListN.{length, get_or}
use Rattle.std.specs.Prelude.{Option, Some, None, ◌≢◌}
use Rattle.spec_text.proofs.Decimal.{value-le}
use Rattle.spec_text.specs.Numbers.{all_digits, leads, value, largest, number}

-- The number that the digits s make behind digits that are worth n, where they are digits and it is not too large.
abbrev pub judged : ℕ → List ℕ → Option ℕ
judged n s = cond (all_digits s && leb (value n s) largest) (Some (value n s)) None

-- A field that leads as a number does is judged by its digits.
pub number-judged : (s : List ℕ) → leads s ≡ true → number s ≡ judged 0 s
unfolding number
number-judged s h = rw h

-- A field that does not lead as a number does holds none.
pub number-bad : (s : List ℕ) → leads s ≡ false → number s ≡ None
unfolding number
number-bad s h = rw h

-- Digits that are worth too much stay so.
pub judged-over : (n : ℕ) (s : List ℕ) → largest < n → judged n s ≡ None
judged-over n s h = let over : largest < value n s = omega (arith, value-le n s, h) in
    rw (lt-leb (value n s) largest over, and-false (all_digits s))

-- No bytes do not lead.
pub leads-none : (s : List ℕ) → length s < 1 → leads s ≡ false
leads-none [] h = refl
leads-none (b ∷ s) h = absurd (omega arith)

-- One byte leads.
pub leads_one : (s : List ℕ) → length s ≡ 1 → leads s ≡ true
leads_one [] h = absurd (omega arith)
leads_one (b ∷ []) h = refl
leads_one (b ∷ c ∷ s) h = absurd (omega arith)

-- Bytes that do not begin with 0 lead.
pub leads-other : (s : List ℕ) → 0 < length s → get_or s 0 0 ≢ 48 → leads s ≡ true
leads-other [] h n = absurd (omega arith)
leads-other (b ∷ []) h n = refl
leads-other (b ∷ c ∷ s) h n = rw (ne_eqb b 48 n)

-- More bytes than one that begin with 0 do not.
pub leads-zero : (s : List ℕ) → 1 < length s → get_or s 0 0 ≡ 48 → leads s ≡ false
leads-zero [] h e = absurd (omega arith)
leads-zero (b ∷ []) h e = absurd (omega arith)
leads-zero (b ∷ c ∷ s) h e = rw e

-- What the tests of a field's first bytes say.
pub ruleset first_bytes = (number-judged, number-bad, leads-none, leads_one, leads-other, leads-zero)
