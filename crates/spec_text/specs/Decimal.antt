-- A number written in base ten, as a text and a report write it. Assumes nothing.
use Rattle.std.specs.Prelude.{ℕ, zero, suc, ◌+◌, ◌/◌, ◌%◌, cond, List, [], ◌∷◌, ◌++◌, ltb}

-- The decimal digits of n, the most significant first and no leading zero, where n has at most k + 1 of them.
abbrev pub digits : ℕ → ℕ → List ℕ
digits zero n = (48 + n) ∷ []
digits (suc k) n = cond (ltb n 10) ((48 + n) ∷ []) (digits k (n / 10) ++ ((48 + n % 10) ∷ []))

-- The decimal digits of a number of at most 32 bits, which has at most ten.
unfoldable pub decimal : ℕ → List ℕ
decimal n = digits 9 n
