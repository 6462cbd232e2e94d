-- What a number is in a text: "A number has no sign and no leading zero (0 itself excepted) and is at most
-- 4,294,967,295." Bytes are numbers from 0 to 255; 48 to 57 are the digits 0 to 9. Assumes nothing.
use Rattle.std.specs.Prelude.{ℕ, ◌+◌, ◌*◌, ◌-◌, Bool, true, false, cond, not, ◌&&◌, List, [], ◌∷◌, leb, eqb}
use Rattle.std.specs.Prelude.{Option, Some, None}

-- Every byte is a digit: no sign, and nothing else.
abbrev pub all_digits : List ℕ → Bool
all_digits [] = true
all_digits (b ∷ s) = (leb 48 b && leb b 57) && all_digits s

-- There is a first byte, and it is the digit 0 only where it is the only one.
abbrev pub leads : List ℕ → Bool
leads [] = false
leads (b ∷ []) = true
leads (b ∷ c ∷ s) = not (eqb b 48)

-- What the digits s are worth after digits that are worth n.
abbrev pub value : ℕ → List ℕ → ℕ
value n [] = n
value n (b ∷ s) = value (n * 10 + (b - 48)) s

-- The largest number.
abbrev pub largest : ℕ
largest = 4294967295

-- The number that a field holds, where it holds one.
unfoldable pub number : List ℕ → Option ℕ
number s = cond ((leads s && all_digits s) && leb (value 0 s) largest) (Some (value 0 s)) None
