-- The lines of a text and the fields of a line: "One record a line, fields parted by one tab, each line ended by a
-- line feed." Assumes nothing.
use Rattle.std.specs.Prelude.{ℕ, zero, suc, Bool, true, false, cond, List, [], ◌∷◌, eqb}
use Rattle.std.specs.Prelude.{Option, Some, None}
use Rattle.spec_text.specs.Numbers.{number}

-- Bytes with a byte in front of the first part.
abbrev pub in_front : ℕ → List (List ℕ) → List (List ℕ)
in_front b [] = (b ∷ []) ∷ []
in_front b (part ∷ parts) = (b ∷ part) ∷ parts

-- The parts of s between the bytes x: always one more than there are such bytes.
abbrev pub split : ℕ → List ℕ → List (List ℕ)
split x [] = [] ∷ []
split x (b ∷ s) = cond (eqb b x) ([] ∷ split x s) (in_front b (split x s))

-- The fields of a line: its parts between tabs.
unfoldable pub fields : List ℕ → List (List ℕ)
fields line = split 9 line

-- A line: its bytes without the line feed, and whether a line feed ended it.
pub record Line : Type 0 where
  pub bytes : List ℕ
  pub ended : Bool

-- Bytes behind the last line feed are a line that no line feed ended; none there are no line.
abbrev pub unended_line : List ℕ → List Line
unended_line [] = []
unended_line (b ∷ s) = record { bytes = b ∷ s; ended = false } ∷ []

-- The parts of a text between line feeds as lines.
abbrev pub as_lines : List (List ℕ) → List Line
as_lines [] = []
as_lines (part ∷ []) = unended_line part
as_lines (part ∷ next ∷ parts) = record { bytes = part; ended = true } ∷ as_lines (next ∷ parts)

-- The lines of a text.
unfoldable pub lines : List ℕ → List Line
lines text = as_lines (split 10 text)

-- A number in front of numbers, where all can be read.
abbrev pub and_then : Option ℕ → Option (List ℕ) → Option (List ℕ)
and_then (Some n) None = None
and_then (Some n) (Some ns) = Some (n ∷ ns)
and_then None o = None

-- The numbers in the fields, where there are just n fields and each holds a number.
abbrev pub numbers : ℕ → List (List ℕ) → Option (List ℕ)
numbers zero [] = Some []
numbers zero (f ∷ fs) = None
numbers (suc n) [] = None
numbers (suc n) (f ∷ fs) = and_then (number f) (numbers n fs)
