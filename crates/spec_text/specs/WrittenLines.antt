-- A line as it is written, in a text and in a report alike: "fields parted by one tab, each line ended by a line feed."
-- Assumes nothing.
use Rattle.std.specs.Prelude.{ℕ, List, [], ◌∷◌, ◌++◌, map}
use Rattle.spec_text.specs.Decimal.{decimal}

-- Fields behind a first one, each behind a tab, and the line feed.
abbrev pub fields_behind : List (List ℕ) → List ℕ
fields_behind [] = 10 ∷ []
fields_behind (f ∷ fs) = (9 ∷ f) ++ fields_behind fs

-- A line: its first field, and numbers.
abbrev pub line_of : List ℕ → List ℕ → List ℕ
line_of first ns = first ++ fields_behind (map decimal ns)
