-- The lines of a text and the fields of a line by their places: what the program reads, place by place, is what the
-- definitions say. Assumes nothing.
use Prim.Native.Nat.{ℕ, ◌+◌, ◌-◌, ◌<◌}
use mathlib.Core.Path.{◌≡◌, refl, ◌∙◌}
use mathlib.Core.Bool.{true, false}
use mathlib.Core.List.{List, [], ◌∷◌}
use native.Mathlib.Nat.{sub-zero}
use native.Mathlib.Omega.{arith}
use borrow.Author.Tests.{lt-ltb, le-ltb}
use lib.ListN.{length, take, drop, length-drop}
use lib.Seq.{take_all}
use Rattle.read_fields.proofs.FieldPlaces.{split-first, split-at-place, fields-next}
use Rattle.std.proofs.lemmas.List.{drop_more}
use Rattle.spec_text.specs.Lines.{fields, lines}
use Rattle.read_fields.specs.FieldPlaces.{place_of, fields_at}

-- No text has no line.
pub lines_none : lines [] ≡ []
unfolding lines
lines_none = refl

-- A line feed follows: the line up to it, and the lines behind it.
pub lines-ended : (text : List ℕ) (at : ℕ) → at < length text → place_of 10 text at < length text
    → lines (drop at text)
    ≡ record { bytes = take (place_of 10 text at - at) (drop at text); ended = true }
    ∷ lines (drop (place_of 10 text at + 1) text)
unfolding lines
lines-ended text at h p =
    rw (
      split-at-place 10 text at (omega arith),
      lt-ltb (place_of 10 text at) (length text) p,
      split-first 10 (drop (place_of 10 text at + 1) text),
    )

-- No line feed follows: the rest of the text is a line that none ended.
pub lines-open : (text : List ℕ) (at : ℕ) → at < length text → place_of 10 text at ≡ length text
    → lines (drop at text) ≡ record { bytes = drop at text; ended = false } ∷ []
unfolding lines
lines-open text at h p =
    rw (
      split-at-place 10 text at (omega arith),
      p,
      le-ltb (length text) (length text) (omega arith),
      take_all (length text - at) (drop at text) (simp length-drop (omega arith)),
      drop_more text at 0 h,
    )

-- The fields of a line are those from its start on.
fields-whole : (line : List ℕ) → fields line ≡ fields_at line 0
unfolding fields fields_at
fields-whole line = rw (le-ltb (length line) 0 (omega arith))

-- The fields of a line: its first, and those behind the tab that ends it.
pub fields-first : (line : List ℕ) → fields line
    ≡ take (place_of 9 line 0) line ∷ fields_at line (place_of 9 line 0 + 1)
fields-first line = fields-whole line ∙ fields-next line 0 (omega arith) ∙ rw sub-zero
