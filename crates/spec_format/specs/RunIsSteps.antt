-- "A line `step card n` .. shall do what n lines `step card` do": the two texts, byte for byte, and what it means that
-- they say the same. proofs/RunIsSteps.antt shows it of every text and every place that the line can stand in. Assumes
-- nothing.
use Rattle.std.specs.Prelude.{ℕ, zero, suc, ◌+◌, ◌-◌, ◌≤◌, ◌≡◌, Bool, true, cond, List, [], ◌∷◌, ◌++◌, map, ltb, eqb}
use Rattle.std.specs.Prelude.{length}
use Rattle.spec_text.specs.Bytes.{bytes}
use Rattle.spec_text.specs.WrittenLines.{line_of}
use Rattle.spec_format.specs.declared.Form.{Form}
use Rattle.spec_format.specs.Plan.{Plan, Listed}
use Rattle.spec_format.specs.Reading.{accepted, longest, reading}

-- The line `step card n`.
abbrev pub run_line : ℕ → ℕ → List ℕ
run_line card n = line_of (bytes "step") (card ∷ n ∷ [])

-- n lines `step card`.
abbrev pub step_lines : ℕ → ℕ → List ℕ
step_lines card zero = []
step_lines card (suc n) = line_of (bytes "step") (card ∷ []) ++ step_lines card n

-- Bytes that another line can stand behind: none, or a line feed is the last.
abbrev pub whole_lines : List ℕ → Bool
whole_lines [] = true
whole_lines (b ∷ []) = eqb b 10
whole_lines (b ∷ c ∷ s) = whole_lines (c ∷ s)

-- A line's number when the n lines from line `at` on are joined into one, by its number before.
abbrev pub joined_line : ℕ → ℕ → ℕ → ℕ
joined_line at n line = cond (ltb line at) line (cond (ltb line (at + n)) at (line + 1 - n))

-- The same entry in the line that it then stands in.
abbrev pub in_joined : ℕ → ℕ → Listed → Listed
in_joined at n l = record { entry = l.entry; line = joined_line at n l.line }

-- A text `run` says the same as a text `steps` that has n lines from line `at` on where `run` has one: where either is
-- accepted and the other is not too long, that one is accepted too, with the same plan and the same single entries,
-- each in its line.
pub record SaysSame (form : Form) (run steps : List ℕ) (at n : ℕ) : Type 0 where
  pub there :
      (p : Plan) (es : List Listed) (k : ℕ) → reading form run ≡ accepted p es k → length steps ≤ longest
      → (fs : List Listed) × (m : ℕ)
      × (reading form steps ≡ accepted p fs m) × (es ≡ map (in_joined at n) fs) × (k ≡ joined_line at n m)
      × (k + n ≡ m + 1)
  pub back :
      (p : Plan) (fs : List Listed) (m : ℕ) → reading form steps ≡ accepted p fs m → length run ≤ longest
      → reading form run ≡ accepted p (map (in_joined at n) fs) (joined_line at n m)
