-- "The first line with a fault counts", and in it the fault that is judged first: which faults a text has, by line and
-- rank, with no regard to how it is read. proofs/FirstFault.antt shows that a text is refused by just the first of
-- them. Assumes nothing.
use Rattle.std.specs.Prelude.{ℕ, zero, suc, ◌<◌, ◌≡◌, Bool, true, false, not, ◌&&◌, List, [], ◌∷◌, ltb, eqb, length}
use Rattle.std.specs.Prelude.{take, drop}
use Rattle.spec_text.specs.Lines.{Line, lines}
use Rattle.spec_format.specs.declared.Fault.{Fault}
use Rattle.spec_format.specs.declared.Form.{Form}
use Rattle.spec_format.specs.Faults.{Draft, has_fault, laid_out, rank}
use Rattle.spec_format.specs.Reading.{blank, parsed_in, after_line, longest}

-- Two faults are the same: no two have one rank.
abbrev pub same_fault : Fault → Fault → Bool
same_fault f g = eqb (rank f) (rank g)

-- What lines say after a draft, faulty or not.
abbrev pub draft_after : Draft → List Line → Draft
draft_after d [] = d
draft_after d (l ∷ ls) = draft_after (after_line d l) ls

-- The fault of the first of the lines left, after lines that gave the draft d. Where no line is left, the text may end
-- too early there, which is the fault of a line that cannot stand where it is: 3.
abbrev pub next_has : Form → Draft → List Line → Fault → Bool
next_has form d [] f = same_fault f Fault.Misplaced && not (laid_out d)
next_has form d (l ∷ ls) f = has_fault form d (parsed_in d l) f

-- Whether line i of a text has a fault, from line 1 to one past the last. Line 0 is the text as a whole, which can be
-- too long.
abbrev pub fault_at : Form → List ℕ → ℕ → Fault → Bool
fault_at form text zero f = same_fault f Fault.TooLong && ltb longest (length text)
fault_at form text (suc i) f = next_has form (draft_after blank (take i (lines text))) (drop i (lines text)) f

-- Line i is the first with a fault, and f is the one in it that is judged first.
pub record First (form : Form) (text : List ℕ) (i : ℕ) (f : Fault) : Type 0 where
  pub here : fault_at form text i f ≡ true
  pub earlier : (j : ℕ) → j < i → (g : Fault) → fault_at form text j g ≡ false
  pub sooner : (g : Fault) → rank g < rank f → fault_at form text i g ≡ false

-- No line of the text has a fault, and it does not end too early.
pub record Faultless (form : Form) (text : List ℕ) : Type 0 where
  pub none_at : (i : ℕ) (f : Fault) → fault_at form text i f ≡ false
