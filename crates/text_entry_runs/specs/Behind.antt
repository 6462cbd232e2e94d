-- Entry lines with one more single entry at their end. Assumes nothing.
use Rattle.std.specs.Prelude.{ℕ, suc, ◌≤◌, cond, List, [], ◌∷◌, eqb}
use Rattle.spec_format.specs.declared.Entry.{Entry}
use Rattle.spec_plan_text.specs.EntryLines.{EntryLine, call, run}

-- The entry line of a single entry by itself. Kind 0 is a call; of a step the second number is unused.
abbrev pub line_alone : Entry → EntryLine
line_alone e = cond (eqb e.kind 0) (call e.first e.second) (run e.first 1)

-- A single step of a card behind an entry line: it makes a run of that card one longer, and is else a run of one.
abbrev pub step_behind : ℕ → EntryLine → List EntryLine
step_behind card (call job update) = call job update ∷ run card 1 ∷ []
step_behind card (run other n) = cond (eqb other card) (run other (suc n) ∷ []) (run other n ∷ run card 1 ∷ [])

-- A single entry behind an entry line.
abbrev pub entry_behind : Entry → EntryLine → List EntryLine
entry_behind e l = cond (eqb e.kind 0) (l ∷ call e.first e.second ∷ []) (step_behind e.first l)

-- A single entry behind entry lines: the last of them decides.
abbrev pub add_last : Entry → List EntryLine → List EntryLine
add_last e [] = line_alone e ∷ []
add_last e (l ∷ []) = entry_behind e l
add_last e (l ∷ next ∷ ls) = l ∷ add_last e (next ∷ ls)

-- No run of entry lines has more than so many steps.
abbrev pub StepsAtMost : ℕ → List EntryLine → Type 0
StepsAtMost most [] = Unit {0}
StepsAtMost most (call job update ∷ ls) = StepsAtMost most ls
StepsAtMost most (run card n ∷ ls) = (n ≤ most) × StepsAtMost most ls
