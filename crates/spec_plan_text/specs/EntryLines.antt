-- The entry lines of a list of single entries: "steps of one card that follow each other are joined into the longest
-- runs, and a run of one has no count." Assumes nothing.
use Rattle.std.specs.Prelude.{ℕ, suc, ◌≤◌, ◌≡◌, cond, List, [], ◌∷◌, ◌++◌, eqb, replicate}
use Rattle.spec_text.specs.Bytes.{bytes}
use Rattle.spec_text.specs.WrittenLines.{line_of}
use Rattle.spec_format.specs.declared.Entry.{Entry}

-- An entry line: `call job update`, or a run of n steps of a card.
pub data EntryLine : Type 0 where
  call : ℕ → ℕ → EntryLine
  run : ℕ → ℕ → EntryLine

-- The bytes of a run of n steps: a run of one has no count.
abbrev pub run_bytes : ℕ → ℕ → List ℕ
run_bytes card n = cond (eqb n 1) (line_of (bytes "step") (card ∷ [])) (line_of (bytes "step") (card ∷ n ∷ []))

-- The bytes of an entry line.
abbrev pub entry_bytes : EntryLine → List ℕ
entry_bytes (call job update) = line_of (bytes "call") (job ∷ update ∷ [])
entry_bytes (run card n) = run_bytes card n

-- The bytes of entry lines, one behind the other.
abbrev pub entry_line_bytes : List EntryLine → List ℕ
entry_line_bytes [] = []
entry_line_bytes (l ∷ ls) = entry_bytes l ++ entry_line_bytes ls

-- A single step of a card in front of entry lines: it makes a run of that card one longer, and is else a run of one.
abbrev pub step_before : ℕ → List EntryLine → List EntryLine
step_before card [] = run card 1 ∷ []
step_before card (call job update ∷ ls) = run card 1 ∷ call job update ∷ ls
step_before card (run other n ∷ ls) = cond (eqb other card) (run card (suc n) ∷ ls) (run card 1 ∷ run other n ∷ ls)

-- A single entry in front of entry lines. Kind 0 is a call; of a step the second number is unused.
abbrev pub entry_before : Entry → List EntryLine → List EntryLine
entry_before e ls = cond (eqb e.kind 0) (call e.first e.second ∷ ls) (step_before e.first ls)

-- The entry lines of single entries.
unfoldable pub longest_runs : List Entry → List EntryLine
longest_runs [] = []
longest_runs (e ∷ es) = entry_before e (longest_runs es)

-- The single entries of an entry line: "A record has a kind (0 call, 1 step) and two numbers".
abbrev pub singles_of : EntryLine → List Entry
singles_of (call job update) = record { kind = 0; first = job; second = update } ∷ []
singles_of (run card n) = replicate n (record { kind = 1; first = card; second = 0 })

-- The single entries of entry lines.
abbrev pub singles_in : List EntryLine → List Entry
singles_in [] = []
singles_in (l ∷ ls) = singles_of l ++ singles_in ls

-- A single entry with its unused number 0: "two numbers, a step's second unused".
abbrev pub plain : Entry → Entry
plain e = cond (eqb e.kind 0) e (record { kind = e.kind; first = e.first; second = 0 })

-- Two entry lines are steps of one card.
abbrev pub OneCard : EntryLine → EntryLine → Type 0
OneCard (call job update) other = ⊥
OneCard (run card n) (call job update) = ⊥
OneCard (run card n) (run other m) = card ≡ other

-- No run is empty.
abbrev pub SomeSteps : EntryLine → Type 0
SomeSteps (call job update) = Unit {0}
SomeSteps (run card n) = 1 ≤ n

-- Entry lines of which no run is empty and no two that follow each other are steps of one card: their runs are the
-- longest.
abbrev pub Longest : List EntryLine → Type 0
Longest [] = Unit {0}
Longest (l ∷ []) = SomeSteps l
Longest (l ∷ next ∷ ls) = SomeSteps l × ((OneCard l next → ⊥) × Longest (next ∷ ls))
