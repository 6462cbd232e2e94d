-- What reading one line promises: the draft after that line, with its entries noted, or the line's refusal. PartRead
-- and Progress are declared in src/lib.rt. Assumes nothing.
use Rattle.std.specs.Prelude.{ℕ, ◌+◌, ◌≡◌, true, [], ◌++◌, Option, Result, Ok, Err, List, drop}
use Rattle.spec_format.specs.declared.Form.{Form}
use Rattle.spec_format.specs.declared.Kind.{Kind}
use Rattle.spec_format.specs.declared.LineFault.{LineFault}
use Rattle.spec_format.specs.Plan.{Plan}
use Rattle.spec_format.specs.ParsedLines.{Directive, ParsedLine}
use Rattle.spec_format.specs.Faults.{Draft, has_fault}
use Rattle.spec_format.specs.Reading.{ReadOutcome, refused, sound, blank, after, first_of, by_rank, or_else, parsed_in}
use Rattle.spec_format.specs.Reading.{listed}
use Rattle.read_tables.specs.Notes.{listed_in}
use Rattle.read_line_promises.specs.declared.Progress.{Progress}
use Rattle.read_line_promises.specs.declared.PartRead.{PartRead}

-- The draft that the counts and the plan are.
abbrev pub draft_of : Progress → Plan → Draft
draft_of p plan = record { lines = p.lines; blocks = p.blocks; entries = p.entries; plan = plan }

-- The draft that has been read.
abbrev pub draft_in : PartRead → Draft
draft_in p = draft_of p.progress p.plan

-- Nothing has been read.
pub record Unread (p : PartRead) : Type 0 where
  pub draft : draft_in p ≡ blank
  pub none_noted : p.notes.items ≡ []

-- What one line comes to after lines that gave the draft d: the refusal by its first fault, or the draft after it.
abbrev pub line_outcome : Form → Draft → ParsedLine → ReadOutcome
line_outcome form d r = or_else (first_of (has_fault form d r) by_rank) (d.lines + 1) (sound (after d r.directive))

-- The same of a line that says i, whose kind is known and stands where it can: the faults from 4 on.
abbrev pub outcome_of : Form → Draft → Kind → Option Directive → ReadOutcome
outcome_of form d kind i =
    or_else (first_of (has_fault form d (record { ended = true; kind = kind; directive = i })) (drop 2 by_rank))
    (d.lines + 1)
    (sound (after d i))

-- What the answer of a line's reading says, with what has then been read.
abbrev pub read_outcome : Result Unit LineFault → PartRead → ReadOutcome
read_outcome (Ok u) q = sound (draft_in q)
read_outcome (Err e) q = refused e.fault e.line

-- The single entries of a line that says i are noted behind the earlier ones; where the line is refused, all that has
-- been read stays as it was.
abbrev pub Noted : Result Unit LineFault → PartRead → PartRead → Option Directive → Type 0
Noted (Ok u) p q i = listed_in q.notes.items ≡ listed_in p.notes.items ++ listed (p.progress.lines + 1) i
Noted (Err e) p q i = q ≡ p

-- A line that says i, whose kind is known and stands where it can, is read from p to q and the answer r. Its form and
-- kind are no matter.
pub record LineStep (p q : PartRead) (i : Option Directive) (r : Result Unit LineFault) : Type 0 where
  pub says : (form : Form) (kind : Kind) → read_outcome r q ≡ outcome_of form (draft_in p) kind i
  pub noted : Noted r p q i

-- A line of these bytes taken apart, behind what has been read.
abbrev pub parsed_at : PartRead → List ℕ → ParsedLine
parsed_at p bytes = parsed_in (draft_in p) (record { bytes = bytes; ended = true })

-- One line is read from p to q and the answer r.
pub record LineDone (form : Form) (p q : PartRead) (bytes : List ℕ) (r : Result Unit LineFault) : Type 0 where
  pub says : read_outcome r q ≡ line_outcome form (draft_in p) (parsed_at p bytes)
  pub noted : Noted r p q (parsed_at p bytes).directive
