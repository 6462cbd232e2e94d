-- What a text gives, by the verdict on it and what was read. Assumes nothing.
use Rattle.std.specs.Prelude.{ℕ, ◌≤◌, ◌≡◌, List, length, Result, Ok, Err}
use Rattle.spec_format.specs.declared.LineFault.{LineFault}
use Rattle.spec_format.specs.Plan.{Plan}
use Rattle.spec_format.specs.Reading.{Reading, refusal, accepted}
use Rattle.read_tables.specs.declared.Note.{Note}
use Rattle.read_tables.specs.Notes.{listed_in}
use Rattle.read_line_promises.specs.declared.PartRead.{PartRead}

-- The refusal; or the plan, the single entries of the notes, and the count of all lines.
abbrev pub reading_from : Result ℕ LineFault → Plan → List Note → Reading
reading_from (Ok n) plan notes = accepted plan (listed_in notes) n
reading_from (Err e) plan notes = refusal e.fault e.line

-- A text that gives r was read so far, to this verdict.
pub record ReadTo (r : Reading) (verdict : Result ℕ LineFault) (p : PartRead) : Type 0 where
  pub gives : reading_from verdict p.plan p.notes.items ≡ r
  pub counted : p.progress.entries ≡ length (listed_in p.notes.items)
  pub few_entries : p.progress.entries ≤ 4000
