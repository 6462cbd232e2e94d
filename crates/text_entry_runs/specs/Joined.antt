-- The entry lines that notes stand for. Assumes nothing.
use Rattle.std.specs.Prelude.{◌≤◌, ◌≡◌, Bool, cond, not, ◌&&◌, List, eqb, length, map}
use Rattle.spec_format.specs.declared.Entry.{Entry}
use Rattle.spec_plan_text.specs.EntryLines.{EntryLine, call, run, longest_runs}
use Rattle.read_tables.specs.declared.Note.{Note}

-- The entry line of a note: a call, or a run of as many steps as times are noted.
abbrev pub line_noted : Note → EntryLine
line_noted n =
    cond (eqb n.entry.kind 0) (call n.entry.first n.entry.second) (run n.entry.first n.times)

-- The entry lines of notes.
abbrev pub lines_noted : List Note → List EntryLine
lines_noted notes = map line_noted notes

-- An entry makes the run of a note one longer: both are steps of one card.
abbrev pub goes_on : Note → Entry → Bool
goes_on n e = not (eqb e.kind 0) && (not (eqb n.entry.kind 0) && eqb n.entry.first e.first)

-- Notes are the entry lines of some single entries.
pub record Joined (es : List Entry) (notes : List Note) : Type 0 where
  pub few : length notes ≤ length es
  pub lines_are : lines_noted notes ≡ longest_runs es
