-- The loop's invariant: the line looked for is that of entry `left` of the notes that are left.
use Rattle.std.proofs.Common.{◌≡◌, drop}
use Rattle.spec_report.specs.Outcomes.{line_in}
use Rattle.read_tables.specs.Notes.{listed_in}
use Rattle.read_single_entries.proofs.line_in.Given as goal

abbrev pub invariant-loop-note : goal.invariant-loop-note
invariant-loop-note l =
    line_in (listed_in l.notes.items) l.i ≡ line_in (listed_in (drop l.note-index l.notes.items)) l.left
