-- The loop's invariant: the records so far are noted, each by itself.
use Rattle.std.proofs.Common.{◌≡◌, length, take}
use Rattle.spec_format.specs.Plan.{entries_in}
use Rattle.read_tables.specs.Notes.{listed_in}
use Rattle.read_records.proofs.note_records.Given as goal

abbrev pub invariant-loop-entry : goal.invariant-loop-entry
invariant-loop-entry l =
    (length l.notes.items ≡ l.entry-index)
    × (entries_in (listed_in l.notes.items) ≡ take l.entry-index l.records)
