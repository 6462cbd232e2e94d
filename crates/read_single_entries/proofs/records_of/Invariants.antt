-- The loops' invariants: the records are the single entries of the notes so far; behind those, the entry of the present
-- note stands as many times as turns so far.
use Rattle.std.proofs.Common.{◌≡◌, ◌++◌, take, replicate}
use Rattle.spec_format.specs.Plan.{entries_in}
use Rattle.read_tables.specs.Notes.{listed_in}
use Rattle.read_single_entries.proofs.records_of.Given as goal

abbrev pub invariant-loop : goal.invariant-loop
invariant-loop l =
    l.records.items ≡ entries_in (listed_in (take l.entry-index l.notes.items)) ++ replicate l.counter l.entry

abbrev pub invariant-loop-entry : goal.invariant-loop-entry
invariant-loop-entry l = l.records.items ≡ entries_in (listed_in (take l.entry-index l.notes.items))
