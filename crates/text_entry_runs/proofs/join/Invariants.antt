-- The loop's invariant: the entries so far are joined.
use Rattle.std.proofs.Common.{◌≡◌, take}
use Rattle.spec_plan_text.specs.EntryLines.{longest_runs}
use Rattle.text_entry_runs.specs.Joined.{lines_noted}
use Rattle.text_entry_runs.proofs.join.Given as goal

abbrev pub invariant-loop-e : goal.invariant-loop-e
invariant-loop-e l = lines_noted l.notes.items ≡ longest_runs (take l.e-index l.records)
