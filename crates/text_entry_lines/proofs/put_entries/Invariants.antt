-- The loop's invariant: the lines of the notes so far are taken.
use Rattle.std.proofs.Common.{take}
use Rattle.spec_plan_text.specs.EntryLines.{entry_line_bytes}
use Rattle.text_entry_runs.specs.Joined.{lines_noted}
use Rattle.text_entry_lines.proofs.put_entries.Given as goal

abbrev pub invariant-loop-note : goal.invariant-loop-note
invariant-loop-note g l =
    g.O.Output.Takes (entry_line_bytes (lines_noted (take l.note-index l.notes))) l.initial.output l.output
