-- `put_entries` gives the entry lines one behind the other. Assumes nothing.
use Rattle.read_tables.specs.declared.Note.{Note}
use Rattle.text_entry_lines.proofs.NotedBytes.{noted_more}
use Rattle.text_entry_lines.proofs.put_entries.Goals as goal

-- What stands for a note where there is none.
abbrev no_note : Note
no_note = record { entry = record { kind = 0; first = 0; second = 0 }; times = 0; line = 0 }

pub loop-note-preserved : goal.loop-note-preserved
loop-note-preserved g c =
    rw (noted_more c.args.notes.now c.loop-note.note-index no_note c.loop-note-test.true)
    (g.met.O.Output.then _ _ _ _ _ c.loop-note.invariant c.put_entry.ensures)
