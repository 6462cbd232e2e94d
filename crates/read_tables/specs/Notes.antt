-- The single entries that notes on entry lines stand for. Note is declared in src/lib.rt. Assumes nothing.
use Rattle.std.specs.Prelude.{List, replicate}
use Rattle.std.specs.List.{flat_map}
use Rattle.spec_format.specs.Plan.{Listed}
use Rattle.read_tables.specs.declared.Note.{Note}

-- The single entries of a note: its entry in its line, as many times as it comes.
abbrev pub singles : Note → List Listed
singles n = replicate n.times (record { entry = n.entry; line = n.line })

-- The single entries of notes, in order.
abbrev pub listed_in : List Note → List Listed
listed_in notes = flat_map singles notes
