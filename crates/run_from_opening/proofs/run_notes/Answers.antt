-- `run_notes` opens the tables, runs the records, and reads off how the run ended. Assumes nothing.
use mathlib.Core.Path.{◌≡◌, ◌∙◌, subst}
use mathlib.Core.List.{List}
use native.Mathlib.Omega.{arith}
use Rattle.spec_format.specs.declared.Entry.{Entry}
use Rattle.spec_format.specs.Plan.{entries_in}
use Rattle.read_tables.specs.Notes.{listed_in}
use Rattle.run_loop.proofs.Starting.{opened-starts}
use Rattle.run_from_opening.specs.declared.RunEnd.{RunEnd}
use Rattle.run_from_opening.specs.Ends.{Ends}
use Rattle.run_from_opening.proofs.run_notes.Goals as goal

pub run_records-requires : goal.run_records-requires
run_records-requires c =
    λ some. opened-starts c.requires.sound c.open.ensures c.as_slice.result.now (omega arith)

pub returns : goal.returns
returns c =
    let es = c.as_slice.result.now in
    let are : es ≡ entries_in (listed_in c.args.notes.now.items)
    = c.as_slice.ensures.value ∙ c.records_of.ensures in
    let ran = (c.run_records.ensures (opened-starts c.requires.sound c.open.ensures es (omega arith))).1 in
    let end : RunEnd =
    record {
      halt = c.run_records.new.tables.book.halt;
      entries = c.run_records.new.tables.book.entries;
      other = c.run_records.new.tables.book.other;
    } in
    subst (λ (all : List Entry). Ends c.args.plan.now all end) are
    (record {
      stopped_by = ran.stopped_by;
      counted = ran.counted;
      few = ran.few_done;
      other_is = ran.other_is;
    })
