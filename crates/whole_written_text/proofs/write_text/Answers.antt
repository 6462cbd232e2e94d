-- `write_text` reads a text and writes it. Assumes nothing.
use Rattle.std.proofs.Common.{refl, sym, ap, List, [], arith}
use Rattle.spec_format.specs.Plan.{Plan}
use Rattle.spec_format.specs.Reading.{Reading}
use Rattle.spec_report.specs.Outcomes.{Outcome, of_reading, run_text}
use Rattle.spec_plan_text.specs.Writing.{after_run, text_read, entries_read, write_text}
use Rattle.read_tables.specs.declared.Note.{Note}
use Rattle.read_line_promises.specs.declared.Progress.{Progress}
use Rattle.read_line_promises.specs.Consistent.{Consistent}
use Rattle.report_ending.proofs.WrittenOut.{same_outcome, refused-out}
use Rattle.whole_written_text.proofs.write_text.Goals as goal

-- What writing a text comes to, by what reading it gives.
abbrev written_of : Reading → Outcome
written_of r = after_run (of_reading r) (text_read r (entries_read r))

pub write_plan-finished-requires : goal.write_plan-finished-requires
write_plan-finished-requires c = record { text = c.args.text.now; gives = sym c.in-Ok.ensures.gives }

-- What was read is consistent without its notes too.
without_notes : {plan : Plan} {notes : List Note} {p : Progress} → Consistent plan notes p
    → Consistent plan [] (record { lines = p.lines; blocks = p.blocks; written = p.written; entries = 0 })
without_notes k =
    record {
      cards_fit = k.cards_fit;
      jobs_fit = k.jobs_fit;
      blocks_fit = k.blocks_fit;
      words_fit = k.words_fit;
      copies_fit = k.copies_fit;
      jobs_read = k.jobs_read;
      blocks_read = k.blocks_read;
      words_read = k.words_read;
      updates_read = k.updates_read;
      entries_read = omega arith;
      lines_read = k.lines_read;
      written_read = k.written_read;
      in_lines = omega (arith, k.in_lines);
      notes_read = omega arith;
      counted = refl;
      last_written = k.last_written;
    }

pub invariant_of-part : goal.invariant_of-part
invariant_of-part c =
    record { consistent = rw c.clear.ensures (without_notes c.read.new.part.consistent) }

pub returns-in-Err : goal.returns-in-Err
unfolding run_text write_text
returns-in-Err c = rw c.into.ensures (refused-out _ _ (sym (ap written_of c.in-Err.ensures.gives)))

pub returns : goal.returns
unfolding run_text write_text
returns c = same_outcome (ap written_of c.in-Ok.ensures.gives) c.write_plan-finished.ensures
