-- `write_unrefused` meets its contract. Assumes nothing.
use Rattle.std.proofs.lemmas.Result.{err_from_is_err_and}
use Rattle.report_ending.proofs.WrittenOut.{same_outcome, refused-out}
use Rattle.whole_records_end.proofs.ScheduleOutcomes.{sound, misplaced}
use Rattle.whole_written_records.proofs.RecordsWritten.{refused_as, the-writing, few_noted}
use Rattle.whole_written_records.proofs.write_unrefused.Goals as goal

pub returns-in_err-plan : goal.returns-in_err-plan
returns-in_err-plan c =
    let p = err_from_is_err_and c.from_residual.result c.from_residual.ensures.1 in
    rw (p.1, p.2) (refused-out _ _ (refused_as _ _ _ c.in_err-plan.ensures.1))

pub run_notes-ran-requires : goal.run_notes-ran-requires
run_notes-ran-requires c =
    let b = c.in_ok-plan.ensures in
    let few = few_noted c.note_records-count.new.notes.items (c.note_records-count.ensures.noted b.few) b.few in
    record { sound = sound b; few = few }

pub returns-in_err-end : goal.returns-in_err-end
returns-in_err-end c =
    let b = c.in_ok-plan.ensures in
    let ends = rw (c.note_records-count.ensures.noted b.few) at c.run_notes-ran.ensures in
    let so = rw c.note_records-count.ensures.count at c.in_err-end.ensures in
    let p = err_from_is_err_and c.from_residual-in_err-end.result c.from_residual-in_err-end.ensures.1 in
    rw (p.1, p.2) (refused-out _ _ (refused_as _ _ _ (misplaced b _ _ _ _ _ ends.other_is so)))

pub write_after-requires : goal.write_after-requires
write_after-requires c =
    let b = c.in_ok-plan.ensures in
    let few = few_noted c.note_records-count.new.notes.items (c.note_records-count.ensures.noted b.few) b.few in
    record { sound = sound b; few = few }

pub returns : goal.returns
returns c =
    let b = c.in_ok-plan.ensures in
    let noted = c.note_records-count.ensures.noted b.few in
    let ends = rw noted at c.run_notes-ran.ensures in
    let so = rw c.note_records-count.ensures.count at c.in_ok-end.ensures in
    same_outcome (the-writing b c.run_notes-ran.result ends c.in_ok-end.end so) (rw noted at c.write_after.ensures)
