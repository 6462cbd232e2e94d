-- `run_unrefused` meets its contract. Assumes nothing.
use Rattle.std.proofs.lemmas.Result.{err_from_is_err_and}
use Rattle.report_ending.proofs.WrittenOut.{same_outcome, refused-out}
use Rattle.whole_records_end.proofs.ScheduleOutcomes.{sound, misplaced, starts, to-report, low-place, report_is}
use Rattle.whole_records_end.proofs.run_unrefused.Goals as goal

pub returns-in_err-plan : goal.returns-in_err-plan
returns-in_err-plan c =
    let p = err_from_is_err_and c.from_residual.result c.from_residual.ensures.1 in
    rw (p.1, p.2) (refused-out _ _ c.in_err-plan.ensures.1)

pub open-requires-clause-sound : goal.open-requires-clause-sound
open-requires-clause-sound c = sound c.in_ok-plan.ensures

pub run_records-requires : goal.run_records-requires
run_records-requires c = λ some. starts c.in_ok-plan.ensures c.open.ensures

pub returns-in_err-end : goal.returns-in_err-end
returns-in_err-end c =
    let ran = c.run_records.ensures (starts c.in_ok-plan.ensures c.open.ensures) in
    let p = err_from_is_err_and c.from_residual-in_err-end.result c.from_residual-in_err-end.ensures.1 in
    rw (p.1, p.2)
    (refused-out _ _ (misplaced c.in_ok-plan.ensures _ _ _ _ _ ran.1.other_is c.in_err-end.ensures))

pub finish-requires : goal.finish-requires
finish-requires c =
    let ran = c.run_records.ensures (starts c.in_ok-plan.ensures c.open.ensures) in
    record {
      reportable = to-report c.in_ok-plan.ensures ran c.in_ok-end.ensures;
      end_bound = low-place c.in_ok-plan.ensures ran c.in_ok-end.ensures;
    }

pub returns : goal.returns
returns c =
    let ran = c.run_records.ensures (starts c.in_ok-plan.ensures c.open.ensures) in
    same_outcome (report_is c.in_ok-plan.ensures ran c.in_ok-end.ensures) c.finish.ensures
