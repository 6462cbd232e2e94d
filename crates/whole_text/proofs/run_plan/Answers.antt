-- `run_plan` meets its contract. Assumes nothing.
use Rattle.std.proofs.Common.{◌∙◌}
use Rattle.report_ending.proofs.WrittenOut.{same_outcome}
use Rattle.whole_text.proofs.AcceptedText.{sound-plan, few-listed, starts, low-line, to-report, the-run, line_told}
use Rattle.whole_text.proofs.run_plan.Goals as goal

pub open-requires-clause-sound : goal.open-requires-clause-sound
open-requires-clause-sound c = sound-plan c.requires

pub records_of-requires : goal.records_of-requires
records_of-requires c = few-listed c.requires

pub run_records-requires : goal.run_records-requires
run_records-requires c = λ some. rw (c.as_slice.ensures.value, c.records_of.ensures) (starts c.requires c.open.ensures)

pub finish-requires-clause-reportable : goal.finish-requires-clause-reportable
finish-requires-clause-reportable c =
    let e = c.as_slice.ensures.value ∙ c.records_of.ensures in
    to-report c.requires (rw e at c.run_records.ensures (starts c.requires c.open.ensures))

pub finish-requires-clause-end_bound : goal.finish-requires-clause-end_bound
finish-requires-clause-end_bound c =
    let e = c.end_of-end.ensures ∙ line_told _ _ _ _ _ c.refused_line-line.ensures in
    rw e (low-line c.requires _ _ _)

pub returns : goal.returns
returns c =
    let e = c.end_of-end.ensures ∙ line_told _ _ _ _ _ c.refused_line-line.ensures in
    let is = c.as_slice.ensures.value ∙ c.records_of.ensures in
    let ran = rw is at c.run_records.ensures (starts c.requires c.open.ensures) in
    same_outcome (the-run c.requires ran) (rw e at c.finish.ensures)
