-- `run_text` meets its contract. Assumes nothing.
use Rattle.std.proofs.Common.{sym, ap}
use Rattle.spec_report.specs.Outcomes.{of_reading, run_text}
use Rattle.report_ending.proofs.WrittenOut.{same_outcome, refused-out}
use Rattle.whole_text.proofs.run_text.Goals as goal

pub run_plan-requires : goal.run_plan-requires
run_plan-requires c = record { text = c.args.text.now; gives = sym c.in-Ok.ensures.gives }

pub returns-in-Ok : goal.returns-in-Ok
unfolding run_text
returns-in-Ok c = same_outcome (ap of_reading c.in-Ok.ensures.gives) c.run_plan.ensures

pub returns-in-Err : goal.returns-in-Err
unfolding run_text
returns-in-Err c = rw c.into.ensures (refused-out _ _ (sym (ap of_reading c.in-Err.ensures.gives)))
