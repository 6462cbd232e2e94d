-- How a run from the opening on ends. RunEnd is declared in src/lib.rt. Assumes nothing.
use Rattle.std.specs.Prelude.{◌≤◌, ◌≡◌, List, length}
use Rattle.spec_format.specs.declared.Entry.{Entry}
use Rattle.spec_format.specs.Plan.{Plan}
use Rattle.spec_machine.specs.History.{run_of}
use Rattle.spec_report.specs.Outcomes.{other_from}
use Rattle.run_from_opening.specs.declared.RunEnd.{RunEnd}

-- The run of these entries ended so.
pub record Ends (plan : Plan) (es : List Entry) (r : RunEnd) : Type 0 where
  pub stopped_by : r.halt ≡ (run_of plan es).refusal
  pub counted : r.entries ≡ length (run_of plan es).history
  pub few : r.entries ≤ length es
  pub other_is : r.other ≡ other_from 1 es
