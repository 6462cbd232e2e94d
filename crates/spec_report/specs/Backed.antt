-- What stands behind a report: the run that it is read off, and that demand 3 holds of that run. Assumes nothing.
use Rattle.std.specs.Prelude.{ℕ, ◌≡◌, List}
use Rattle.spec_format.specs.declared.Entry.{Entry}
use Rattle.spec_format.specs.Plan.{Plan}
use Rattle.spec_machine.specs.History.{run_of}
use Rattle.spec_machine.specs.Demand3.{Holds, Demand3}
use Rattle.spec_report.specs.Outcomes.{Outcome, run_outcome}

-- An outcome is the report of the run of these entries, of which entry i stands in line `line i` and whose acceptance
-- gives `count`: its end is that of the run, its commit lines are read off the run's history, and its words are those
-- seen through the run's bank (Outcomes.run_outcome); and demand 3 holds of the run and of all that led up to it.
pub record Backed (plan : Plan) (es : List Entry) (line : ℕ → ℕ) (count : ℕ) (o : Outcome) : Type 0 where
  pub outcome_is : o ≡ run_outcome plan es line count
  pub holds : Holds plan es (run_of plan es)
  pub demand : Demand3 plan es
