-- What the code of a run has reached: the state that the definitions give for the records that have run so far. Assumes
-- nothing.
use Rattle.std.specs.Prelude.{◌≤◌, ◌≡◌, List, [], length, replicate}
use Rattle.spec_format.specs.declared.Entry.{Entry}
use Rattle.spec_format.specs.Plan.{Plan}
use Rattle.spec_format.specs.Sound.{Sound}
use Rattle.spec_machine.specs.History.{commits_in, run_of}
use Rattle.spec_report.specs.Outcomes.{other_from}
use Rattle.step_cells.specs.declared.Registers.{Registers}
use Rattle.step_cells.specs.declared.Tables.{Tables}
use Rattle.step_cells.specs.Tables.{Whole, idle, machine_of}
use Rattle.run_judge.specs.WhoRuns.{WhoRuns}
use Rattle.run_loop.specs.CommitRows.{rows_in}

-- A run of a plan has come through the records `done` of the schedule `all`.
pub record Reached (plan : Plan) (all done : List Entry) (ws : List Registers) (x : Tables) : Type 0 where
  pub machine_is : machine_of x ws ≡ (run_of plan done).machine
  pub stopped_by : x.book.halt ≡ (run_of plan done).refusal
  pub who_runs : WhoRuns plan (machine_of x ws) x.book
  pub counted : x.book.entries ≡ length (run_of plan done).history
  pub few_done : x.book.entries ≤ length done
  pub few_rows : length x.book.commits.items ≤ x.book.entries
  pub rows_are : x.book.commits.items ≡ rows_in all (commits_in (run_of plan done).history)
  pub other_is : x.book.other ≡ other_from 1 done
  pub whole : Whole x
  pub all_registers : length ws ≡ 16

-- The records are about to run: the plan is sound, the records are few, and the tables are at the opening.
pub record Starts (plan : Plan) (all : List Entry) (x : Tables) : Type 0 where
  pub sound : Sound plan
  pub few : length all ≤ 4000
  pub reached : Reached plan all [] (replicate 16 idle) x

-- The first records of a schedule have run.
abbrev pub Ran : Plan → List Entry → List Entry → Tables → Type 0
Ran plan all done x = (ws : List Registers) × Reached plan all done ws x
