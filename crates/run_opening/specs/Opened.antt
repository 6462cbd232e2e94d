-- What the tables hold at the opening. Assumes nothing.
use Rattle.std.specs.Prelude.{ℕ, ◌+◌, ◌≡◌, replicate}
use Rattle.spec_format.specs.Plan.{Plan, tabulate}
use Rattle.spec_machine.specs.Machine.{opening_of}
use Rattle.step_cells.specs.declared.Own.{Own}
use Rattle.step_cells.specs.declared.Tables.{Tables}
use Rattle.step_cells.specs.Tables.{blank_tables, Whole, idle, machine_of}

-- A job's own part at the opening, with the first block number of its copy list.
abbrev pub own_opened : ℕ → Own
own_opened first =
    record {
      dirty = replicate 16 0;
      curr = replicate 16 0;
      copy = tabulate 8 (λ i. first + i);
      update = 0;
    }

-- The tables are those of the opening of a plan: with the jobs' registers at rest they are the machine's opening, and in
-- the book nothing is counted, no job is active, and none runs on any card.
pub record Opened (plan : Plan) (x : Tables) : Type 0 where
  pub machine_is : machine_of x (replicate 16 idle) ≡ opening_of plan
  pub book_is : x.book ≡ blank_tables.book
  pub whole : Whole x
