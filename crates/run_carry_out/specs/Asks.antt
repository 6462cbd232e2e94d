-- What carrying out a change asks. Assumes nothing.
use Rattle.std.specs.Prelude.{ℕ, ◌≤◌, ◌<◌, length}
use Rattle.spec_format.specs.Plan.{Plan}
use Rattle.spec_machine.specs.Machine.{in_row}
use Rattle.step_cells.specs.declared.Registers.{Registers}
use Rattle.step_cells.specs.declared.Change.{Change}
use Rattle.step_cells.specs.declared.Tables.{Tables}
use Rattle.step_cells.specs.Tables.{Whole}
use Rattle.step_cells.specs.Effects.{ChangeInside, Room}
use Rattle.step_cells.specs.Fits.{PlanFits}

-- The change stays inside the tables, which are whole, and there is room for one more commit.
pub record Asks (plan : Plan) (p : ℕ) (s : Change) (x : Tables) : Type 0 where
  pub fits : PlanFits plan p
  pub whole : Whole x
  pub inside : (w : Registers) × ChangeInside w s
  pub room : Room x p s
  pub addresses : (i : ℕ) → in_row x.rows.addr p i < 16
  pub few : x.book.entries < 4000
  pub committed : length x.book.commits.items ≤ x.book.entries
