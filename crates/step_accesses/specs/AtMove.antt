-- What every stage of a move asks. Assumes nothing.
use Rattle.std.specs.Prelude.{ℕ}
use Rattle.spec_format.specs.Plan.{Plan}
use Rattle.step_cells.specs.declared.Registers.{Registers}
use Rattle.step_cells.specs.declared.Tables.{Tables}
use Rattle.step_cells.specs.Fits.{PlanFits, CellsFit, RegistersFit, InMove}

-- Job p, whose registers are w, is inside an update, and the numbers that it reads fit.
pub record AtMove (plan : Plan) (x : Tables) (p : ℕ) (w : Registers) : Type 0 where
  pub plan_fits : PlanFits plan p
  pub cells_fit : CellsFit x p
  pub registers_fit : RegistersFit w
  pub in_move : InMove plan w
