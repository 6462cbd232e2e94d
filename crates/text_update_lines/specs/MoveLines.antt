-- The lines of the moves of an update. Assumes nothing.
use Rattle.std.specs.Prelude.{ℕ, List, length}
use Rattle.spec_format.specs.declared.Move.{Move}
use Rattle.spec_report.specs.Report.{joined}
use Rattle.spec_plan_text.specs.PlanText.{move_line, move_in}

-- A line for each move, in order.
abbrev pub move_lines : List Move → List ℕ
move_lines ms = joined (length ms) (λ i. move_line (move_in ms i))
