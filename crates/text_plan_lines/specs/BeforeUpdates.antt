-- The lines of a plan before its updates, in their order. Assumes nothing.
use Rattle.std.specs.Prelude.{ℕ, List, ◌++◌}
use Rattle.spec_format.specs.Plan.{Plan}
use Rattle.spec_plan_text.specs.PlanText.{plan_line, job_lines, opening_block_lines}

-- The plan line, the N job lines and the B block lines.
abbrev pub before_updates : Plan → List ℕ
before_updates plan = plan_line plan.sizes ++ (job_lines plan ++ opening_block_lines plan)
