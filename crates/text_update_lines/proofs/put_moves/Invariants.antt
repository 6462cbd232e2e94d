-- The loop's invariant: the lines of the moves so far are taken.
use Rattle.spec_plan_text.specs.PlanText.{move_line, move_in}
use Rattle.spec_report.specs.Report.{joined}
use Rattle.text_update_lines.proofs.put_moves.Given as goal

abbrev pub invariant-loop-x : goal.invariant-loop-x
invariant-loop-x g l =
    g.O.Output.Takes (joined l.x-index (λ i. move_line (move_in l.moves i))) l.initial.output l.output
