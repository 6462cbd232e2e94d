-- The loop's invariant: the lines so far are taken.
use Rattle.spec_plan_text.specs.PlanText.{block_line}
use Rattle.spec_report.specs.Report.{joined}
use Rattle.text_plan_lines.proofs.put_blocks.Given as goal

abbrev pub invariant-loop-b : goal.invariant-loop-b
invariant-loop-b g l = g.O.Output.Takes (joined l.b (block_line l.plan)) l.initial.output l.output
