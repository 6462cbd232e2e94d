-- The loop's invariant: the lines of the updates so far are taken.
use Rattle.std.proofs.Common.{[], get_or}
use Rattle.spec_plan_text.specs.PlanText.{update_lines}
use Rattle.spec_report.specs.Report.{joined}
use Rattle.text_update_lines.proofs.put_updates.Given as goal

abbrev pub invariant-loop-u : goal.invariant-loop-u
invariant-loop-u g l =
    g.O.Output.Takes (joined l.u (λ u. update_lines u (get_or l.plan.updates u []))) l.initial.output l.output
