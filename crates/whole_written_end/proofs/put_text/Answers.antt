-- `put_text` gives the parts one behind the other. Assumes nothing.
use Rattle.spec_plan_text.specs.PlanText.{all_update_lines, plan_text}
use Rattle.text_plan_lines.specs.BeforeUpdates.{before_updates}
use Rattle.whole_written_end.proofs.TextParts.{plan_parts}
use Rattle.whole_written_end.proofs.put_text.Goals as goal

pub returns : goal.returns
returns g c =
    let plan = c.args.plan.now in
    let then = g.met.O.Output.then in
    then (plan_text plan) _ _ _ _
    (rw (plan_parts plan) at
    (then (before_updates plan) (all_update_lines plan) _ _ _ c.put_plan_lines.ensures c.put_updates.ensures))
    c.put_entries.ensures
