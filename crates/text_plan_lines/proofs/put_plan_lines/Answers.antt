-- `put_plan_lines` gives the lines before the updates one behind the other. Assumes nothing.
use Rattle.std.proofs.Common.{◌++◌}
use Rattle.spec_plan_text.specs.PlanText.{plan_line, job_lines, opening_block_lines}
use Rattle.text_plan_lines.proofs.put_plan_lines.Goals as goal

pub returns : goal.returns
returns g c =
    let plan = c.args.plan.now in
    let then = g.met.O.Output.then in
    then (plan_line plan.sizes) (job_lines plan ++ opening_block_lines plan) _ _ _
    (rw c.size_numbers.ensures at c.line.ensures)
    (then (job_lines plan) (opening_block_lines plan) _ _ _ c.put_jobs.ensures c.put_blocks.ensures)
