-- The loop's invariant: the lines so far are taken.
use Rattle.spec_format.specs.Plan.{job_in}
use Rattle.spec_plan_text.specs.PlanText.{job_line}
use Rattle.spec_report.specs.Report.{joined}
use Rattle.text_plan_lines.proofs.put_jobs.Given as goal

abbrev pub invariant-loop-job : goal.invariant-loop-job
invariant-loop-job g l =
    g.O.Output.Takes (joined l.job-index (λ k. job_line (job_in l.plan k))) l.initial.output l.output
