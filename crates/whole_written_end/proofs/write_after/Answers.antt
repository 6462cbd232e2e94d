-- `write_after` joins the entries and writes the text where the run is accepted. Assumes nothing.
use Rattle.std.proofs.Common.{ap, ◌∙◌}
use Rattle.spec_format.specs.Plan.{entries_in}
use Rattle.spec_report.specs.Outcomes.{written}
use Rattle.spec_plan_text.specs.PlanText.{text_of}
use Rattle.read_tables.specs.Notes.{listed_in}
use Rattle.report_ending.proofs.WrittenOut.{same_outcome, refused-out}
use Rattle.whole_written_end.proofs.TextParts.{text_is, refused_at, accepted_at}
use Rattle.whole_written_end.proofs.write_after.Goals as goal

pub returns-in_default : goal.returns-in_default
returns-in_default c =
    rw c.nothing.ensures
    (refused-out c.args.end c.args.buffer.now (refused_at c.args.end _ c.in_default.not-Accepted))

pub returns : goal.returns
returns c =
    let es = entries_in (listed_in c.args.notes.now.items) in
    same_outcome
    (ap (written c.args.end)
    (text_is c.args.plan.now es c.as_slice.result.now (rw (← c.as_slice.ensures.value) at c.join_notes.ensures))
    ∙ accepted_at c.args.end c.in-Accepted.field-0 (text_of c.args.plan.now es) c.in-Accepted.is)
    c.write.ensures
