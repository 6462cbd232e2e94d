-- What the writer gives of a text, and of a plan's text with a schedule of records: "A refused text or schedule gives
-- the refusal that its run gives; a lent buffer that is too short gives 15; in both the buffer stays untouched, and
-- otherwise it is given back as a report's is": spec_report's Outcomes say how, by end_with, handed and left. Assumes
-- nothing.
use Rattle.std.specs.Prelude.{ℕ, List, []}
use Rattle.spec_format.specs.declared.Entry.{Entry}
use Rattle.spec_format.specs.declared.Form.{Form}
use Rattle.spec_format.specs.Plan.{entries_in}
use Rattle.spec_format.specs.Reading.{Reading, refusal, accepted, reading}
use Rattle.spec_report.specs.declared.End.{End}
use Rattle.spec_report.specs.Outcomes.{Outcome, refused, written, run_text, run_schedule}
use Rattle.spec_plan_text.specs.PlanText.{text_of}

-- What the writer comes to where the run ends so: the text with the line that the run answers, or its refusal.
abbrev pub written_at : End → List ℕ → Outcome
written_at (End.Accepted n) text = written (End.Accepted n) text
written_at (End.Faulty f n) text = refused (End.Faulty f n)
written_at (End.Refused r i n) text = refused (End.Refused r i n)
written_at End.NoRoom text = refused End.NoRoom

-- The same where the run comes to this, whatever its report.
abbrev pub after_run : Outcome → List ℕ → Outcome
after_run (refused e) text = refused e
after_run (written e report) text = written_at e text

-- The one text of the plan that was read and these single entries; none where no plan was.
abbrev pub text_read : Reading → List Entry → List ℕ
text_read (refusal f n) es = []
text_read (accepted plan ls n) es = text_of plan es

-- The single entries that were read.
abbrev pub entries_read : Reading → List Entry
entries_read (refusal f n) = []
entries_read (accepted plan ls n) = entries_in ls

-- What writing a text comes to.
unfoldable pub write_text : List ℕ → Outcome
write_text text =
    let read : Reading = reading Form.Schedule text in
    after_run (run_text text) (text_read read (entries_read read))

-- What writing a plan's text with a schedule of records comes to.
unfoldable pub write_schedule : List ℕ → List Entry → Outcome
write_schedule text es = after_run (run_schedule text es) (text_read (reading Form.PlanAlone text) es)
