-- A plan's text with noted records is written as the definitions say: the writer is refused by what its run is refused
-- by, and how the run of the records ended is how the writer ends. Assumes nothing.
use Rattle.std.proofs.Common.{◌≡◌, sym, ap, ◌∙◌, ℕ, ◌+◌, ◌≤◌, List, length, arith}
use Rattle.std.specs.Prelude.{Ok}
use Rattle.spec_format.specs.declared.Entry.{Entry}
use Rattle.spec_format.specs.declared.Form.{Form}
use Rattle.spec_format.specs.Plan.{Plan, entries_in}
use Rattle.spec_format.specs.Faults.{most_entries}
use Rattle.spec_format.specs.Reading.{reading}
use Rattle.spec_format.proofs.Sound.{entries-many}
use Rattle.spec_machine.specs.History.{run_of}
use Rattle.spec_report.specs.declared.End.{End}
use Rattle.spec_report.specs.Outcomes.{refused, end_of, run_schedule}
use Rattle.spec_plan_text.specs.PlanText.{text_of}
use Rattle.spec_plan_text.specs.Writing.{written_at, after_run, text_read, write_schedule}
use Rattle.read_tables.specs.declared.Note.{Note}
use Rattle.read_tables.specs.Notes.{listed_in}
use Rattle.run_from_opening.specs.declared.RunEnd.{RunEnd}
use Rattle.run_from_opening.specs.Ends.{Ends}
use Rattle.whole_records_start.specs.Begun.{Begun}
use Rattle.whole_records_end.specs.Ending.{end_of_records}
use Rattle.whole_records_end.proofs.ScheduleOutcomes.{runs}

-- The writer is refused by what its run is refused by.
pub refused_as : (text : List ℕ) (es : List Entry) (e : End) → run_schedule text es ≡ refused e
    → write_schedule text es ≡ refused e
unfolding write_schedule
refused_as text es e is = ap (λ o. after_run o (text_read (reading Form.PlanAlone text) es)) is

-- The records have run, and none is of another kind.
pub the-writing : {text : List ℕ} {es : List Entry} {plan : Plan} → Begun text es plan
    → (r : RunEnd) → Ends plan es r → (end : End)
    → Ok end ≡ end_of_records r.halt (r.entries + 1) r.other (length es)
    → written_at end (text_of plan es) ≡ write_schedule text es
unfolding write_schedule
the-writing {text} {es} {plan} b r ends end so =
    let run = runs b _ _ _ _ end ends.other_is so in
    ap (λ e. written_at e (text_of plan es))
    (run.0
    ∙ ap (λ h. end_of h (r.entries + 1) (r.entries + 1) (length es)) ends.stopped_by
    ∙ ap (λ k. end_of (run_of plan es).refusal (k + 1) (k + 1) (length es)) ends.counted)
    ∙ ap (λ o. after_run o (text_of plan es)) run.1
    ∙ ap (λ x. after_run (run_schedule text es) (text_read x es)) (sym b.gives)

-- Notes that hold few records have few single entries.
pub few_noted : {es : List Entry} (notes : List Note) → entries_in (listed_in notes) ≡ es → length es ≤ most_entries
    → length (listed_in notes) ≤ 4000
few_noted notes is few = omega (arith, entries-many (listed_in notes), ap length is, few)
