-- The text of a plan and of notes: its parts, one behind the other; that it is the one text of the plan and the single
-- entries; and what it is to be written out. Assumes nothing.
use Rattle.std.proofs.Common.{ℕ, ◌≤◌, ◌<◌, ◌≡◌, refl, ◌∙◌, ap, arith, List, ◌++◌, length, append_assoc}
use borrow.Author.Tests.{le-leb, lt-leb}
use Rattle.spec_text.specs.FirstPlaces.{in_first_places}
use Rattle.spec_format.specs.declared.Entry.{Entry}
use Rattle.spec_format.specs.Plan.{Plan}
use Rattle.spec_report.specs.declared.End.{End}
use Rattle.spec_report.specs.Outcomes.{refused, written, left}
use Rattle.spec_plan_text.specs.EntryLines.{entry_line_bytes}
use Rattle.spec_plan_text.specs.PlanText.{plan_line, job_lines, opening_block_lines, all_update_lines, plan_text}
use Rattle.spec_plan_text.specs.PlanText.{text_of}
use Rattle.spec_plan_text.specs.Writing.{written_at}
use Rattle.read_tables.specs.declared.Note.{Note}
use Rattle.report_ending.specs.Finishing.{WrittenOut, nothing_written}
use Rattle.text_plan_lines.specs.BeforeUpdates.{before_updates}
use Rattle.text_entry_runs.specs.Joined.{Joined}
use Rattle.whole_written_end.specs.TextIn.{text_in}

-- The lines before the updates, and the updates, are the text of the plan.
pub plan_parts : (plan : Plan) → before_updates plan ++ all_update_lines plan ≡ plan_text plan
unfolding plan_text
plan_parts plan =
    append_assoc (plan_line plan.sizes) (job_lines plan ++ opening_block_lines plan) (all_update_lines plan)
    ∙ ap (λ (s : List ℕ). plan_line plan.sizes ++ s)
    (append_assoc (job_lines plan) (opening_block_lines plan) (all_update_lines plan))

-- It is the one text of the plan and the entries whose lines are noted.
pub text_is : (plan : Plan) (es : List Entry) (notes : List Note) → Joined es notes
    → text_in plan notes ≡ text_of plan es
unfolding text_of
text_is plan es notes joined = ap (λ ls. plan_text plan ++ entry_line_bytes ls) joined.lines_are

-- Bytes that fit are written out,
pub fits_out : (e : End) (whole before after : List ℕ) (k : ℕ) → k ≡ length whole → k ≤ length before
    → after ≡ in_first_places whole before → WrittenOut (written e whole) before (record { end = e; length = k }) after
unfolding left
fits_out e whole before after k long fits is =
    let there = le-leb (length whole) (length before) (omega arith) in
    record { end_is = rw there; length_is = rw there long; left_is = rw there is }

-- and others are not.
pub short_out : (e : End) (whole before : List ℕ) → length before < length whole
    → WrittenOut (written e whole) before (nothing_written End.NoRoom) before
unfolding left
short_out e whole before short =
    let past = lt-leb (length whole) (length before) short in
    record { end_is = rw past; length_is = rw past; left_is = rw past }

-- After a run that is refused nothing is written: its end is the writer's.
pub refused_at : (e : End) (text : List ℕ) → ((n : ℕ) → e ≡ End.Accepted n → ⊥) → written_at e text ≡ refused e
refused_at (End.Accepted n) text not = absurd (not n refl)
refused_at (End.Faulty f n) text not = refl
refused_at (End.Refused r i n) text not = refl
refused_at End.NoRoom text not = refl

-- After a run that is accepted the text is written.
pub accepted_at : (e : End) (n : ℕ) (text : List ℕ) → e ≡ End.Accepted n → written e text ≡ written_at e text
accepted_at e n text same = rw same
