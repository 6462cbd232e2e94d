-- What a text comes to can be printed into a buffer with room, where it runs (run-printable), where it is written
-- (write-printable) and where it is checked (check-printable): what is printed is not empty and not too long, and the
-- line and the entry of its end are small. Assumes nothing.
use Rattle.std.proofs.Common.{◌≡◌, refl, sym, ap, subst, ◌∙◌, ℕ, ◌≤◌, ◌<◌, List, length, arith}
use Rattle.spec_format.specs.declared.Entry.{Entry}
use Rattle.spec_format.specs.declared.Form.{Form}
use Rattle.spec_format.specs.Plan.{Plan, entries_in}
use Rattle.spec_format.specs.Reading.{Reading, refusal, accepted, reading, verdict_of}
use Rattle.spec_format.proofs.Sound.{accepted-sound, accepted-few, entries-many}
use Rattle.spec_format.proofs.LineCounts.{low_count, low-lines, low-refused}
use Rattle.spec_machine.specs.History.{run_of}
use Rattle.spec_machine.proofs.EveryRun.{always}
use Rattle.spec_report.specs.declared.End.{End}
use Rattle.spec_report.specs.Report.{end_line, end_entry}
use Rattle.spec_report.specs.Outcomes.{Outcome, refused, written, of_reading, run_text, printed}
use Rattle.spec_report.proofs.Ends.{end_low, entry-low}
use Rattle.spec_report_length.specs.Longest.{longest_report, longest_end}
use Rattle.spec_report_length.proofs.LineLengths.{end_short}
use Rattle.spec_report_length.proofs.Short.{printed-short, printed-some}
use Rattle.spec_plan_text.specs.LongestText.{longest_text}
use Rattle.spec_plan_text.specs.PlanText.{plan_text, text_of}
use Rattle.spec_plan_text.specs.Writing.{written_at, after_run, write_text}
use Rattle.spec_plan_text.proofs.WrittenTexts.{text-follows, text-written}
use Rattle.public_printing.specs.Printing.{end_of_outcome, end_of_check, Printable}

-- The line and the entry of an end are small.
abbrev SmallEnd : End → Type 0
SmallEnd e = (end_line e ≤ 65537) × (end_entry e ≤ 4001)

-- Those of every run's end are.
end-small : (text : List ℕ) → SmallEnd (end_of_outcome (run_text text))
unfolding run_text
end-small text = go (reading Form.Schedule text) refl
  where
    go : (r : Reading) → reading Form.Schedule text ≡ r → SmallEnd (end_of_outcome (of_reading r))
    go (refusal f n) e = (low-refused Form.Schedule text f n e, omega arith)
    go (accepted plan ls n) e =
        let es : List Entry = entries_in ls in
        let few = accepted-few Form.Schedule text plan ls n e in
        let many : length es ≡ length ls = entries-many ls in
        let short : length (run_of plan es).history ≤ length es =
        (always plan (accepted-sound Form.Schedule text plan ls n e) es).layers.told.short in (
          end_low (run_of plan es).refusal _ _ n 65537
              (omega (arith, low-lines Form.Schedule text plan ls n e (length (run_of plan es).history)))
              (omega (arith, low_count Form.Schedule text plan ls n e)),
          entry-low (run_of plan es).refusal _ _ n 4001 (omega (arith, few, many, short)),
        )

-- A run can be printed where there is room for every report.
pub run-printable : (text : List ℕ) {before : List ℕ} → longest_report ≤ length before
    → Printable (run_text text) before
run-printable text long =
    record {
      short = omega (arith, printed-short text);
      some = printed-some text;
      line = (end-small text).0;
      entry = (end-small text).1;
    }

-- Where a text is written after a run, or the run's refusal given, the end is the run's,
end-written : (e : End) (text : List ℕ) → end_of_outcome (written_at e text) ≡ e
end-written (End.Accepted n) text = refl
end-written (End.Faulty f n) text = refl
end-written (End.Refused r i n) text = refl
end-written End.NoRoom text = refl

-- whatever the run comes to.
end_after : (o : Outcome) (text : List ℕ) → end_of_outcome (after_run o text) ≡ end_of_outcome o
end_after (refused e) text = refl
end_after (written e report) text = end-written e text

-- So the line and the entry of the writer's end are small.
write-small : (text : List ℕ) → SmallEnd (end_of_outcome (write_text text))
unfolding write_text
write-small text = subst SmallEnd (sym (end_after (run_text text) _)) (end-small text)

-- The one text of a plan and single entries is not empty.
text-some : (plan : Plan) (es : List Entry) → 0 < length (text_of plan es)
unfolding text_of plan_text
text-some plan es = omega arith

-- What is printed of a text that is written is not too long and not empty: the one text, or the last line alone.
write-printed : (text : List ℕ)
    → (length (printed (write_text text)) ≤ longest_text) × (0 < length (printed (write_text text)))
unfolding printed
write-printed text = go (write_text text) refl
  where
    go : (o : Outcome) → write_text text ≡ o → (length (printed o) ≤ longest_text) × (0 < length (printed o))
    go (refused e) is =
        let low : SmallEnd e = subst (λ o. SmallEnd (end_of_outcome o)) is (write-small text) in
        (omega (arith, end_short e low.0), omega arith)
    go (written e out) is =
        let accepts = (text-follows text).only_accepted e out is in
        let w = (text-written text out accepts.0 (is ∙ ap (λ x. written x out) accepts.1)).3 in
        (w.short, subst (λ x. 0 < length x) (sym w.text_is) (text-some _ _))

-- A text that is written can be printed where there is room for every written text.
pub write-printable : (text : List ℕ) {before : List ℕ} → longest_text ≤ length before
    → Printable (write_text text) before
write-printable text long =
    record {
      short = omega (arith, (write-printed text).0);
      some = (write-printed text).1;
      line = (write-small text).0;
      entry = (write-small text).1;
    }

-- The line and the entry of a check's end are small.
check-small : (text : List ℕ) → SmallEnd (end_of_check (verdict_of (reading Form.Schedule text)))
check-small text = go (reading Form.Schedule text) refl
  where
    go : (r : Reading) → reading Form.Schedule text ≡ r → SmallEnd (end_of_check (verdict_of r))
    go (refusal f n) e = (low-refused Form.Schedule text f n e, omega arith)
    go (accepted plan ls n) e = (omega (arith, low_count Form.Schedule text plan ls n e), omega arith)

-- A check, with which nothing is written, can be printed where there is room for every last line.
pub check-printable : (text : List ℕ) {before : List ℕ} → longest_end ≤ length before
    → Printable (refused (end_of_check (verdict_of (reading Form.Schedule text)))) before
unfolding printed
check-printable text long =
    let low = check-small text in
    record {
      short = omega (arith, end_short (end_of_check (verdict_of (reading Form.Schedule text))) low.0);
      some = omega arith;
      line = low.0;
      entry = low.1;
    }
