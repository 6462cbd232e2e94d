-- Every text that the writer writes is worth what specs/WrittenTexts.antt says (text-written, schedule-written), its
-- runs are the longest (written-longest), two of them are the same bytes just where they mean the same (one-meaning,
-- one-text), and the writer is refused just where the run is, and by the same refusal (text-follows, schedule-follows).
--
-- In plain words. The writer looks at the run's end alone, so it writes just where the run is accepted. Then the plan
-- is sound and its numbers can be read, the entries are calls and steps that it can run, and there are at most 4,000:
-- so their text is short, and is read back to the plan and the entries. Those run as the others did, up to the unused
-- numbers of steps, which matter to no run and no report; so the text is written again from what is read of it.
--
-- Assumes nothing.
use Prim.Native.Nat.{ℕ, ◌+◌, ◌≤◌}
use mathlib.Core.Path.{◌≡◌, refl, sym, ◌∙◌, ap}
use mathlib.Core.Logic.{◌↔◌}
use mathlib.Core.List.{List, [], ◌++◌, map}
use Rattle.std.specs.Prelude.{Option, Some, None}
use native.Mathlib.Omega.{arith}
use borrow.Author.Tests.{ltb-false}
use lib.Dec.{ltb}
use lib.ListN.{length}
use Rattle.spec_text.proofs.Cases.{by-test}
use Rattle.spec_format.specs.declared.Entry.{Entry}
use Rattle.spec_format.specs.declared.Form.{Form}
use Rattle.spec_format.specs.Plan.{Plan, Listed, entries_in}
use Rattle.spec_format.specs.Faults.{most_entries}
use Rattle.spec_format.specs.Reading.{Reading, refusal, accepted, reading}
use Rattle.spec_format.specs.Sound.{Sound}
use Rattle.spec_format.proofs.Sound.{accepted-sound, accepted-few, entries-many}
use Rattle.spec_machine.specs.declared.Refusal.{Refusal}
use Rattle.spec_machine.specs.History.{run_of}
use Rattle.spec_report.specs.declared.End.{End}
use Rattle.spec_report.specs.Report.{report_end, report}
use Rattle.spec_report.specs.Outcomes.{Outcome, refused, written, end_of, run_outcome, line_in, of_reading, run_text}
use Rattle.spec_report.specs.Outcomes.{other_from, unless_other, of_records, run_schedule}
use Rattle.spec_report.proofs.RunReports.{before_end, report-parts}
use Rattle.spec_plan_text.specs.EntryLines.{plain}
use Rattle.spec_plan_text.specs.PlanText.{text_of}
use Rattle.spec_plan_text.specs.Writing.{written_at, after_run, text_read, entries_read, write_text, write_schedule}
use Rattle.spec_plan_text.specs.WrittenTexts.{WrittenFrom, Written, SameMeaning, OnlyLongest, NotAccepted}
use Rattle.spec_plan_text.specs.WrittenTexts.{Follows}
use Rattle.spec_plan_text.specs.LongestText.{longest_text}
use Rattle.spec_plan_text.proofs.Runnable.{AllRunnable}
use Rattle.spec_plan_text.proofs.LongestRuns.{KnownKinds, plain-text, only-longest}
use Rattle.spec_plan_text.proofs.Length.{text-short}
use Rattle.spec_format.proofs.Fits.{Fits, accepted-fits}
use Rattle.spec_plan_text.proofs.ReadBack.{read_back}
use Rattle.spec_plan_text.proofs.SameRun.{no-others, known-kinds, plain-run, run-runnable, plain-report}
use Rattle.spec_plan_text.proofs.ReadEntries.{read-kinds, read_plain}

-- A refusal is no written text.
not-both : {e f : End} {bytes : List ℕ} → refused e ≡ written f bytes → ⊥
not-both q = let z : ◌≡◌ {A = ℕ} 0 1 = cc in omega arith

-- Where a run ends without acceptance, the writer is refused by the same.
refused-follows : (e : End) (bytes : List ℕ) → NotAccepted e → Follows (written e bytes) (refused e)
refused-follows e bytes h =
    record {
      written_where = λ n. (λ q. absurd (rw q at h), λ w. absurd (not-both w.1));
      refused_where = λ f.
          (λ q. ap refused q.0, λ q. let same : e ≡ f = cc in (same, rw same at h));
      only_accepted = λ f text w. absurd (not-both w);
    }

-- What the writer comes to by the end of a run.
end-follows : (e : End) (bytes text : List ℕ) → Follows (written e bytes) (written_at e text)
end-follows (End.Accepted n) bytes text =
    record {
      written_where = λ m. (λ q. (text, cc), λ w. let same = w.1 in cc);
      refused_where = λ e. (λ q. absurd (rw (← q.0) at q.1), λ q. absurd (not-both (sym q)));
      only_accepted = λ e other w. (n, cc);
    }
end-follows (End.Faulty f n) bytes text = refused-follows (End.Faulty f n) bytes tt
end-follows (End.Refused r i n) bytes text = refused-follows (End.Refused r i n) bytes tt
end-follows End.NoRoom bytes text = refused-follows End.NoRoom bytes tt

-- What is refused without a report is no acceptance.
abbrev Refuses : Outcome → Type 0
Refuses (refused e) = NotAccepted e
Refuses (written e bytes) = Unit {0}

-- What the writer comes to by what the run comes to.
follows : (o : Outcome) (text : List ℕ) → Refuses o → Follows o (after_run o text)
follows (refused e) text h =
    let so = refused-follows e [] h in
    record {
      written_where = so.written_where;
      refused_where = so.refused_where;
      only_accepted = so.only_accepted;
    }
follows (written e bytes) text h = end-follows e bytes text

-- What a text is refused by so is no acceptance,
text-refuses : (r : Reading) → Refuses (of_reading r)
text-refuses (refusal f n) = tt
text-refuses (accepted plan ls n) = tt

-- nor what records are, where one is of another kind,
other-refuses : (x : Option ℕ) (o : Outcome) → Refuses o → Refuses (unless_other x o)
other-refuses None o h = h
other-refuses (Some place) o h = tt

-- nor what a plan's text is with a schedule of records.
schedule-refuses : (r : Reading) (es : List Entry) → Refuses (of_records r es)
schedule-refuses (refusal f n) es = tt
schedule-refuses (accepted plan ls n) es =
    by-test (ltb most_entries (length es))
    (λ t. rw t tt)
    (λ t. rw t (other-refuses (other_from 1 es) (run_outcome plan es (λ i. i + 1) (length es)) tt))

-- A text is written just where its run is accepted, and refused just where and by what its run is.
pub text-follows : (text : List ℕ) → Follows (run_text text) (write_text text)
unfolding run_text write_text
text-follows text = follows (run_text text) _ (text-refuses (reading Form.Schedule text))

-- So is a plan's text with a schedule of records.
pub schedule-follows : (text : List ℕ) (es : List Entry) → Follows (run_schedule text es) (write_schedule text es)
unfolding run_schedule write_schedule
schedule-follows text es = follows (run_schedule text es) _ (schedule-refuses (reading Form.PlanAlone text) es)

-- Where a run is not refused, what its entries come to is an acceptance with its report.
accepted-run :
    (plan : Plan) (es : List Entry) (line : ℕ → ℕ) (n : ℕ) → (run_of plan es).refusal ≡ None
    → run_outcome plan es line n ≡ written (End.Accepted n) (report plan es (run_of plan es) (End.Accepted n))
accepted-run plan es line n accepts = rw accepts

-- Where a text is written after a run, the run is not refused, and its count and the text are those.
ran :
    (plan : Plan) (es : List Entry) (line : ℕ → ℕ) (count : ℕ) (text out : List ℕ) (n : ℕ)
    → after_run (run_outcome plan es line count) text ≡ written (End.Accepted n) out
    → ((run_of plan es).refusal ≡ None) × (count ≡ n) × (text ≡ out)
ran plan es line count text out n = go (run_of plan es).refusal _ _
  where
    go :
        (x : Option Refusal) (i l : ℕ) → written_at (end_of x i l count) text ≡ written (End.Accepted n) out
        → (x ≡ None) × (count ≡ n) × (text ≡ out)
    go None i l e = (refl, cc, cc)
    go (Some r) i l e = absurd (not-both e)

module _ (plan : Plan) (es : List Entry) (accepts : (run_of plan es).refusal ≡ None) where
  -- An accepted run's report: what stands before `end`, and `end`.
  report-parted :
      (line : ℕ → ℕ) (n : ℕ)
      → run_outcome plan es line n
      ≡ written (End.Accepted n) (before_end plan es (run_of plan es) ++ report_end (End.Accepted n))
  report-parted line n =
      accepted-run plan es line n accepts
      ∙ ap (written (End.Accepted n)) (report-parts plan es (run_of plan es) (End.Accepted n))

  -- The report of the entries without their unused numbers is the same, but for the line in `end`.
  plain-parted :
      (line : ℕ → ℕ) (n : ℕ)
      → run_outcome plan (map plain es) line n
      ≡ written (End.Accepted n) (before_end plan es (run_of plan es) ++ report_end (End.Accepted n))
  plain-parted line n =
      let same : (run_of plan (map plain es)).refusal ≡ None = rw (plain-run plan es) accepts in
      accepted-run plan (map plain es) line n same
      ∙ ap (written (End.Accepted n)) (plain-report plan es (End.Accepted n) accepts)
      ∙ ap (written (End.Accepted n)) (report-parts plan es (run_of plan es) (End.Accepted n))

  -- The run of a text that is read to the plan and the entries without their unused numbers.
  run-again :
      (text : List ℕ) (ls : List Listed) (n : ℕ) → reading Form.Schedule text ≡ accepted plan ls n
      → entries_in ls ≡ map plain es
      → run_text text ≡ written (End.Accepted n) (before_end plan es (run_of plan es) ++ report_end (End.Accepted n))
  unfolding run_text
  run-again text ls n read same = rw (read, same) (plain-parted (line_in ls) n)

  -- What is written of it.
  write_again :
      (text : List ℕ) (ls : List Listed) (n : ℕ) → reading Form.Schedule text ≡ accepted plan ls n
      → entries_in ls ≡ map plain es → write_text text ≡ written (End.Accepted n) (text_of plan es)
  unfolding write_text
  write_again text ls n read same = rw (run-again text ls n read same, read, same, plain-text plan es)

  -- What is written of a sound plan whose numbers can be read and of at most 4,000 calls and steps.
  written_from :
      Sound plan → Fits plan → KnownKinds es → length es ≤ most_entries → (line : ℕ → ℕ) (n : ℕ)
      → WrittenFrom plan (map plain es) (run_outcome plan es line n) n (text_of plan es)
  written_from good fits known few line n =
      let runnable : AllRunnable plan es = run-runnable plan es (no-others 1 es known) accepts in
      let short : length (text_of plan es) ≤ longest_text = text-short plan es good runnable few in
      let read = read_back plan es good fits runnable few (omega arith) in
      record {
        text_is = sym (plain-text plan es);
        short = short;
        listed = read.0;
        lines = read.1;
        read_back = read.2;
        same_entries = read.3;
        written_again = write_again (text_of plan es) read.0 read.1 read.2 read.3;
        front = before_end plan es (run_of plan es);
        report_is = report-parted line n;
        report_again = run-again (text_of plan es) read.0 read.1 read.2 read.3;
      }

-- What is written after a run of these.
written_after :
    (plan : Plan) (es : List Entry) → Sound plan → Fits plan → KnownKinds es → length es ≤ most_entries
    → (line : ℕ → ℕ) (count : ℕ) (out : List ℕ) (n : ℕ)
    → after_run (run_outcome plan es line count) (text_of plan es) ≡ written (End.Accepted n) out
    → (count ≡ n) × WrittenFrom plan (map plain es) (run_outcome plan es line count) n out
written_after plan es good fits known few line count out n e =
    let so = ran plan es line count (text_of plan es) out n e in
    (so.1, rw so.1 (rw so.2 at (written_from plan es so.0 good fits known few line n)))

-- Every text that is written of a text.
pub text-written :
    (text out : List ℕ) (n : ℕ) → write_text text ≡ written (End.Accepted n) out
    → (plan : Plan) × (ls : List Listed) × (reading Form.Schedule text ≡ accepted plan ls n)
    × WrittenFrom plan (entries_in ls) (run_text text) n out
unfolding run_text write_text
text-written text out n = go (reading Form.Schedule text) refl
  where
    go :
        (r : Reading) → reading Form.Schedule text ≡ r
        → after_run (of_reading r) (text_read r (entries_read r)) ≡ written (End.Accepted n) out
        → (plan : Plan) × (ls : List Listed) × (r ≡ accepted plan ls n)
        × WrittenFrom plan (entries_in ls) (of_reading r) n out
    go (refusal f k) read e = absurd (not-both e)
    go (accepted plan ls k) read e =
        let few : length (entries_in ls) ≤ most_entries =
        omega (arith, accepted-few Form.Schedule text plan ls k read, entries-many ls) in
        let so =
        written_after plan (entries_in ls) (accepted-sound Form.Schedule text plan ls k read)
        (accepted-fits Form.Schedule text plan ls k read) (read-kinds Form.Schedule text plan ls k read) few
        (line_in ls) k out n e in
        (plan, ls, ap (accepted plan ls) so.0, rw (read_plain Form.Schedule text plan ls k read) at so.1)

-- Every text that is written of a plan's text with a schedule of records; the unused numbers count as 0.
pub schedule-written :
    (text : List ℕ) (es : List Entry) (out : List ℕ) (n : ℕ) → write_schedule text es ≡ written (End.Accepted n) out
    → (plan : Plan) × (ls : List Listed) × (m : ℕ) × (reading Form.PlanAlone text ≡ accepted plan ls m)
    × (n ≡ length es) × WrittenFrom plan (map plain es) (run_schedule text es) n out
unfolding run_schedule write_schedule
schedule-written text es out n = go (reading Form.PlanAlone text) refl
  where
    -- at most 4,000 records, by the place of the first of another kind
    by-kinds :
        (plan : Plan) → Sound plan → Fits plan → length es ≤ most_entries → (x : Option ℕ) → other_from 1 es ≡ x
        → after_run (unless_other x (run_outcome plan es (λ i. i + 1) (length es))) (text_of plan es)
        ≡ written (End.Accepted n) out
        → (n ≡ length es)
        × WrittenFrom plan (map plain es) (unless_other x (run_outcome plan es (λ i. i + 1) (length es))) n out
    by-kinds plan good fits few None no_other e =
        let so =
        written_after plan es good fits (known-kinds 1 es no_other) few (λ i. i + 1) (length es) out n e in
        (sym so.0, so.1)
    by-kinds plan good fits few (Some place) other e = absurd (not-both e)

    go :
        (r : Reading) → reading Form.PlanAlone text ≡ r
        → after_run (of_records r es) (text_read r es) ≡ written (End.Accepted n) out
        → (plan : Plan) × (ls : List Listed) × (m : ℕ) × (r ≡ accepted plan ls m)
        × (n ≡ length es) × WrittenFrom plan (map plain es) (of_records r es) n out
    go (refusal f k) read e = absurd (not-both e)
    go (accepted plan ls m) read e =
        by-test (ltb most_entries (length es))
        (λ t. absurd (not-both (rw t at e)))
        (λ t.
        let so =
        by-kinds plan (accepted-sound Form.PlanAlone text plan ls m read)
        (accepted-fits Form.PlanAlone text plan ls m read) (ltb-false most_entries (length es) t) (other_from 1 es)
        refl (rw t at e) in
        (plan, ls, m, refl, so.0, rw t so.1))

-- The entry lines of a written text are those of its single entries with the longest runs, and no others are.
pub written-longest :
    (plan : Plan) (es : List Entry) (run : Outcome) (n : ℕ) (text : List ℕ) → WrittenFrom plan es run n text
    → OnlyLongest es
written-longest plan es run n text w =
    rw w.same_entries at
    (only-longest (entries_in w.listed) (read-kinds Form.Schedule text plan w.listed w.lines w.read_back))

-- Two written texts are the same bytes just where they have the same plan and the same single entries.
pub one-meaning :
    (one other : List ℕ) (this : Written one) (that : Written other)
    → ((this.plan ≡ that.plan) × (this.entries ≡ that.entries)) ↔ (one ≡ other)
one-meaning one other this that = (
  λ same. cc (this.from.text_is, that.from.text_is, same.0, same.1),
  λ same.
      let a = this.from in
      let b = that.from in
      let read : accepted this.plan a.listed a.lines ≡ accepted that.plan b.listed b.lines
      = sym a.read_back ∙ ap (reading Form.Schedule) same ∙ b.read_back in
      let listed : a.listed ≡ b.listed = cc read in
      (cc read, sym a.same_entries ∙ ap entries_in listed ∙ b.same_entries),
)

-- What writing an accepted text comes to.
write-accepted :
    (text : List ℕ) (p : Plan) (ls : List Listed) (n : ℕ) → reading Form.Schedule text ≡ accepted p ls n
    → write_text text ≡ after_run (run_outcome p (entries_in ls) (line_in ls) n) (text_of p (entries_in ls))
unfolding write_text run_text
write-accepted text p ls n read = rw read

-- Of a written text: just the texts with the same meaning are written alike, byte for byte.
pub one-text :
    (one other out : List ℕ) (n : ℕ) → write_text one ≡ written (End.Accepted n) out
    → SameMeaning one other ↔ ((m : ℕ) × (write_text other ≡ written (End.Accepted m) out))
one-text one other out n writes = (
  λ s.
      let es = entries_in s.listed in
      let fs = entries_in s.other_listed in
      let so = ran s.plan es (line_in s.listed) s.lines (text_of s.plan es) out n
      (sym (write-accepted one s.plan s.listed s.lines s.one_read) ∙ writes) in
      let accepts : (run_of s.plan fs).refusal ≡ None = rw s.same_entries at so.0 in
      let text : text_of s.plan fs ≡ out = rw s.same_entries at so.2 in (
        s.other_lines,
        write-accepted other s.plan s.other_listed s.other_lines s.other_read ∙ rw (accepts, text),
      ),
  λ w.
      let this = text-written one out n writes in
      let that = text-written other out w.0 w.1 in
      let same = (one-meaning out out (record { plan = _; entries = _; run = _; count = _; from = this.3 })
      (record { plan = _; entries = _; run = _; count = _; from = that.3 })).1 refl in
      record {
        plan = this.0;
        listed = this.1;
        lines = n;
        one_read = this.2;
        other_listed = that.1;
        other_lines = w.0;
        other_read = rw (sym same.0) at that.2;
        same_entries = same.1;
      },
)
