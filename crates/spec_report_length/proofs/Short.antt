-- No report is longer than longest_report (report-short), whether the entries stand in a text (printed-short) or come
-- as records (schedule-short), and none is empty (report-some, printed-some).
--
-- In plain words. An accepted schedule has at most 4,000 entries, so a run has at most 4,000 events and commits, each
-- at an entry of at most four digits; a call that is committed names one of at most 16 jobs and of at most 32 updates
-- (Committed.antt). An accepted plan has at most 16 blocks of at most 16 words, and a word of any size is written in at
-- most ten digits. It has at most 16 jobs, and a status is −1 or at most 16, as every run stays in its ranges. The end
-- has a number of at most 15, and a line of at most 65,537. Where nothing runs, the end line is all that is printed.
--
-- Assumes nothing.
use Prim.Native.Nat.{ℕ, ◌+◌, ◌*◌, ◌≤◌, ◌<◌}
use mathlib.Core.Path.{◌≡◌, refl}
use mathlib.Core.List.{List, [], ◌∷◌, ◌++◌}
use Rattle.std.specs.Prelude.{Option, Some, None}
use native.Mathlib.Omega.{arith}
use borrow.Author.Tests.{ltb-false}
use lib.Dec.{ltb}
use lib.IntN.{pos}
use lib.ListN.{length, length-append}
use Rattle.spec_text.specs.Bytes.{bytes}
use Rattle.spec_text.proofs.Cases.{by-test}
use Rattle.spec_format.specs.declared.Entry.{Entry}
use Rattle.spec_format.specs.declared.Fault.{Fault}
use Rattle.spec_format.specs.declared.Form.{Form}
use Rattle.spec_format.specs.Plan.{Plan, Listed, entries_in}
use Rattle.spec_format.specs.Faults.{most_entries}
use Rattle.spec_format.specs.Reading.{Reading, refusal, accepted, reading}
use Rattle.spec_format.specs.Sound.{Sound}
use Rattle.spec_format.proofs.Tabulated.{length-tabulate}
use Rattle.spec_format.proofs.Sound.{accepted-sound, accepted-few, entries-many}
use Rattle.spec_format.proofs.LineCounts.{low_count, low-lines, low-refused}
use Rattle.spec_machine.specs.Memory.{Commit, job_of, update_of}
use Rattle.spec_machine.specs.Places.{is_active}
use Rattle.spec_machine.specs.Machine.{Machine, shared_in, work_of, seen}
use Rattle.spec_machine.specs.History.{commits_in, Run, run_of}
use Rattle.spec_machine.specs.Ranges.{StatusIn}
use Rattle.spec_machine.proofs.Growing.{Within, no-commit, and-commit}
use Rattle.spec_machine.proofs.EveryRun.{always}
use Rattle.spec_ranges.proofs.Every.{every-other}
use Rattle.spec_ranges.proofs.Ranges.{status-wider, in-range}
use Rattle.spec_report.specs.declared.End.{End}
use Rattle.spec_text.specs.WrittenLines.{line_of}
use Rattle.spec_report.specs.Report.{end_line, commit_lines, block_lines, open_line, open_lines, report_end, report}
use Rattle.spec_report.specs.Outcomes.{Outcome, refused, run_outcome, printed}
use Rattle.spec_report.specs.Outcomes.{
  line_in,
  of_reading,
  run_text,
  is_other,
  other_from,
  unless_other,
  of_records,
  run_schedule,
}
use Rattle.spec_report.proofs.Ends.{end_low}
use Rattle.spec_report.proofs.JoinedLengths.{append-short, joined-short}
use Rattle.spec_report_length.specs.Longest.{longest_commit, longest_block, longest_open, longest_end}
use Rattle.spec_report_length.specs.Longest.{longest_commits, longest_blocks, longest_opens, longest_report}
use Rattle.spec_report_length.proofs.Committed.{few_commits, AllInPlan, commits-in-plan}
use Rattle.spec_report_length.proofs.LineLengths.{commit-short, block-short, open-short, end_short}

module _ (plan : Plan) (ok : Sound plan) where
  -- The lines of commits at entries of at most four digits, of calls that are in the plan.
  commits-short :
      (es : List Entry) (n : ℕ) {cs : List Commit} → n < 10000 → Within n cs → AllInPlan plan es cs
      → length (commit_lines es cs) ≤ longest_commit * length cs
  commits-short es n l no-commit all = omega arith
  commits-short es n l (and-commit {c} {cs} e some-call few-calls w) all =
      let line : List ℕ = line_of (bytes "commit") (c.entry ∷ job_of es c.call ∷ update_of es c.call ∷ []) in
      let short : length line ≤ longest_commit =
      commit-short c.entry (job_of es c.call) (update_of es c.call) (omega arith)
      (omega (arith, all.0.job, ok.jobs))
      (omega (arith, all.0.update, ok.few_updates)) in
      omega (arith, length-append line (commit_lines es cs), commits-short es n l w all.1)

  -- A block has its words.
  seen-words : (m : Machine) (b : ℕ) → length (seen plan m b) ≡ plan.sizes.words
  seen-words m b = length-tabulate plan.sizes.words _

  -- The block lines.
  blocks-short : (m : Machine) → length (block_lines plan m) ≤ longest_blocks
  blocks-short m =
      omega (
        arith,
        ok.blocks,
        joined-short plan.sizes.blocks longest_block (λ b. line_of (bytes "block") (seen plan m b))
            (λ b l. block-short (seen plan m b) (omega (arith, ok.words, seen-words m b))),
      )

  -- The open line of a job.
  one-open-short :
      (m : Machine) (k : ℕ) → k < plan.sizes.jobs → StatusIn 16 ((shared_in plan m).stat k)
      → length (open_line plan m k) ≤ longest_open
  one-open-short m k l s =
      by-test (is_active (work_of m k).place)
      (λ t. rw t (open-short k ((shared_in plan m).stat k) (omega (arith, ok.jobs)) s))
      (λ t. rw t (omega arith))

  -- The open lines, where every status is −1 or at most 16.
  opens-short :
      (m : Machine) → ((k : ℕ) → StatusIn 16 ((shared_in plan m).stat k)) → length (open_lines plan m) ≤ longest_opens
  opens-short m s =
      omega (
        arith,
        ok.jobs,
        joined-short plan.sizes.jobs longest_open (open_line plan m) (λ k l. one-open-short m k l (s k)),
      )

  -- The commit lines of a run of at most 4,000 entries.
  run-commits-short :
      (es : List Entry) → length es ≤ most_entries
      → length (commit_lines es (commits_in (run_of plan es).history)) ≤ longest_commits
  run-commits-short es few =
      let h = (run_of plan es).history in
      let told = (always plan ok es).layers.told in
      let short : length h ≤ length es = told.short in
      omega (
        arith,
        few_commits h,
        commits-short es (length h) (omega arith) told.within (commits-in-plan plan ok es),
      )

  -- The statuses of a run.
  run-statuses : (es : List Entry) (k : ℕ) → StatusIn 16 ((shared_in plan (run_of plan es).machine).stat k)
  run-statuses es k =
      let m = (run_of plan es).machine in
      status-wider plan.sizes.jobs 16 ok.jobs ((shared_in plan m).stat k)
      (every-other (StatusIn plan.sizes.jobs) (pos 0) (pos plan.sizes.jobs) m.cells.stat
      (in-range plan ok es).cells.stat (omega arith) k)

  -- The report of a run of at most 4,000 entries that ends at a line of at most 65,537.
  run_short :
      (es : List Entry) → length es ≤ most_entries → (e : End) → end_line e ≤ 65537
      → length (report plan es (run_of plan es) e) ≤ longest_report
  unfolding report
  run_short es few e low =
      let m = (run_of plan es).machine in
      let behind : List ℕ = open_lines plan m ++ report_end e in
      append-short (commit_lines es (commits_in (run_of plan es).history)) (block_lines plan m ++ behind)
      longest_commits _
      (run-commits-short es few)
      (append-short (block_lines plan m) behind longest_blocks _ (blocks-short m)
      (append-short (open_lines plan m) (report_end e) longest_opens longest_end (opens-short m (run-statuses es))
      (end_short e low)))

-- The report of a run of an accepted plan, of at most 4,000 entries and ending at a line of at most 65,537, is short.
pub report-short :
    (form : Form) (text : List ℕ) (plan : Plan) (listed : List Listed) (n : ℕ)
    → reading form text ≡ accepted plan listed n
    → (es : List Entry) → length es ≤ most_entries → (e : End) → end_line e ≤ 65537
    → length (report plan es (run_of plan es) e) ≤ longest_report
report-short form text plan listed n read = run_short plan (accepted-sound form text plan listed n read)

-- What is printed of entries that run for a sound plan.
outcome-short :
    (plan : Plan) → Sound plan → (es : List Entry) → length es ≤ most_entries → (line : ℕ → ℕ) (count : ℕ)
    → line (length (run_of plan es).history) ≤ 65537 → count ≤ 65537
    → length (printed (run_outcome plan es line count)) ≤ longest_report
unfolding printed
outcome-short plan ok es few line count l c =
    run_short plan ok es few _ (end_low (run_of plan es).refusal _ _ count 65537 l c)

-- What is printed of a refusal by a check at a line of at most 65,537.
refused-short : (f : Fault) (n : ℕ) → n ≤ 65537 → length (printed (refused (End.Faulty f n))) ≤ longest_report
unfolding printed
refused-short f n h = omega (arith, end_short (End.Faulty f n) h)

-- What a text prints is short.
pub printed-short : (text : List ℕ) → length (printed (run_text text)) ≤ longest_report
unfolding run_text
printed-short text = go (reading Form.Schedule text) refl
  where
    go : (r : Reading) → reading Form.Schedule text ≡ r → length (printed (of_reading r)) ≤ longest_report
    go (refusal f n) e = refused-short f n (low-refused Form.Schedule text f n e)
    go (accepted plan ls n) e =
        let es : List Entry = entries_in ls in
        let many : length es ≡ length ls = entries-many ls in
        outcome-short plan (accepted-sound Form.Schedule text plan ls n e) es
        (omega (arith, accepted-few Form.Schedule text plan ls n e))
        (line_in ls) n
        (omega (arith, low-lines Form.Schedule text plan ls n e (length (run_of plan es).history)))
        (omega (arith, low_count Form.Schedule text plan ls n e))

-- A place, where there is one, is at most m.
abbrev LowPlace : ℕ → Option ℕ → Type 0
LowPlace m None = Unit {0}
LowPlace m (Some place) = place ≤ m

-- The first record of another kind is one of the records.
other-low : (n : ℕ) (es : List Entry) (m : ℕ) → n + length es ≤ m + 1 → LowPlace m (other_from n es)
other-low n [] m h = tt
other-low n (e ∷ es) m h =
    by-test (is_other e) (λ t. rw t (omega arith)) (λ t. rw t (other-low (n + 1) es m (omega arith)))

-- What is printed of records that run unless one is of another kind.
unless-short :
    (x : Option ℕ) (o : Outcome) → LowPlace 65537 x → length (printed o) ≤ longest_report
    → length (printed (unless_other x o)) ≤ longest_report
unless-short None o h short = short
unless-short (Some place) o h short = refused-short Fault.Misplaced place h

-- What a plan's text prints with a schedule of records is short.
pub schedule-short : (text : List ℕ) (es : List Entry) → length (printed (run_schedule text es)) ≤ longest_report
unfolding run_schedule
schedule-short text es = go (reading Form.PlanAlone text) refl
  where
    go : (r : Reading) → reading Form.PlanAlone text ≡ r → length (printed (of_records r es)) ≤ longest_report
    go (refusal f n) e = refused-short f n (low-refused Form.PlanAlone text f n e)
    go (accepted plan ls n) e =
        by-test (ltb most_entries (length es))
        (λ t. rw t (refused-short Fault.TooMany (most_entries + 1) (omega arith)))
        (λ t.
        let few : length es ≤ most_entries = ltb-false most_entries (length es) t in
        let ok : Sound plan = accepted-sound Form.PlanAlone text plan ls n e in
        rw t
        (unless-short (other_from 1 es) (run_outcome plan es (λ i. i + 1) (length es))
        (other-low 1 es 65537 (omega arith))
        (outcome-short plan ok es few (λ i. i + 1) (length es)
        (omega (arith, (always plan ok es).layers.told.short))
        (omega arith))))

-- A report has its end line at least.
pub report-some : (plan : Plan) (es : List Entry) (r : Run) (e : End) → 0 < length (report plan es r e)
unfolding report
report-some plan es r e = simp length-append (omega arith)

-- So a text prints something.
pub printed-some : (text : List ℕ) → 0 < length (printed (run_text text))
unfolding run_text printed
printed-some text = go (reading Form.Schedule text)
  where
    go : (r : Reading) → 0 < length (printed (of_reading r))
    go (refusal f n) = omega arith
    go (accepted plan ls n) = report-some plan _ _ _
