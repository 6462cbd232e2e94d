-- A text with a run of steps and the text with the steps in its place run alike (run-reports): the same entries run, on
-- the same plan, so that state, history and commits are the same, and the two reports differ at most in the line of
-- `end`. The argument: the two texts say the same (spec_format's RunIsSteps), but for the lines and their count, and of
-- those a report shows only one, in `end`. Assumes nothing.
use Prim.Native.Nat.{ℕ, zero, suc, ◌+◌, ◌≤◌}
use native.Mathlib.Omega.{arith}
use mathlib.Core.Path.{◌≡◌, refl, ◌∙◌, ap}
use mathlib.Core.Bool.{true}
use mathlib.Core.List.{List, [], ◌∷◌, ◌++◌, map, map-map, append_assoc}
use Rattle.std.specs.Prelude.{Option, Some, None}
use lib.ListN.{length}
use borrow.Author.Tests.{lt-ltb}
use Rattle.spec_text.specs.Numbers.{largest}
use Rattle.spec_text.specs.Lines.{lines}
use Rattle.spec_format.specs.declared.Entry.{Entry}
use Rattle.spec_format.specs.declared.Form.{Form}
use Rattle.spec_format.specs.Plan.{Plan, Listed, entries_in}
use Rattle.spec_format.specs.Reading.{accepted, reading}
use Rattle.spec_format.specs.RunIsSteps.{run_line, step_lines, whole_lines, joined_line, in_joined, SaysSame}
use Rattle.spec_format.proofs.RunIsSteps.{run-is-steps}
use Rattle.spec_machine.specs.declared.Refusal.{Refusal}
use Rattle.spec_machine.specs.History.{Run, commits_in, run_of}
use Rattle.spec_report.specs.declared.End.{End}
use Rattle.spec_report.specs.Report.{end_number, end_line, end_entry, commit_lines, block_lines, open_lines, report_end}
use Rattle.spec_report.specs.Report.{report}
use Rattle.spec_report.specs.Outcomes.{run_outcome, end_of, end_of_run, line_in, run_text}
use Rattle.spec_report.specs.RunsAlike.{RunsAlike, TextsAlike}

-- What a report has before `end`.
abbrev pub before_end : Plan → List Entry → Run → List ℕ
before_end plan es r =
    commit_lines es (commits_in r.history) ++ (block_lines plan r.machine ++ open_lines plan r.machine)

-- A report is that, and `end`.
pub report-parts :
    (plan : Plan) (es : List Entry) (r : Run) (e : End) → report plan es r e ≡ before_end plan es r ++ report_end e
unfolding report
report-parts plan es r e = simp append_assoc

-- Two ends of one run: their numbers and their entries are the same, and the one's line is `line` of the other's where
-- that holds of the lines and of the counts that they can have.
ends-alike :
    (line : ℕ → ℕ) (x : Option Refusal) (i a b k m : ℕ) → a ≡ line b → k ≡ line m
    → (end_number (end_of x i a k) ≡ end_number (end_of x i b m))
    × (end_entry (end_of x i a k) ≡ end_entry (end_of x i b m))
    × (end_line (end_of x i a k) ≡ line (end_line (end_of x i b m)))
ends-alike line None i a b k m e f = (refl, refl, f)
ends-alike line (Some r) i a b k m e f = (refl, refl, e)

-- One run is reported alike, however the lines of its entries are numbered.
outcomes-alike :
    (line : ℕ → ℕ) (plan : Plan) (es : List Entry) (one other : ℕ → ℕ) (k m : ℕ)
    → ((i : ℕ) → one i ≡ line (other i)) → k ≡ line m
    → RunsAlike line plan es (run_outcome plan es one k) (run_outcome plan es other m)
outcomes-alike line plan es one other k m lines_are count_is =
    let r : Run = run_of plan es in
    let i : ℕ = length r.history in
    let ends = ends-alike line r.refusal (i + 1) (one i) (other i) k m (lines_are i) count_is in
    record {
      end = end_of_run r one k;
      other_end = end_of_run r other m;
      one_is = refl;
      other_is = refl;
      number_is = ends.0;
      entry_is = ends.1;
      line_is = ends.2;
      front = before_end plan es r;
      bytes_are = report-parts plan es r (end_of_run r one k);
      other_bytes = report-parts plan es r (end_of_run r other m);
    }

-- The line of an entry, once the lines of the steps are joined; past the last entry it is 0, which is no line.
line-joined :
    (at n : ℕ) → 1 ≤ at → (fs : List Listed) (i : ℕ)
    → line_in (map (in_joined at n) fs) i ≡ joined_line at n (line_in fs i)
line-joined at n h [] i = rw (lt-ltb 0 at h)
line-joined at n h (l ∷ fs) zero = refl
line-joined at n h (l ∷ fs) (suc i) = line-joined at n h fs i

-- Two texts run alike where the one is read to what the other is, with its lines joined.
readings-alike :
    (at n : ℕ) → 1 ≤ at → (one other : List ℕ) (p : Plan) (fs : List Listed) (m : ℕ)
    → reading Form.Schedule one ≡ accepted p (map (in_joined at n) fs) (joined_line at n m)
    → reading Form.Schedule other ≡ accepted p fs m
    → RunsAlike (joined_line at n) p (entries_in fs) (run_text one) (run_text other)
unfolding run_text
readings-alike at n h one other p fs m e f =
    rw (e, f, map-map (λ (l : Listed). l.entry) (in_joined at n) fs)
    (outcomes-alike (joined_line at n) p (entries_in fs) (line_in (map (in_joined at n) fs))
    (line_in fs) (joined_line at n m) m (line-joined at n h fs) refl)

-- Two texts that say the same run alike.
texts-alike :
    (at n : ℕ) → 1 ≤ at → (one other : List ℕ) → SaysSame Form.Schedule one other at n
    → TextsAlike (joined_line at n) one other
texts-alike at n h one other same =
    record {
      there = λ p es k e short.
          let said = same.there p es k e short in
          let entries : entries_in es ≡ entries_in said.0
          = ap entries_in said.3
          ∙ map-map (λ (l : Listed). l.entry) (in_joined at n) said.0 in
          rw entries
          (readings-alike at n h one other p said.0 said.1 (cc (said.3, said.4, e)) said.2);
      back = λ p fs m e short.
          readings-alike at n h one other p fs m (same.back p fs m e short) e;
    }

-- A run and the steps in its place run alike, in every text and every place.
pub run-reports :
    (before behind : List ℕ) (card n : ℕ) → whole_lines before ≡ true → card ≤ largest → 1 ≤ n
    → TextsAlike (joined_line (length (lines before) + 1) n) (before ++ (run_line card n ++ behind))
    (before ++ (step_lines card n ++ behind))
run-reports before behind card n whole fits some-step =
    texts-alike (length (lines before) + 1) n (omega arith) (before ++ (run_line card n ++ behind))
    (before ++ (step_lines card n ++ behind))
    (run-is-steps Form.Schedule before behind card n whole fits some-step)
