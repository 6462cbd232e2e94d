-- The unused number of a step matters to no run (plain-run) and to no report of one that is not refused (plain-report);
-- what such a run has run are entries that the plan can run (run-runnable), and records of no other kind are calls and
-- steps (known-kinds, no-others).
--
-- In plain words. A step is judged by its card alone. A report names entries only as the calls that are committed: each
-- is the latest call of some job, so the number of an entry that was accepted as a call, or 0 where the job has none,
-- which is read as the first entry. That one is a call too: no job is active at the opening, so a step is refused.
--
-- Assumes nothing.
use Prim.Native.Nat.{ℕ, suc, ◌+◌, ◌-◌, ◌*◌, ◌≤◌}
use mathlib.Core.Path.{◌≡◌, refl, sym, ◌∙◌, ap}
use mathlib.Core.Logic.{◌⊎◌, inl, inr}
use mathlib.Core.Bool.{true, false, false≢true, ◌||◌}
use mathlib.Core.List.{List, [], ◌∷◌, ◌++◌, map, foldl}
use Rattle.std.specs.Prelude.{Option, Some, None}
use native.Mathlib.Omega.{arith}
use borrow.Author.Tests.{eqb-true, eq-eqb, not-true, not-false, leb-false, ltb-true, ltb-false}
use lib.Dec.{eqb, leb, ltb}
use lib.ListN.{length, get_or, get_or-eq_default, get_or-map}
use Rattle.spec_text.proofs.Cases.{by-test, neither, some-none}
use Rattle.spec_format.specs.declared.Entry.{Entry}
use Rattle.spec_format.specs.Plan.{Plan, tabulate}
use Rattle.spec_format.proofs.Tabulated.{length-tabulate, get_d_tabulate}
use Rattle.spec_machine.specs.declared.Place.{Place}
use Rattle.spec_machine.specs.declared.Working.{Working}
use Rattle.spec_machine.specs.declared.Refusal.{Refusal}
use Rattle.spec_machine.specs.declared.Judgement.{Judgement}
use Rattle.spec_machine.specs.Places.{label, is_active}
use Rattle.spec_machine.specs.Working.{no_work, opening}
use Rattle.spec_machine.specs.Memory.{Commit, entry_at, job_of, update_of}
use Rattle.spec_machine.specs.Machine.{Machine, work_of, opening_of, item_of}
use Rattle.spec_machine.specs.Entries.{judge}
use Rattle.spec_machine.specs.History.{Event, calls, is_commit, commits_in, latest, call_event, item_event, refusal_in}
use Rattle.spec_machine.specs.History.{Run}
use Rattle.spec_machine.specs.History.{unless_refused, begun, judged, entered, run_of}
use Rattle.spec_machine.proofs.ListMachine.{job-seen, StepJudged, call-judged, step-judged}
use Rattle.spec_machine.proofs.Events.{length_last, latest-same, latest-last, commit_of, commits-out, commits-last}
use Rattle.spec_report.specs.declared.End.{End}
use Rattle.spec_report.specs.Report.{commit_lines, report}
use Rattle.spec_report.specs.Outcomes.{is_other, other_from}
use Rattle.spec_plan_text.specs.EntryLines.{plain}
use Rattle.spec_plan_text.proofs.Runnable.{Runnable, AllRunnable}
use Rattle.spec_plan_text.proofs.LongestRuns.{KnownKinds}

-- A call and a step are of no other kind.
not-other : (e : Entry) → (e.kind ≡ 0) ⊎ (e.kind ≡ 1) → is_other e ≡ false
not-other e (inl z) = rw z
not-other e (inr z) = rw z

-- What is of no other kind is a call or a step.
known-kind : (e : Entry) → is_other e ≡ false → (e.kind ≡ 0) ⊎ (e.kind ≡ 1)
known-kind e h =
    by-test (eqb e.kind 0)
    (λ t. inl (eqb-true e.kind 0 t))
    (λ t. inr (eqb-true e.kind 1 (rw t at (not-false (eqb e.kind 0 || eqb e.kind 1) h))))

-- Among calls and steps there is no record of another kind.
pub no-others : (n : ℕ) (es : List Entry) → KnownKinds es → other_from n es ≡ None
no-others n [] known = refl
no-others n (e ∷ es) known = rw (not-other e known.0) (no-others (n + 1) es known.1)

-- Where there is no record of another kind, all are calls and steps.
pub known-kinds : (n : ℕ) (es : List Entry) → other_from n es ≡ None → KnownKinds es
known-kinds n [] no_other = tt
known-kinds n (e ∷ es) no_other =
    by-test (is_other e)
    (λ t. absurd (some-none (rw t at no_other)))
    (λ t. (known-kind e t, known-kinds (n + 1) es (rw t at no_other)))

-- A step's second number does not matter to what the entry comes to.
plain-judged : (plan : Plan) (m : Machine) (e : Entry) → judge plan m (plain e) ≡ judge plan m e
unfolding judge
plain-judged plan m e = by-test (eqb e.kind 0) (λ t. rw (t, t)) (λ t. rw (t, t))

-- Nor does it to a run after the entry,
plain-entered : (plan : Plan) (r : Run) (e : Entry) → entered plan r (plain e) ≡ entered plan r e
unfolding entered
plain-entered plan r e = rw (plain-judged plan r.machine e)

-- nor to a run that goes on,
plain-on :
    (plan : Plan) (r : Run) (es : List Entry) → foldl (entered plan) r (map plain es) ≡ foldl (entered plan) r es
plain-on plan r [] = refl
plain-on plan r (e ∷ es) =
    ap (λ q. foldl (entered plan) q (map plain es)) (plain-entered plan r e) ∙ plain-on plan (entered plan r e) es

-- nor to a run from the opening.
pub plain-run : (plan : Plan) (es : List Entry) → run_of plan (map plain es) ≡ run_of plan es
unfolding run_of
plain-run plan es = plain-on plan (begun plan) es

-- Where a run is not refused after an entry, it was not before, and the entry is not refused.
entry-accepted :
    (plan : Plan) (r : Run) (e : Entry) → (entered plan r e).refusal ≡ None
    → (r.refusal ≡ None) × (refusal_in (judge plan r.machine e) ≡ None)
unfolding entered
entry-accepted plan r e h = go r.refusal refl h
  where
    go :
        (f : Option Refusal) → r.refusal ≡ f
        → (unless_refused f r (judged plan r (judge plan r.machine e))).refusal ≡ None
        → (r.refusal ≡ None) × (refusal_in (judge plan r.machine e) ≡ None)
    go None q z = (q, z)
    go (Some x) q z = absurd (some-none (sym q ∙ z))

-- Where a run is not refused after some entries, it was not before.
still-accepted :
    (plan : Plan) (r : Run) (es : List Entry) → (foldl (entered plan) r es).refusal ≡ None → r.refusal ≡ None
still-accepted plan r [] h = h
still-accepted plan r (e ∷ es) h = (entry-accepted plan r e (still-accepted plan (entered plan r e) es h)).0

-- A call or a step that is not refused is one that the plan can run.
judged-runnable :
    (plan : Plan) (m : Machine) (e : Entry) → (e.kind ≡ 0) ⊎ (e.kind ≡ 1) → refusal_in (judge plan m e) ≡ None
    → Runnable plan e
unfolding judge
judged-runnable plan m e (inl z) h =
    by-test (leb plan.sizes.jobs e.first || leb (length plan.updates) e.second)
    (λ t. absurd (some-none (rw (z, t) at h)))
    (λ t.
    let such = neither (leb plan.sizes.jobs e.first) (leb (length plan.updates) e.second) t in
    inl (z, leb-false _ _ such.0, leb-false _ _ such.1))
judged-runnable plan m e (inr z) h =
    by-test (leb plan.sizes.cards e.first)
    (λ t. absurd (some-none (rw (z, t) at h)))
    (λ t. inr (z, leb-false _ _ t))

-- The entries of a run that goes on and is not refused are those that the plan can run.
runnable-on :
    (plan : Plan) (r : Run) (es : List Entry) → KnownKinds es → (foldl (entered plan) r es).refusal ≡ None
    → AllRunnable plan es
runnable-on plan r [] known h = tt
runnable-on plan r (e ∷ es) known h =
    let here = entry-accepted plan r e (still-accepted plan (entered plan r e) es h) in
    (judged-runnable plan r.machine e known.0 here.1, runnable-on plan (entered plan r e) es known.1 h)

-- The entries of a run that is not refused are those that the plan can run.
pub run-runnable :
    (plan : Plan) (es : List Entry) → other_from 1 es ≡ None → (run_of plan es).refusal ≡ None → AllRunnable plan es
unfolding run_of
run-runnable plan es no_other h = runnable-on plan (begun plan) es (known-kinds 1 es no_other) h

-- Where all of some records are idle, so is each, and what stands for one where there is none.
idle-each :
    (n : ℕ) (f : ℕ → Working) (k : ℕ) → ((i : ℕ) → (f i).place ≡ Place.Idle)
    → (get_or (tabulate n f) k no_work).place ≡ Place.Idle
idle-each n f k idle =
    by-test (ltb k n)
    (λ t. rw (get_d_tabulate n f no_work k (ltb-true k n t)) (idle k))
    (λ t.
    let past : length (tabulate n f) ≤ k = omega (arith, length-tabulate n f, ltb-false k n t) in
    rw (get_or-eq_default (tabulate n f) no_work past))

-- No job is active at the opening.
idle-opening : (plan : Plan) (k : ℕ) → (work_of (opening_of plan) k).place ≡ Place.Idle
unfolding opening_of
idle-opening plan k =
    idle-each 16 (λ p. opening (tabulate 8 (λ i. p * plan.sizes.copies + i))) k (λ i. refl)

-- A job that runs is active.
runs-active :
    (plan : Plan) (m : Machine) (e : Entry) (p : ℕ) → judge plan m e ≡ Judgement.Runs p
    → is_active (work_of m p).place ≡ true
runs-active plan m e p z =
    let s : StepJudged plan m e p = step-judged plan m e p z in
    ap (λ (w : Working). is_active w.place) (sym (job-seen plan m p s.has-job)) ∙ s.active

-- What stands for an entry where there is none.
abbrev no_entry : Entry
no_entry = record { kind = 0; first = 0; second = 0 }

-- The entry of a number is a call. Number 0 is read as 1.
abbrev CallAt : List Entry → ℕ → Type 0
CallAt es n = (entry_at es n).kind ≡ 0

-- So are those of the calls that are committed.
abbrev CallsAt : List Entry → List Commit → Type 0
CallsAt es [] = Unit {0}
CallsAt es (c ∷ cs) = CallAt es c.call × CallsAt es cs

-- One more commit.
one_more : (es : List Entry) (cs : List Commit) (c : Commit) → CallsAt es cs → CallAt es c.call
    → CallsAt es (cs ++ (c ∷ []))
one_more es [] c all one = (one, tt)
one_more es (d ∷ cs) c all one = (all.0, one_more es cs c all.1 one)

-- The first entry of a run that is not refused is a call.
first-call : (plan : Plan) (es : List Entry) → (run_of plan es).refusal ≡ None → CallAt es 0
unfolding run_of begun
first-call plan [] h = refl
first-call plan (e ∷ es) h =
    go (judge plan (opening_of plan) e) refl
    (entry-accepted plan (begun plan) e (still-accepted plan (entered plan (begun plan) e) es h)).1
  where
    go : (j : Judgement) → judge plan (opening_of plan) e ≡ j → refusal_in j ≡ None → e.kind ≡ 0
    go (Judgement.Calls job update) z a = (call-judged plan (opening_of plan) e job update z).kind
    go (Judgement.Runs p) z a =
        absurd (false≢true (rw (idle-opening plan p) at (runs-active plan (opening_of plan) e p z)))
    go (Judgement.Refused x) z a = absurd (some-none a)

-- The entries of a history's calls are calls: of the latest of each job, and of those that are committed.
record CallsKnown (es : List Entry) (h : List Event) : Type 0 where
  latest-call : (k : ℕ) → CallAt es (latest k h)
  committed : CallsAt es (commits_in h)

-- One more event that is a call.
call_known :
    (es : List Entry) (h : List Event) (job : ℕ) → CallsKnown es h → CallAt es (length h + 1)
    → CallsKnown es (h ++ (call_event h job ∷ []))
call_known es h job C here =
    record {
      latest-call =
          λ k.
          by-test (calls k (call_event h job))
          (λ t. rw (latest-last k h (call_event h job) t) here)
          (λ t. rw (latest-same k h (call_event h job) t) (C.latest-call k));
      committed = rw (commits-out h (call_event h job) refl) C.committed;
    }

-- One more event that is no call, and commits the latest call of a job, if any.
step-known :
    (es : List Entry) (h : List Event) (x : Event) (q : ℕ) → CallsKnown es h → ((k : ℕ) → calls k x ≡ false)
    → x.helped ≡ latest q h → CallsKnown es (h ++ (x ∷ []))
step-known es h x q C no_call helps =
    record {
      latest-call = λ k. rw (latest-same k h x (no_call k)) (C.latest-call k);
      committed =
          by-test (is_commit x)
          (λ t.
          rw (commits-last h x t)
          (one_more es (commits_in h) (commit_of x) C.committed (rw helps (C.latest-call q))))
          (λ t. rw (commits-out h x t) C.committed);
    }

module _ (plan : Plan) (es : List Entry) where
  -- One more entry that is not refused: one more event.
  entry_known :
      (r : Run) (e : Entry) → CallsKnown es r.history → entry_at es (length r.history + 1) ≡ e
      → (entered plan r e).refusal ≡ None
      → (length (entered plan r e).history ≡ length r.history + 1) × CallsKnown es (entered plan r e).history
  unfolding entered
  entry_known r e C here accepted =
      let h = entry-accepted plan r e accepted in
      rw h.0 (by (judge plan r.machine e) refl h.1)
    where
      by :
          (j : Judgement) → judge plan r.machine e ≡ j → refusal_in j ≡ None
          → (length (judged plan r j).history ≡ length r.history + 1) × CallsKnown es (judged plan r j).history
      by (Judgement.Calls job update) z a = (
        length_last r.history (call_event r.history job),
        call_known es r.history job C (rw here (call-judged plan r.machine e job update z).kind),
      )
      by (Judgement.Runs p) z a =
          (length_last r.history event, step-known es r.history event (work_of r.machine p).hid C no_call refl)
        where
          -- what the item did
          event : Event
          event = item_event r.history p (work_of r.machine p) (item_of plan r.machine p)

          -- it is no call, as the job is active
          no_call : (k : ℕ) → calls k event ≡ false
          no_call k =
              rw (not-true (eqb (label (work_of r.machine p).place) 0) (runs-active plan r.machine e p z))
      by (Judgement.Refused x) z a = absurd (some-none a)

  -- More entries, which stand in es behind those of which the history tells.
  known_on :
      (rest : List Entry) (r : Run)
      → ((i : ℕ) → get_or es (length r.history + i) no_entry ≡ get_or rest i no_entry)
      → CallsKnown es r.history → (foldl (entered plan) r rest).refusal ≡ None
      → CallsKnown es (foldl (entered plan) r rest).history
  known_on [] r behind C accepted = C
  known_on (e ∷ rest) r behind C accepted =
      let here : entry_at es (length r.history + 1) ≡ e = ap (λ n. get_or es n no_entry) (omega arith) ∙ behind 0 in
      let next = entry_known r e C here (still-accepted plan (entered plan r e) rest accepted) in
      known_on rest (entered plan r e)
      (λ i. ap (λ n. get_or es n no_entry) (omega (arith, next.0)) ∙ behind (suc i)) next.1 accepted

  -- The calls that a run commits which is not refused are calls.
  run-known : (run_of plan es).refusal ≡ None → CallsAt es (commits_in (run_of plan es).history)
  unfolding run_of begun
  run-known accepted =
      (known_on es (begun plan) (λ i. ap (λ n. get_or es n no_entry) (omega arith))
      (record { latest-call = λ k. first-call plan es accepted; committed = tt }) accepted).committed

-- The entry of a call has no unused number.
same-call : (es : List Entry) (n : ℕ) → CallAt es n → entry_at (map plain es) n ≡ entry_at es n
same-call es n z =
    get_or-map plain es (n - 1) no_entry ∙ rw (eq-eqb (entry_at es n).kind 0 z)

-- So the lines of commits are the same.
same-commits : (es : List Entry) (cs : List Commit) → CallsAt es cs → commit_lines (map plain es) cs
    ≡ commit_lines es cs
same-commits es [] all = refl
same-commits es (c ∷ cs) all =
    let job : job_of (map plain es) c.call ≡ job_of es c.call
    = ap (λ (x : Entry). x.first) (same-call es c.call all.0) in
    let update : update_of (map plain es) c.call ≡ update_of es c.call
    = ap (λ (x : Entry). x.second) (same-call es c.call all.0) in
    rw (job, update, same-commits es cs all.1)

-- The unused number of a step matters to no report of a run that is not refused.
pub plain-report :
    (plan : Plan) (es : List Entry) (e : End) → (run_of plan es).refusal ≡ None
    → report plan (map plain es) (run_of plan (map plain es)) e ≡ report plan es (run_of plan es) e
unfolding report
plain-report plan es e accepted =
    rw (plain-run plan es, same-commits es (commits_in (run_of plan es).history) (run-known plan es accepted))
