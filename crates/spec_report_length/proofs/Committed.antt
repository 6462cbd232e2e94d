-- A call that a run commits is an entry that names a job and an update of the plan (commits-in-plan), and there are at
-- most as many commits as events (few_commits).
--
-- In plain words. The latest call of a job, where it has one, is the number of an entry that was accepted as a call,
-- and what is accepted names a job and an update that are there. What an entry commits is the latest call of a job,
-- and no entry commits "no call" (fifth layer of the invariant). More entries behind these change none of them.
--
-- Assumes a sound plan.
use Prim.Native.Nat.{ℕ, ◌+◌, ◌≤◌, ◌<◌}
use mathlib.Core.Path.{◌≡◌, refl, sym, ◌∙◌, ap, subst}
use mathlib.Core.Logic.{◌≢◌, inl}
use mathlib.Core.Bool.{true, false, true≢false}
use mathlib.Core.List.{List, [], ◌∷◌, ◌++◌, append-nil, append_assoc, foldl-append}
use Rattle.std.specs.Prelude.{Option, Some, None}
use native.Mathlib.Omega.{arith}
use borrow.Author.Tests.{eq-eqb, not-true}
use lib.Dec.{eqb}
use lib.ListN.{length}
use Rattle.spec_text.proofs.Cases.{by-test}
use Rattle.spec_format.specs.declared.Entry.{Entry}
use Rattle.spec_format.specs.Plan.{Plan}
use Rattle.spec_format.specs.Sound.{Sound}
use Rattle.spec_machine.specs.declared.Refusal.{Refusal}
use Rattle.spec_machine.specs.declared.Judgement.{Judgement}
use Rattle.spec_machine.specs.declared.Working.{Working}
use Rattle.spec_machine.specs.Places.{label, is_active}
use Rattle.spec_machine.specs.Memory.{Commit, entry_at, job_of, update_of}
use Rattle.spec_machine.specs.Machine.{work_of, item_of}
use Rattle.spec_machine.specs.Entries.{judge}
use Rattle.spec_machine.specs.History.{
  Event,
  calls,
  commits,
  is_commit,
  commits_in,
  latest,
  call_event,
  item_event,
  Run,
  unless_refused,
  begun,
  judged,
  entered,
  run_of,
}
use Rattle.spec_machine.proofs.ListMachine.{job-seen, call-judged, step-judged}
use Rattle.spec_machine.proofs.Growing.{length_more, entry-within, entry-last}
use Rattle.spec_machine.proofs.Events.{any-in, latest-same, latest-last, commit_of, commits-out, commits-last}
use Rattle.spec_machine.proofs.EveryRun.{Inv, always}

-- There are at most as many commits as events.
pub few_commits : (h : List Event) → length (commits_in h) ≤ length h
few_commits [] = omega arith
few_commits (e ∷ h) =
    by-test (is_commit e) (λ t. rw t (omega (arith, few_commits h))) (λ t. rw t (omega (arith, few_commits h)))

module _ (plan : Plan) where
  -- The entry of a call names a job and an update of the plan.
  pub record InPlan (es : List Entry) (c : ℕ) : Type 0 where
    pub job : job_of es c < plan.sizes.jobs
    pub update : update_of es c < length plan.updates

  -- So do the entries of the calls of some commits.
  abbrev pub AllInPlan : List Entry → List Commit → Type 0
  AllInPlan es [] = Unit {0}
  AllInPlan es (c ∷ cs) = InPlan es c.call × AllInPlan es cs

  -- One more commit.
  all_more : (es : List Entry) (cs : List Commit) (c : Commit) → AllInPlan es cs → InPlan es c.call
      → AllInPlan es (cs ++ (c ∷ []))
  all_more es [] c all one = (one, tt)
  all_more es (d ∷ cs) c all one = (all.0, all_more es cs c all.1 one)

  -- The calls of a history are in the plan: the latest of each job that has one, and those that are committed; more
  -- entries behind es do not change that.
  record CallsInPlan (es : List Entry) (h : List Event) : Type 0 where
    latest-call : (more : List Entry) (k : ℕ) → latest k h ≢ 0 → InPlan (es ++ more) (latest k h)
    committed : (more : List Entry) → AllInPlan (es ++ more) (commits_in h)

  -- They stay so with one more entry.
  stays : (es : List Entry) (e : Entry) (h : List Event) → CallsInPlan es h → CallsInPlan (es ++ (e ∷ [])) h
  stays es e h C =
      record {
        latest-call = λ more k n. rw (append_assoc es (e ∷ []) more) (C.latest-call (e ∷ more) k n);
        committed = λ more. rw (append_assoc es (e ∷ []) more) (C.committed (e ∷ more));
      }

  module _ (es : List Entry) (e : Entry) (h : List Event) (C : CallsInPlan es h) where
    -- An accepted call: the entry names its job and its update.
    call-in-plan :
        (j u : ℕ) → length h ≡ length es → e.first ≡ j → e.second ≡ u → j < plan.sizes.jobs
        → u < length plan.updates → CallsInPlan (es ++ (e ∷ [])) (h ++ (call_event h j ∷ []))
    call-in-plan j u len first second has-job has-update =
        record {
          latest-call =
              λ more k n.
              by-test (calls k (call_event h j))
              (λ t. rw (latest-last k h (call_event h j) t) (this more))
              (λ t.
              let same : latest k (h ++ (call_event h j ∷ [])) ≡ latest k h = latest-same k h (call_event h j) t in
              rw same ((stays es e h C).latest-call more k (rw same at n)));
          committed = λ more. rw (commits-out h (call_event h j) refl) ((stays es e h C).committed more);
        }
      where
        -- the entry of this call
        its : (more : List Entry) → entry_at ((es ++ (e ∷ [])) ++ more) (length h + 1) ≡ e
        its more =
            entry-within (es ++ (e ∷ [])) more (length h + 1) (omega arith) (omega (arith, length_more es e))
            ∙ entry-last es e (length h + 1) (omega arith)

        -- so the call is in the plan
        this : (more : List Entry) → InPlan ((es ++ (e ∷ [])) ++ more) (length h + 1)
        this more =
            record {
              job = omega (arith, ap (λ (x : Entry). x.first) (its more));
              update = omega (arith, ap (λ (x : Entry). x.second) (its more));
            }

    -- An event that is no call, and commits the latest call of a job, if any.
    step-in-plan :
        (x : Event) (q : ℕ) → ((k : ℕ) → calls k x ≡ false) → x.helped ≡ latest q h
        → (is_commit x ≡ true → x.helped ≢ 0) → CallsInPlan (es ++ (e ∷ [])) (h ++ (x ∷ []))
    step-in-plan x q no_call helps some-call =
        record {
          latest-call =
              λ more k n.
              let same : latest k (h ++ (x ∷ [])) ≡ latest k h = latest-same k h x (no_call k) in
              rw same ((stays es e h C).latest-call more k (rw same at n));
          committed =
              λ more.
              by-test (is_commit x)
              (λ t.
              rw (commits-last h x t)
              (all_more _ (commits_in h) (commit_of x) ((stays es e h C).committed more)
              (rw helps ((stays es e h C).latest-call more q (rw helps at (some-call t))))))
              (λ t. rw (commits-out h x t) ((stays es e h C).committed more));
        }

  module _ (ok : Sound plan) where
    -- One more entry.
    entry-in-plan :
        (es : List Entry) (r : Run) (e : Entry) → Inv plan es r → Inv plan (es ++ (e ∷ [])) (entered plan r e)
        → CallsInPlan es r.history → CallsInPlan (es ++ (e ∷ [])) (entered plan r e).history
    unfolding entered
    entry-in-plan es r e A next C = go r.refusal refl next
      where
        -- by what the entry comes to
        by :
            (j : Judgement) → judge plan r.machine e ≡ j → length r.history ≡ length es
            → Inv plan (es ++ (e ∷ [])) (judged plan r j) → CallsInPlan (es ++ (e ∷ [])) (judged plan r j).history
        by (Judgement.Calls j u) z len after =
            let c = call-judged plan r.machine e j u z in
            call-in-plan es e r.history C j u len c.first c.second c.has-job c.has-update
        by (Judgement.Runs p) z len after =
            step-in-plan es e r.history C event (work_of r.machine p).hid no_call refl some-call
          where
            -- what the item did
            event : Event
            event = item_event r.history p (work_of r.machine p) (item_of plan r.machine p)

            -- it is no call, as the job is active
            no_call : (k : ℕ) → calls k event ≡ false
            no_call k =
                let c = step-judged plan r.machine e p z in
                rw (not-true (eqb (label (work_of r.machine p).place) 0)
                (ap (λ (w : Working). is_active w.place) (sym (job-seen plan r.machine p c.has-job))
                ∙ c.active))

            -- what it commits is a call
            some-call : is_commit event ≡ true → event.helped ≢ 0
            some-call t q =
                true≢false
                (sym (any-in (commits 0) r.history event (rw (t, eq-eqb event.helped 0 q)))
                ∙ (after.layers.told.unused 0 (inl refl)).not-committed)
        by (Judgement.Refused x) z len after = stays es e r.history C

        -- by whether the run has stopped
        go :
            (f : Option Refusal) → r.refusal ≡ f
            → Inv plan (es ++ (e ∷ [])) (unless_refused f r (judged plan r (judge plan r.machine e)))
            → CallsInPlan (es ++ (e ∷ []))
            (unless_refused f r (judged plan r (judge plan r.machine e))).history
        go (Some x) q after = stays es e r.history C
        go None q after = by (judge plan r.machine e) refl (A.in_step q) after

    -- One more entry, from the opening.
    next-in-plan :
        (es : List Entry) (e : Entry) → CallsInPlan es (run_of plan es).history
        → CallsInPlan (es ++ (e ∷ [])) (run_of plan (es ++ (e ∷ []))).history
    unfolding run_of
    next-in-plan es e C =
        let one : run_of plan (es ++ (e ∷ [])) ≡ entered plan (run_of plan es) e =
        foldl-append (entered plan) (begun plan) es (e ∷ []) in
        subst (λ (r : Run). CallsInPlan (es ++ (e ∷ [])) r.history) (sym one)
        (entry-in-plan es (run_of plan es) e (always plan ok es)
        (subst (Inv plan (es ++ (e ∷ []))) one (always plan ok (es ++ (e ∷ []))))
        C)

    -- Some more entries.
    entries-in-plan :
        (es fs : List Entry) → CallsInPlan es (run_of plan es).history
        → CallsInPlan (es ++ fs) (run_of plan (es ++ fs)).history
    entries-in-plan es [] C = rw (append-nil es) C
    entries-in-plan es (f ∷ fs) C =
        subst (λ l. CallsInPlan l (run_of plan l).history) (append_assoc es (f ∷ []) fs)
        (entries-in-plan (es ++ (f ∷ [])) fs (next-in-plan es f C))

    -- No call yet.
    opening-in-plan : CallsInPlan [] (run_of plan []).history
    unfolding run_of begun
    opening-in-plan = record { latest-call = λ more k n. absurd (n refl); committed = λ more. tt }

    -- The calls that a run commits are in the plan.
    pub commits-in-plan : (es : List Entry) → AllInPlan es (commits_in (run_of plan es).history)
    commits-in-plan es = rw (append-nil es) at ((entries-in-plan [] es opening-in-plan).committed [])
