-- A run goes on by one entry at a time: what it comes to after an entry that is not refused, and that a refusal ends
-- it; which row an entry adds to the commits; and the ranges after the accepted entries. Assumes a sound plan where it
-- says so.
use Prim.Native.Nat.{ℕ, ◌+◌, ◌<◌}
use mathlib.Core.Path.{◌≡◌, refl, sym, ◌∙◌, ap, subst}
use mathlib.Core.Bool.{Bool, true, false, cond, ◌&&◌}
use mathlib.Core.List.{List, [], ◌∷◌, ◌++◌, foldl, foldl-append, map-append, append-nil, append_assoc}
use Rattle.std.specs.Prelude.{Some, None}
use lib.Dec.{eqb}
use lib.ListN.{length}
use Rattle.spec_format.specs.declared.Entry.{Entry}
use Rattle.spec_format.specs.Plan.{Plan}
use Rattle.spec_format.specs.Sound.{Sound}
use Rattle.spec_machine.specs.declared.Refusal.{Refusal}
use Rattle.spec_machine.specs.declared.Judgement.{Judgement}
use Rattle.spec_machine.specs.Memory.{job_of, update_of}
use Rattle.spec_machine.specs.Places.{label}
use Rattle.spec_machine.specs.Machine.{Machine, work_of, item_of}
use Rattle.spec_machine.specs.Entries.{judge, acted}
use Rattle.spec_machine.specs.Ranges.{Ranges}
use Rattle.spec_machine.specs.History.{
  Event,
  is_commit,
  commits_in,
  item_event,
  call_event,
  history_after,
  refusal_in,
  Run,
  unless_refused,
  judged,
  entered,
  begun,
  run_of,
}
use Rattle.spec_machine.proofs.Tests.{and_l, and_r}
use Rattle.spec_machine.proofs.Events.{commits-out, commits-last}
use Rattle.spec_machine.proofs.EveryRun.{always}
use Rattle.spec_ranges.proofs.Ranges.{in-range, commit-named}
use Rattle.run_entry.proofs.Acts.{is-H42}
use Rattle.run_loop.specs.CommitRows.{row_in, rows_in}

module _ (plan : Plan) where
  -- A run that goes on after some entries.
  pub run_more : (es : List Entry) (e : Entry) → (run_of plan es).refusal ≡ None
      → run_of plan (es ++ (e ∷ [])) ≡ judged plan (run_of plan es) (judge plan (run_of plan es).machine e)
  unfolding run_of entered
  run_more es e going =
      foldl-append (entered plan) (begun plan) es (e ∷ [])
      ∙ ap (λ f. unless_refused f (run_of plan es)
      (judged plan (run_of plan es) (judge plan (run_of plan es).machine e)))
      going

  -- A run that has stopped stays as it is.
  stopped : (r : Run) (x : Refusal) (fs : List Entry) → r.refusal ≡ Some x → foldl (entered plan) r fs ≡ r
  unfolding entered
  stopped r x [] e = refl
  stopped r x (f ∷ fs) e =
      ap (λ s. foldl (entered plan) (unless_refused s r (judged plan r (judge plan r.machine f))) fs) e
      ∙ stopped r x fs e

  -- A run that has stopped comes to the same with more entries.
  pub run-stopped : (es fs : List Entry) (x : Refusal) → (run_of plan es).refusal ≡ Some x
      → run_of plan (es ++ fs) ≡ run_of plan es
  unfolding run_of
  run-stopped es fs x e = foldl-append (entered plan) (begun plan) es fs ∙ stopped (run_of plan es) x fs e

  -- A refused entry ends the run: the state and the history stay, whatever comes behind it.
  run-refused : (es : List Entry) (e : Entry) (fs : List Entry) (x : Refusal) → (run_of plan es).refusal ≡ None
      → judge plan (run_of plan es).machine e ≡ Judgement.Refused x
      → run_of plan (es ++ (e ∷ fs))
      ≡ record { machine = (run_of plan es).machine; history = (run_of plan es).history; refusal = Some x }
  unfolding run_of entered acted
  run-refused es e fs x going told =
      foldl-append (entered plan) (begun plan) es (e ∷ fs)
      ∙ ap
      (λ f.
      foldl (entered plan)
      (unless_refused f (run_of plan es) (judged plan (run_of plan es) (judge plan (run_of plan es).machine e))) fs)
      going
      ∙ ap (λ j. foldl (entered plan) (judged plan (run_of plan es) j) fs) told
      ∙ stopped _ x fs refl

  -- The rows of commits after one more event: one more, where it commits a call.
  rows_more : (all : List Entry) (h : List Event) (e : Event) (b : Bool) → is_commit e ≡ b
      → rows_in all (commits_in (h ++ (e ∷ [])))
      ≡ rows_in all (commits_in h)
      ++ cond b (record { entry = e.entry; job = job_of all e.helped; update = update_of all e.helped } ∷ []) []
  rows_more all h e true t = ap (rows_in all) (commits-last h e t) ∙ map-append (row_in all) (commits_in h) _
  rows_more all h e false t = ap (rows_in all) (commits-out h e t) ∙ sym (append-nil _)

  -- A call adds no row.
  pub rows-call : (all : List Entry) (m : Machine) (h : List Event) (job u : ℕ)
      → rows_in all (commits_in (history_after plan m h (Judgement.Calls job u))) ≡ rows_in all (commits_in h)
  rows-call all m h job u = ap (rows_in all) (commits-out h (call_event h job) refl)

  -- An item of job p adds a row where it is H42 done: the entry's number, job hid, and the update of its record.
  pub rows_step : Sound plan → (es more : List Entry) (p : ℕ) → p < plan.sizes.jobs
      → rows_in (es ++ more)
      (commits_in (history_after plan (run_of plan es).machine (run_of plan es).history (Judgement.Runs p)))
      ≡ rows_in (es ++ more) (commits_in (run_of plan es).history)
      ++ cond
      (eqb (label (work_of (run_of plan es).machine p).place) 42 && (item_of plan (run_of plan es).machine p).done)
      (record {
        entry = length (run_of plan es).history + 1;
        job = (work_of (run_of plan es).machine p).hid;
        update = (work_of (run_of plan es).machine (work_of (run_of plan es).machine p).hid).update;
      }
      ∷ [])
      []
  rows_step ok es more p has = by _ refl
    where
      -- the state, the history and the event
      m : Machine
      m = (run_of plan es).machine

      h : List Event
      h = (run_of plan es).history

      event : Event
      event = item_event h p (work_of m p) (item_of plan m p)

      -- by whether it commits
      by : (b : Bool) → is_commit event ≡ b
          → rows_in (es ++ more) (commits_in (h ++ (event ∷ [])))
          ≡ rows_in (es ++ more) (commits_in h)
          ++ cond b
          (record {
            entry = length h + 1;
            job = (work_of m p).hid;
            update = (work_of m (work_of m p).hid).update;
          }
          ∷ [])
          []
      by false t = rows_more (es ++ more) h event false t
      by true t =
          let named =
          commit-named plan ok es more p has (is-H42 (work_of m p).place (and_l _ _ t))
          (and_r (eqb (label (work_of m p).place) 42) _ t)
          in
          rows_more (es ++ more) h event true t
          ∙ ap (λ l. rows_in (es ++ more) (commits_in h) ++ (l ∷ []))
          (λ i. record { entry = length h + 1; job = named.0 i; update = named.1 i })

  -- Some entries, none of them refused, come to the state and the history of a run.
  record AcceptedIn (r : Run) : Type 0 where
    entries : List Entry
    unrefused : (run_of plan entries).refusal ≡ None
    machine_is : (run_of plan entries).machine ≡ r.machine
    history-is : (run_of plan entries).history ≡ r.history

  -- No entry refuses an empty run.
  none-refused : (run_of plan []).refusal ≡ None
  unfolding run_of begun
  none-refused = refl

  -- The accepted entries of a run: all that come before the first one that is refused.
  accepted-in : (es fs : List Entry) → (run_of plan es).refusal ≡ None → AcceptedIn (run_of plan (es ++ fs))
  accepted-in es [] going =
      let same : run_of plan es ≡ run_of plan (es ++ []) = ap (run_of plan) (sym (append-nil es)) in
      record {
        entries = es;
        unrefused = going;
        machine_is = ap (λ (r : Run). r.machine) same;
        history-is = ap (λ (r : Run). r.history) same;
      }
  accepted-in es (f ∷ fs) going =
      by (λ still. accepted-in (es ++ (f ∷ [])) fs still) (judge plan (run_of plan es).machine f) refl
    where
      -- what is known of the entries behind it
      Further : Type 0
      Further = (run_of plan (es ++ (f ∷ []))).refusal ≡ None → AcceptedIn (run_of plan ((es ++ (f ∷ [])) ++ fs))

      -- the entry is accepted
      goes : Further → (j : Judgement) → judge plan (run_of plan es).machine f ≡ j → refusal_in j ≡ None
          → AcceptedIn (run_of plan (es ++ (f ∷ fs)))
      goes further j told ok =
          subst (λ l. AcceptedIn (run_of plan l)) (append_assoc es (f ∷ []) fs)
          (further (ap (λ (r : Run). r.refusal) (run_more es f going ∙ ap (judged plan (run_of plan es)) told) ∙ ok))

      -- by what it comes to
      by : Further → (j : Judgement) → judge plan (run_of plan es).machine f ≡ j
          → AcceptedIn (run_of plan (es ++ (f ∷ fs)))
      by further (Judgement.Calls job u) told = goes further (Judgement.Calls job u) told refl
      by further (Judgement.Runs p) told = goes further (Judgement.Runs p) told refl
      by further (Judgement.Refused x) told =
          let ends = run-refused es f fs x going told in
          record {
            entries = es;
            unrefused = going;
            machine_is = ap (λ (r : Run). r.machine) (sym ends);
            history-is = ap (λ (r : Run). r.history) (sym ends);
          }

  -- The state of a run is in the ranges of the entries that it has accepted.
  pub accepted-range : Sound plan → (es : List Entry)
      → Ranges plan (length (run_of plan es).history) (run_of plan es).machine
  accepted-range ok es =
      let a = accepted-in [] es none-refused in
      let many : length a.entries ≡ length (run_of plan es).history =
      sym ((always plan ok a.entries).in_step a.unrefused) ∙ ap length a.history-is in
      subst (λ (m : Machine). Ranges plan (length (run_of plan es).history) m) a.machine_is
      (subst (λ (n : ℕ). Ranges plan n (run_of plan a.entries).machine) many (in-range plan ok a.entries))
