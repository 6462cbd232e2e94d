-- One entry of a schedule: what the code keeps says what acting on the entry asks, and what acting gives brings the
-- run one entry further. A refusal stops the run, and a run that has stopped stays as it is. Assumes that the plan is
-- sound, the records are few and the entry is the next one.
use Prim.Native.Nat.{ℕ, suc, ◌+◌, ◌≤◌, ◌<◌}
use native.Mathlib.Omega.{arith}
use mathlib.Core.Path.{◌≡◌, refl, sym, ◌∙◌, ap, subst}
use mathlib.Core.List.{List, [], ◌∷◌, ◌++◌, append-nil}
use Rattle.std.specs.Prelude.{Option, Some, None}
use lib.ListN.{length, length-append}
use Rattle.spec_format.specs.declared.Entry.{Entry}
use Rattle.spec_format.specs.Plan.{Plan}
use Rattle.spec_format.specs.Sound.{Sound}
use Rattle.spec_machine.specs.declared.Working.{Working}
use Rattle.spec_machine.specs.declared.Judgement.{Judgement}
use Rattle.spec_machine.specs.declared.Refusal.{Refusal}
use Rattle.spec_machine.specs.Places.{is_active}
use Rattle.spec_machine.specs.Machine.{Machine}
use Rattle.spec_machine.specs.Entries.{judge, acted}
use Rattle.spec_machine.specs.History.{Event, commits_in, history_after, refusal_in, judged, Run, run_of}
use Rattle.spec_machine.specs.Ranges.{Ranges}
use Rattle.spec_machine.proofs.ListMachine.{call-judged, step-judged, job-seen}
use Rattle.step_cells.specs.declared.Registers.{Registers}
use Rattle.step_cells.specs.declared.Tables.{Tables}
use Rattle.step_cells.specs.Tables.{machine_of}
use Rattle.run_judge.specs.Rulings.{other_after, unless_halted, changed_by}
use Rattle.run_entry.specs.Acting.{rows_by, entries_by, halt_by, Judged, Kept, Acts}
use Rattle.run_loop.specs.CommitRows.{rows_in}
use Rattle.run_loop.specs.RunReached.{Reached}
use Rattle.run_loop.proofs.NextEntry.{run_more, run-stopped, rows-call, rows_step, accepted-range}
use Rattle.run_loop.proofs.Others.{other-kept}

-- A judgement that no refusal is was made while the run went on: it is the judgement on the entry, and no refusal is
-- kept.
went_on : (halt : Option Refusal) (a j : Judgement) → refusal_in j ≡ None → unless_halted halt a ≡ j
    → (a ≡ j) × (halt ≡ None)
went_on None a j ok is = (is, refl)
went_on (Some r) a j ok is =
    let z : Some r ≡ None = ap refusal_in is ∙ ok in
    cc

-- A judgement that an entry can meet after n entries.
judged-so : (plan : Plan) (m : Machine) (e : Entry) (halt : Option Refusal) (n : ℕ) (j : Judgement) → n < 4000
    → unless_halted halt (judge plan m e) ≡ j → Judged plan m n j
judged-so plan m e halt n (Judgement.Calls job u) few is =
    let a = call-judged plan m e job u (went_on halt (judge plan m e) (Judgement.Calls job u) refl is).0 in
    (a.has-job, (a.has-update, few))
judged-so plan m e halt n (Judgement.Runs p) few is =
    let a = step-judged plan m e p (went_on halt (judge plan m e) (Judgement.Runs p) refl is).0 in (
      a.has-job,
      (ap (λ (w : Working). is_active w.place) (sym (job-seen plan m p a.has-job)) ∙ a.active, few),
    )
judged-so plan m e halt n (Judgement.Refused x) few is = tt

-- The job that an entry changes is one of sixteen.
pub changed-below : (plan : Plan) (m : Machine) (n : ℕ) (j : Judgement) → Sound plan → Judged plan m n j
    → changed_by j < 16
changed-below plan m n (Judgement.Calls job u) ok h = omega (arith, h.0, ok.jobs)
changed-below plan m n (Judgement.Runs p) ok h = omega (arith, h.0, ok.jobs)
changed-below plan m n (Judgement.Refused x) ok h = omega arith

-- A run after one more entry that is judged so: where it has stopped, it is refused as the one that stopped it.
next-run : (plan : Plan) (es : List Entry) (e : Entry) (halt : Option Refusal) (j : Judgement)
    → halt ≡ (run_of plan es).refusal → unless_halted halt (judge plan (run_of plan es).machine e) ≡ j
    → run_of plan (es ++ (e ∷ [])) ≡ judged plan (run_of plan es) j
unfolding acted
next-run plan es e None j stopped is = run_more plan es e (sym stopped) ∙ ap (judged plan (run_of plan es)) is
next-run plan es e (Some x) j stopped is =
    let r = run_of plan es in
    run-stopped plan es (e ∷ []) x (sym stopped)
    ∙ ap (λ f. record { machine = r.machine; history = r.history; refusal = f }) (sym stopped)
    ∙ ap (judged plan r) is

-- What is kept of the refusal that stopped the run.
halted : (halt : Option Refusal) (a j : Judgement) → unless_halted halt a ≡ j → halt_by j halt ≡ refusal_in j
halted halt a (Judgement.Calls job u) is = (went_on halt a (Judgement.Calls job u) refl is).1
halted halt a (Judgement.Runs p) is = (went_on halt a (Judgement.Runs p) refl is).1
halted halt a (Judgement.Refused x) is = refl

-- How many events there are.
history-after-many : (plan : Plan) (m : Machine) (h : List Event) (j : Judgement)
    → entries_by j (length h) ≡ length (history_after plan m h j)
history-after-many plan m h (Judgement.Calls job u) = sym (length-append h _)
history-after-many plan m h (Judgement.Runs p) = sym (length-append h _)
history-after-many plan m h (Judgement.Refused x) = refl

-- At most one more is accepted.
one_at_most : (j : Judgement) (n : ℕ) → entries_by j n ≤ n + 1
one_at_most (Judgement.Calls job u) n = omega arith
one_at_most (Judgement.Runs p) n = omega arith
one_at_most (Judgement.Refused x) n = omega arith

-- The rows after one more entry.
rows-by : (plan : Plan) → Sound plan → (es more : List Entry) (k n : ℕ) (j : Judgement)
    → Judged plan (run_of plan es).machine k j → n ≡ length (run_of plan es).history
    → rows_in (es ++ more) (commits_in (run_of plan es).history) ++ rows_by plan (run_of plan es).machine j n
    ≡ rows_in (es ++ more) (commits_in (history_after plan (run_of plan es).machine (run_of plan es).history j))
rows-by plan ok es more k n (Judgement.Calls job u) h many =
    append-nil _ ∙ sym (rows-call plan (es ++ more) (run_of plan es).machine (run_of plan es).history job u)
rows-by plan ok es more k n (Judgement.Runs p) h many =
    ap
    (λ (l : ℕ).
    rows_in (es ++ more) (commits_in (run_of plan es).history)
    ++ rows_by plan (run_of plan es).machine (Judgement.Runs p) l)
    many
    ∙ sym (rows_step plan ok es more p h.0)
rows-by plan ok es more k n (Judgement.Refused x) h many = append-nil _

-- The next entry e of a schedule, where the entries done have run.
module _ (plan : Plan) (all done rest : List Entry) (e : Entry) {ws : List Registers} {x : Tables}
    (ok : Sound plan) (few : length all ≤ 4000) (all_are : all ≡ done ++ (e ∷ rest))
    (g : Reached plan all done ws x) where
  -- The state and the run so far.
  abbrev m : Machine
  m = machine_of x ws

  abbrev run : Run
  run = run_of plan done

  -- Fewer than 4,000 are done.
  fewer-done : length done < 4000
  fewer-done = omega (arith, few, ap (λ (es : List Entry). length es) all_are, length-append done (e ∷ rest))

  -- And so fewer are accepted.
  fewer : x.book.entries < 4000
  fewer = omega (arith, fewer-done, g.few_done)

  -- All that acting on an entry asks of the tables.
  pub kept : Kept plan ws x
  kept =
      record {
        sound = ok;
        ranges =
            subst (λ (y : Machine). Ranges plan x.book.entries y) (sym g.machine_is)
            (subst (λ (k : ℕ). Ranges plan k run.machine) (sym g.counted) (accepted-range plan ok done));
        whole = g.whole;
        all_registers = g.all_registers;
        who_runs = g.who_runs;
        few_commits = g.few_rows;
        few_entries = omega (arith, fewer);
      }

  -- An entry that is judged so.
  module _ (j : Judgement) (is : unless_halted x.book.halt (judge plan m e) ≡ j) where
    -- It is one that acting can meet.
    pub met : Judged plan m x.book.entries j
    met = judged-so plan m e x.book.halt x.book.entries j fewer is

    -- The run with it.
    next : run_of plan (done ++ (e ∷ [])) ≡ judged plan run j
    next =
        next-run plan done e x.book.halt j g.stopped_by
        (ap (λ (y : Machine). unless_halted x.book.halt (judge plan y e)) (sym g.machine_is) ∙ is)

    -- It has been acted on.
    pub acted-on : {ws' : List Registers} {y : Tables}
        → Acts plan j (other_after x.book.other (suc (length done)) e.kind) ws x ws' y → length ws' ≡ 16
        → Reached plan all (done ++ (e ∷ [])) ws' y
    acted-on {ws'} {y} a sixteen =
        record {
          machine_is =
              a.machine_is
              ∙ ap (λ (z : Machine). acted plan z j) g.machine_is
              ∙ ap (λ (r : Run). r.machine) (sym next);
          stopped_by =
              a.halt_is
              ∙ halted x.book.halt (judge plan m e) j is
              ∙ ap (λ (r : Run). r.refusal) (sym next);
          who_runs = a.who_runs;
          counted =
              a.entries_are
              ∙ ap (entries_by j) g.counted
              ∙ history-after-many plan run.machine run.history j
              ∙ ap (λ (r : Run). length r.history) (sym next);
          few_done =
              omega (
                arith,
                a.entries_are,
                one_at_most j x.book.entries,
                g.few_done,
                length-append done (e ∷ []),
              );
          few_rows = a.few_commits;
          rows_are =
              a.rows_are
              ∙ rows-after
              ∙ ap (λ (r : Run). rows_in all (commits_in r.history)) (sym next);
          other_is =
              a.other_is
              ∙ other-kept done e x.book.other (suc (length done)) g.other_is refl;
          whole = a.whole;
          all_registers = sixteen;
        }
      where
        rows-after :
            x.book.commits.items ++ rows_by plan m j x.book.entries
            ≡ rows_in all (commits_in (history_after plan run.machine run.history j))
        rows-after =
            ap (λ l. l ++ rows_by plan m j x.book.entries) g.rows_are
            ∙ ap
            (λ (y : Machine). rows_in all (commits_in run.history) ++ rows_by plan y j x.book.entries)
            g.machine_is
            ∙ subst
            (λ (es : List Entry).
            rows_in es (commits_in run.history) ++ rows_by plan run.machine j x.book.entries
            ≡ rows_in es (commits_in (history_after plan run.machine run.history j)))
            (sym all_are)
            (rows-by plan ok done (e ∷ rest) x.book.entries x.book.entries j
            (subst (λ (y : Machine). Judged plan y x.book.entries j) g.machine_is met) g.counted)
