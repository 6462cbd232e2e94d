-- Every run stays in the ranges of spec_machine's Ranges.antt, and what H42 commits is a call that the entries name.
--
-- In plain words. The numbers stay in their ranges by themselves (BoundedKept.antt), but for three things, which the
-- layers of the invariant say of every run. Stat[N] is N (first layer). A job inside a move, also one that has been
-- overtaken, is at a read or write that is there, and has room: its row lists each block once, so a block not listed
-- yet has a place among 16, and the first writes that are still to come have copy blocks left (third layer, Own).
-- Where H25 is about to decide, the job is fresh and its update undecided; as many numbers are replaced as blocks are
-- written, which is as many as copy blocks are used, at most C (third layer, Live).
--
-- Where H42 is done, hid is the chief, which is announced and so active (first and second layer). The latest call of
-- an active job is one of the entries told of, and names the job and its update (fifth layer); more entries behind
-- these change none of them.
--
-- Assumes a sound plan.
use Prim.Native.Nat.{ℕ, ◌+◌, ◌≤◌, ◌<◌, ◌%◌}
use mathlib.Core.Path.{◌≡◌, refl, sym, ◌∙◌, ap, subst}
use mathlib.Core.Logic.{◌≢◌}
use mathlib.Core.Bool.{true, true≢false, false≢true}
use mathlib.Core.List.{List, [], ◌∷◌, ◌++◌, append-nil, append_assoc, foldl-append}
use Rattle.std.specs.Prelude.{Option, Some, None}
use native.Mathlib.Decide.{dec_lt}
use native.Mathlib.Omega.{arith}
use lib.IntN.{ℤ, pos, negsuc}
use lib.ListN.{length}
use borrow.Author.Tests.{ne_eqb}
use Rattle.spec_format.specs.declared.Entry.{Entry}
use Rattle.spec_format.specs.Plan.{Plan, tabulate}
use Rattle.spec_format.specs.Sound.{Sound}
use Rattle.spec_format.proofs.Tabulated.{length-tabulate}
use Rattle.spec_machine.specs.declared.Stage.{Stage}
use Rattle.spec_machine.specs.declared.Place.{Place}
use Rattle.spec_machine.specs.declared.Version.{Version}
use Rattle.spec_machine.specs.declared.Working.{Working}
use Rattle.spec_machine.specs.declared.Out.{Out}
use Rattle.spec_machine.specs.declared.Refusal.{Refusal}
use Rattle.spec_machine.specs.declared.Judgement.{Judgement}
use Rattle.spec_machine.specs.Places.{is_active}
use Rattle.spec_machine.specs.Status.{same_status}
use Rattle.spec_machine.specs.Memory.{job_of, update_of}
use Rattle.spec_machine.specs.Moves.{block}
use Rattle.spec_machine.specs.Steps.{item, may_decide, may_commit, replaced}
use Rattle.spec_machine.specs.Machine.{Machine, in_row, shared_in, work_of, item_of}
use Rattle.spec_machine.specs.Entries.{judge, acted}
use Rattle.spec_machine.specs.History.{latest, Run, unless_refused, begun, judged, entered, run_of}
use Rattle.spec_machine.specs.Ranges.{StatusIn, MoveInside, RoomFor, AtPlace, Ranges}
use Rattle.spec_machine.proofs.View.{is_undecided, State, state_in, finished-is, undecided-is}
use Rattle.spec_machine.proofs.ListMachine.{job-seen, call-judged, step-judged}
use Rattle.spec_machine.proofs.Tests.{shut-test, test, and_l, and_r, same_version_lem}
use Rattle.spec_machine.proofs.SmallSteps.{ahead, attempt, copy_of, layout}
use Rattle.spec_machine.proofs.Attempts.{Shape, Own}
use Rattle.spec_machine.proofs.AttemptSteps.{copy-lt}
use Rattle.spec_machine.proofs.Pigeonhole.{fewer-listed}
use Rattle.spec_machine.proofs.AttemptsSeen.{ahead-list, ahead-copy, length-replaced}
use Rattle.spec_machine.proofs.Growing.{length_more, entry-within}
use Rattle.spec_machine.proofs.Epochs.{InEpoch}
use Rattle.spec_machine.proofs.Contents.{head, JobContents}
use Rattle.spec_machine.proofs.EveryRun.{Inv, always}
use Rattle.spec_ranges.proofs.Bounded.{Standing, Bounded, bounded-later, opening-bounded, call-bounded}
use Rattle.spec_ranges.proofs.BoundedKept.{item-bounded}

-- A status of at most n is one of at most m, where m is not less.
pub status-wider : (n m : ℕ) → n ≤ m → (x : ℤ) → StatusIn n x → StatusIn m x
status-wider n m l (pos w) h = omega arith
status-wider n m l (negsuc a) h = h

-- What a place says by itself, and what the layers say of a job inside a move, is what its place says.
at_place :
    (plan : Plan) (w : Working) (pl : Place) → Standing plan w pl
    → ((st : Stage) → pl ≡ Place.Move st → MoveInside plan st w × RoomFor plan st w) → AtPlace plan w pl
at_place plan w Place.Idle h f = tt
at_place plan w Place.A1 h f = tt
at_place plan w Place.A2 h f = tt
at_place plan w Place.A4 h f = tt
at_place plan w Place.A7 h f = tt
at_place plan w Place.A10 h f = tt
at_place plan w Place.A12 h f = tt
at_place plan w Place.A14 h f = tt
at_place plan w Place.A15 h f = tt
at_place plan w Place.H16 h f = tt
at_place plan w Place.H17 h f = tt
at_place plan w Place.H21 h f = h
at_place plan w (Place.Move st) h f = (h, f st refl)
at_place plan w Place.H22 h f = h
at_place plan w Place.H25 h f = h
at_place plan w Place.H32 h f = h
at_place plan w Place.H34 h f = h
at_place plan w Place.H36 h f = h
at_place plan w Place.H37 h f = h
at_place plan w Place.H38 h f = h
at_place plan w Place.H41 h f = (h.0, h.1.1)
at_place plan w Place.H42 h f = h

-- A run, as the third layer has it of a job inside a move, also of one that has been overtaken.
module _ (plan : Plan) (ok : Sound plan) (addr : ℕ → ℕ) (w : Working) where
  -- A block to be listed is a block.
  block_in :
      Own (layout plan) (copy_of w) (attempt (ahead plan Stage.List w) addr w) → block plan w < plan.sizes.blocks
  block_in o =
      (subst (λ os. Shape (layout plan) os (attempt os addr w).listed (attempt os addr w).wrote) (ahead-list plan w)
      o.shape
      ).0

  -- There is room for what a stage adds.
  room :
      (st : Stage) → MoveInside plan st w → Own (layout plan) (copy_of w) (attempt (ahead plan st w) addr w)
      → RoomFor plan st w
  room Stage.Check i o = tt
  room Stage.List i o =
      λ e.
      let l : length (tabulate w.numblks addr) < plan.sizes.blocks =
      fewer-listed (layout plan) o (block plan w) (block_in o) (rw e) in
      let q : length (tabulate w.numblks addr) ≡ w.numblks = length-tabulate w.numblks addr in
      let m = ok.blocks in
      omega arith
  room Stage.Copy i o =
      λ e.
      let l : w.dirtycnt < plan.sizes.copies =
      copy-lt (layout plan) o (ahead-copy plan w i.stage_of) (ne_eqb _ _ e) in
      let m = ok.copies in
      omega arith
  room Stage.Take i o = tt
  room Stage.Write i o = tt

module _ (plan : Plan) (ok : Sound plan) where
  module _ (es : List Entry) (r : Run) (A : Inv plan es r) where
    -- The machine that the run has reached.
    abbrev m : Machine
    m = r.machine

    -- Its state by functions.
    abbrev s : State
    s = state_in plan m

    -- Stat[N] is N.
    last : same_status ((shared_in plan m).stat plan.sizes.jobs) (pos plan.sizes.jobs) ≡ true
    unfolding state_in
    last = sym (finished-is plan.sizes.jobs _) ∙ A.layers.cards.whole.none

    module _ (p : ℕ) (below : p < plan.sizes.jobs) where
      -- Job p's record.
      abbrev w : Working
      w = work_of m p

      -- What the second layer says of it.
      epoch : InEpoch (layout plan) s.sh.v s.sh.ann s.sh.stat p w
      epoch =
          subst (InEpoch (layout plan) s.sh.v s.sh.ann s.sh.stat p) (job-seen plan m p below)
          (A.layers.epochs.each p)

      -- What the third layer says of it.
      contents : JobContents plan s.sh A.layers.memory s.job p w
      contents =
          subst (JobContents plan s.sh A.layers.memory s.job p) (job-seen plan m p below)
          (A.layers.contents.each p)

      -- What that is where it is inside a move.
      moving :
          (st : Stage) → w.place ≡ Place.Move st
          → MoveInside plan st w × Own (layout plan) (copy_of w) (attempt (ahead plan st w) (s.sh.addrlist p) w)
      moving st e = rw e at contents.own

      -- A job inside a move is at a read or write that is there, and has room.
      has_room : (st : Stage) → w.place ≡ Place.Move st → MoveInside plan st w × RoomFor plan st w
      has_room st e =
          let o = moving st e in (o.0, room plan ok (s.sh.addrlist p) w st o.0 o.1)

      -- A job about to list a block has a place below 16 for its address, which is below 16.
      lists : w.place ≡ Place.Move Stage.List → (block plan w < 16) × RoomFor plan Stage.List w
      lists e =
          let l : block plan w < plan.sizes.blocks = block_in plan ok (s.sh.addrlist p) w (moving Stage.List e).1
          in
          let n = ok.blocks in
          (omega arith, (has_room Stage.List e).1)

      -- Where H25 is about to decide, at most 8 numbers are replaced.
      few-replaced :
          w.place ≡ Place.H25 → may_decide plan (shared_in plan m) p w ≡ true
          → length (replaced (in_row m.addrlist p) (in_row m.oldlist p) w.dirty w.numblks) ≤ 8
      unfolding state_in
      few-replaced e t =
          let ev : w.ver ≡ m.cells.v = same_version_lem m.cells.v w.ver (search and_l) in
          let f : m.cells.v.flag ≡ true = ap (λ (x : Version). x.flag) (sym ev) ∙ rw e at epoch.flag in
          let u : same_status ((shared_in plan m).stat w.hid) (negsuc 0) ≡ true = search and_r in
          let c : w.hid ≡ head plan s.sh A.layers.memory s.job = rw e at (epoch.fresh ev f) in
          let l =
          (rw e at (contents.fresh ev f))
          (ap (λ k. is_undecided (s.sh.stat k)) (sym c) ∙ undecided-is plan.sizes.jobs _ ∙ u) in
          omega (
            arith,
            length-replaced (in_row m.addrlist p) (in_row m.oldlist p) s.sh.bank w l.1,
            l.0.count,
            l.0.own.room,
            ok.copies,
          )

      module _ (at-commit : w.place ≡ Place.H42) (done : (item_of plan m p).done ≡ true) where
        -- H42 done: its condition holds.
        may-commit : may_commit plan (shared_in plan m) p w ≡ true
        unfolding item_of item
        may-commit =
            test (λ (o : Out). o.done ≡ true → may_commit plan (shared_in plan m) p w ≡ true) _ _ _ (λ t _. t)
            (λ _ f. absurd (false≢true f))
            (rw shut-test at (rw at-commit at done))

        -- The job that it helps is the chief, and so active.
        helped-active : is_active (s.job w.hid).place ≡ true
        unfolding state_in
        helped-active =
            let t = may-commit in
            let ev : w.ver ≡ m.cells.v = same_version_lem m.cells.v w.ver (search and_l) in
            let f : m.cells.v.flag ≡ true =
            ap (λ (x : Version). x.flag) (sym ev) ∙ (rw at-commit at epoch.flag).0 in
            let c : w.hid ≡ head plan s.sh A.layers.memory s.job =
            (rw at-commit at (epoch.fresh ev f)).0 in
            rw c
            (A.layers.cards.whole.announced-active _
            (A.layers.cards.whole.named-announced (m.cells.v.count % plan.sizes.cards)
            (A.layers.epochs.whole.named f)
            ).1)

        -- Its latest call is one of the entries.
        call-named :
            (more : List Entry)
            → (job_of (es ++ more) (latest w.hid r.history) ≡ w.hid)
            × (update_of (es ++ more) (latest w.hid r.history) ≡ (work_of m w.hid).update)
        call-named more =
            let on = helped-active in
            let told = A.layers.told in
            let Some : latest w.hid r.history ≢ 0 = told.has-call w.hid on in
            let few : latest w.hid r.history ≤ length r.history = told.latest-in w.hid in
            let short : length r.history ≤ length es = told.short in
            let same-entry =
            entry-within es more (latest w.hid r.history) (omega arith) (omega arith) in (
              ap (λ (x : Entry). x.first) same-entry ∙ told.job-of w.hid Some,
              ap (λ (x : Entry). x.second) same-entry
                  ∙ told.update-of w.hid on
                  ∙ ap (λ (x : Working). x.update) (job-seen plan m w.hid (A.layers.cards.whole.in-plan _ on)),
            )

  -- One more entry.
  entry-bounded :
      (es : List Entry) (r : Run) (e : Entry) → Inv plan es r → Bounded plan (length es) r.machine
      → Bounded plan (length es + 1) (entered plan r e).machine
  unfolding entered acted
  entry-bounded es r e A B = go r.refusal
    where
      -- the state stays
      stays : Bounded plan (length es + 1) r.machine
      stays = bounded-later plan (length es) r.machine B

      -- by what the entry comes to
      by :
          (j : Judgement) → judge plan r.machine e ≡ j
          → Bounded plan (length es + 1) (acted plan r.machine j)
      by (Judgement.Calls j u) z =
          let c = call-judged plan r.machine e j u z in
          call-bounded plan ok (length es + 1) r.machine stays j u c.has-job c.has-update
      by (Judgement.Runs p) z =
          let c = step-judged plan r.machine e p z in
          item-bounded plan ok (length es) r.machine B p c.has-job
          (ap (λ (x : Working). is_active x.place) (sym (job-seen plan r.machine p c.has-job)) ∙ c.active)
          (last es r A)
          (lists es r A p c.has-job)
      by (Judgement.Refused x) z = stays

      -- by whether the run has stopped
      go :
          (f : Option Refusal)
          → Bounded plan (length es + 1)
          (unless_refused f r (judged plan r (judge plan r.machine e))).machine
      go (Some x) = stays
      go None = by (judge plan r.machine e) refl

  -- One more entry, from the opening.
  next-bounded :
      (es : List Entry) (e : Entry) → Bounded plan (length es) (run_of plan es).machine
      → Bounded plan (length (es ++ (e ∷ []))) (run_of plan (es ++ (e ∷ []))).machine
  unfolding run_of
  next-bounded es e B =
      rw (length_more es e, foldl-append (entered plan) (begun plan) es (e ∷ []))
      (entry-bounded es (run_of plan es) e (always plan ok es) B)

  -- Some more entries.
  entries-bounded :
      (es fs : List Entry) → Bounded plan (length es) (run_of plan es).machine
      → Bounded plan (length (es ++ fs)) (run_of plan (es ++ fs)).machine
  entries-bounded es [] B = rw (append-nil es) B
  entries-bounded es (f ∷ fs) B =
      subst (λ l. Bounded plan (length l) (run_of plan l).machine) (append_assoc es (f ∷ []) fs)
      (entries-bounded (es ++ (f ∷ [])) fs (next-bounded es f B))

  -- Every run.
  run-bounded : (es : List Entry) → Bounded plan (length es) (run_of plan es).machine
  unfolding run_of begun
  run-bounded es = entries-bounded [] es (opening-bounded plan ok)

  -- Every run stays in the ranges.
  pub in-range : (es : List Entry) → Ranges plan (length es) (run_of plan es).machine
  in-range es =
      record {
        cells = B.cells;
        rows = B.rows;
        works =
            λ k.
            record {
              update = (B.works k).update;
              lid = (B.works k).numbers.lid;
              hid = (B.works k).numbers.hid;
              ver = (B.works k).numbers.ver;
              numblks = (B.works k).numbers.numblks;
              curr = (B.works k).numbers.curr;
              copy = (B.works k).numbers.copy;
              addr = (B.works k).numbers.addr;
              new = (B.works k).numbers.new;
              at_place =
                  at_place plan _ _ (B.works k).standing
                  (λ st e. has_room es (run_of plan es) (always plan ok es) k (has-job k st e) st e);
            };
        reclaims = λ p below. few-replaced es (run_of plan es) (always plan ok es) p below;
      }
    where
      -- what an entry keeps by itself
      B : Bounded plan (length es) (run_of plan es).machine
      B = run-bounded es

      -- a job inside a move is one of the plan's
      has-job :
          (k : ℕ) (st : Stage) → (work_of (run_of plan es).machine k).place ≡ Place.Move st → k < plan.sizes.jobs
      has-job k st e = go (dec_lt k plan.sizes.jobs)
        where
          go : Dec (k < plan.sizes.jobs) → k < plan.sizes.jobs
          go (yes l) = l
          go (no l) = absurd (true≢false (rw e at (B.others k (omega arith))))

  -- Where H42 is done, the latest call of job hid is an entry that names that job, and the update of its record; more
  -- entries behind do not change that.
  pub commit-named :
      (es more : List Entry) (p : ℕ) → p < plan.sizes.jobs
      → (work_of (run_of plan es).machine p).place ≡ Place.H42
      → (item_of plan (run_of plan es).machine p).done ≡ true
      → (job_of (es ++ more) (latest (work_of (run_of plan es).machine p).hid (run_of plan es).history)
      ≡ (work_of (run_of plan es).machine p).hid)
      × (update_of (es ++ more) (latest (work_of (run_of plan es).machine p).hid (run_of plan es).history)
      ≡ (work_of (run_of plan es).machine (work_of (run_of plan es).machine p).hid).update)
  commit-named es more p below e d = call-named es (run_of plan es) (always plan ok es) p below e d more
