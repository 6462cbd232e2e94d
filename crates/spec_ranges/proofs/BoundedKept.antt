-- Every item of the step list keeps the machine's numbers in their ranges, as Bounded.antt has them.
--
-- In plain words. What an item stores, and what it puts in its job's record, is in range. A job leaves H17 for H21 or
-- H32 because Stat[hid] is not N, and Stat[N] is N, so hid is a job; it leaves H32 for H34 because the status that it
-- took to wid is neither −1 nor N, so wid names a job; and from H36 to H41 line j is one of those counted, because
-- that is asked before each line.
--
-- Assumes a sound plan, that Stat[N] is N, and of a job that is about to list a block that the block's address and the
-- place in the row are below 16: the layers of the invariant say so (Ranges.antt).
use Prim.Native.Nat.{ℕ, ◌+◌, ◌≤◌, ◌<◌}
use mathlib.Core.Path.{◌≡◌, refl, sym, ◌∙◌, ap}
use mathlib.Core.Logic.{◌≢◌}
use mathlib.Core.Bool.{Bool, true, false, cond, true≢false}
use mathlib.Core.List.{List, []}
use native.Mathlib.Nat.{le_refl}
use native.Mathlib.Decide.{ℕ_discrete}
use native.Mathlib.Omega.{arith}
use lib.Dec.{ltb}
use lib.IntN.{ℤ, pos, negsuc}
use lib.ListN.{get_or, set}
use borrow.Author.Tests.{eqb-true, eqb-false, ltb-true}
use Rattle.spec_format.specs.Plan.{Plan}
use Rattle.spec_format.specs.Sound.{Sound}
use Rattle.spec_machine.specs.declared.Stage.{Stage}
use Rattle.spec_machine.specs.declared.Place.{Place}
use Rattle.spec_machine.specs.declared.Working.{Working}
use Rattle.spec_machine.specs.declared.Store.{Store}
use Rattle.spec_machine.specs.declared.Out.{Out}
use Rattle.spec_machine.specs.Places.{is_active}
use Rattle.spec_machine.specs.Status.{same_status, undecided, job_named}
use Rattle.spec_machine.specs.Moves.{block, onward}
use Rattle.spec_machine.specs.Working.{goto, with_word, taking, next_block}
use Rattle.spec_machine.specs.Steps.{Shared, quiet, item, stage, replaced, reclaimed}
use Rattle.spec_machine.specs.Machine.{Machine, shared_in, work_of, carried_out, item_of}
use Rattle.spec_machine.specs.Ranges.{StatusIn, Names, most_numbers, RoomFor}
use Rattle.spec_machine.proofs.Tests.{shut-test, test, onward-elim, begin-elim, or_l, or_r}
use Rattle.spec_ranges.proofs.Every.{Below, every_set, every-other, below-first, below-replaced}
use Rattle.spec_ranges.proofs.Bounded.{
  Numbers,
  NumbersOf,
  numbers,
  Standing,
  Bounded,
  StoreBounded,
  numbers-later,
  bounded-later,
  with-work,
  stored-bounded,
}

-- A status that is neither −1 nor N is the number of one of sixteen jobs.
names : (n : ℕ) → n ≤ 16 → (x : ℤ) → StatusIn n x → same_status x undecided ≡ false → same_status x (pos n) ≡ false
    → Names x
names n few (pos w) h u f = let z : w ≢ n = eqb-false w n f in omega arith
names n few (negsuc a) h u f = absurd (eqb-false a 0 u h)

module _ (plan : Plan) (ok : Sound plan) (n : ℕ) (m : Machine) (B : Bounded plan n m) (p : ℕ)
    (below : p < plan.sizes.jobs) (on : is_active (work_of m p).place ≡ true)
    (last : same_status ((shared_in plan m).stat plan.sizes.jobs) (pos plan.sizes.jobs) ≡ true)
    (lists :
    (work_of m p).place ≡ Place.Move Stage.List
    → (block plan (work_of m p) < 16) × RoomFor plan Stage.List (work_of m p)) where
  -- The cells as the item reads them.
  abbrev sh : Shared
  sh = shared_in plan m

  -- The record before the item.
  abbrev w : Working
  w = work_of m p

  -- Its numbers.
  I : NumbersOf plan (n + 1) w
  I = numbers-later plan n (B.works p).numbers

  -- What the item gives is in range.
  record Good (o : Out) : Type 0 where
    update : o.work.update ≡ w.update
    numbers : NumbersOf plan (n + 1) o.work
    standing : Standing plan o.work o.work.place
    store : StoreBounded plan (n + 1) o.store

  -- It stores nothing.
  on-to : (x : Working) → x.update ≡ w.update → NumbersOf plan (n + 1) x → Standing plan x x.place
      → Good (quiet x)
  on-to x e i s = record { update = e; numbers = i; standing = s; store = tt }

  -- It stores what is in range.
  puts : (x : Working) (st : Store) (d : Bool) → x.update ≡ w.update → NumbersOf plan (n + 1) x
      → Standing plan x x.place → StoreBounded plan (n + 1) st
      → Good (record { work = x; store = st; done = d })
  puts x st d e i s h = record { update = e; numbers = i; standing = s; store = h }

  -- An announcement is a job or N.
  announced : (r : ℕ) → sh.ann r ≤ plan.sizes.jobs
  announced =
      every-other (λ x. x ≤ plan.sizes.jobs) 0 plan.sizes.jobs m.cells.ann B.cells.ann
      (le_refl plan.sizes.jobs)

  -- A status is −1, a job or N.
  status : (k : ℕ) → StatusIn plan.sizes.jobs (sh.stat k)
  status =
      every-other (StatusIn plan.sizes.jobs) (pos 0) (pos plan.sizes.jobs) m.cells.stat B.cells.stat
      (le_refl plan.sizes.jobs)

  -- Another lid.
  lid-to : (k : ℕ) → k ≤ plan.sizes.jobs
      → Numbers plan (n + 1) k w.hid w.ver.count w.numblks w.curr w.copy w.addr w.new
  lid-to k l = numbers l I.hid I.ver I.numblks I.curr I.copy I.addr I.new

  -- Another hid.
  hid-to : (k : ℕ) → k ≤ plan.sizes.jobs
      → Numbers plan (n + 1) w.lid k w.ver.count w.numblks w.curr w.copy w.addr w.new
  hid-to k l = numbers I.lid l I.ver I.numblks I.curr I.copy I.addr I.new

  -- ver becomes V.
  ver-to : Numbers plan (n + 1) w.lid w.hid sh.v.count w.numblks w.curr w.copy w.addr w.new
  ver-to =
      let z : sh.v.count ≤ n = B.cells.count in
      numbers I.lid I.hid (omega arith) I.numblks I.curr I.copy I.addr I.new

  -- Another count of listed blocks, and other numbers of blocks.
  run-to : (c : ℕ) (bs cs : List ℕ) → c ≤ 16 → Below most_numbers bs → Below most_numbers cs
      → Numbers plan (n + 1) w.lid w.hid w.ver.count c bs cs w.addr w.new
  run-to c bs cs l h g = numbers I.lid I.hid I.ver l h g I.addr I.new

  -- Another number of a block.
  curr-to : (k b : ℕ) → b < most_numbers → Below most_numbers (set w.curr k b)
  curr-to k b = every_set (λ x. x < most_numbers) 0 w.curr k b I.curr

  -- The copy list after H25 is done.
  reclaimed-to : Below most_numbers (reclaimed plan sh p w)
  reclaimed-to =
      below-first most_numbers (replaced (sh.addrlist p) (sh.oldlist p) w.dirty w.numblks) w.copy
      (below-replaced most_numbers (omega arith) (sh.addrlist p) (sh.oldlist p) w.dirty w.numblks
      (B.rows.old p))
      I.copy

  -- Where Stat[hid] is not N, hid is a job.
  hid-job : same_status (sh.stat w.hid) (pos plan.sizes.jobs) ≡ false → w.hid < plan.sizes.jobs
  hid-job f = go (ℕ_discrete w.hid plan.sizes.jobs)
    where
      go : Dec (w.hid ≡ plan.sizes.jobs) → w.hid < plan.sizes.jobs
      go (yes e) =
          absurd (true≢false (sym last ∙ ap (λ k. same_status (sh.stat k) (pos plan.sizes.jobs)) (sym e) ∙ f))
      go (no c) = let z : w.hid ≤ plan.sizes.jobs = I.hid in omega arith

  -- After a read or a write.
  behind : (x : Working) (st : Store) → x.update ≡ w.update → NumbersOf plan (n + 1) x → x.hid < plan.sizes.jobs
      → StoreBounded plan (n + 1) st → Good (record { work = onward plan x; store = st; done = false })
  behind x st e i h s =
      onward-elim (λ y. Good (record { work = y; store = st; done = false })) plan x (λ _ _. puts _ st false e i h s)
      (λ _ _. puts _ st false e i h s)

  -- The stages of a move.
  stages : (st : Stage) → w.place ≡ Place.Move st → w.hid < plan.sizes.jobs → Good (stage plan sh p st w)
  unfolding stage
  stages Stage.Check e h = rw shut-test (test Good _ _ _ (λ _. on-to _ refl I h) (λ _. on-to _ refl I h))
  stages Stage.List e h =
      rw shut-test (test Good _ _ _
      (λ t.
      let l : w.numblks < 16 = (lists e).1 (eqb-true _ _ t) in
      puts _ _ _ refl (run-to _ _ _ (omega arith) (curr-to _ _ (B.cells.bank _)) I.copy) h
      ((lists e).0, B.cells.bank _))
      (λ _. on-to _ refl I h))
  stages Stage.Copy e h =
      rw shut-test (test Good _ _ _ (λ _. on-to _ refl I h)
      (λ _. puts _ _ _ refl (run-to _ _ _ I.numblks (curr-to _ _ (I.copy _)) I.copy) h tt))
  stages Stage.Take e h = behind (with_word _ w) Store.Nothing refl I h tt
  stages Stage.Write e h = behind w _ refl I h tt

  -- After H41: the next line is one of those counted, or H42 comes next.
  lines : (st : Store) (d : Bool) → StoreBounded plan (n + 1) st → Standing plan w Place.H41
      → Good
      (record {
        work = goto (cond (ltb (w.j + 1) w.numblks) Place.H36 Place.H42) (next_block w);
        store = st;
        done = d;
      })
  lines st d s h =
      rw shut-test (test (λ a. Good (record { work = goto a (next_block w); store = st; done = d })) _ _ _
      (λ t. puts _ st d refl I (h.0, (h.1.0, ltb-true _ _ t)) s)
      (λ _. puts _ st d refl I h.0 s))

  -- Every item, by the place.
  items : (pl : Place) → w.place ≡ pl → Standing plan w pl → Good (item plan sh p pl w)
  unfolding item
  items Place.Idle e h = on-to _ refl I (rw e tt)
  items Place.A1 e h = puts _ _ _ refl I tt ((B.works p).update on)
  items Place.A2 e h = puts _ _ _ refl I tt refl
  items Place.A4 e h =
      rw shut-test
      (test Good _ _ _ (λ _. on-to _ refl (lid-to _ (announced _)) tt) (λ _. on-to _ refl (lid-to _ (announced _)) tt))
  items Place.A7 e h =
      rw shut-test (test Good _ _ _ (λ _. on-to _ refl ver-to tt)
      (λ _. rw shut-test (test Good _ _ _ (λ _. on-to _ refl ver-to tt) (λ _. on-to _ refl ver-to tt))))
  items Place.A10 e h = on-to _ refl (hid-to _ (announced _)) tt
  items Place.A12 e h =
      rw shut-test (test Good _ _ _
      (λ _. puts _ _ _ refl I tt (let z : w.ver.count ≤ n = (B.works p).numbers.ver in omega arith))
      (λ _. on-to _ refl I tt))
  items Place.A14 e h =
      rw shut-test (test Good _ _ _ (λ _. puts _ _ _ refl I tt (omega arith)) (λ _. puts _ _ _ refl I tt (omega arith)))
  items Place.A15 e h = puts _ _ _ refl I tt (le_refl plan.sizes.jobs)
  items Place.H16 e h = on-to _ refl (hid-to _ (announced _)) tt
  items Place.H17 e h =
      rw shut-test (test Good _ _ _ (λ _. on-to _ refl I tt)
      (λ f. rw shut-test (test Good _ _ _ (λ _. on-to _ refl I (hid-job f)) (λ _. on-to _ refl I (hid-job f)))))
  items Place.H21 e h =
      begin-elim (λ a. Good (quiet (goto a (taking (sh.trans w.hid) w))))
      (get_or plan.updates (sh.trans w.hid) [])
      (on-to _ refl (run-to 0 _ _ (omega arith) I.curr I.copy) h)
      (on-to _ refl (run-to 0 _ _ (omega arith) I.curr I.copy) h)
  items (Place.Move st) e h = stages st e h
  items Place.H22 e h = puts _ _ _ refl I h tt
  items Place.H25 e h =
      rw shut-test (test Good _ _ _
      (λ _. puts _ _ _ refl (run-to _ _ _ I.numblks I.curr reclaimed-to) h (omega arith))
      (λ _. on-to _ refl I h))
  items Place.H32 e h =
      rw shut-test (test Good _ _ _ (λ _. on-to _ refl I tt)
      (λ t.
      on-to _ refl I (
        h,
        names plan.sizes.jobs ok.jobs (sh.stat w.hid) (status w.hid) (search or_l)
            (search or_r),
      )))
  items Place.H34 e h =
      rw shut-test (test Good _ _ _ (λ _. on-to _ refl (run-to _ _ _ (B.cells.numblks _) I.curr I.copy) h.0)
      (λ t.
      on-to _ refl (run-to _ _ _ (B.cells.numblks _) I.curr I.copy)
      (h.0, (h.1, let z : sh.numblks (job_named w.wid) ≢ 0 = eqb-false _ _ t in omega arith))))
  items Place.H36 e h = rw shut-test (test Good _ _ _ (λ _. on-to _ refl I tt) (λ _. on-to _ refl I h))
  items Place.H37 e h = rw shut-test (test Good _ _ _ (λ _. on-to _ refl I tt) (λ _. on-to _ refl I h))
  items Place.H38 e h =
      on-to _ refl
      (numbers I.lid I.hid I.ver I.numblks I.curr I.copy (B.rows.addr _ _) (B.rows.new _ _))
      h
  items Place.H41 e h =
      rw shut-test (test Good _ _ _ (λ _. lines _ true I.new h) (λ _. lines Store.Nothing false tt h))
  items Place.H42 e h =
      rw shut-test (test Good _ _ _ (λ _. puts _ _ _ refl I tt (le_refl plan.sizes.jobs)) (λ _. on-to _ refl I tt))

  -- The item that p stands before.
  pub item-bounded : Bounded plan (n + 1) (carried_out plan p (item_of plan m p) m)
  unfolding carried_out item_of
  item-bounded =
      let g = items w.place refl (B.works p).standing in
      stored-bounded plan (n + 1) _
      (with-work plan (n + 1) m (bounded-later plan n m B) p below _
      (record {
        update = λ _. rw g.update ((B.works p).update on);
        numbers = g.numbers;
        standing = g.standing;
      }))
      p
      _
      g.numbers
      _
      g.store
