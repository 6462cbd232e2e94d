-- The machine's numbers in their ranges, as far as an entry keeps them by itself: the part of spec_machine's
-- Ranges.antt that BoundedKept.antt shows to be kept. The opening has it, an accepted call keeps it, and so does a
-- store of what is in range.
--
-- In plain words. A number that is stored was read from a cell, a row or a record, and is in its range there, or it is
-- a job's number, N, −1, a block's address, or one more than a count that was in its range before. So whatever is read
-- from a list stays in its range when a number in range is stored to it. By its place a job knows more (Standing).
--
-- Assumes a sound plan for the opening.
use Prim.Native.Nat.{ℕ, ◌+◌, ◌*◌, ◌≤◌, ◌<◌}
use mathlib.Core.Path.{◌≡◌, refl}
use mathlib.Core.Bool.{true, false, false≢true}
use mathlib.Core.List.{List, []}
use native.Mathlib.Nat.{mul-le-mul, le_refl}
use native.Mathlib.Omega.{arith}
use lib.IntN.{pos}
use lib.ListN.{length, get_or, replicate}
use lib.Seq.{get_or-set_other}
use Rattle.spec_format.specs.Plan.{Plan, tabulate}
use Rattle.spec_format.specs.Sound.{Sound}
use Rattle.spec_machine.specs.declared.Place.{Place}
use Rattle.spec_machine.specs.declared.Working.{Working}
use Rattle.spec_machine.specs.declared.Cells.{Cells}
use Rattle.spec_machine.specs.declared.Store.{Store}
use Rattle.spec_machine.specs.declared.Judgement.{Judgement}
use Rattle.spec_machine.specs.Places.{is_active}
use Rattle.spec_machine.specs.Working.{unused, no_work, opening, called}
use Rattle.spec_machine.specs.Machine.{
  Machine,
  work_of,
  copy_blocks,
  opening_of,
  with_cells,
  with_store,
  with_work,
  new_numbers,
  stored,
}
use Rattle.spec_machine.specs.Entries.{acted}
use Rattle.spec_machine.specs.Ranges.{StatusIn, Names, most_numbers, CellRanges, RowRanges}
use Rattle.spec_ranges.proofs.Every.{
  Below,
  RowsBelow,
  every_set,
  every-tabulate,
  every-replicate,
  below-first,
  row-set,
  place_set,
}

-- The numbers of a working record after at most n entries, whatever its place: lid, hid, the count of ver, how many
-- blocks are listed, the numbers of its blocks and its copy blocks, and the address and new number of the line read.
pub record Numbers (plan : Plan) (n l h v c : ℕ) (bs cs : List ℕ) (a b : ℕ) : Type 0 where
  pub lid : l ≤ plan.sizes.jobs
  pub hid : h ≤ plan.sizes.jobs
  pub ver : v ≤ n
  pub numblks : c ≤ 16
  pub curr : Below most_numbers bs
  pub copy : Below most_numbers cs
  pub addr : a < 16
  pub new : b < most_numbers

-- Those of a record.
abbrev pub NumbersOf : Plan → ℕ → Working → Type 0
NumbersOf plan n w =
    Numbers plan n w.lid w.hid w.ver.count w.numblks w.curr w.copy w.addr w.new

-- The numbers together.
pub numbers :
    {plan : Plan} {n l h v c : ℕ} {bs cs : List ℕ} {a b : ℕ} → l ≤ plan.sizes.jobs → h ≤ plan.sizes.jobs → v ≤ n
    → c ≤ 16 → Below most_numbers bs → Below most_numbers cs → a < 16 → b < most_numbers
    → Numbers plan n l h v c bs cs a b
numbers l h v c bs cs a b =
    record { lid = l; hid = h; ver = v; numblks = c; curr = bs; copy = cs; addr = a; new = b }

-- What the place of a job says of its numbers, by itself. At H41, too, wid names a job: H36 may come next.
abbrev pub Standing : Plan → Working → Place → Type 0
Standing plan w Place.Idle = Unit {0}
Standing plan w Place.A1 = Unit {0}
Standing plan w Place.A2 = Unit {0}
Standing plan w Place.A4 = Unit {0}
Standing plan w Place.A7 = Unit {0}
Standing plan w Place.A10 = Unit {0}
Standing plan w Place.A12 = Unit {0}
Standing plan w Place.A14 = Unit {0}
Standing plan w Place.A15 = Unit {0}
Standing plan w Place.H16 = Unit {0}
Standing plan w Place.H17 = Unit {0}
Standing plan w Place.H21 = w.hid < plan.sizes.jobs
Standing plan w (Place.Move st) = w.hid < plan.sizes.jobs
Standing plan w Place.H22 = w.hid < plan.sizes.jobs
Standing plan w Place.H25 = w.hid < plan.sizes.jobs
Standing plan w Place.H32 = w.hid < plan.sizes.jobs
Standing plan w Place.H34 = (w.hid < plan.sizes.jobs) × Names w.wid
Standing plan w Place.H36 = (w.hid < plan.sizes.jobs) × (Names w.wid × (w.j < w.numblks))
Standing plan w Place.H37 = (w.hid < plan.sizes.jobs) × (Names w.wid × (w.j < w.numblks))
Standing plan w Place.H38 = (w.hid < plan.sizes.jobs) × (Names w.wid × (w.j < w.numblks))
Standing plan w Place.H41 = (w.hid < plan.sizes.jobs) × (Names w.wid × (w.j < w.numblks))
Standing plan w Place.H42 = w.hid < plan.sizes.jobs

-- A working record after at most n entries.
pub record WorkBounded (plan : Plan) (n : ℕ) (w : Working) : Type 0 where
  pub update : is_active w.place ≡ true → w.update < length plan.updates
  pub numbers : NumbersOf plan n w
  pub standing : Standing plan w w.place

-- A machine after at most n entries. Jobs that the plan does not have are idle.
pub record Bounded (plan : Plan) (n : ℕ) (m : Machine) : Type 0 where
  pub cells : CellRanges plan n m.cells
  pub rows : RowRanges m
  pub works : (k : ℕ) → WorkBounded plan n (work_of m k)
  pub others : (k : ℕ) → plan.sizes.jobs ≤ k → is_active (work_of m k).place ≡ false

-- What a store puts into a cell or a row after at most n entries.
abbrev pub StoreBounded : Plan → ℕ → Store → Type 0
StoreBounded plan n Store.Nothing = Unit {0}
StoreBounded plan n (Store.Version c f) = c ≤ n
StoreBounded plan n (Store.Ann r k) = k ≤ plan.sizes.jobs
StoreBounded plan n (Store.Stat k x) = StatusIn plan.sizes.jobs x
StoreBounded plan n (Store.Trans k u) = u < length plan.updates
StoreBounded plan n (Store.Listed i a b) = (a < 16) × (b < most_numbers)
StoreBounded plan n (Store.Block from to) = Unit {0}
StoreBounded plan n (Store.Word b i x) = Unit {0}
StoreBounded plan n Store.Published = Unit {0}
StoreBounded plan n (Store.Bank b x) = x < most_numbers

-- The ranges of cells together.
ranges :
    {plan : Plan} {n : ℕ} {c : Cells} → c.v.count ≤ n → ((r : ℕ) → get_or c.ann r 0 ≤ plan.sizes.jobs)
    → ((k : ℕ) → StatusIn plan.sizes.jobs (get_or c.stat k (pos 0)))
    → ((k : ℕ) → 1 ≤ length plan.updates → get_or c.trans k 0 < length plan.updates)
    → Below most_numbers c.bank → ((k : ℕ) → get_or c.numblks k 0 ≤ 16) → CellRanges plan n c
ranges v a s t b n = record { count = v; ann = a; stat = s; trans = t; bank = b; numblks = n }

module _ (plan : Plan) (n : ℕ) where
  -- Numbers after at most n entries are numbers after one more.
  pub numbers-later : {l h v c : ℕ} {bs cs : List ℕ} {a b : ℕ} → Numbers plan n l h v c bs cs a b
      → Numbers plan (n + 1) l h v c bs cs a b
  numbers-later I =
      let z = I.ver in
      numbers I.lid I.hid (omega arith) I.numblks I.curr I.copy I.addr I.new

  -- So it is with a machine.
  pub bounded-later : (m : Machine) → Bounded plan n m → Bounded plan (n + 1) m
  bounded-later m B =
      record {
        cells =
            let z = B.cells.count in
            ranges (omega arith) B.cells.ann B.cells.stat B.cells.trans B.cells.bank
            B.cells.numblks;
        rows = B.rows;
        works =
            λ k.
            record {
              update = (B.works k).update;
              numbers = numbers-later (B.works k).numbers;
              standing = (B.works k).standing;
            };
        others = B.others;
      }

  module _ (m : Machine) (B : Bounded plan n m) where
    -- Another working record of a job that the plan has.
    pub with-work : (p : ℕ) → p < plan.sizes.jobs → (w : Working) → WorkBounded plan n w
        → Bounded plan n (with_work p w m)
    with-work p below w h =
        record {
          cells = B.cells;
          rows = record { addr = B.rows.addr; old = B.rows.old; new = B.rows.new };
          works = every_set (WorkBounded plan n) no_work m.jobs p w B.works h;
          others = λ k l. rw (get_or-set_other m.jobs p k w no_work (λ e. omega arith)) (B.others k l);
        }

    -- Other cells and rows in their ranges.
    with-parts :
        (x : Machine) → x.jobs ≡ m.jobs → CellRanges plan n x.cells → RowsBelow 16 x.addrlist
        → RowsBelow most_numbers x.oldlist → RowsBelow most_numbers x.newlist → Bounded plan n x
    with-parts x e c a o b =
        record {
          cells = c;
          rows = record { addr = a; old = o; new = b };
          works = rw e B.works;
          others = rw e B.others;
        }

    -- Other cells in their ranges.
    with-cells : (c : Cells) → CellRanges plan n c → Bounded plan n (with_cells c m)
    with-cells c h = with-parts _ refl h B.rows.addr B.rows.old B.rows.new

    -- Another store.
    with-store : (l : List ℕ) → Bounded plan n (with_store l m)
    with-store l = with-parts _ refl B.cells B.rows.addr B.rows.old B.rows.new

    -- A store of what is in range.
    pub stored-bounded :
        (p : ℕ) (w : Working) → NumbersOf plan n w → (st : Store) → StoreBounded plan n st
        → Bounded plan n (stored plan p w st m)
    unfolding stored
    stored-bounded p w I Store.Nothing h = B
    stored-bounded p w I (Store.Version c f) h =
        with-cells _
        (ranges h B.cells.ann B.cells.stat B.cells.trans B.cells.bank B.cells.numblks)
    stored-bounded p w I (Store.Ann r k) h =
        with-cells _
        (ranges B.cells.count (every_set (λ x. x ≤ plan.sizes.jobs) 0 m.cells.ann r k B.cells.ann h)
        B.cells.stat B.cells.trans B.cells.bank B.cells.numblks)
    stored-bounded p w I (Store.Stat k x) h =
        with-cells _
        (ranges B.cells.count B.cells.ann
        (every_set (StatusIn plan.sizes.jobs) (pos 0) m.cells.stat k x B.cells.stat h)
        B.cells.trans B.cells.bank B.cells.numblks)
    stored-bounded p w I (Store.Trans k u) h =
        with-cells _
        (ranges B.cells.count B.cells.ann B.cells.stat
        (λ i some.
        every_set (λ x. x < length plan.updates) 0 m.cells.trans k u (λ j. B.cells.trans j some) h i)
        B.cells.bank B.cells.numblks)
    stored-bounded p w I (Store.Listed i a b) h =
        with-parts _ refl B.cells (place_set 16 m.addrlist p i a B.rows.addr h.0)
        (place_set most_numbers m.oldlist p i b B.rows.old h.1)
        B.rows.new
    stored-bounded p w I (Store.Block from to) h = with-store _
    stored-bounded p w I (Store.Word b i x) h = with-store _
    stored-bounded p w I Store.Published h =
        with-parts _ refl
        (ranges B.cells.count B.cells.ann B.cells.stat B.cells.trans B.cells.bank
        (every_set (λ x. x ≤ 16) 0 m.cells.numblks p w.numblks B.cells.numblks I.numblks))
        B.rows.addr
        B.rows.old
        (row-set most_numbers m.newlist p _ B.rows.new
        (below-first most_numbers (new_numbers m p w) (get_or m.newlist p [])
        (every-tabulate (λ x. x < most_numbers) 0 (omega arith) w.numblks _ (λ i _. I.curr _))
        (B.rows.new p)))
    stored-bounded p w I (Store.Bank b x) h =
        with-cells _
        (ranges B.cells.count B.cells.ann B.cells.stat B.cells.trans
        (every_set (λ y. y < most_numbers) 0 m.cells.bank b x B.cells.bank h)
        B.cells.numblks)

-- A working record of a job that was never called.
unused-bounded :
    (plan : Plan) (n : ℕ) (dirty curr copy : List ℕ) → Below most_numbers curr → Below most_numbers copy
    → WorkBounded plan n (unused dirty curr copy)
unused-bounded plan n dirty curr copy h g =
    record {
      update = λ e. absurd (false≢true e);
      numbers =
          numbers (omega arith) (omega arith) (omega arith) (omega arith) h g (omega arith) (omega arith);
      standing = tt;
    }

module _ (plan : Plan) (ok : Sound plan) where
  -- A copy number of a job below 16.
  copy-number : (k i : ℕ) → k < 16 → i < 8 → k * plan.sizes.copies + i < most_numbers
  copy-number k i hk hi =
      let y : k ≤ 15 = omega arith in
      let z : k * plan.sizes.copies ≤ 15 * 8 = mul-le-mul y ok.copies in
      omega arith

  -- Job k's record at the opening.
  abbrev opens : ℕ → Working
  opens k = opening (tabulate 8 (λ i. k * plan.sizes.copies + i))

  -- The opening.
  pub opening-bounded : Bounded plan 0 (opening_of plan)
  unfolding opening_of
  opening-bounded =
      record {
        cells =
            record {
              count = omega arith;
              ann =
                  every-replicate (λ x. x ≤ plan.sizes.jobs) 0 (omega arith) 8 plan.sizes.jobs
                  (le_refl plan.sizes.jobs);
              stat =
                  every-replicate (StatusIn plan.sizes.jobs) (pos 0) (omega arith) 17 (pos plan.sizes.jobs)
                  (le_refl plan.sizes.jobs);
              trans = λ k some. every-replicate (λ x. x < length plan.updates) 0 some 16 0 some k;
              bank =
                  every-tabulate (λ x. x < most_numbers) 0 (omega arith) 16 (λ k. copy_blocks plan + k)
                  (λ k l.
                  let z : copy_blocks plan ≤ 16 * 8 = mul-le-mul ok.jobs ok.copies in omega arith);
              numblks = every-replicate (λ x. x ≤ 16) 0 (omega arith) 16 0 (omega arith);
            };
        rows = record { addr = empty 16 (omega arith); old = empty _ (omega arith); new = empty _ (omega arith) };
        works =
            every-tabulate (WorkBounded plan 0) no_work
            (unused-bounded plan 0 [] [] [] (λ i. omega arith) (λ i. omega arith))
            16
            opens
            (λ k l.
            unused-bounded plan 0 (replicate 16 0) (replicate 16 0) (tabulate 8 (λ i. k * plan.sizes.copies + i))
            (every-replicate (λ x. x < most_numbers) 0 (omega arith) 16 0 (omega arith))
            (every-tabulate (λ x. x < most_numbers) 0 (omega arith) 8 _ (λ i. copy-number k i l)));
        others =
            λ k _.
            every-tabulate (λ (w : Working). is_active w.place ≡ false) no_work refl 16 opens (λ _ _. refl) k;
      }
    where
      -- the rows are zeros
      empty : (b : ℕ) → 0 < b → RowsBelow b (replicate 16 (replicate 16 0))
      empty b some =
          every-replicate (Below b) [] (λ i. some) 16 (replicate 16 0) (every-replicate (λ x. x < b) 0 some 16 0 some)

  -- An accepted call.
  pub call-bounded :
      (n : ℕ) (m : Machine) → Bounded plan n m → (job u : ℕ) → job < plan.sizes.jobs → u < length plan.updates
      → Bounded plan n (acted plan m (Judgement.Calls job u))
  unfolding acted
  call-bounded n m B job u has-job has-update =
      with-work plan n m B job has-job (called u (work_of m job))
      (record { update = λ _. has-update; numbers = (B.works job).numbers; standing = tt })
