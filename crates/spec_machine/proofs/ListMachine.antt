-- The list machine and its view by functions: what an item gave, a call and the opening come to in the view, which
-- job an entry runs, and that arrays keep their lengths and statuses stay proper. Assumes a plan that is Sound, a
-- machine that is Sized, and stores that fit.
--
-- A store that fits is at a place which its list has, so it is a change of the function that reads the list, at one
-- place. Block numbers are below NC + B, at most 144, of at most 16 words: all words of a block are among the 2,304 of
-- the store. A job that the plan has is read from its list, and every other one is idle; so the best of the first N
-- jobs of a card is the best of all.
use Prim.Native.Nat.{ℕ, zero, suc, ◌+◌, ◌*◌, ◌≤◌, ◌<◌}
use mathlib.Core.Path.{◌≡◌, refl, sym, ◌∙◌, ap, subst}
use mathlib.Core.Bool.{Bool, true, false, cond, ◌||◌, true≢false, false≢true}
use mathlib.Core.List.{List, []}
use Rattle.std.specs.Prelude.{Option, Some, None}
use native.Mathlib.Nat.{mul-le-mul, mul-le-mul_right, le_refl}
use native.Mathlib.Decide.{ℕ_discrete, dec_lt}
use native.Mathlib.Omega.{arith}
use lib.Dec.{eqb, ltb, leb}
use lib.IntN.{ℤ, pos}
use lib.ListN.{length, get_or, set, drop, replicate, length-set, length-drop, length-replicate, get_or-replicate}
use lib.Seq.{paste, length-paste}
use borrow.Author.Tests.{eqb-true, eq-eqb, ltb-true, ltb-false, lt-ltb, le-ltb, leb-false}
use Rattle.spec_text.proofs.Cases.{by-test, both, neither}
use Rattle.spec_text.specs.FirstPlaces.{in_first_places}
use Rattle.spec_format.specs.declared.Entry.{Entry}
use Rattle.spec_format.specs.Plan.{Plan, job_in, tabulate}
use Rattle.spec_format.proofs.Tabulated.{length-tabulate, get_d_tabulate}
use Rattle.spec_format.specs.Sound.{Sound}
use Rattle.spec_machine.specs.declared.Place.{Place}
use Rattle.spec_machine.specs.declared.Working.{Working}
use Rattle.spec_machine.specs.declared.Cells.{Cells}
use Rattle.spec_machine.specs.declared.Store.{Store}
use Rattle.spec_machine.specs.declared.Out.{Out}
use Rattle.spec_machine.specs.declared.Refusal.{Refusal}
use Rattle.spec_machine.specs.declared.Judgement.{Judgement}
use Rattle.spec_machine.specs.Places.{is_active}
use Rattle.spec_machine.specs.Working.{no_work, opening, called}
use Rattle.spec_machine.specs.Steps.{item}
use Rattle.spec_machine.specs.Machine as machine
use Rattle.spec_machine.specs.Machine.{
  Machine,
  in_row,
  shared_in,
  work_of,
  with_work,
  copy_blocks,
  new_numbers,
  opening_of,
  stored,
  carried_out,
  item_of,
}
use Rattle.spec_machine.specs.Entries.{active_on, higher, runs_on, judge_call, judge_running, judge_step, judge, acted}
use Rattle.spec_machine.proofs.ChangedAt.{upd, upd-elim, upd-ap}
use Rattle.spec_machine.proofs.View.{
  Status,
  Status.finished,
  status_in,
  Proper,
  finished-means,
  State,
  absent,
  state_in,
  with_cells,
  with_bank,
  with_rows,
  with_blocks,
  published,
  changed,
  after,
}
use Rattle.spec_machine.specs.StockRule.{block_numbers}
use Rattle.spec_machine.proofs.Sizes.{Sized, Roomy, Fits}
use Rattle.spec_machine.proofs.ListsByPlace.{
  get_d_set,
  get_d-set-below,
  get_d-all,
  first-places,
  length-first-places,
  paste-inside,
  word-stored,
  block-copied,
}

-- A row stored is the rows changed at one job.
row-stored :
    (rows : List (List ℕ)) (k : ℕ) (row : List ℕ) → k < length rows
    → in_row (set rows k row) ≡ upd (in_row rows) k (λ i. get_or row i 0)
row-stored rows k row h =
    ap (λ (f : ℕ → List ℕ). λ (j i : ℕ). get_or (f j) i 0) (get_d_set rows k row [] h)
    ∙ upd-ap (λ (r : List ℕ). λ (i : ℕ). get_or r i 0) (λ j. get_or rows j []) k row

-- A number stored in a row is the rows changed at one place of one job.
place-stored :
    (rows : List (List ℕ)) (k i a : ℕ) → k < length rows → i < length (get_or rows k [])
    → in_row (set rows k (set (get_or rows k []) i a)) ≡ upd (in_row rows) k (upd (in_row rows k) i a)
place-stored rows k i a h g =
    row-stored rows k (set (get_or rows k []) i a) h
    ∙ ap (λ (f : ℕ → ℕ). upd (in_row rows) k f) (get_d_set (get_or rows k []) i a 0 g)

-- New numbers published are the rows changed at one job.
numbers-published :
    (rows addrs : List (List ℕ)) (k : ℕ) (w : Working) → k < length rows
    → in_row (set rows k
    (in_first_places (tabulate w.numblks (λ i. get_or w.curr (in_row addrs k i) 0)) (get_or rows k [])))
    ≡ upd (in_row rows) k (published (in_row addrs k) (in_row rows k) w)
numbers-published rows addrs k w h =
    row-stored rows k
    (in_first_places (tabulate w.numblks (λ i. get_or w.curr (in_row addrs k i) 0)) (get_or rows k [])) h
    ∙ ap (λ (f : ℕ → ℕ). upd (in_row rows) k f)
    (first-places w.numblks (λ i. get_or w.curr (in_row addrs k i) 0) (get_or rows k []))

-- A status stored changes the meaning of that status.
status-stored :
    (n : ℕ) (l : List ℤ) (k : ℕ) (x : ℤ) → k < length l
    → ◌≡◌ {A = ℕ → Status} (λ j. status_in n (get_or (set l k x) j (pos n)))
    (upd (λ j. status_in n (get_or l j (pos n))) k (status_in n x))
status-stored n l k x h =
    ap (λ (f : ℕ → ℤ). λ (j : ℕ). status_in n (f j)) (get_d_set l k x (pos n) h)
    ∙ upd-ap (status_in n) (λ j. get_or l j (pos n)) k x

module _ (plan : Plan) (ok : Sound plan) where
  -- The store has room for the blocks of as many numbers as there are.
  all-in-store : (n : ℕ) → n ≤ block_numbers plan → n * plan.sizes.words ≤ 2304
  all-in-store n h =
      let copies : copy_blocks plan ≤ 16 * 8 = mul-le-mul ok.jobs ok.copies in
      let few : plan.sizes.blocks ≤ 16 = ok.blocks in
      let below : n ≤ 144 = omega arith in
      mul-le-mul below ok.words

  -- All words of a block that has a number are in the store.
  pub in-store : (b : ℕ) → b < block_numbers plan → b * plan.sizes.words + plan.sizes.words ≤ 2304
  in-store b h = omega (arith, all-in-store (suc b) h)

  -- One word of a block that has a number is in the store.
  pub word-in-store :
      (b i : ℕ) → b < block_numbers plan → i < plan.sizes.words → b * plan.sizes.words + i < 2304
  word-in-store b i h g = omega (arith, in-store b h)

  -- A job of the plan has a place in an array of 16.
  in_array : (p : ℕ) → p < plan.sizes.jobs → p < 16
  in_array p h = omega (arith, ok.jobs)

  module _ (m : Machine) (sized : Sized m) (p : ℕ) (below : p < plan.sizes.jobs) where
    -- A working record stored is the jobs changed at one.
    work-stored :
        (w : Working) → (state_in plan (with_work p w m)).job ≡ upd (state_in plan m).job p w
    unfolding state_in
    work-stored w =
        get_d-set-below plan.sizes.jobs m.jobs no_work (absent plan) p w below
        (rw sized.jobs (in_array p below))

    -- What an item stores, and its job's next record, in the view.
    seen_stored :
        (w : Working) (st : Store) → Fits plan w st
        → state_in plan (stored plan p w st (with_work p w m))
        ≡ record { sh = changed plan p w st (state_in plan m).sh; job = upd (state_in plan m).job p w }
    unfolding state_in stored
    seen_stored w Store.Nothing f = λ i. record { sh = (state_in plan m).sh; job = work-stored w i }
    seen_stored w (Store.Version n g) f =
        λ i. record { sh = changed plan p w (Store.Version n g) (state_in plan m).sh; job = work-stored w i }
    seen_stored w (Store.Ann r k) f =
        λ i.
        record {
          sh =
              with_cells (get_d_set m.cells.ann r k plan.sizes.jobs (rw sized.ann f) i)
              (state_in plan m).sh.stat
              (state_in plan m).sh.trans
              (state_in plan m).sh;
          job = work-stored w i;
        }
    seen_stored w (Store.Stat k x) f =
        λ i.
        record {
          sh =
              with_cells (state_in plan m).sh.ann
              (status-stored plan.sizes.jobs m.cells.stat k x (rw sized.stat f.0) i)
              (state_in plan m).sh.trans
              (state_in plan m).sh;
          job = work-stored w i;
        }
    seen_stored w (Store.Trans k u) f =
        λ i.
        record {
          sh =
              with_cells (state_in plan m).sh.ann (state_in plan m).sh.stat
              (get_d_set m.cells.trans k u 0 (rw sized.trans f) i)
              (state_in plan m).sh;
          job = work-stored w i;
        }
    seen_stored w (Store.Listed j a b) f =
        λ i.
        record {
          sh =
              with_rows (state_in plan m).sh.numblks
              (place-stored m.addrlist p j a (rw sized.addrlists (in_array p below))
              (rw (sized.addrlist p (in_array p below)) f)
              i)
              (place-stored m.oldlist p j b (rw sized.oldlists (in_array p below))
              (rw (sized.oldlist p (in_array p below)) f)
              i)
              (state_in plan m).sh.newlist
              (state_in plan m).sh;
          job = work-stored w i;
        }
    seen_stored w (Store.Block from to) f =
        λ i.
        record {
          sh =
              with_blocks
              (block-copied plan.sizes.words m.store from to (rw sized.store (in-store from f.0))
              (rw sized.store (in-store to f.1))
              i)
              (state_in plan m).sh;
          job = work-stored w i;
        }
    seen_stored w (Store.Word b j x) f =
        λ i.
        record {
          sh =
              with_blocks
              (word-stored plan.sizes.words m.store b j x f.1
              (rw sized.store (word-in-store b j f.0 f.1))
              i)
              (state_in plan m).sh;
          job = work-stored w i;
        }
    seen_stored w Store.Published f =
        λ i.
        record {
          sh =
              with_rows
              (get_d_set m.cells.numblks p w.numblks 0 (rw sized.numblks (in_array p below)) i)
              (state_in plan m).sh.addrlist
              (state_in plan m).sh.oldlist
              (numbers-published m.newlist m.addrlist p w (rw sized.newlists (in_array p below)) i)
              (state_in plan m).sh;
          job = work-stored w i;
        }
    seen_stored w (Store.Bank b n) f =
        λ i.
        record {
          sh = with_bank (get_d_set m.cells.bank b n 0 (rw sized.bank f) i) (state_in plan m).sh;
          job = work-stored w i;
        }

    -- What an item gave, carried out, is the same in the view.
    pub view-after :
        (o : Out) → Fits plan o.work o.store
        → state_in plan (carried_out plan p o m) ≡ after plan p o (state_in plan m)
    unfolding carried_out
    view-after o f = seen_stored o.work o.store f

-- Rows of 16 places stay so when one of them becomes another row of 16 places.
row_kept :
    (rows : List (List ℕ)) (k : ℕ) (row : List ℕ) → length rows ≡ 16 → k < 16 → length row ≡ 16
    → ((j : ℕ) → j < 16 → length (get_or rows j []) ≡ 16) → (j : ℕ) → j < 16
    → length (get_or (set rows k row) j []) ≡ 16
row_kept rows k row e h same all j g =
    ap (λ (f : ℕ → List ℕ). length (f j)) (get_d_set rows k row [] (rw e h))
    ∙ upd-elim (λ r. length r ≡ 16) (λ j. get_or rows j []) k row j (λ _. same) (λ _. all j g)

-- So it is when a number is stored in one.
rows-kept :
    (rows : List (List ℕ)) (k i a : ℕ) → length rows ≡ 16 → k < 16
    → ((j : ℕ) → j < 16 → length (get_or rows j []) ≡ 16) → (j : ℕ) → j < 16
    → length (get_or (set rows k (set (get_or rows k []) i a)) j []) ≡ 16
rows-kept rows k i a e h all =
    row_kept rows k (set (get_or rows k []) i a) e h (length-set (get_or rows k []) i a ∙ all k h) all

module _ (m : Machine) (sized : Sized m) where
  -- Lengths are kept by other cells of the same lengths.
  sized-cells :
      (c : Cells) → length c.ann ≡ 8 → length c.stat ≡ 17 → length c.trans ≡ 16 → length c.bank ≡ 16
      → length c.numblks ≡ 16 → Sized (machine.with_cells c m)
  sized-cells c ann stat trans bank numblks =
      record {
        ann = ann;
        stat = stat;
        trans = trans;
        bank = bank;
        numblks = numblks;
        jobs = sized.jobs;
        store = sized.store;
        addrlists = sized.addrlists;
        oldlists = sized.oldlists;
        newlists = sized.newlists;
        addrlist = sized.addrlist;
        oldlist = sized.oldlist;
        newlist = sized.newlist;
      }

  -- Lengths are kept by another working record.
  sized-work : (k : ℕ) (w : Working) → Sized (with_work k w m)
  sized-work k w =
      record {
        ann = sized.ann;
        stat = sized.stat;
        trans = sized.trans;
        bank = sized.bank;
        numblks = sized.numblks;
        jobs = length-set m.jobs k w ∙ sized.jobs;
        store = sized.store;
        addrlists = sized.addrlists;
        oldlists = sized.oldlists;
        newlists = sized.newlists;
        addrlist = sized.addrlist;
        oldlist = sized.oldlist;
        newlist = sized.newlist;
      }

  -- Lengths are kept by another store of the same length.
  sized-store : (l : List ℕ) → length l ≡ 2304 → Sized (machine.with_store l m)
  sized-store l e =
      record {
        ann = sized.ann;
        stat = sized.stat;
        trans = sized.trans;
        bank = sized.bank;
        numblks = sized.numblks;
        jobs = sized.jobs;
        store = e;
        addrlists = sized.addrlists;
        oldlists = sized.oldlists;
        newlists = sized.newlists;
        addrlist = sized.addrlist;
        oldlist = sized.oldlist;
        newlist = sized.newlist;
      }

  -- Lengths are kept by an address and an old number in a row.
  sized-listed : (k i a b : ℕ) → k < 16 → Sized (machine.with_listed k i a b m)
  sized-listed k i a b h =
      record {
        ann = sized.ann;
        stat = sized.stat;
        trans = sized.trans;
        bank = sized.bank;
        numblks = sized.numblks;
        jobs = sized.jobs;
        store = sized.store;
        addrlists = length-set m.addrlist k (set (get_or m.addrlist k []) i a) ∙ sized.addrlists;
        oldlists = length-set m.oldlist k (set (get_or m.oldlist k []) i b) ∙ sized.oldlists;
        newlists = sized.newlists;
        addrlist = rows-kept m.addrlist k i a sized.addrlists h sized.addrlist;
        oldlist = rows-kept m.oldlist k i b sized.oldlists h sized.oldlist;
        newlist = sized.newlist;
      }

  -- Lengths are kept by new numbers in a row.
  sized_new : (k : ℕ) (bs : List ℕ) → k < 16 → length bs ≤ 16 → Sized (machine.with_new k bs m)
  sized_new k bs h few =
      record {
        ann = sized.ann;
        stat = sized.stat;
        trans = sized.trans;
        bank = sized.bank;
        numblks = sized.numblks;
        jobs = sized.jobs;
        store = sized.store;
        addrlists = sized.addrlists;
        oldlists = sized.oldlists;
        newlists = length-set m.newlist k (in_first_places bs (get_or m.newlist k [])) ∙ sized.newlists;
        addrlist = sized.addrlist;
        oldlist = sized.oldlist;
        newlist =
            row_kept m.newlist k (in_first_places bs (get_or m.newlist k [])) sized.newlists h
            (length-first-places bs (get_or m.newlist k []) (rw (sized.newlist k h) few) ∙ sized.newlist k h)
            sized.newlist;
      }

module _ (plan : Plan) (ok : Sound plan) where
  -- Lengths are kept by a store.
  sized-stored :
      (m : Machine) → Sized m → (p : ℕ) → p < plan.sizes.jobs → (w : Working) (st : Store) → Fits plan w st
      → Sized (stored plan p w st m)
  unfolding stored
  sized-stored m sized p below w Store.Nothing f = sized
  sized-stored m sized p below w (Store.Version n g) f =
      sized-cells m sized _ sized.ann sized.stat sized.trans sized.bank sized.numblks
  sized-stored m sized p below w (Store.Ann r k) f =
      sized-cells m sized _ (length-set m.cells.ann r k ∙ sized.ann) sized.stat sized.trans sized.bank
      sized.numblks
  sized-stored m sized p below w (Store.Stat k x) f =
      sized-cells m sized _ sized.ann (length-set m.cells.stat k x ∙ sized.stat) sized.trans sized.bank
      sized.numblks
  sized-stored m sized p below w (Store.Trans k u) f =
      sized-cells m sized _ sized.ann sized.stat (length-set m.cells.trans k u ∙ sized.trans) sized.bank
      sized.numblks
  sized-stored m sized p below w (Store.Listed i a b) f = sized-listed m sized p i a b (in_array plan ok p below)
  sized-stored m sized p below w (Store.Block from to) f =
      let size : length m.store ≡ 2304 = sized.store in
      let all : to * plan.sizes.words + plan.sizes.words ≤ 2304 = in-store plan ok to f.1 in
      let whole : from * plan.sizes.words + plan.sizes.words ≤ 2304 = in-store plan ok from f.0 in
      sized-store m sized _
      (length-paste m.store (to * plan.sizes.words) (drop (from * plan.sizes.words) m.store)
      plan.sizes.words
      (omega arith)
      (rw (length-drop (from * plan.sizes.words) m.store) (omega arith))
      ∙ size)
  sized-stored m sized p below w (Store.Word b i x) f =
      sized-store m sized _ (length-set m.store (b * plan.sizes.words + i) x ∙ sized.store)
  sized-stored m sized p below w Store.Published f =
      sized-cells (machine.with_new p (new_numbers m p w) m)
      (sized_new m sized p (new_numbers m p w) (in_array plan ok p below)
      (rw (length-tabulate w.numblks (λ i. get_or w.curr (in_row m.addrlist p i) 0)) f)) _ sized.ann
      sized.stat
      sized.trans
      sized.bank
      (length-set m.cells.numblks p w.numblks ∙ sized.numblks)
  sized-stored m sized p below w (Store.Bank b n) f =
      sized-cells m sized _ sized.ann sized.stat sized.trans (length-set m.cells.bank b n ∙ sized.bank)
      sized.numblks

  -- Lengths are kept by what an item gave.
  pub sized-after :
      (m : Machine) → Sized m → (p : ℕ) → p < plan.sizes.jobs → (o : Out) → Fits plan o.work o.store
      → Sized (carried_out plan p o m)
  unfolding carried_out
  sized-after m sized p below o f =
      sized-stored (with_work p o.work m) (sized-work m sized p o.work) p below o.work o.store f

module _ (plan : Plan) (m : Machine) (sized : Sized m) (p : ℕ) where
  -- Statuses stay proper by a store.
  proper-stored :
      (w : Working) (st : Store) → Fits plan w st → ((k : ℕ) → Proper ((shared_in plan m).stat k)) → (k : ℕ)
      → Proper ((shared_in plan (stored plan p w st (with_work p w m))).stat k)
  unfolding stored
  proper-stored w Store.Nothing f all = all
  proper-stored w (Store.Version n g) f all = all
  proper-stored w (Store.Ann r j) f all = all
  proper-stored w (Store.Stat j x) f all =
      λ k.
      subst (λ (s : ℕ → ℤ). Proper (s k))
      (sym (get_d_set m.cells.stat j x (pos plan.sizes.jobs) (rw sized.stat f.0)))
      (upd-elim Proper (shared_in plan m).stat j x k (λ _. f.1) (λ _. all k))
  proper-stored w (Store.Trans j u) f all = all
  proper-stored w (Store.Listed i a b) f all = all
  proper-stored w (Store.Block from to) f all = all
  proper-stored w (Store.Word b i x) f all = all
  proper-stored w Store.Published f all = all
  proper-stored w (Store.Bank b n) f all = all

  -- Statuses stay proper by what an item gave.
  pub proper-after :
      (o : Out) → Fits plan o.work o.store → ((k : ℕ) → Proper ((shared_in plan m).stat k)) → (k : ℕ)
      → Proper ((shared_in plan (carried_out plan p o m)).stat k)
  unfolding carried_out
  proper-after o f all = proper-stored o.work o.store f all

module _ (plan : Plan) (m : Machine) where
  -- A job that the plan has is the one in the list.
  pub job-seen : (k : ℕ) → k < plan.sizes.jobs → (state_in plan m).job k ≡ work_of m k
  unfolding state_in
  job-seen k h = rw (lt-ltb k plan.sizes.jobs h)

  -- A job that the plan does not have is an absent one.
  pub job-absent : (k : ℕ) → plan.sizes.jobs ≤ k → (state_in plan m).job k ≡ absent plan k
  unfolding state_in
  job-absent k h = rw (le-ltb k plan.sizes.jobs h)

  -- An active job is one that the plan has.
  pub active-below : (k : ℕ) → is_active ((state_in plan m).job k).place ≡ true → k < plan.sizes.jobs
  active-below k e = go (dec_lt k plan.sizes.jobs)
    where
      go : Dec (k < plan.sizes.jobs) → k < plan.sizes.jobs
      go (yes h) = h
      go (no h) = absurd (false≢true (rw (job-absent k (omega arith)) at e))

  -- The item that a job stands before, by the view's record of the job.
  pub item-seen :
      (p : ℕ) → p < plan.sizes.jobs
      → item_of plan m p ≡ item plan (shared_in plan m) p ((state_in plan m).job p).place ((state_in plan m).job p)
  unfolding item_of
  item-seen p h = rw (job-seen p h)

  -- A call leaves the shared cells as they were.
  pub shared-call : (job u : ℕ) → shared_in plan (acted plan m (Judgement.Calls job u)) ≡ shared_in plan m
  unfolding acted
  shared-call job u = refl

  -- Lengths are kept by a call.
  pub sized-call : Sized m → (job u : ℕ) → Sized (acted plan m (Judgement.Calls job u))
  unfolding acted
  sized-call sized job u = sized-work m sized job (called u (work_of m job))

-- A call in the view: its job's record is called, and nothing else changes.
pub view-call :
    (plan : Plan) → Sound plan → (m : Machine) → Sized m → (job u : ℕ) → job < plan.sizes.jobs
    → state_in plan (acted plan m (Judgement.Calls job u))
    ≡ record {
      sh = (state_in plan m).sh;
      job = upd (state_in plan m).job job (called u ((state_in plan m).job job));
    }
unfolding acted stored
view-call plan ok m sized job u h =
    rw (job-seen plan m job h) (seen_stored plan ok m sized job h (called u (work_of m job)) Store.Nothing tt)

-- What a call that is not refused says.
pub record CallJudged (plan : Plan) (m : Machine) (e : Entry) (job update : ℕ) : Type 0 where
  pub has-job : job < plan.sizes.jobs
  pub has-update : update < length plan.updates
  pub idle : is_active ((state_in plan m).job job).place ≡ false
  pub kind : e.kind ≡ 0
  pub first : e.first ≡ job
  pub second : e.second ≡ update

-- What a step that is not refused says: p is the active job of highest priority on the card.
pub record StepJudged (plan : Plan) (m : Machine) (e : Entry) (p : ℕ) : Type 0 where
  pub has-job : p < plan.sizes.jobs
  pub active : is_active ((state_in plan m).job p).place ≡ true
  pub card : (job_in plan p).card ≡ e.first
  pub highest :
      (k : ℕ) → is_active ((state_in plan m).job k).place ≡ true → (job_in plan k).card ≡ (job_in plan p).card
      → (job_in plan k).priority ≤ (job_in plan p).priority
  pub kind : eqb e.kind 0 ≡ false

module _ (plan : Plan) (m : Machine) (card : ℕ) where
  -- Job p is the active job of highest priority on the card among the first n.
  record Best (n p : ℕ) : Type 0 where
    below : p < n
    runs : active_on plan m card p ≡ true
    top :
        (k : ℕ) → k < n → active_on plan m card k ≡ true → (job_in plan k).priority ≤ (job_in plan p).priority

  -- What is chosen among the first n jobs is the best of them; where nothing is, none is active on the card.
  abbrev Chosen : ℕ → Option ℕ → Type 0
  Chosen n None = (k : ℕ) → k < n → active_on plan m card k ≡ true → ⊥
  Chosen n (Some p) = Best n p

  -- One of the first n + 1 jobs is job n or one of the first n.
  newest : {A : Type 0} (n k : ℕ) → k < suc n → (k ≡ n → A) → (k < n → A) → A
  newest {A} n k h f g = go (ℕ_discrete k n)
    where
      go : Dec (k ≡ n) → A
      go (yes e) = f e
      go (no c) = g (omega arith)

  -- With job n looked at, the choice is right among one job more.
  chosen-next :
      (n : ℕ) (t : Bool) → active_on plan m card n ≡ t → (q : Option ℕ) → Chosen n q
      → Chosen (suc n) (cond t (higher plan q n) q)
  chosen-next n false e None c =
      λ k h a. newest n k h (λ z. true≢false (sym a ∙ ap (active_on plan m card) z ∙ e)) (λ l. c k l a)
  chosen-next n false e (Some p) c =
      record {
        below = omega (arith, c.below);
        runs = c.runs;
        top =
            λ k h a.
            newest n k h (λ z. absurd (true≢false (sym a ∙ ap (active_on plan m card) z ∙ e))) (λ l. c.top k l a);
      }
  chosen-next n true e None c =
      record {
        below = omega arith;
        runs = e;
        top = λ k h a. newest n k h (λ z. rw z (le_refl (job_in plan n).priority)) (λ l. absurd (c k l a));
      }
  chosen-next n true e (Some p) c =
      by-test (ltb (job_in plan p).priority (job_in plan n).priority) (λ t. rw t (over t)) (λ t. rw t (under t))
    where
      over : ltb (job_in plan p).priority (job_in plan n).priority ≡ true → Best (suc n) n
      over t =
          let l : (job_in plan p).priority < (job_in plan n).priority = ltb-true _ _ t in
          record {
            below = omega arith;
            runs = e;
            top =
                λ k h a.
                newest n k h (λ z. rw z (le_refl (job_in plan n).priority))
                (λ y. let w : (job_in plan k).priority ≤ (job_in plan p).priority = c.top k y a in omega arith);
          }

      under : ltb (job_in plan p).priority (job_in plan n).priority ≡ false → Best (suc n) p
      under t =
          record {
            below = omega (arith, c.below);
            runs = c.runs;
            top = λ k h a. newest n k h (λ z. rw z (ltb-false _ _ t)) (λ y. c.top k y a);
          }

  -- The job that runs on a card is the best of the first n.
  chosen : (n : ℕ) → Chosen n (runs_on plan m card n)
  chosen zero = λ k h a. omega arith
  chosen (suc n) = chosen-next n (active_on plan m card n) refl (runs_on plan m card n) (chosen n)

module _ (plan : Plan) (m : Machine) (e : Entry) where
  -- What a judgement says of the entry.
  abbrev Judged : Judgement → Type 0
  Judged (Judgement.Calls job update) = CallJudged plan m e job update
  Judged (Judgement.Runs p) = StepJudged plan m e p
  Judged (Judgement.Refused r) = Unit {0}

  -- A call of a job that is not active.
  judged-free :
      e.kind ≡ 0 → e.first < plan.sizes.jobs → e.second < length plan.updates → (t : Bool)
      → is_active (work_of m e.first).place ≡ t
      → Judged (cond t (Judgement.Refused Refusal.Active) (Judgement.Calls e.first e.second))
  judged-free z j u true a = tt
  judged-free z j u false a =
      record {
        has-job = j;
        has-update = u;
        idle = rw (job-seen plan m e.first j) a;
        kind = z;
        first = refl;
        second = refl;
      }

  -- A call.
  judged-call : e.kind ≡ 0 → Judged (judge_call plan m e.first e.second)
  judged-call z = go (leb plan.sizes.jobs e.first || leb (length plan.updates) e.second) refl
    where
      go : (t : Bool) → (leb plan.sizes.jobs e.first || leb (length plan.updates) e.second) ≡ t
          → Judged
          (cond t (Judgement.Refused Refusal.NoSuch)
          (cond (is_active (work_of m e.first).place) (Judgement.Refused Refusal.Active)
          (Judgement.Calls e.first e.second)))
      go true a = tt
      go false a =
          let such : (leb plan.sizes.jobs e.first ≡ false) × (leb (length plan.updates) e.second ≡ false) =
          neither (leb plan.sizes.jobs e.first) (leb (length plan.updates) e.second) a in
          judged-free z (leb-false _ _ such.0) (leb-false _ _ such.1) (is_active (work_of m e.first).place) refl

  -- A step of a card whose best job is known, or that has none.
  judged-running :
      eqb e.kind 0 ≡ false → (q : Option ℕ) → Chosen plan m e.first plan.sizes.jobs q
      → Judged (judge_running q)
  judged-running z None c = tt
  judged-running z (Some p) c =
      let here : (is_active (work_of m p).place ≡ true) × (eqb (job_in plan p).card e.first ≡ true) =
      both (is_active (work_of m p).place) (eqb (job_in plan p).card e.first) c.runs in
      let own : (job_in plan p).card ≡ e.first = eqb-true (job_in plan p).card e.first here.1 in
      record {
        has-job = c.below;
        active = rw (job-seen plan m p c.below) here.0;
        card = own;
        highest =
            λ k a d.
            let l : k < plan.sizes.jobs = active-below plan m k a in
            let there : is_active (work_of m k).place ≡ true = rw (job-seen plan m k l) at a in
            c.top k l (rw (there, eq-eqb (job_in plan k).card e.first (d ∙ own)));
        kind = z;
      }

  -- A step.
  judged-step : eqb e.kind 0 ≡ false → Judged (judge_step plan m e.first)
  judged-step z = go (leb plan.sizes.cards e.first)
    where
      go : (t : Bool)
          → Judged
          (cond t (Judgement.Refused Refusal.NoCard) (judge_running (runs_on plan m e.first plan.sizes.jobs)))
      go true = tt
      go false =
          judged-running z (runs_on plan m e.first plan.sizes.jobs) (chosen plan m e.first plan.sizes.jobs)

  -- An entry.
  judged : Judged (judge plan m e)
  unfolding judge
  judged = go (eqb e.kind 0) refl
    where
      go : (t : Bool) → eqb e.kind 0 ≡ t
          → Judged (cond t (judge_call plan m e.first e.second) (judge_step plan m e.first))
      go true z = judged-call (eqb-true e.kind 0 z)
      go false z = judged-step z

  -- A call that is not refused.
  pub call-judged : (job update : ℕ) → judge plan m e ≡ Judgement.Calls job update → CallJudged plan m e job update
  call-judged job update h = subst Judged h judged

  -- A step that is not refused.
  pub step-judged : (p : ℕ) → judge plan m e ≡ Judgement.Runs p → StepJudged plan m e p
  step-judged p h = subst Judged h judged

-- The state that a plan opens with.
abbrev pub opening_state : Plan → State
opening_state plan = state_in plan (opening_of plan)

-- What the opening is: V is (0, false), nothing is announced, every status is N, the bank's numbers come behind the
-- copy numbers, every job is idle with copy numbers of its own, and the blocks hold the plan's words.
pub record Opened (plan : Plan) : Type 0 where
  pub version : (opening_state plan).sh.v ≡ record { count = 0; flag = false }
  pub unannounced : (r : ℕ) → (opening_state plan).sh.ann r ≡ plan.sizes.jobs
  pub settled : (k : ℕ) → (opening_state plan).sh.stat k ≡ finished
  pub bank : (b : ℕ) → b < plan.sizes.blocks → (opening_state plan).sh.bank b ≡ copy_blocks plan + b
  pub idle : (k : ℕ) → ((opening_state plan).job k).place ≡ Place.Idle
  pub round : (k : ℕ) → ((opening_state plan).job k).round ≡ 0
  pub taken : (k : ℕ) → ((opening_state plan).job k).ver ≡ record { count = 0; flag = false }
  pub roomy : (k : ℕ) → Roomy ((opening_state plan).job k)
  pub unmarked : (k b : ℕ) → get_or ((opening_state plan).job k).dirty b 0 ≡ 0
  pub copies :
      (k i : ℕ) → k < plan.sizes.jobs → i < plan.sizes.copies
      → get_or ((opening_state plan).job k).copy i 0 ≡ k * plan.sizes.copies + i
  pub absent-copies :
      (k i : ℕ) → plan.sizes.jobs ≤ k → i < plan.sizes.copies
      → get_or ((opening_state plan).job k).copy i 0
      ≡ copy_blocks plan + plan.sizes.blocks + (k * plan.sizes.copies + i)
  pub words :
      (b i : ℕ) → b < plan.sizes.blocks → i < plan.sizes.words
      → (opening_state plan).sh.blk (copy_blocks plan + b) i ≡ get_or plan.words (b * plan.sizes.words + i) 0

-- Every status of the opening is proper.
pub proper-opening : (plan : Plan) (k : ℕ) → Proper ((shared_in plan (opening_of plan)).stat k)
unfolding opening_of
proper-opening plan k = rw (get_d-all 17 k (pos plan.sizes.jobs)) tt

module _ (plan : Plan) (ok : Sound plan) where
  -- The copy blocks and the plan's words fill no more than the store.
  opening-fits : copy_blocks plan * plan.sizes.words + length plan.words ≤ 2304
  opening-fits = omega (arith, all-in-store plan ok (block_numbers plan) (le_refl (block_numbers plan)), ok.all_words)

  -- A store of n numbers keeps its length when the plan's words are put in.
  opening-store :
      (n : ℕ) → copy_blocks plan * plan.sizes.words + length plan.words ≤ n
      → length (paste (replicate n 0) (copy_blocks plan * plan.sizes.words) plan.words (length plan.words)) ≡ n
  opening-store n h =
      let size : length (replicate {A = ℕ} n 0) ≡ n = length-replicate n 0 in
      length-paste (replicate n 0) (copy_blocks plan * plan.sizes.words) plan.words (length plan.words)
      (omega arith)
      (le_refl (length plan.words))
      ∙ size

  -- A store of n numbers has the plan's words where they were put in.
  opening-word :
      (n : ℕ) → copy_blocks plan * plan.sizes.words + length plan.words ≤ n → (i : ℕ) → i < length plan.words
      → get_or (paste (replicate n 0) (copy_blocks plan * plan.sizes.words) plan.words (length plan.words))
      (copy_blocks plan * plan.sizes.words + i)
      0
      ≡ get_or plan.words i 0
  opening-word n h i g =
      let size : length (replicate {A = ℕ} n 0) ≡ n = length-replicate n 0 in
      paste-inside (replicate n 0) (copy_blocks plan * plan.sizes.words) plan.words (length plan.words) 0
      (omega arith)
      (le_refl (length plan.words))
      i
      g

  -- Every array of the opening has its length.
  pub sized-opening : Sized (opening_of plan)
  unfolding opening_of
  sized-opening =
      record {
        ann = refl;
        stat = refl;
        trans = refl;
        bank = refl;
        numblks = refl;
        jobs = refl;
        store = opening-store 2304 opening-fits;
        addrlists = refl;
        oldlists = refl;
        newlists = refl;
        addrlist = λ k h. ap length (get_or-replicate 16 k (replicate 16 0) [] h);
        oldlist = λ k h. ap length (get_or-replicate 16 k (replicate 16 0) [] h);
        newlist = λ k h. ap length (get_or-replicate 16 k (replicate 16 0) [] h);
      }

  -- A job's record at the opening: the copy list of a job that the plan has, or of one that it does not have.
  record JobOpened (k : ℕ) (w : Working) : Type 0 where
    copy : List ℕ
    opens : w ≡ opening copy
    eight : length copy ≡ 8
    own : (i : ℕ) → k < plan.sizes.jobs → i < plan.sizes.copies → get_or copy i 0 ≡ k * plan.sizes.copies + i
    far :
        (i : ℕ) → plan.sizes.jobs ≤ k → i < plan.sizes.copies
        → get_or copy i 0 ≡ copy_blocks plan + plan.sizes.blocks + (k * plan.sizes.copies + i)

  -- Every job at the opening.
  job-opened : (k : ℕ) → JobOpened k ((opening_state plan).job k)
  unfolding opening_of
  job-opened k = go (dec_lt k plan.sizes.jobs)
    where
      go : Dec (k < plan.sizes.jobs) → JobOpened k ((opening_state plan).job k)
      go (yes h) =
          record {
            copy = tabulate 8 (λ i. k * plan.sizes.copies + i);
            eight = refl;
            opens =
                job-seen plan (opening_of plan) k h
                ∙ get_d_tabulate 16 (λ q. opening (tabulate 8 (λ i. q * plan.sizes.copies + i))) no_work k
                (in_array plan ok k h);
            own = λ i _ l. get_d_tabulate 8 (λ i. k * plan.sizes.copies + i) 0 i (omega (arith, ok.copies));
            far = λ i n _. absurd (omega arith);
          }
      go (no h) =
          record {
            copy = tabulate 8 (λ i. copy_blocks plan + plan.sizes.blocks + (k * plan.sizes.copies + i));
            eight = refl;
            opens = job-absent plan (opening_of plan) k (omega arith);
            own = λ i n _. absurd (omega arith);
            far =
                λ i _ l.
                get_d_tabulate 8 (λ i. copy_blocks plan + plan.sizes.blocks + (k * plan.sizes.copies + i)) 0 i
                (omega (arith, ok.copies));
          }

  -- The opening is as Opened says.
  pub opened : Opened plan
  unfolding opening_of state_in
  opened =
      record {
        version = refl;
        unannounced = λ r. get_d-all 8 r plan.sizes.jobs;
        settled =
            λ k.
            ap (status_in plan.sizes.jobs) (get_d-all 17 k (pos plan.sizes.jobs))
            ∙ finished-means plan.sizes.jobs;
        bank = λ b h. get_d_tabulate 16 (λ k. copy_blocks plan + k) 0 b (omega (arith, ok.blocks));
        idle = λ k. ap (λ (w : Working). w.place) (job-opened k).opens;
        round = λ k. ap (λ (w : Working). w.round) (job-opened k).opens;
        taken = λ k. ap (λ (w : Working). w.ver) (job-opened k).opens;
        roomy =
            λ k.
            record {
              dirty = ap (λ (w : Working). length w.dirty) (job-opened k).opens;
              curr = ap (λ (w : Working). length w.curr) (job-opened k).opens;
              copy = ap (λ (w : Working). length w.copy) (job-opened k).opens ∙ (job-opened k).eight;
            };
        unmarked = λ k b. ap (λ (w : Working). get_or w.dirty b 0) (job-opened k).opens ∙ get_d-all 16 b 0;
        copies =
            λ k i h l. ap (λ (w : Working). get_or w.copy i 0) (job-opened k).opens ∙ (job-opened k).own i h l;
        absent-copies =
            λ k i h l. ap (λ (w : Working). get_or w.copy i 0) (job-opened k).opens ∙ (job-opened k).far i h l;
        words =
            λ b i h l.
            let below : suc b * plan.sizes.words ≤ plan.sizes.blocks * plan.sizes.words =
            mul-le-mul_right plan.sizes.words h in
            let size : length plan.words ≡ plan.sizes.blocks * plan.sizes.words = ok.all_words in
            rw (lt-ltb i plan.sizes.words l)
            (ap (λ (j : ℕ). get_or (opening_of plan).store j 0) (omega arith)
            ∙ opening-word 2304 opening-fits (b * plan.sizes.words + i) (omega arith));
      }
