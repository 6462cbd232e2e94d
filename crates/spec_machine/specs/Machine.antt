-- The machine's state, its opening, and how an item's store is carried out. Arrays have room for the largest plan; what
-- lies past the plan's sizes is padding. Cells and Working are declared in src/lib.rt. Assumes nothing.
use Rattle.std.specs.Prelude.{ℕ, ◌+◌, ◌*◌, false, List, [], pos, length, get_or, set, drop, replicate}
use Rattle.std.proofs.Math.Seq.{paste}
use Rattle.spec_text.specs.FirstPlaces.{in_first_places}
use Rattle.spec_format.specs.Plan.{Plan, tabulate}
use Rattle.spec_machine.specs.declared.Working.{Working}
use Rattle.spec_machine.specs.declared.Cells.{Cells}
use Rattle.spec_machine.specs.declared.Store.{Store}
use Rattle.spec_machine.specs.declared.Out.{Out}
use Rattle.spec_machine.specs.Working.{no_work, opening}
use Rattle.spec_machine.specs.Cells.{with_v, with_ann, with_stat, with_trans, with_bank, with_numblks}
use Rattle.spec_machine.specs.Steps.{Shared, item}

-- The state: the cells, every job's working record, the store, and the rows, by job and place.
pub record Machine : Type 0 where
  pub cells : Cells
  pub jobs : List Working
  pub store : List ℕ
  pub addrlist : List (List ℕ)
  pub oldlist : List (List ℕ)
  pub newlist : List (List ℕ)

-- The number at a place of a job's row.
abbrev pub in_row : List (List ℕ) → ℕ → ℕ → ℕ
in_row rows k i = get_or (get_or rows k []) i 0

-- "Block number b is words bS to bS + S − 1 of the store": its words, where blocks have s words.
abbrev pub block_in : ℕ → List ℕ → ℕ → List ℕ
block_in s words b = tabulate s (λ i. get_or words (b * s + i) 0)

-- The shared cells as an item reads them. Past its array's end an announcement or a status counts as N.
abbrev pub shared_in : Plan → Machine → Shared
shared_in plan m =
    record {
      v = m.cells.v;
      ann = λ r. get_or m.cells.ann r plan.sizes.jobs;
      stat = λ k. get_or m.cells.stat k (pos plan.sizes.jobs);
      trans = λ k. get_or m.cells.trans k 0;
      bank = λ b. get_or m.cells.bank b 0;
      numblks = λ k. get_or m.cells.numblks k 0;
      addrlist = in_row m.addrlist;
      oldlist = in_row m.oldlist;
      newlist = in_row m.newlist;
      blk = λ b i. get_or m.store (b * plan.sizes.words + i) 0;
    }

-- "Word w seen through the bank is word w mod S of block number Bank[w div S]": the words of block b, seen so.
abbrev pub seen : Plan → Machine → ℕ → List ℕ
seen plan m b = block_in plan.sizes.words m.store ((shared_in plan m).bank b)

-- Job k's working record.
abbrev pub work_of : Machine → ℕ → Working
work_of m k = get_or m.jobs k no_work

-- Where the blocks of the opening memory begin: behind the N times C copy blocks.
abbrev pub copy_blocks : Plan → ℕ
copy_blocks plan = plan.sizes.jobs * plan.sizes.copies

-- "The store holds up to 2,304 words, zero until the opening memory is put in", at NC times S.
abbrev pub opening_store : Plan → List ℕ
opening_store plan =
    paste (replicate 2304 0) (copy_blocks plan * plan.sizes.words) plan.words (length plan.words)

-- "Opening: V is (0, false); every announcement Ann is N; every status is N, and Stat[N] is N always; Bank[k] is
-- NC + k; job p's copy list is pC to pC + C − 1." The rows are empty.
unfoldable pub opening_of : Plan → Machine
opening_of plan =
    record {
      cells =
          record {
            v = record { count = 0; flag = false };
            ann = replicate 8 plan.sizes.jobs;
            stat = replicate 17 (pos plan.sizes.jobs);
            trans = replicate 16 0;
            bank = tabulate 16 (λ k. copy_blocks plan + k);
            numblks = replicate 16 0;
          };
      jobs = tabulate 16 (λ p. opening (tabulate 8 (λ i. p * plan.sizes.copies + i)));
      store = opening_store plan;
      addrlist = replicate 16 (replicate 16 0);
      oldlist = replicate 16 (replicate 16 0);
      newlist = replicate 16 (replicate 16 0);
    }

-- The machine with other cells.
abbrev pub with_cells : Cells → Machine → Machine
with_cells c m =
    record {
      cells = c;
      jobs = m.jobs;
      store = m.store;
      addrlist = m.addrlist;
      oldlist = m.oldlist;
      newlist = m.newlist;
    }

-- The machine with another working record of job k.
abbrev pub with_work : ℕ → Working → Machine → Machine
with_work k w m =
    record {
      cells = m.cells;
      jobs = set m.jobs k w;
      store = m.store;
      addrlist = m.addrlist;
      oldlist = m.oldlist;
      newlist = m.newlist;
    }

-- The machine with another store.
abbrev pub with_store : List ℕ → Machine → Machine
with_store words m =
    record {
      cells = m.cells;
      jobs = m.jobs;
      store = words;
      addrlist = m.addrlist;
      oldlist = m.oldlist;
      newlist = m.newlist;
    }

-- The machine with the address a and the old number b at place i of job k's row.
abbrev pub with_listed : ℕ → ℕ → ℕ → ℕ → Machine → Machine
with_listed k i a b m =
    record {
      cells = m.cells;
      jobs = m.jobs;
      store = m.store;
      addrlist = set m.addrlist k (set (get_or m.addrlist k []) i a);
      oldlist = set m.oldlist k (set (get_or m.oldlist k []) i b);
      newlist = m.newlist;
    }

-- The machine with new numbers in the first places of job k's row.
abbrev pub with_new : ℕ → List ℕ → Machine → Machine
with_new k bs m =
    record {
      cells = m.cells;
      jobs = m.jobs;
      store = m.store;
      addrlist = m.addrlist;
      oldlist = m.oldlist;
      newlist = set m.newlist k (in_first_places bs (get_or m.newlist k []));
    }

-- The numbers, in the run of the record w, of the blocks that job k's row lists.
abbrev pub new_numbers : Machine → ℕ → Working → List ℕ
new_numbers m k w = tabulate w.numblks (λ i. get_or w.curr (in_row m.addrlist k i) 0)

-- A store of job p, whose record is w, carried out.
unfoldable pub stored : Plan → ℕ → Working → Store → Machine → Machine
stored plan p w Store.Nothing m = m
stored plan p w (Store.Version n f) m = with_cells (with_v (record { count = n; flag = f }) m.cells) m
stored plan p w (Store.Ann r k) m = with_cells (with_ann r k m.cells) m
stored plan p w (Store.Stat k x) m = with_cells (with_stat k x m.cells) m
stored plan p w (Store.Trans k u) m = with_cells (with_trans k u m.cells) m
stored plan p w (Store.Listed i a b) m = with_listed p i a b m
stored plan p w (Store.Block from to) m =
    with_store
    (paste m.store (to * plan.sizes.words) (drop (from * plan.sizes.words) m.store) plan.sizes.words)
    m
stored plan p w (Store.Word b i x) m = with_store (set m.store (b * plan.sizes.words + i) x) m
stored plan p w Store.Published m = with_cells (with_numblks p w.numblks m.cells) (with_new p (new_numbers m p w) m)
stored plan p w (Store.Bank b n) m = with_cells (with_bank b n m.cells) m

-- What an item gave, for job p: its next record where it is kept, and the store.
unfoldable pub carried_out : Plan → ℕ → Out → Machine → Machine
carried_out plan p o m = stored plan p o.work o.store (with_work p o.work m)

-- What the item that job p stands before gives.
unfoldable pub item_of : Plan → Machine → ℕ → Out
item_of plan m p = item plan (shared_in plan m) p (work_of m p).place (work_of m p)
