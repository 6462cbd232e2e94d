-- Tables with one of their parts changed. Tables, Own, Rows and Book are declared in src/lib.rt. Assumes nothing.
use Rattle.std.specs.Prelude.{ℕ, List, ℤ, set}
use Rattle.spec_machine.specs.declared.Version.{Version}
use Rattle.step_cells.specs.declared.Own.{Own}
use Rattle.step_cells.specs.declared.Rows.{Rows}
use Rattle.step_cells.specs.declared.Book.{Book}
use Rattle.step_cells.specs.declared.Tables.{Tables}
use Rattle.step_cells.specs.Tables.{own_of}

-- The tables with this V.
abbrev pub with_v : Version → Tables → Tables
with_v v x =
    record {
      v = v;
      ann = x.ann;
      stat = x.stat;
      trans = x.trans;
      bank = x.bank;
      numblks = x.numblks;
      own = x.own;
      rows = x.rows;
      store = x.store;
      book = x.book;
    }

-- The tables with these announcements.
abbrev pub with_ann : List ℕ → Tables → Tables
with_ann ann x =
    record {
      v = x.v;
      ann = ann;
      stat = x.stat;
      trans = x.trans;
      bank = x.bank;
      numblks = x.numblks;
      own = x.own;
      rows = x.rows;
      store = x.store;
      book = x.book;
    }

-- The tables with these statuses.
abbrev pub with_stat : List ℤ → Tables → Tables
with_stat stat x =
    record {
      v = x.v;
      ann = x.ann;
      stat = stat;
      trans = x.trans;
      bank = x.bank;
      numblks = x.numblks;
      own = x.own;
      rows = x.rows;
      store = x.store;
      book = x.book;
    }

-- The tables with these announced updates.
abbrev pub with_trans : List ℕ → Tables → Tables
with_trans trans x =
    record {
      v = x.v;
      ann = x.ann;
      stat = x.stat;
      trans = trans;
      bank = x.bank;
      numblks = x.numblks;
      own = x.own;
      rows = x.rows;
      store = x.store;
      book = x.book;
    }

-- The tables with this bank.
abbrev pub with_bank : List ℕ → Tables → Tables
with_bank bank x =
    record {
      v = x.v;
      ann = x.ann;
      stat = x.stat;
      trans = x.trans;
      bank = bank;
      numblks = x.numblks;
      own = x.own;
      rows = x.rows;
      store = x.store;
      book = x.book;
    }

-- The tables with these counts of the rows.
abbrev pub with_numblks : List ℕ → Tables → Tables
with_numblks numblks x =
    record {
      v = x.v;
      ann = x.ann;
      stat = x.stat;
      trans = x.trans;
      bank = x.bank;
      numblks = numblks;
      own = x.own;
      rows = x.rows;
      store = x.store;
      book = x.book;
    }

-- The tables with these jobs' own parts.
abbrev pub with_own : List Own → Tables → Tables
with_own own x =
    record {
      v = x.v;
      ann = x.ann;
      stat = x.stat;
      trans = x.trans;
      bank = x.bank;
      numblks = x.numblks;
      own = own;
      rows = x.rows;
      store = x.store;
      book = x.book;
    }

-- The tables with these rows.
abbrev pub with_rows : Rows → Tables → Tables
with_rows rows x =
    record {
      v = x.v;
      ann = x.ann;
      stat = x.stat;
      trans = x.trans;
      bank = x.bank;
      numblks = x.numblks;
      own = x.own;
      rows = rows;
      store = x.store;
      book = x.book;
    }

-- The tables with this store.
abbrev pub with_store : List ℕ → Tables → Tables
with_store store x =
    record {
      v = x.v;
      ann = x.ann;
      stat = x.stat;
      trans = x.trans;
      bank = x.bank;
      numblks = x.numblks;
      own = x.own;
      rows = x.rows;
      store = store;
      book = x.book;
    }

-- The tables with this book.
abbrev pub with_book : Book → Tables → Tables
with_book book x =
    record {
      v = x.v;
      ann = x.ann;
      stat = x.stat;
      trans = x.trans;
      bank = x.bank;
      numblks = x.numblks;
      own = x.own;
      rows = x.rows;
      store = x.store;
      book = book;
    }

-- The tables with what f makes of job p's own.
abbrev pub with_own_of : ℕ → (Own → Own) → Tables → Tables
with_own_of p f x = with_own (set x.own p (f (own_of x p))) x
