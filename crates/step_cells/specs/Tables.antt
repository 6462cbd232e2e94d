-- The machine that the tables and the jobs' registers are. Tables, Own and Registers are declared in src/lib.rt.
-- Assumes nothing.
use Rattle.std.specs.Prelude.{ℕ, ◌≡◌, false, List, [], pos, length, get_or, replicate, None}
use Rattle.spec_format.specs.Plan.{Plan, tabulate}
use Rattle.spec_machine.specs.declared.Place.{Place}
use Rattle.spec_machine.specs.declared.Working.{Working}
use Rattle.spec_machine.specs.declared.Cells.{Cells}
use Rattle.spec_machine.specs.Steps.{Shared}
use Rattle.spec_machine.specs.Machine.{Machine, shared_in}
use Rattle.step_cells.specs.declared.Registers.{Registers}
use Rattle.step_cells.specs.declared.Own.{Own}
use Rattle.step_cells.specs.declared.Tables.{Tables}

-- Nothing of a job's own.
abbrev pub no_own : Own
no_own = record { dirty = replicate 16 0; curr = replicate 16 0; copy = replicate 8 0; update = 0 }

-- Job p's own.
abbrev pub own_of : Tables → ℕ → Own
own_of x p = get_or x.own p no_own

-- Tables in which nothing stands yet.
abbrev pub blank_tables : Tables
blank_tables =
    record {
      v = record { count = 0; flag = false };
      ann = replicate 8 0;
      stat = replicate 17 (pos 0);
      trans = replicate 16 0;
      bank = replicate 16 0;
      numblks = replicate 16 0;
      own = replicate 16 no_own;
      rows =
          record {
            addr = replicate 16 (replicate 16 0);
            old = replicate 16 (replicate 16 0);
            new = replicate 16 (replicate 16 0);
          };
      store = replicate 2304 0;
      book =
          record {
            entries = 0;
            halt = None;
            other = None;
            running = replicate 8 None;
            active = replicate 16 false;
            commits = record { items = [] };
          };
    }

-- The arrays of a job's own have the lengths of their types.
pub record OwnWhole (o : Own) : Type 0 where
  pub dirty : length o.dirty ≡ 16
  pub curr : length o.curr ≡ 16
  pub copy : length o.copy ≡ 8

-- The arrays of the tables, but for the rows, have the lengths of their types.
pub record Whole (x : Tables) : Type 0 where
  pub ann : length x.ann ≡ 8
  pub stat : length x.stat ≡ 17
  pub trans : length x.trans ≡ 16
  pub bank : length x.bank ≡ 16
  pub numblks : length x.numblks ≡ 16
  pub own : length x.own ≡ 16
  pub owns : (p : ℕ) → OwnWhole (own_of x p)
  pub store : length x.store ≡ 2304
  pub running : length x.book.running ≡ 8
  pub active : length x.book.active ≡ 16

-- The shared cells.
abbrev pub cells_of : Tables → Cells
cells_of x =
    record { v = x.v; ann = x.ann; stat = x.stat; trans = x.trans; bank = x.bank; numblks = x.numblks }

-- The working record of a job's own part and its registers.
abbrev pub work_with : Own → Registers → Working
work_with o w =
    record {
      place = w.place;
      update = o.update;
      round = w.round;
      lid = w.lid;
      hid = w.hid;
      wid = w.wid;
      ver = w.ver;
      next = w.next;
      tr = w.tr;
      index = w.index;
      access = w.access;
      word = w.word;
      numblks = w.numblks;
      dirtycnt = w.dirtycnt;
      dirty = o.dirty;
      curr = o.curr;
      copy = o.copy;
      j = w.j;
      addr = w.addr;
      old = w.old;
      new = w.new;
    }

-- Registers at the opening.
abbrev pub idle : Registers
idle =
    record {
      place = Place.Idle;
      round = 0;
      lid = 0;
      hid = 0;
      wid = pos 0;
      ver = record { count = 0; flag = false };
      next = false;
      tr = 0;
      index = 0;
      access = 0;
      word = 0;
      numblks = 0;
      dirtycnt = 0;
      j = 0;
      addr = 0;
      old = 0;
      new = 0;
    }

-- Every job's working record.
unfoldable pub works_of : List Own → List Registers → List Working
works_of os ws = tabulate 16 (λ k. work_with (get_or os k no_own) (get_or ws k idle))

-- The machine that the tables are with the jobs' registers.
abbrev pub machine_of : Tables → List Registers → Machine
machine_of x ws =
    record {
      cells = cells_of x;
      jobs = works_of x.own ws;
      store = x.store;
      addrlist = x.rows.addr;
      oldlist = x.rows.old;
      newlist = x.rows.new;
    }

-- The shared cells as an item reads them; the jobs' records are no part of them.
abbrev pub shared_of : Plan → Tables → Shared
shared_of plan x = shared_in plan (machine_of x [])
