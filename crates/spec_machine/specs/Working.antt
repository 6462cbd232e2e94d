-- A job's working record: at the opening, and with the changes that the step list makes, each the record built anew.
-- Working is declared in src/lib.rt. Assumes nothing.
use Rattle.std.specs.Prelude.{ℕ, ◌+◌, Bool, false, List, [], ℤ, pos, set, replicate}
use Rattle.spec_machine.specs.declared.Place.{Place}
use Rattle.spec_machine.specs.declared.Version.{Version}
use Rattle.spec_machine.specs.declared.Working.{Working}

-- A record of a job that is not active and was never called, with these marks, numbers and copy list.
abbrev pub unused : List ℕ → List ℕ → List ℕ → Working
unused dirty curr copy =
    record {
      place = Place.Idle;
      update = 0;
      round = 0;
      lid = 0;
      hid = 0;
      wid = pos 0;
      ver = record { count = 0; flag = false };
      next = false;
      tr = 0;
      index = 0;
      access = 0;
      word = 0;
      numblks = 0;
      dirtycnt = 0;
      dirty = dirty;
      curr = curr;
      copy = copy;
      j = 0;
      addr = 0;
      old = 0;
      new = 0;
    }

-- What stands for a record where there is no such job.
abbrev pub no_work : Working
no_work = unused [] [] []

-- A job's record at the opening, with its copy list: no block is marked.
abbrev pub opening : List ℕ → Working
opening copy = unused (replicate 16 0) (replicate 16 0) copy

-- On to a place.
abbrev pub goto : Place → Working → Working
goto a w =
    record {
      place = a;
      update = w.update;
      round = w.round;
      lid = w.lid;
      hid = w.hid;
      wid = w.wid;
      ver = w.ver;
      next = w.next;
      tr = w.tr;
      index = w.index;
      access = w.access;
      word = w.word;
      numblks = w.numblks;
      dirtycnt = w.dirtycnt;
      dirty = w.dirty;
      curr = w.curr;
      copy = w.copy;
      j = w.j;
      addr = w.addr;
      old = w.old;
      new = w.new;
    }

-- Called with an update: active at A1.
abbrev pub called : ℕ → Working → Working
called u w =
    record {
      place = Place.A1;
      update = u;
      round = w.round;
      lid = w.lid;
      hid = w.hid;
      wid = w.wid;
      ver = w.ver;
      next = w.next;
      tr = w.tr;
      index = w.index;
      access = w.access;
      word = w.word;
      numblks = w.numblks;
      dirtycnt = w.dirtycnt;
      dirty = w.dirty;
      curr = w.curr;
      copy = w.copy;
      j = w.j;
      addr = w.addr;
      old = w.old;
      new = w.new;
    }

-- The round.
abbrev pub with_round : ℕ → Working → Working
with_round n w =
    record {
      place = w.place;
      update = w.update;
      round = n;
      lid = w.lid;
      hid = w.hid;
      wid = w.wid;
      ver = w.ver;
      next = w.next;
      tr = w.tr;
      index = w.index;
      access = w.access;
      word = w.word;
      numblks = w.numblks;
      dirtycnt = w.dirtycnt;
      dirty = w.dirty;
      curr = w.curr;
      copy = w.copy;
      j = w.j;
      addr = w.addr;
      old = w.old;
      new = w.new;
    }

-- lid becomes a job or N.
abbrev pub with_lid : ℕ → Working → Working
with_lid k w =
    record {
      place = w.place;
      update = w.update;
      round = w.round;
      lid = k;
      hid = w.hid;
      wid = w.wid;
      ver = w.ver;
      next = w.next;
      tr = w.tr;
      index = w.index;
      access = w.access;
      word = w.word;
      numblks = w.numblks;
      dirtycnt = w.dirtycnt;
      dirty = w.dirty;
      curr = w.curr;
      copy = w.copy;
      j = w.j;
      addr = w.addr;
      old = w.old;
      new = w.new;
    }

-- hid becomes a job or N.
abbrev pub with_hid : ℕ → Working → Working
with_hid k w =
    record {
      place = w.place;
      update = w.update;
      round = w.round;
      lid = w.lid;
      hid = k;
      wid = w.wid;
      ver = w.ver;
      next = w.next;
      tr = w.tr;
      index = w.index;
      access = w.access;
      word = w.word;
      numblks = w.numblks;
      dirtycnt = w.dirtycnt;
      dirty = w.dirty;
      curr = w.curr;
      copy = w.copy;
      j = w.j;
      addr = w.addr;
      old = w.old;
      new = w.new;
    }

-- wid becomes a status.
abbrev pub with_wid : ℤ → Working → Working
with_wid x w =
    record {
      place = w.place;
      update = w.update;
      round = w.round;
      lid = w.lid;
      hid = w.hid;
      wid = x;
      ver = w.ver;
      next = w.next;
      tr = w.tr;
      index = w.index;
      access = w.access;
      word = w.word;
      numblks = w.numblks;
      dirtycnt = w.dirtycnt;
      dirty = w.dirty;
      curr = w.curr;
      copy = w.copy;
      j = w.j;
      addr = w.addr;
      old = w.old;
      new = w.new;
    }

-- ver becomes a value of V.
abbrev pub with_ver : Version → Working → Working
with_ver v w =
    record {
      place = w.place;
      update = w.update;
      round = w.round;
      lid = w.lid;
      hid = w.hid;
      wid = w.wid;
      ver = v;
      next = w.next;
      tr = w.tr;
      index = w.index;
      access = w.access;
      word = w.word;
      numblks = w.numblks;
      dirtycnt = w.dirtycnt;
      dirty = w.dirty;
      curr = w.curr;
      copy = w.copy;
      j = w.j;
      addr = w.addr;
      old = w.old;
      new = w.new;
    }

-- The flag that A12 is to store.
abbrev pub with_next : Bool → Working → Working
with_next f w =
    record {
      place = w.place;
      update = w.update;
      round = w.round;
      lid = w.lid;
      hid = w.hid;
      wid = w.wid;
      ver = w.ver;
      next = f;
      tr = w.tr;
      index = w.index;
      access = w.access;
      word = w.word;
      numblks = w.numblks;
      dirtycnt = w.dirtycnt;
      dirty = w.dirty;
      curr = w.curr;
      copy = w.copy;
      j = w.j;
      addr = w.addr;
      old = w.old;
      new = w.new;
    }

-- An update taken, before its first move: no blocks listed, no copy block used.
abbrev pub taking : ℕ → Working → Working
taking u w =
    record {
      place = w.place;
      update = w.update;
      round = w.round;
      lid = w.lid;
      hid = w.hid;
      wid = w.wid;
      ver = w.ver;
      next = w.next;
      tr = u;
      index = 0;
      access = 0;
      word = w.word;
      numblks = 0;
      dirtycnt = 0;
      dirty = w.dirty;
      curr = w.curr;
      copy = w.copy;
      j = w.j;
      addr = w.addr;
      old = w.old;
      new = w.new;
    }

-- At read or write a of move m.
abbrev pub with_access : ℕ → ℕ → Working → Working
with_access m a w =
    record {
      place = w.place;
      update = w.update;
      round = w.round;
      lid = w.lid;
      hid = w.hid;
      wid = w.wid;
      ver = w.ver;
      next = w.next;
      tr = w.tr;
      index = m;
      access = a;
      word = w.word;
      numblks = w.numblks;
      dirtycnt = w.dirtycnt;
      dirty = w.dirty;
      curr = w.curr;
      copy = w.copy;
      j = w.j;
      addr = w.addr;
      old = w.old;
      new = w.new;
    }

-- The word taken.
abbrev pub with_word : ℕ → Working → Working
with_word x w =
    record {
      place = w.place;
      update = w.update;
      round = w.round;
      lid = w.lid;
      hid = w.hid;
      wid = w.wid;
      ver = w.ver;
      next = w.next;
      tr = w.tr;
      index = w.index;
      access = w.access;
      word = x;
      numblks = w.numblks;
      dirtycnt = w.dirtycnt;
      dirty = w.dirty;
      curr = w.curr;
      copy = w.copy;
      j = w.j;
      addr = w.addr;
      old = w.old;
      new = w.new;
    }

-- Block k listed with its number b.
abbrev pub listing : ℕ → ℕ → Working → Working
listing k b w =
    record {
      place = w.place;
      update = w.update;
      round = w.round;
      lid = w.lid;
      hid = w.hid;
      wid = w.wid;
      ver = w.ver;
      next = w.next;
      tr = w.tr;
      index = w.index;
      access = w.access;
      word = w.word;
      numblks = w.numblks + 1;
      dirtycnt = w.dirtycnt;
      dirty = set w.dirty k 1;
      curr = set w.curr k b;
      copy = w.copy;
      j = w.j;
      addr = w.addr;
      old = w.old;
      new = w.new;
    }

-- Block k written, its copy the block of number b.
abbrev pub copying : ℕ → ℕ → Working → Working
copying k b w =
    record {
      place = w.place;
      update = w.update;
      round = w.round;
      lid = w.lid;
      hid = w.hid;
      wid = w.wid;
      ver = w.ver;
      next = w.next;
      tr = w.tr;
      index = w.index;
      access = w.access;
      word = w.word;
      numblks = w.numblks;
      dirtycnt = w.dirtycnt + 1;
      dirty = set w.dirty k 2;
      curr = set w.curr k b;
      copy = w.copy;
      j = w.j;
      addr = w.addr;
      old = w.old;
      new = w.new;
    }

-- Every mark cleared.
abbrev pub cleared : Working → Working
cleared w =
    record {
      place = w.place;
      update = w.update;
      round = w.round;
      lid = w.lid;
      hid = w.hid;
      wid = w.wid;
      ver = w.ver;
      next = w.next;
      tr = w.tr;
      index = w.index;
      access = w.access;
      word = w.word;
      numblks = w.numblks;
      dirtycnt = w.dirtycnt;
      dirty = replicate 16 0;
      curr = w.curr;
      copy = w.copy;
      j = w.j;
      addr = w.addr;
      old = w.old;
      new = w.new;
    }

-- The copy list.
abbrev pub with_copy : List ℕ → Working → Working
with_copy bs w =
    record {
      place = w.place;
      update = w.update;
      round = w.round;
      lid = w.lid;
      hid = w.hid;
      wid = w.wid;
      ver = w.ver;
      next = w.next;
      tr = w.tr;
      index = w.index;
      access = w.access;
      word = w.word;
      numblks = w.numblks;
      dirtycnt = w.dirtycnt;
      dirty = w.dirty;
      curr = w.curr;
      copy = bs;
      j = w.j;
      addr = w.addr;
      old = w.old;
      new = w.new;
    }

-- Before the first of the n listed blocks of a row.
abbrev pub with_row : ℕ → Working → Working
with_row n w =
    record {
      place = w.place;
      update = w.update;
      round = w.round;
      lid = w.lid;
      hid = w.hid;
      wid = w.wid;
      ver = w.ver;
      next = w.next;
      tr = w.tr;
      index = w.index;
      access = w.access;
      word = w.word;
      numblks = n;
      dirtycnt = w.dirtycnt;
      dirty = w.dirty;
      curr = w.curr;
      copy = w.copy;
      j = 0;
      addr = w.addr;
      old = w.old;
      new = w.new;
    }

-- What a row has of a block: its address, old and new number.
abbrev pub with_line : ℕ → ℕ → ℕ → Working → Working
with_line a o n w =
    record {
      place = w.place;
      update = w.update;
      round = w.round;
      lid = w.lid;
      hid = w.hid;
      wid = w.wid;
      ver = w.ver;
      next = w.next;
      tr = w.tr;
      index = w.index;
      access = w.access;
      word = w.word;
      numblks = w.numblks;
      dirtycnt = w.dirtycnt;
      dirty = w.dirty;
      curr = w.curr;
      copy = w.copy;
      j = w.j;
      addr = a;
      old = o;
      new = n;
    }

-- On to the next listed block of the row.
abbrev pub next_block : Working → Working
next_block w =
    record {
      place = w.place;
      update = w.update;
      round = w.round;
      lid = w.lid;
      hid = w.hid;
      wid = w.wid;
      ver = w.ver;
      next = w.next;
      tr = w.tr;
      index = w.index;
      access = w.access;
      word = w.word;
      numblks = w.numblks;
      dirtycnt = w.dirtycnt;
      dirty = w.dirty;
      curr = w.curr;
      copy = w.copy;
      j = w.j + 1;
      addr = w.addr;
      old = w.old;
      new = w.new;
    }
