-- Registers at a line of a row. Assumes nothing.
use Rattle.std.specs.Prelude.{ℕ}
use Rattle.step_cells.specs.declared.Registers.{Registers}

-- With the address, the old and the new number that H38 reads.
abbrev pub at_line : ℕ → ℕ → ℕ → Registers → Registers
at_line addr old new w =
    record {
      place = w.place;
      round = w.round;
      lid = w.lid;
      hid = w.hid;
      wid = w.wid;
      ver = w.ver;
      next = w.next;
      tr = w.tr;
      index = w.index;
      access = w.access;
      word = w.word;
      numblks = w.numblks;
      dirtycnt = w.dirtycnt;
      j = w.j;
      addr = addr;
      old = old;
      new = new;
    }
