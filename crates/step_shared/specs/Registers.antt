-- Registers on to another place, and the effects that items give. Assumes nothing.
use Rattle.std.specs.Prelude.{true, false}
use Rattle.spec_machine.specs.declared.Place.{Place}
use Rattle.step_cells.specs.declared.Registers.{Registers}
use Rattle.step_cells.specs.declared.Change.{Change}
use Rattle.step_cells.specs.declared.Effect.{Effect}

-- On to a place.
abbrev pub goto : Place → Registers → Registers
goto a w =
    record {
      place = a;
      round = w.round;
      lid = w.lid;
      hid = w.hid;
      wid = w.wid;
      ver = w.ver;
      next = w.next;
      tr = w.tr;
      index = w.index;
      access = w.access;
      word = w.word;
      numblks = w.numblks;
      dirtycnt = w.dirtycnt;
      j = w.j;
      addr = w.addr;
      old = w.old;
      new = w.new;
    }

-- An item that changes no table.
abbrev pub quiet : Registers → Effect
quiet w = record { registers = w; change = Change.Nothing; done = false }

-- An item that changes a table.
abbrev pub storing : Change → Registers → Effect
storing s w = record { registers = w; change = s; done = false }

-- H25, H41 or H42 done: its condition holds, and it changes a table.
abbrev pub doing : Change → Registers → Effect
doing s w = record { registers = w; change = s; done = true }
