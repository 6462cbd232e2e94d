-- The cells with one of them changed, each the record built anew. Cells is declared in src/lib.rt. Assumes nothing.
use Rattle.std.specs.Prelude.{ℕ, ℤ, set}
use Rattle.spec_machine.specs.declared.Version.{Version}
use Rattle.spec_machine.specs.declared.Cells.{Cells}

-- V becomes a value.
abbrev pub with_v : Version → Cells → Cells
with_v x c =
    record {
      v = x;
      ann = c.ann;
      stat = c.stat;
      trans = c.trans;
      bank = c.bank;
      numblks = c.numblks;
    }

-- Ann[r] becomes a job or N.
abbrev pub with_ann : ℕ → ℕ → Cells → Cells
with_ann r k c =
    record {
      v = c.v;
      ann = set c.ann r k;
      stat = c.stat;
      trans = c.trans;
      bank = c.bank;
      numblks = c.numblks;
    }

-- Stat[k] becomes a status.
abbrev pub with_stat : ℕ → ℤ → Cells → Cells
with_stat k x c =
    record {
      v = c.v;
      ann = c.ann;
      stat = set c.stat k x;
      trans = c.trans;
      bank = c.bank;
      numblks = c.numblks;
    }

-- Trans[k] becomes an update.
abbrev pub with_trans : ℕ → ℕ → Cells → Cells
with_trans k u c =
    record {
      v = c.v;
      ann = c.ann;
      stat = c.stat;
      trans = set c.trans k u;
      bank = c.bank;
      numblks = c.numblks;
    }

-- Bank[b] becomes a block number.
abbrev pub with_bank : ℕ → ℕ → Cells → Cells
with_bank b n c =
    record {
      v = c.v;
      ann = c.ann;
      stat = c.stat;
      trans = c.trans;
      bank = set c.bank b n;
      numblks = c.numblks;
    }

-- The count of job k's row.
abbrev pub with_numblks : ℕ → ℕ → Cells → Cells
with_numblks k n c =
    record {
      v = c.v;
      ann = c.ann;
      stat = c.stat;
      trans = c.trans;
      bank = c.bank;
      numblks = set c.numblks k n;
    }
