-- `blank` meets its contract: every array holds one value throughout, and no commit stands. Assumes nothing.
use Rattle.std.proofs.Common.{ap, List}
use Rattle.step_cells.specs.declared.Commit.{Commit}
use Rattle.step_cells.specs.declared.Tables.{Tables}
use Rattle.step_cells.specs.Tables.{blank_tables}
use Rattle.step_cells.proofs.Tables.blank.Goals as goal

-- Blank tables with these commits.
with_commits : List Commit → Tables
with_commits commits =
    let b = blank_tables in
    record {
      v = b.v;
      ann = b.ann;
      stat = b.stat;
      trans = b.trans;
      bank = b.bank;
      numblks = b.numblks;
      own = b.own;
      rows = b.rows;
      store = b.store;
      book =
          record {
            entries = 0;
            halt = b.book.halt;
            other = b.book.other;
            running = b.book.running;
            active = b.book.active;
            commits = record { items = commits };
          };
    }

pub returns : goal.returns
unfolding with_commits
returns c = ap with_commits c.new.ensures
