use Rattle.std.proofs.Common.{◌≡◌, ℕ, ◌*◌, ◌<◌, length, get_or}
use Rattle.step_cells.specs.Tables.{no_own}
use Rattle.run_opening.specs.Opened.{own_opened}
use Rattle.run_opening.proofs.open_own.Given as goal

abbrev pub invariant-loop-p : goal.invariant-loop-p
invariant-loop-p l =
    record {
      long : length l.own ≡ 16;
      filled : (q : ℕ) → q < l.p → get_or l.own q no_own ≡ own_opened (q * l.copies);
    }
