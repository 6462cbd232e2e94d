use Rattle.std.proofs.Common.{◌≡◌, length, get_or}
use Rattle.spec_machine.specs.Steps.{replaced}
use Rattle.step_cells.specs.Effects.{reclaiming}
use Rattle.run_changes.proofs.reclaim.Given as goal

abbrev pub invariant-loop-i : goal.invariant-loop-i
invariant-loop-i l =
    record {
      room : length l.initial.own.copy ≡ 8;
      used : l.used ≡ length (replaced (λ k. get_or l.addr k 0) (λ k. get_or l.old k 0) l.initial.own.dirty l.i);
      own : l.own ≡ reclaiming (λ k. get_or l.addr k 0) (λ k. get_or l.old k 0) l.i l.initial.own;
    }
