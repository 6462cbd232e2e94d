use Rattle.std.proofs.Common.{◌≡◌, length, get_or}
use Rattle.spec_text.specs.FirstPlaces.{in_first_places}
use Rattle.spec_format.specs.Plan.{tabulate}
use Rattle.run_changes.proofs.published.Given as goal

abbrev pub invariant-loop-i : goal.invariant-loop-i
invariant-loop-i l =
    record {
      room : length l.initial.out ≡ 16;
      put : l.out ≡ in_first_places (tabulate l.i (λ k. get_or l.own.curr (get_or l.addr k 0) 0)) l.initial.out;
    }
