-- Of no kind are more cases counted than bytes were passed, and the bytes that are left are fewer each time.
use Rattle.std.proofs.Common.{length, ◌-◌, ◌≤◌}
use Rattle.vectors_agreement.specs.LowTally.{AllLow}
use Rattle.vectors.proofs.run_pack.Given as goal

abbrev pub invariant-loop-rest : goal.invariant-loop-rest
invariant-loop-rest g l =
    (length l.rest ≤ length l.pack) × AllLow l.tallies (length l.pack - length l.rest)

abbrev pub decreases-loop-rest : goal.decreases-loop-rest
decreases-loop-rest g l = length l.rest
