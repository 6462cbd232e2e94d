use Rattle.std.proofs.Common.{◌≡◌, ℕ, ◌+◌, ◌<◌, length, get_or}
use Rattle.run_opening.proofs.open_bank.Given as goal

abbrev pub invariant-loop-k : goal.invariant-loop-k
invariant-loop-k l =
    record { long : length l.bank ≡ 16; filled : (k : ℕ) → k < l.k → get_or l.bank k 0 ≡ l.copies + k }
