use Rattle.std.proofs.Common.{◌≡◌, ℕ, ◌<◌, length, get_or}
use Rattle.run_opening.proofs.put_words.Given as goal

abbrev pub invariant-loop-k : goal.invariant-loop-k
invariant-loop-k l =
    record {
      long : length l.part ≡ length l.words;
      filled : (k : ℕ) → k < l.k → get_or l.part k 0 ≡ get_or l.words k 0;
    }
