use Rattle.std.proofs.Common.{◌≡◌, ◌<◌, ℕ, Some}
use Rattle.step_cells.specs.Book.{first_on}
use Rattle.run_active_jobs.proofs.first_on.Given as goal

abbrev pub invariant-loop-k : goal.invariant-loop-k
invariant-loop-k l =
    record {
      looked_at : (b : ℕ) → l.best ≡ Some b → b < l.k;
      value : l.best ≡ first_on l.plan l.active l.card l.k;
    }
