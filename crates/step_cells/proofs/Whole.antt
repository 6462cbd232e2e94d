-- The jobs' own parts stay whole where one of them changes. Assumes nothing.
use Rattle.std.proofs.Common.{ℕ, ◌≡◌, ◌≤◌, ◌<◌, ◌∙◌, arith, List, length, get_or, drop, refl}
use Rattle.std.proofs.Common.{get_or-set_same, get_or-set_other}
use Rattle.std.proofs.Math.ListN.{set, length-set, length-append, length-drop}
use native.Mathlib.Decide.{ℕ_discrete}
use Rattle.spec_machine.specs.Steps.{replaced}
use Rattle.step_cells.specs.declared.Own.{Own}
use Rattle.step_cells.specs.Tables.{no_own, OwnWhole}
use Rattle.step_cells.specs.Effects.{marking, unmarked, reclaiming}

-- A block marked.
pub marking_whole : (b mark number : ℕ) {o : Own} → OwnWhole o → OwnWhole (marking b mark number o)
marking_whole b mark number {o} a =
    record {
      dirty = length-set o.dirty b mark ∙ a.dirty;
      curr = length-set o.curr b number ∙ a.curr;
      copy = a.copy;
    }

-- The marks cleared.
pub unmarked_whole : {o : Own} → OwnWhole o → OwnWhole (unmarked o)
unmarked_whole a = record { dirty = refl; curr = a.curr; copy = a.copy }

-- The replaced numbers reclaimed, where they have room.
pub reclaiming_whole :
    (addr old : ℕ → ℕ) (n : ℕ) {o : Own} → length (replaced addr old o.dirty n) ≤ 8 → OwnWhole o
    → OwnWhole (reclaiming addr old n o)
reclaiming_whole addr old n {o} room a =
    let ns = replaced addr old o.dirty n in
    record {
      dirty = a.dirty;
      curr = a.curr;
      copy = omega (arith, room, a.copy, length-append ns (drop (length ns) o.copy), length-drop (length ns) o.copy);
    }

-- One job's own part stored.
pub owns_set :
    (os : List Own) (p : ℕ) (o : Own) → p < length os → ((q : ℕ) → OwnWhole (get_or os q no_own)) → OwnWhole o
    → (q : ℕ) → OwnWhole (get_or (set os p o) q no_own)
owns_set os p o l all one q = by (ℕ_discrete q p)
  where
    by : Dec (q ≡ p) → OwnWhole (get_or (set os p o) q no_own)
    by (yes e) = rw (e, get_or-set_same os p o no_own l) one
    by (no n) = rw (get_or-set_other os p q o no_own n) (all q)
