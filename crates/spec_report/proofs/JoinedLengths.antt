-- How long parts are that stand one behind the other. Assumes nothing.
use Prim.Native.Nat.{ℕ, zero, suc, ◌+◌, ◌*◌, ◌≤◌, ◌<◌}
use mathlib.Core.List.{List, ◌++◌}
use native.Mathlib.Nat.{suc-mul}
use native.Mathlib.Omega.{arith}
use lib.ListN.{length, length-append}
use Rattle.spec_report.specs.Report.{joined}

-- Two parts in a row, the first of at most m bytes and the second of at most n.
pub append-short : (s t : List ℕ) (m n : ℕ) → length s ≤ m → length t ≤ n → length (s ++ t) ≤ m + n
append-short s t m n h l = omega (arith, length-append s t)

-- What is joined of n parts of at most k bytes each.
pub joined-short :
    (n k : ℕ) (f : ℕ → List ℕ) → ((i : ℕ) → i < n → length (f i) ≤ k) → length (joined n f) ≤ n * k
joined-short zero k f h = omega arith
joined-short (suc n) k f h =
    rw (suc-mul n k)
    (omega (
      arith,
      length-append (joined n f) (f n),
      joined-short n k f (λ i l. h i (omega arith)),
      h n (omega arith),
    ))
