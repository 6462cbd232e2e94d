-- The parts that a loop writes one by one. Assumes nothing.
use Prim.Native.Nat.{ℕ, zero, suc, ◌≤◌}
use mathlib.Core.Path.{◌≡◌, sym}
use mathlib.Core.List.{List, [], ◌∷◌, ◌++◌, append-nil, append_assoc}
use native.Mathlib.Omega.{arith}
use lib.ListN.{length, get_or, take}
use Rattle.spec_report.specs.Report.{joined}

-- The parts in order: the first, and those behind it.
joined-first : (n : ℕ) (f : ℕ → List ℕ) → joined (suc n) f ≡ f 0 ++ joined n (λ i. f (suc i))
joined-first zero f = sym (append-nil (f 0))
joined-first (suc n) f = rw (joined-first n f) (append_assoc (f 0) (joined n (λ i. f (suc i))) (f (suc n)))

-- What goes through a list from its start, and ends with e, is joined of the list's elements.
pub joined_of : {A : Type 0} (g : List A → List ℕ) (f : A → List ℕ) (e : List ℕ) (d : A)
    → g [] ≡ e
    → ((x : A) (xs : List A) → g (x ∷ xs) ≡ f x ++ g xs)
    → (n : ℕ) (xs : List A) → n ≤ length xs
    → joined n (λ i. f (get_or xs i d)) ++ e ≡ g (take n xs)
joined_of g f e d none one zero xs h = sym none
joined_of g f e d none one (suc n) [] h = absurd (omega arith)
joined_of g f e d none one (suc n) (x ∷ xs) h =
    rw (joined-first n (λ i. f (get_or (x ∷ xs) i d)), append_assoc (f x) (joined n (λ i. f (get_or xs i d))) e)
    (rw (joined_of g f e d none one n xs (omega arith)) (sym (one x (take n xs))))
