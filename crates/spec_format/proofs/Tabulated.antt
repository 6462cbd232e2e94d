-- Lists made by `tabulate`: how long they are, what stands at a place, and when two are the same. Assumes nothing.
use Prim.Native.Nat.{ℕ, zero, suc, ◌+◌, ◌<◌}
use mathlib.Core.Path.{◌≡◌, refl, sym, ◌∙◌, ap}
use mathlib.Core.List.{[], ◌∷◌, ◌++◌}
use native.Mathlib.Decide.{ℕ_discrete}
use native.Mathlib.Numerals.{add-one}
use native.Mathlib.Omega.{arith}
use lib.ListN.{length, get_or, length-append, get_or-append}
use lib.Seq.{get_or_at}
use Rattle.spec_format.specs.Plan.{tabulate}

-- A tabulated list has its length.
pub length-tabulate : {A : Type 0} (n : ℕ) (f : ℕ → A) → length (tabulate n f) ≡ n
length-tabulate zero f = refl
length-tabulate (suc n) f = omega (arith, length-append (tabulate n f) (f n ∷ []), length-tabulate n f)

-- A tabulated list, read at a place that it has.
pub get_d_tabulate : {A : Type 0} (n : ℕ) (f : ℕ → A) (d : A) (i : ℕ) → i < n → get_or (tabulate n f) i d ≡ f i
get_d_tabulate zero f d i h = absurd (omega arith)
get_d_tabulate (suc n) f d i h = go (ℕ_discrete i n) (λ m. get_d_tabulate n f d i m)
  where
    go : Dec (i ≡ n) → (i < n → get_or (tabulate n f) i d ≡ f i) → get_or (tabulate (suc n) f) i d ≡ f i
    go (yes e) before = get_or_at (tabulate n f) (f n) [] d i (length-tabulate n f ∙ sym e) ∙ ap f (sym e)
    go (no c) before =
        let m : i < n = omega arith in
        get_or-append (tabulate n f) (f n ∷ []) d i (rw (length-tabulate n f) m) ∙ before m

-- Two tabulated lists are the same where their elements are.
pub tabulate-same : {A : Type 0} (n : ℕ) (f g : ℕ → A) → ((i : ℕ) → i < n → f i ≡ g i) → tabulate n f ≡ tabulate n g
tabulate-same zero f g h = refl
tabulate-same (suc n) f g h = rw (tabulate-same n f g (λ i l. h i (omega arith)), h n (omega arith))

-- A tabulated list with one more element behind those of another.
pub tabulate-more : {A : Type 0} (n : ℕ) (f g : ℕ → A) (x : A) → ((i : ℕ) → i < n → f i ≡ g i) → g n ≡ x
    → tabulate (n + 1) g ≡ tabulate n f ++ (x ∷ [])
tabulate-more n f g x h e = rw (add-one, tabulate-same n f g h, e)
