-- A fact of whatever is read from a list, what is read past its end too: which lists have it, and what keeps it. The
-- ranges of the machine's numbers need it of numbers below a bound. Assumes nothing.
use Prim.Native.Nat.{ℕ, zero, suc, ◌+◌, ◌<◌}
use mathlib.Core.List.{List, [], ◌∷◌, ◌++◌}
use native.Mathlib.Omega.{arith}
use lib.Dec.{eqb}
use lib.ListN.{length, get_or, set, drop, replicate}
use lib.Seq.{get_or-drop}
use Rattle.spec_text.specs.FirstPlaces.{in_first_places}
use Rattle.spec_format.specs.Plan.{tabulate}
use Rattle.spec_machine.specs.Steps.{replaced}
use Rattle.spec_machine.proofs.Tests.{either}

-- A fact of whatever is read from a list, where d is read past its end.
abbrev pub Every : {A : Type 0} → (A → Type 0) → A → List A → Type 0
Every P d l = (i : ℕ) → P (get_or l i d)

module _ {A : Type 0} (P : A → Type 0) (d : A) where
  -- It is kept by a store of an element of which it holds.
  pub every_set : (l : List A) (k : ℕ) (a : A) → Every P d l → P a → Every P d (set l k a)
  every_set [] k a h x i = h i
  every_set (y ∷ l) zero a h x zero = x
  every_set (y ∷ l) zero a h x (suc i) = h (suc i)
  every_set (y ∷ l) (suc k) a h x zero = h zero
  every_set (y ∷ l) (suc k) a h x (suc i) = every_set l k a (λ j. h (suc j)) x i

  -- It holds of two lists in a row where it holds of both.
  every_append : (xs ys : List A) → Every P d xs → Every P d ys → Every P d (xs ++ ys)
  every_append [] ys h g i = g i
  every_append (x ∷ xs) ys h g zero = h zero
  every_append (x ∷ xs) ys h g (suc i) = every_append xs ys (λ j. h (suc j)) g i

  -- It is kept where the first elements are left out.
  every_drop : (n : ℕ) (l : List A) → Every P d l → Every P d (drop n l)
  every_drop n l h i = rw (get_or-drop n l i d) (h (n + i))

  -- It holds of whatever is read past the end with another element of which it holds.
  pub every-other : (e : A) (l : List A) → Every P d l → P e → Every P e l
  every-other e [] h x i = x
  every-other e (y ∷ l) h x zero = h zero
  every-other e (y ∷ l) h x (suc i) = every-other e l (λ j. h (suc j)) x i

  module _ (x : P d) where
    -- It holds of a list of one element of which it holds.
    every_one : (a : A) → P a → Every P d (a ∷ [])
    every_one a h zero = h
    every_one a h (suc i) = x

    -- It holds of a table where it holds of what stands there.
    pub every-tabulate : (n : ℕ) (f : ℕ → A) → ((i : ℕ) → i < n → P (f i)) → Every P d (tabulate n f)
    every-tabulate zero f h = λ i. x
    every-tabulate (suc n) f h =
        every_append (tabulate n f) (f n ∷ []) (every-tabulate n f (λ i l. h i (omega arith)))
        (every_one (f n) (h n (omega arith)))

    -- It holds of a list of one element only where it holds of that.
    pub every-replicate : (n : ℕ) (a : A) → P a → Every P d (replicate n a)
    every-replicate zero a h i = x
    every-replicate (suc n) a h zero = h
    every-replicate (suc n) a h (suc i) = every-replicate n a h i

-- Numbers below a bound.
abbrev pub Below : ℕ → List ℕ → Type 0
Below b = Every (λ x. x < b) 0

-- Numbers below a bound in the first places of such a list.
pub below-first : (b : ℕ) (ns l : List ℕ) → Below b ns → Below b l → Below b (in_first_places ns l)
below-first b ns l h g =
    every_append (λ x. x < b) 0 ns (drop (length ns) l) h (every_drop (λ x. x < b) 0 (length ns) l g)

-- The replaced numbers are below a bound of the row's old numbers.
pub below-replaced :
    (b : ℕ) → 0 < b → (addr old : ℕ → ℕ) (dirty : List ℕ) (n : ℕ) → ((i : ℕ) → old i < b)
    → Below b (replaced addr old dirty n)
below-replaced b some addr old dirty zero h = λ i. some
below-replaced b some addr old dirty (suc n) h =
    every_append (λ x. x < b) 0 (replaced addr old dirty n) _ (below-replaced b some addr old dirty n h)
    (either (Below b) (eqb (get_or dirty (addr n) 0) 2) _ _ (every_one (λ x. x < b) 0 some (old n) (h n)) (λ i. some))

-- Rows of numbers below a bound.
abbrev pub RowsBelow : ℕ → List (List ℕ) → Type 0
RowsBelow b = Every (Below b) []

-- Another row of such numbers.
pub row-set :
    (b : ℕ) (rows : List (List ℕ)) (k : ℕ) (row : List ℕ) → RowsBelow b rows → Below b row
    → RowsBelow b (set rows k row)
row-set b rows k row = every_set (Below b) [] rows k row

-- Another such number in a row.
pub place_set :
    (b : ℕ) (rows : List (List ℕ)) (k i a : ℕ) → RowsBelow b rows → a < b
    → RowsBelow b (set rows k (set (get_or rows k []) i a))
place_set b rows k i a h l = row-set b rows k _ h (every_set (λ x. x < b) 0 (get_or rows k []) i a (h k) l)
