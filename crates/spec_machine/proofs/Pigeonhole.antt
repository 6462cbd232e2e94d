-- Counting: as many different numbers below n as there are numbers below n are all of them. Hence the bank and the copy
-- lists, which hold B + NC different block numbers, hold every block number. Assumes Stock for that.
--
-- A list of different numbers below n + 1 has at most one more than the same list without n, and what is left is below
-- n: so it has at most n + 1. Where a list of different numbers below n lacks one, that number can be added: so the
-- list has fewer than n. A run lists no block twice: so where it has not listed one, it lists fewer than all. The
-- values of a function that maps the numbers below n into themselves, no two to one, are n different numbers below n,
-- so none is missing. Such a function gives the number at each place of the copy lists and the bank, where number i of
-- job q's copy list has place q C + i, and block k has place N C + k.
use Prim.Native.Nat.{ℕ, zero, suc, ◌+◌, ◌*◌, ◌-◌, ◌/◌, ◌%◌, ◌≤◌, ◌<◌}
use native.Mathlib.Omega.{arith}
use native.Mathlib.Nat.{div-add-mod', mod-lt, div-lt_iff_lt-mul, mul-zero, sub-lt_left_of_lt-add, add-sub_of_le}
use mathlib.Core.Path.{◌≡◌, refl, sym, ◌∙◌, ap}
use mathlib.Core.Logic.{◌≢◌, ◌⊎◌, inl, inr}
use mathlib.Core.Bool.{Bool, true, false, cond, not, ◌||◌, true≢false, false≢true}
use mathlib.Core.List.{List, [], ◌∷◌}
use lib.Dec.{eqb, ltb}
use lib.ListN.{length}
use borrow.Author.Tests.{eqb-true, eq-eqb, ltb-true, ltb-false}
use Rattle.spec_format.specs.Plan.{is_in}
use Rattle.spec_machine.specs.Selected.{select}
use Rattle.spec_machine.proofs.SmallSteps.{Attempt, Layout}
use Rattle.spec_machine.proofs.Attempts.{NoDup, NoDup.nil, NoDup.cons, stock, Stock, Own}
use Rattle.spec_machine.proofs.Settling.{listed-place, selected-at, nodup-select}

-- Whether a number is not n.
unfoldable other : ℕ → ℕ → Bool
other n k = not (eqb k n)

-- What passes the test is not n.
other-true : (n k : ℕ) → other n k ≡ true → k ≢ n
unfolding other
other-true n k e z = false≢true (sym (rw (eq-eqb k n z)) ∙ e)

-- A list that does not have n loses nothing by the test.
keeps-all : (n : ℕ) (ks : List ℕ) → is_in n ks ≡ false → select (other n) ks ≡ ks
unfolding other
keeps-all n [] f = refl
keeps-all n (x ∷ xs) f = go (eqb x n) f (keeps-all n xs)
  where
    go : (b : Bool) → (b || is_in n xs) ≡ false → (is_in n xs ≡ false → select (other n) xs ≡ xs)
        → cond (not b) (x ∷ select (other n) xs) (select (other n) xs) ≡ x ∷ xs
    go true g ih = absurd (true≢false g)
    go false g ih = ap (λ l. x ∷ l) (ih g)

-- A list of different numbers loses at most one by the test.
loses-one : (n : ℕ) (ks : List ℕ) → NoDup ks → length ks ≤ suc (length (select (other n) ks))
unfolding other
loses-one n [] nil = omega arith
loses-one n (x ∷ xs) (cons m d) = go (eqb x n) refl (loses-one n xs d)
  where
    go : (b : Bool) → eqb x n ≡ b → length xs ≤ suc (length (select (other n) xs))
        → length (x ∷ xs) ≤ suc (length (cond (not b) (x ∷ select (other n) xs) (select (other n) xs)))
    go true e ih = rw (keeps-all n xs (rw (← eqb-true x n e) m)) (omega arith)
    go false e ih = omega arith

-- What is selected passes the test, and is in the list.
selected-in :
    (w : ℕ → Bool) (ks : List ℕ) (k : ℕ) → is_in k (select w ks) ≡ true → (w k ≡ true) × (is_in k ks ≡ true)
selected-in w ks k m =
    let x = listed-place (select w ks) k m in rw x.2 at (selected-at w ks x.0 x.1)

-- Different numbers below n are at most n.
pub at_most : (n : ℕ) (ks : List ℕ) → NoDup ks → ((k : ℕ) → is_in k ks ≡ true → k < n) → length ks ≤ n
at_most zero [] d all = omega arith
at_most zero (x ∷ xs) d all = let h : x < 0 = all x (rw (eq-eqb x x refl)) in absurd (omega arith)
at_most (suc n) ks d all =
    omega
    (arith, loses-one n ks d, at_most n (select (other n) ks) (nodup-select (other n) ks d) below)
  where
    -- what is left is below n
    below : (k : ℕ) → is_in k (select (other n) ks) ≡ true → k < n
    below k m =
        let s = selected-in (other n) ks k m in
        let h : k < suc n = all k s.1 in
        let ne : k ≢ n = other-true n k s.0 in
        omega arith

-- Where a number below n is missing, they are fewer than n.
fewer :
    (n : ℕ) (ks : List ℕ) → NoDup ks → ((k : ℕ) → is_in k ks ≡ true → k < n) → (k : ℕ) → k < n → is_in k ks ≡ false
    → length ks < n
fewer n ks d all k hk f = omega (arith, at_most n (k ∷ ks) (cons f d) more)
  where
    -- with the missing number added, all are below n
    more : (l : ℕ) → is_in l (k ∷ ks) ≡ true → l < n
    more l = go (eqb k l) refl
      where
        go : (b : Bool) → eqb k l ≡ b → (b || is_in l ks) ≡ true → l < n
        go true e m = rw (← eqb-true k l e) hk
        go false e m = all l m

-- A run that has not listed a block lists fewer than all.
pub fewer-listed :
    (P : Layout) {cp : ℕ → ℕ} {r : Attempt} → Own P cp r → (k : ℕ) → k < P.blocks → r.listed k ≡ false
    → length r.order < P.blocks
fewer-listed P {cp} {r} o k h f =
    fewer P.blocks r.order o.distinct (λ x i. o.in_blocks x (sym (o.order_is x) ∙ i)) k h
    (o.order_is k ∙ f)

-- The values of a function below n.
unfoldable values : (ℕ → ℕ) → ℕ → List ℕ
values f zero = []
values f (suc n) = f n ∷ values f n

-- There are n of them.
length-values : (f : ℕ → ℕ) (n : ℕ) → length (values f n) ≡ n
unfolding values
length-values f zero = refl
length-values f (suc n) = ap suc (length-values f n)

-- What is among them is the value at some place.
value-at : (f : ℕ → ℕ) (n y : ℕ) → is_in y (values f n) ≡ true → (i : ℕ) × (i < n) × (f i ≡ y)
unfolding values
value-at f zero y m = absurd (false≢true m)
value-at f (suc n) y m = go (eqb (f n) y) refl m (value-at f n y)
  where
    go : (b : Bool) → eqb (f n) y ≡ b → (b || is_in y (values f n)) ≡ true
        → (is_in y (values f n) ≡ true → (i : ℕ) × (i < n) × (f i ≡ y)) → (i : ℕ) × (i < suc n) × (f i ≡ y)
    go true e m ih = (n, omega arith, eqb-true (f n) y e)
    go false e m ih = let r = ih m in let h = r.1 in (r.0, omega arith, r.2)

-- They are different where f has different values.
nodup-values :
    (f : ℕ → ℕ) (n : ℕ) → ((i j : ℕ) → i < n → j < n → f i ≡ f j → i ≡ j) → NoDup (values f n)
unfolding values
nodup-values f zero apart = nil
nodup-values f (suc n) apart =
    cons (go (is_in (f n) (values f n)) refl)
    (nodup-values f n (λ i j hi hj. apart i j (omega arith) (omega arith)))
  where
    go : (b : Bool) → is_in (f n) (values f n) ≡ b → is_in (f n) (values f n) ≡ false
    go true e =
        let r = value-at f n (f n) e in
        let h = r.1 in
        let z : r.0 ≡ n = apart r.0 n (omega arith) (omega arith) r.2 in
        absurd (omega arith)
    go false e = e

-- A function that maps the numbers below n into themselves, no two to one, has them all as values.
pub onto :
    (f : ℕ → ℕ) (n : ℕ) → ((i : ℕ) → i < n → f i < n) → ((i j : ℕ) → i < n → j < n → f i ≡ f j → i ≡ j)
    → (y : ℕ) → y < n → (i : ℕ) × (i < n) × (f i ≡ y)
onto f n range apart y hy = go (is_in y (values f n)) refl
  where
    -- the values are below n
    below : (k : ℕ) → is_in k (values f n) ≡ true → k < n
    below k m = let r = value-at f n k m in rw (← r.2) (range r.0 r.1)

    go : (b : Bool) → is_in y (values f n) ≡ b → (i : ℕ) × (i < n) × (f i ≡ y)
    go true e = value-at f n y e
    go false e =
        absurd
        (omega (arith, fewer n (values f n) (nodup-values f n apart) below y hy e, length-values f n))

-- Where a product has a number below it, its second factor is not 0.
factor : (n c i : ℕ) → i < n * c → 0 < c
factor n zero i h = let z : n * 0 ≡ 0 = mul-zero n in absurd (omega arith)
factor n (suc c) i h = omega arith

module _ (P : Layout) {bank : ℕ → ℕ} {copy : ℕ → ℕ → ℕ} (St : Stock P bank copy) where
  -- The number at a place: first the copy lists, job by job, then the bank.
  unfoldable number : ℕ → ℕ
  number i =
      cond (ltb i (P.jobs * P.copies)) (copy (i / P.copies) (i % P.copies)) (bank (i - P.jobs * P.copies))

  -- Where a place is, and the number there.
  data Located (i : ℕ) : ℕ → Type 0 where
    in-copies :
        i / P.copies < P.jobs → i % P.copies < P.copies → Located i (copy (i / P.copies) (i % P.copies))
    in-bank : (k : ℕ) → k < P.blocks → i ≡ P.jobs * P.copies + k → Located i (bank k)

  -- Each place is in a copy list or in the bank.
  located : (i : ℕ) → i < stock P → Located i (number i)
  unfolding number
  located i h = go (ltb i (P.jobs * P.copies)) refl
    where
      go : (b : Bool) → ltb i (P.jobs * P.copies) ≡ b
          → Located i (cond b (copy (i / P.copies) (i % P.copies)) (bank (i - P.jobs * P.copies)))
      go true e =
          let l : i < P.jobs * P.copies = ltb-true _ _ e in
          let c : 0 < P.copies = factor P.jobs P.copies i l in
          in-copies ((div-lt_iff_lt-mul c).1 l) (mod-lt i c)
      go false e =
          let l : P.jobs * P.copies ≤ i = ltb-false _ _ e in
          in-bank (i - P.jobs * P.copies) (sub-lt_left_of_lt-add l h) (sym (add-sub_of_le l))

  -- A number at a place is a block number.
  number_in : (i : ℕ) → i < stock P → number i < stock P
  number_in i h = go (located i h)
    where
      go : {c : ℕ} → Located i c → c < stock P
      go (in-copies a b) = St.copy_in (i / P.copies) (i % P.copies) a b
      go (in-bank k hk z) = St.bank_in k hk

  -- Two places have two numbers.
  numbers_apart : (i j : ℕ) → i < stock P → j < stock P → number i ≡ number j → i ≡ j
  numbers_apart i j hi hj = go (located i hi) (located j hj)
    where
      go : {c d : ℕ} → Located i c → Located j d → c ≡ d → i ≡ j
      go (in-copies a b) (in-copies a' b') e =
          let s = St.copy_copy (i / P.copies) (j / P.copies) (i % P.copies) (j % P.copies) b b' e in
          sym (div-add-mod' i P.copies) ∙ rw (s.0, s.1) (div-add-mod' j P.copies)
      go (in-copies a b) (in-bank k hk z) e = absurd (St.bank_copy k (i / P.copies) (i % P.copies) hk b (sym e))
      go (in-bank k hk z) (in-copies a b) e = absurd (St.bank_copy k (j / P.copies) (j % P.copies) hk b e)
      go (in-bank k hk z) (in-bank l hl y) e =
          z ∙ ap (λ m. P.jobs * P.copies + m) (St.bank_bank k l hk hl e) ∙ sym y

  -- Every block number stands in the bank or in a copy list.
  pub none_missing :
      (y : ℕ) → y < stock P
      → ((k : ℕ) × (k < P.blocks) × (bank k ≡ y))
      ⊎ ((q : ℕ) × (i : ℕ) × (q < P.jobs) × (i < P.copies) × (copy q i ≡ y))
  none_missing y hy = let x = onto number (stock P) number_in numbers_apart y hy in go (located x.0 x.1) x.2
    where
      go : {i c : ℕ} → Located i c → c ≡ y
          → ((k : ℕ) × (k < P.blocks) × (bank k ≡ y))
          ⊎ ((q : ℕ) × (i : ℕ) × (q < P.jobs) × (i < P.copies) × (copy q i ≡ y))
      go {i = i} (in-copies a b) e = inr (i / P.copies, i % P.copies, a, b, e)
      go (in-bank k hk z) e = inl (k, hk, e)
