-- A function on numbers changed at one place, and the case split that every invariant proof needs. Assumes nothing.
use mathlib.Core.Path.{◌≡◌, refl, sym, fun_ext}
use mathlib.Core.Logic.{◌≢◌}
use mathlib.Core.Bool.{cond}
use Prim.Native.Nat.{ℕ}
use lib.Dec.{eqb}
use borrow.Author.Tests.{eq-eqb, ne_eqb}
use native.Mathlib.Decide.{ℕ_discrete}

-- The function f, but x at k.
unfoldable pub upd {ℓ} : {X : Type ℓ} → (ℕ → X) → ℕ → X → ℕ → X
upd f k x i = cond (eqb i k) x (f i)

module _ {ℓ} {X : Type ℓ} where
  -- At the place changed.
  pub upd_same : (f : ℕ → X) (k : ℕ) (x : X) → upd f k x k ≡ x
  unfolding upd
  upd_same f k x = rw (eq-eqb k k refl)

  -- At another place.
  pub upd_other : (f : ℕ → X) (k : ℕ) (x : X) (i : ℕ) → i ≢ k → upd f k x i ≡ f i
  unfolding upd
  upd_other f k x i h = rw (ne_eqb i k h)

  -- At the place changed, known by an equation.
  pub upd-at : (f : ℕ → X) (k : ℕ) (x : X) (i : ℕ) → i ≡ k → upd f k x i ≡ x
  unfolding upd
  upd-at f k x i h = rw (eq-eqb i k h)

  -- A fact of the changed function's value, by cases: at the place changed, and elsewhere.
  pub upd-elim {κ} :
      (P : X → Type κ) (f : ℕ → X) (k : ℕ) (x : X) (i : ℕ) → (i ≡ k → P x) → (i ≢ k → P (f i)) → P (upd f k x i)
  upd-elim P f k x i a b = go (ℕ_discrete i k)
    where
      go : Dec (i ≡ k) → P (upd f k x i)
      go (yes e) = rw (upd-at f k x i e) (a e)
      go (no h) = rw (upd_other f k x i h) (b h)

  -- A change to what was there already is none.
  pub upd-id : (f : ℕ → X) (k : ℕ) (x : X) → f k ≡ x → upd f k x ≡ f
  upd-id f k x e = fun_ext (λ i. upd-elim (λ y. y ≡ f i) f k x i (λ p. rw p (sym e)) (λ _. refl))

  -- A function of the values does not see a change that keeps its own value.
  pub upd-map {κ} :
      {Y : Type κ} (g : X → Y) (f : ℕ → X) (k : ℕ) (x : X) (i : ℕ) → g x ≡ g (f k) → g (upd f k x i) ≡ g (f i)
  upd-map g f k x i e = upd-elim (λ y. g y ≡ g (f i)) f k x i (λ p. rw p e) (λ _. refl)

-- A function of the values, after a change.
pub upd-ap {ℓ κ} :
    {X : Type ℓ} {Y : Type κ} (g : X → Y) (f : ℕ → X) (k : ℕ) (x : X)
    → (λ (i : ℕ). g (upd f k x i)) ≡ upd (λ i. g (f i)) k (g x)
upd-ap g f k x =
    fun_ext
    (λ i.
    upd-elim (λ y. g y ≡ upd (λ i. g (f i)) k (g x) i) f k x i (λ e. sym (upd-at (λ i. g (f i)) k (g x) i e))
    (λ n. sym (upd_other (λ i. g (f i)) k (g x) i n)))
