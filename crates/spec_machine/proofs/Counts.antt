-- Counts modulo P: two counts less than P apart that point at one card are one count; the first count past another that
-- points at a card; and that in a window of P counts each card has one at most. Assumes nothing.
use mathlib.Core.Path.{◌≡◌, refl, sym, ◌∙◌, ap}
use mathlib.Core.Bool.{Bool, true, false, cond}
use mathlib.Core.List.{List, [], ◌∷◌}
use Prim.Native.Nat.{ℕ, ◌+◌, ◌*◌, ◌-◌, ◌/◌, ◌%◌, ◌≤◌, ◌<◌}
use native.Mathlib.Omega.{arith}
use native.Mathlib.Nat.{div-add-mod', mul-le-mul_right, mod-lt, mod-eq_of_lt, mod-add-mod, add-mod_right}
use native.Mathlib.Decide.{dec_lt}
use lib.Dec.{leb}
use lib.ListN.{length}
use borrow.Author.Tests.{leb-true, leb-false}

-- One residue and a smaller quotient: P apart at least.
far : (P a b : ℕ) → a % P ≡ b % P → a / P < b / P → a + P ≤ b
far P a b e h = omega (arith, div-add-mod' a P, div-add-mod' b P, mul-le-mul_right P h, e)

-- One residue, less than P apart: equal.
pub same-residue : (P a b : ℕ) → a % P ≡ b % P → a < b + P → b < a + P → a ≡ b
same-residue P a b e h k = go (dec_lt (a / P) (b / P)) (dec_lt (b / P) (a / P))
  where
    go : Dec (a / P < b / P) → Dec (b / P < a / P) → a ≡ b
    go (yes x) y = let f = far P a b e x in omega arith
    go (no x) (yes y) = let f = far P b a (sym e) y in omega arith
    go (no x) (no y) =
        let q : a / P ≡ b / P = omega arith in
        let m : a / P * P ≡ b / P * P = ap (λ z. z * P) q in
        omega (arith, div-add-mod' a P, div-add-mod' b P)

-- The first count past c that points at card r.
unfoldable pub target : ℕ → ℕ → ℕ → ℕ
target P r c = c + 1 + cond (leb ((c + 1) % P) r) (r - (c + 1) % P) (r + P - (c + 1) % P)

-- It points there.
pub target-card : (P r c : ℕ) → 0 < P → r < P → target P r c % P ≡ r
unfolding target
target-card P r c hP hr = sym (mod-add-mod (c + 1) P _) ∙ go (leb ((c + 1) % P) r) refl
  where
    m : (c + 1) % P < P
    m = mod-lt (c + 1) hP

    go : (b : Bool) → leb ((c + 1) % P) r ≡ b
        → ((c + 1) % P + cond b (r - (c + 1) % P) (r + P - (c + 1) % P)) % P ≡ r
    go true e =
        let l : (c + 1) % P ≤ r = leb-true _ _ e in
        let z : (c + 1) % P + (r - (c + 1) % P) ≡ r = omega (arith, l) in
        rw z (mod-eq_of_lt hr)
    go false e =
        let l : r < (c + 1) % P = leb-false _ _ e in
        let z : (c + 1) % P + (r + P - (c + 1) % P) ≡ r + P = omega (arith, m, l) in
        rw z (add-mod_right r P ∙ mod-eq_of_lt hr)

-- It comes within P counts.
pub target-le : (P r c : ℕ) → 0 < P → r < P → (c + 1 ≤ target P r c) × (target P r c ≤ c + P)
unfolding target
target-le P r c hP hr = go (leb ((c + 1) % P) r) refl
  where
    m : (c + 1) % P < P
    m = mod-lt (c + 1) hP

    go : (b : Bool) → leb ((c + 1) % P) r ≡ b
        → (c + 1 ≤ c + 1 + cond b (r - (c + 1) % P) (r + P - (c + 1) % P))
        × (c + 1 + cond b (r - (c + 1) % P) (r + P - (c + 1) % P) ≤ c + P)
    go true e = let l : (c + 1) % P ≤ r = leb-true _ _ e in (omega arith, omega (arith, l, m))
    go false e = let l : r < (c + 1) % P = leb-false _ _ e in (omega arith, omega (arith, l, m))

-- The counts of card r's commits, latest first, each below the one before it and hi, all less than P before t.
pub data Window (P r t : ℕ) : ℕ → List ℕ → Type 0 where
  none : {hi : ℕ} → Window P r t hi []
  more : {hi c : ℕ} {l : List ℕ} → t < c + P → c < hi → c % P ≡ r → Window P r t c l → Window P r t hi (c ∷ l)

-- A window with a higher end.
pub weaken : {P r t a b : ℕ} {l : List ℕ} → a ≤ b → Window P r t a l → Window P r t b l
weaken h none = none
weaken {b = b} h (more {c = c} x y z w) = let q : c < b = omega arith in more x q z w

-- A window that does not reach past t has one count at most.
pub at_most_one : (P r t hi : ℕ) (l : List ℕ) → hi ≤ t + 1 → Window P r t hi l → length l ≤ 1
at_most_one P r t hi [] w none = omega arith
at_most_one P r t hi (c ∷ []) w (more a b e x) = omega arith
at_most_one P r t hi (c ∷ d ∷ l) w (more a b e (more a' b' e' x)) =
    let z : c ≡ d = same-residue P c d (e ∙ sym e') (omega arith) (omega arith) in omega arith
