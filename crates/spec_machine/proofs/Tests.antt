-- Case splits on the tests of the step list: what an item gives by a test, by what is left of a move, of an update or
-- of a row; and what a test says. Assumes nothing.
use Prim.Native.Nat.{ℕ, ◌+◌}
use mathlib.Core.Path.{◌≡◌, refl, sym, ◌∙◌}
use mathlib.Core.Bool.{Bool, true, false, cond, ◌&&◌, ◌||◌, true≢false, false≢true}
use mathlib.Core.List.{List, [], ◌∷◌}
use lib.Dec.{eqb, ltb}
use borrow.Author.Tests.{eq-eqb, eqb-true}
use Rattle.spec_text.proofs.Cases.{both, neither}
use Rattle.spec_format.specs.declared.Move.{Move}
use Rattle.spec_format.specs.Plan.{Plan}
use Rattle.spec_machine.specs.declared.Stage.{Stage}
use Rattle.spec_machine.specs.declared.Place.{Place}
use Rattle.spec_machine.specs.declared.Version.{Version}
use Rattle.spec_machine.specs.declared.Working.{Working}
use Rattle.spec_machine.specs.Moves.{begin, onward}
use Rattle.spec_machine.specs.Working.{goto, with_access, next_block}
use Rattle.spec_machine.specs.Steps.{same_flag, same_version}

-- A choice by a test keeps the test's answer.
pub choice : {A : Type 0} (Q : A → Type 0) (b : Bool) (x y : A) → (b ≡ true → Q x) → (b ≡ false → Q y)
    → Q (cond b x y)
choice Q true x y f g = f refl
choice Q false x y f g = g refl

-- What holds of both answers holds of the one that a test gives.
pub either : {A : Type 0} (Q : A → Type 0) (b : Bool) (x y : A) → Q x → Q y → Q (cond b x y)
either Q b x y f g = choice Q b x y (λ _. f) (λ _. g)

-- A test that is not computed with. `cond` computes, so that antt cannot read its test off a goal: where the test is
-- to be found and not written, the goal is first rewritten by `shut-test`.
pub shut : Bool → Bool
shut b = b

-- A choice by a test is the choice by the same test, shut.
pub shut-test : {A : Type 0} (b : Bool) (x y : A) → cond b x y ≡ cond (shut b) x y
unfolding shut
shut-test b x y = refl

-- A choice by a test that is shut keeps the answer of the test itself.
pub test : {A : Type 0} (Q : A → Type 0) (b : Bool) (x y : A) → (b ≡ true → Q x) → (b ≡ false → Q y)
    → Q (cond (shut b) x y)
unfolding shut
test Q b x y f g = choice Q b x y f g

-- After a read or a write: at the next one's check, or at H22.
pub onward-elim : (Q : Working → Type 0) (plan : Plan) (w : Working)
    → ((m a : ℕ) → Q (goto (Place.Move Stage.Check) (with_access m a w)))
    → ((m a : ℕ) → Q (goto Place.H22 (with_access m a w))) → Q (onward plan w)
onward-elim Q plan w f g =
    rw shut-test
    (either Q (shut _) _ _ (f _ _)
    (rw shut-test (either (λ a. Q (goto a (with_access (w.index + 1) 0 w))) (shut _) _ _ (f _ _) (g _ _))))

-- After H41: at the next listed block, or at H42.
pub store-elim :
    (Q : Working → Type 0) (w : Working) → Q (goto Place.H36 (next_block w)) → Q (goto Place.H42 (next_block w))
    → Q (goto (cond (ltb (w.j + 1) w.numblks) Place.H36 Place.H42) (next_block w))
store-elim Q w f g = either (λ a. Q (goto a (next_block w))) (ltb (w.j + 1) w.numblks) _ _ f g

-- After H21: at the first move's first check, or at H22.
pub begin-elim : (Q : Place → Type 0) (ms : List Move) → Q (Place.Move Stage.Check) → Q Place.H22 → Q (begin ms)
begin-elim Q [] f g = g
begin-elim Q (m ∷ ms) f g = f

-- The halves of a test that holds.
pub and_l : (a b : Bool) → (a && b) ≡ true → a ≡ true
and_l a b h = (both a b h).0

-- The second half.
pub and_r : (a b : Bool) → (a && b) ≡ true → b ≡ true
and_r a b h = (both a b h).1

-- The halves of a test that fails.
pub or_l : (a b : Bool) → (a || b) ≡ false → a ≡ false
or_l a b h = (neither a b h).0

-- The second half.
pub or_r : (a b : Bool) → (a || b) ≡ false → b ≡ false
or_r a b h = (neither a b h).1

-- Flags that are the same by the test are equal.
same_flag_lem : (a b : Bool) → same_flag a b ≡ true → a ≡ b
same_flag_lem true true h = refl
same_flag_lem true false h = absurd (false≢true h)
same_flag_lem false true h = absurd (false≢true h)
same_flag_lem false false h = refl

-- A flag is the same as itself.
flag-refl : (a : Bool) → same_flag a a ≡ true
flag-refl true = refl
flag-refl false = refl

-- Versions with one count and one flag are equal.
version-path : (a b : Version) → a.count ≡ b.count → a.flag ≡ b.flag → a ≡ b
version-path a b p q = λ i. record { count = p i; flag = q i }

-- V = ver by the test: the versions are equal.
pub same_version_lem : (a b : Version) → same_version a b ≡ true → b ≡ a
unfolding same_version
same_version_lem a b h =
    sym
    (version-path a b (eqb-true _ _ (and_l (eqb a.count b.count) (same_flag a.flag b.flag) h))
    (same_flag_lem _ _ (and_r (eqb a.count b.count) (same_flag a.flag b.flag) h)))

-- A version is the same as itself.
version-refl : (a : Version) → same_version a a ≡ true
unfolding same_version
version-refl a = rw (eq-eqb a.count a.count refl) (flag-refl a.flag)

-- A failed test of V and another thing, for a job whose version is V: the other thing failed.
pub failed : (a b : Version) (t : Bool) → (same_version a b && t) ≡ false → b ≡ a → t ≡ false
failed a b t h e = rw (version-refl a) at (rw e at h)

-- A failed test of V: the version is not V.
pub stale : (a b : Version) → same_version a b ≡ false → b ≡ a → ⊥
stale a b h e = true≢false (sym (version-refl a) ∙ rw e at h)
