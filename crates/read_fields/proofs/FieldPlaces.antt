-- Laws on places: the next byte x, the parts between bytes x, and the fields of a line from a place on.
-- Assumes nothing.
use Prim.Native.Nat.{ℕ, suc, ◌+◌, ◌-◌, ◌≤◌}
use mathlib.Core.Path.{◌≡◌, refl, ◌∙◌}
use mathlib.Core.Bool.{Bool, true, false, cond, not}
use mathlib.Core.List.{List, [], ◌∷◌}
use native.Mathlib.Omega.{arith}
use native.Mathlib.Numerals.{add-one}
use borrow.Author.Tests.{lt-ltb, le-ltb, ltb-true, ltb-false}
use Rattle.std.specs.Prelude.{◌==◌, unwrap_or, position}
use Rattle.std.specs.List.{position_or_len}
use Rattle.std.proofs.lemmas.List.Sums.{prefix_len-le-length}
use lib.Dec.{ltb, eqb, leb-suc-suc}
use lib.ListN.{length, take, drop, length-drop}
use lib.Seq.{drop-drop}
use Rattle.spec_text.proofs.Cases.{by-test, same_test}
use Rattle.spec_text.specs.Lines.{in_front, split}
use Rattle.read_fields.specs.FieldPlaces.{place_of, fields_at}

-- How many bytes of s stand before its first byte x.
abbrev pub before : ℕ → List ℕ → ℕ
before x s = position_or_len (λ b. b == x) s

-- The first byte x, or the end, is not past the end.
pub before-le : (x : ℕ) (s : List ℕ) → before x s ≤ length s
before-le x s = prefix_len-le-length _ s

-- The place of the first element that passes, or the length.
pub position-or : (p : ℕ → Bool) (xs : List ℕ) → unwrap_or (position p xs) (length xs) ≡ position_or_len p xs
position-or p xs =
    by-test (ltb (position_or_len p xs) (length xs))
    (λ t. rw t)
    (λ t. rw t (omega (arith, prefix_len-le-length (λ x. not (p x)) xs, ltb-false (position_or_len p xs) (length xs) t)))

-- The first n bytes of s as a part, and the parts of what stands behind the byte that ends it.
abbrev pub parts : ℕ → List ℕ → ℕ → List (List ℕ)
parts x s n = take n s ∷ cond (ltb n (length s)) (split x (drop (n + 1) s)) []

-- One byte more in front of the first part.
parts-more : (x b : ℕ) (s : List ℕ) (n : ℕ) → in_front b (parts x s n) ≡ parts x (b ∷ s) (1 + n)
parts-more x b s n = let next : 1 + n ≡ suc n = omega arith in rw next (simp (add-one, leb-suc-suc))

-- The first part of s ends before the first byte x.
pub split-first : (x : ℕ) (s : List ℕ) → split x s ≡ parts x s (before x s)
split-first x [] = refl
split-first x (b ∷ s) = go (eqb b x) (split-first x s)
  where
    go : (t : Bool) → split x s ≡ parts x s (before x s)
        → cond t ([] ∷ split x s) (in_front b (split x s)) ≡ parts x (b ∷ s) (cond (not t) (1 + before x s) 0)
    go true e = rw (lt-ltb 0 (suc (length s)) (omega arith))
    go false e = rw e (parts-more x b s (before x s))

-- The parts of s from a place on.
pub split-at-place : (x : ℕ) (s : List ℕ) (at : ℕ) → at ≤ length s
    → split x (drop at s)
    ≡ take (place_of x s at - at) (drop at s)
    ∷ cond (ltb (place_of x s at) (length s)) (split x (drop (place_of x s at + 1) s)) []
unfolding place_of
split-at-place x s at h =
    let d = drop at s in
    let n = before x d in
    let here : at + n - at ≡ n = omega arith in
    let next : at + n + 1 ≡ at + (n + 1) = omega arith in
    let more : ltb (at + n) (length s) ≡ ltb n (length d)
    = same_test (at + n) (length s) n (length d)
    (simp length-drop (omega arith)) (simp length-drop (omega arith)) in
    split-first x d ∙ rw (here, next, more, drop-drop (n + 1) at s)

-- The fields of a line from a place on, by its first.
pub fields-next : (line : List ℕ) (at : ℕ) → at ≤ length line
    → fields_at line at ≡ take (place_of 9 line at - at) (drop at line) ∷ fields_at line (place_of 9 line at + 1)
unfolding fields_at
fields-next line at h =
    let p = place_of 9 line at in
    let l = length line in
    rw (le-ltb l at h, split-at-place 9 line at h)
    (by-test (ltb p l)
    (λ t. rw (t, le-ltb l (p + 1) (omega (arith, ltb-true p l t))))
    (λ t. rw (t, lt-ltb l (p + 1) (omega (arith, ltb-false p l t)))))
