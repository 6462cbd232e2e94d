-- The numbers of the fields from a place of a line on, read one field at a time. Assumes nothing.
use Prim.Native.Nat.{ℕ, suc, ◌+◌, ◌-◌, ◌≤◌, ◌<◌}
use mathlib.Core.Path.{◌≡◌, refl}
use mathlib.Core.List.{List, [], ◌∷◌, ◌++◌, append_assoc, append-nil}
use mathlib.Core.Bool.{Bool, true, false}
use native.Mathlib.Omega.{arith}
use borrow.Author.Tests.{lt-ltb, ltb-true, ltb-false}
use lib.Dec.{ltb}
use lib.ListN.{length, take, set}
use lib.Seq.{take_all, take-suc-set}
use native.Mathlib.Numerals.{add-one}
use Rattle.std.specs.Prelude.{Option, Some, None, option_map, option_and_then}
use Rattle.std.specs.Bool.{then_some}
use Rattle.spec_text.proofs.Cases.{by-test}
use Rattle.spec_text.specs.Numbers.{number}
use Rattle.spec_text.specs.Lines.{and_then, numbers}
use Rattle.read_fields.specs.FieldPlaces.{place_of, fields_at, field_at}
use Rattle.read_fields.proofs.FieldPlaces.{fields-next}

-- No field starts past the line's end.
fields-past : (line : List ℕ) (at : ℕ) → length line < at → fields_at line at ≡ []
unfolding fields_at
fields-past line at h = rw (lt-ltb (length line) at h)

-- The numbers from a place on: the one that starts there, and those from the next field on.
pub numbers-next : (line : List ℕ) (at k : ℕ) → numbers (suc k) (fields_at line at)
    ≡ option_and_then (λ (x : ℕ × ℕ). and_then (Some x.0) (numbers k (fields_at line x.1))) (field_at line at)
unfolding field_at
numbers-next line at k =
    by-test (ltb (length line) at)
    (λ p. rw (p, fields-past line at (ltb-true (length line) at p)))
    (λ p. rw (p, fields-next line at (ltb-false (length line) at p)) (go (number _)))
  where
    go : (m : Option ℕ) → and_then m (numbers k (fields_at line (place_of 9 line at + 1)))
        ≡ option_and_then (λ (x : ℕ × ℕ). and_then (Some x.0) (numbers k (fields_at line x.1)))
        (option_map (λ n. (n, place_of 9 line at + 1)) m)
    go None = refl
    go (Some n) = refl

-- No numbers are left just where no field is.
numbers-end : (line : List ℕ) (at : ℕ) → numbers 0 (fields_at line at) ≡ then_some (ltb (length line) at) []
numbers-end line at =
    by-test (ltb (length line) at)
    (λ p. rw (p, fields-past line at (ltb-true (length line) at p)))
    (λ p. rw (p, fields-next line at (ltb-false (length line) at p)))

-- A number more in front of what the rest gives.
joined-next : (ns : List ℕ) (n : ℕ) (o : Option (List ℕ))
    → option_map (λ ms. ns ++ ms) (and_then (Some n) o) ≡ option_map (λ ms. (ns ++ (n ∷ [])) ++ ms) o
joined-next ns n None = refl
joined-next ns n (Some ms) = rw append_assoc

-- A number read and kept at place i: what was to be had is had from the next place on.
pub read-next : (line out : List ℕ) (at i n next k : ℕ) → i < length out → i < k
    → field_at line at ≡ Some (n, next)
    → option_map (λ ns. take i out ++ ns) (numbers (k - i) (fields_at line at))
    ≡ option_map (λ ns. take (i + 1) (set out i n) ++ ns) (numbers (k - (i + 1)) (fields_at line next))
read-next line out at i n next k h l e =
    let more : k - i ≡ suc (k - (i + 1)) = omega arith in
    rw (more, numbers-next, e, joined-next (take i out) n (numbers _ (fields_at line next)), add-one, take-suc-set out i n)

-- All places are filled: the numbers are what out holds, where the line ends there.
pub read-end : (line out : List ℕ) (at i k : ℕ) (r : Option Unit) → length out ≤ i → k ≤ i
    → r ≡ then_some (ltb (length line) at) (tt {0})
    → option_map (λ _. out) r ≡ option_map (λ ns. take i out ++ ns) (numbers (k - i) (fields_at line at))
read-end line out at i k r h l e =
    let none : k - i ≡ 0 = omega arith in
    rw (e, none, numbers-end, take_all i out h) (go (ltb (length line) at))
  where
    go : (t : Bool) → option_map (λ _. out) (then_some t (tt {0})) ≡ option_map (λ ns. out ++ ns) (then_some t [])
    go true = rw append-nil
    go false = refl
