-- A field holds a number just where it is the number's decimal digits: leading zeros, signs and numbers that are too
-- large are ruled out, and each number up to the largest has just one form. Assumes nothing.
use Prim.Native.Nat.{ℕ, zero, suc, ◌+◌, ◌-◌, ◌*◌, ◌/◌, ◌%◌, ◌^◌, ◌≤◌, ◌<◌}
use mathlib.Core.Path.{◌≡◌, refl, sym, ap, ◌∙◌}
use mathlib.Core.Logic.{◌↔◌}
use mathlib.Core.Bool.{true, ◌&&◌, false≢true, and-true, and_assoc, and-eq-true_iff}
use mathlib.Core.List.{List, [], ◌∷◌, ◌++◌}
use native.Mathlib.Omega.{arith}
use borrow.Author.Tests.{ltb-true, ltb-false, le-leb, leb-true, ne_eqb, eqb-false, not-true}
use lib.Dec.{ltb, leb, eqb}
use Rattle.spec_text.proofs.Cases.{by-test}
use Rattle.spec_text.specs.Numbers.{all_digits, leads, value, largest, number}
use Rattle.spec_text.specs.Decimal.{digits, decimal}
use Rattle.std.specs.Prelude.{Some, None}

-- More digits are worth no less.
pub value-le : (n : ℕ) (s : List ℕ) → n ≤ value n s
value-le n [] = omega arith
value-le n (b ∷ s) = omega (arith, value-le (n * 10 + (b - 48)) s)

-- What digits with one more at the end are worth.
value-last : (n : ℕ) (s : List ℕ) (b : ℕ) → value n (s ++ (b ∷ [])) ≡ value n s * 10 + (b - 48)
value-last n [] b = refl
value-last n (c ∷ s) b = value-last (n * 10 + (c - 48)) s b

-- The digits of a number are worth it, however large it is.
digits-worth : (k n : ℕ) → value 0 (digits k n) ≡ n
digits-worth zero n = omega arith
digits-worth (suc k) n =
    by-test (ltb n 10)
    (λ t. rw t (omega arith))
    (λ t. rw (t, value-last 0 (digits k (n / 10)) (48 + n % 10), digits-worth k (n / 10)) (omega arith))

-- So two decimal forms of the same bytes are of one number.
pub decimal-of-one : (n m : ℕ) → decimal n ≡ decimal m → n ≡ m
unfolding decimal
decimal-of-one n m e = sym (digits-worth 9 n) ∙ ap (value 0) e ∙ digits-worth 9 m

-- Digits with one more at the end are all digits where those before it are, and it is.
all_digits-last : (s : List ℕ) (b : ℕ) → all_digits (s ++ (b ∷ [])) ≡ (all_digits s && (leb 48 b && leb b 57))
all_digits-last [] b = and-true (leb 48 b && leb b 57)
all_digits-last (c ∷ s) b =
    rw (all_digits-last s b) (sym (and_assoc (leb 48 c && leb c 57) (all_digits s) (leb 48 b && leb b 57)))

-- One more digit at the end of what is worth more than 0 changes nothing in how it leads.
leads-last : (s : List ℕ) (b : ℕ) → 0 < value 0 s → leads (s ++ (b ∷ [])) ≡ leads s
leads-last [] b p = absurd (omega arith)
leads-last (c ∷ []) b p = rw (ne_eqb c 48 (omega arith))
leads-last (c ∷ d ∷ s) b p = refl

-- A field that holds the number n, however large.
record Written (n : ℕ) (s : List ℕ) : Type 0 where
  leading : leads s ≡ true
  digital : all_digits s ≡ true
  worth : value 0 s ≡ n

-- One digit holds what it is worth.
one-digit : (n : ℕ) → n < 10 → Written n ((48 + n) ∷ [])
one-digit n h =
    record {
      leading = refl;
      digital = rw (le-leb 48 (48 + n) (omega arith), le-leb (48 + n) 57 (omega arith));
      worth = omega arith;
    }

-- The digits of a number of at most k + 1 digits hold it.
digits-written : (k n : ℕ) → n < 10 ^ suc k → Written n (digits k n)
digits-written zero n h = one-digit n (omega arith)
digits-written (suc k) n h =
    by-test (ltb n 10)
    (λ t. rw t (one-digit n (ltb-true n 10 t)))
    (λ t.
    let large = ltb-false n 10 t in
    let s = digits k (n / 10) in
    let b = 48 + n % 10 in
    let w = digits-written k (n / 10) (omega arith) in
    rw t
    (record {
      leading = leads-last s b (rw w.worth (omega arith)) ∙ w.leading;
      digital = all_digits-last s b ∙ rw (w.digital, le-leb 48 b (omega arith), le-leb b 57 (omega arith));
      worth = value-last 0 s b ∙ rw w.worth (omega arith);
    }))

-- The bytes that are digits.
digit-within : (b : ℕ) → (leb 48 b && leb b 57) ≡ true → (48 ≤ b) × (b ≤ 57)
digit-within b h =
    let d = (and-eq-true_iff (leb 48 b) (leb b 57)).0 h in
    (leb-true 48 b d.0, leb-true b 57 d.1)

-- A field that holds a number below 10 is one digit.
small-written : (n : ℕ) (s : List ℕ) → Written n s → n < 10 → s ≡ (48 + n) ∷ []
small-written n [] w h = absurd (false≢true w.leading)
small-written n (b ∷ []) w h =
    let d = digit-within b ((and-eq-true_iff (leb 48 b && leb b 57) true).0 w.digital).0 in
    let e : b ≡ 48 + n = omega (arith, w.worth) in
    rw e
small-written n (b ∷ c ∷ s) w h =
    let d = digit-within b ((and-eq-true_iff (leb 48 b && leb b 57) (all_digits (c ∷ s))).0 w.digital).0 in
    let first = eqb-false b 48 (not-true (eqb b 48) w.leading) in
    absurd (omega (arith, w.worth, value-le ((0 * 10 + (b - 48)) * 10 + (c - 48)) s))

-- A field that holds a number of 10 or more: its last byte is the last digit, and those before it hold the rest.
large-written : (n : ℕ) (s : List ℕ) (b : ℕ) → Written n (s ++ (b ∷ [])) → 10 ≤ n
    → Written (n / 10) s × (b ≡ 48 + n % 10)
large-written n s b w h =
    let d = (and-eq-true_iff (all_digits s) (leb 48 b && leb b 57)).0 (sym (all_digits-last s b) ∙ w.digital) in
    let l = digit-within b d.1 in
    let e : value 0 s * 10 + (b - 48) ≡ n = sym (value-last 0 s b) ∙ w.worth in (
      record {
        leading = sym (leads-last s b (omega arith)) ∙ w.leading;
        digital = d.0;
        worth = omega arith;
      },
      omega arith,
    )

-- A field's last byte, and those before it.
last_byte : (b : ℕ) (s : List ℕ) → (t : List ℕ) × (c : ℕ) × (b ∷ s ≡ t ++ (c ∷ []))
last_byte b [] = ([], b, refl)
last_byte b (c ∷ s) = let r = last_byte c s in (b ∷ r.0, r.1, ap {B = List ℕ} (λ t. b ∷ t) r.2)

-- A field that holds a number of at most k + 1 digits is the number's digits.
written-digits : (k n : ℕ) (s : List ℕ) → Written n s → n < 10 ^ suc k → s ≡ digits k n
written-digits zero n s w h = small-written n s w (omega arith)
written-digits (suc k) n [] w h = absurd (false≢true w.leading)
written-digits (suc k) n (b ∷ s) w h =
    by-test (ltb n 10)
    (λ t. rw t (small-written n (b ∷ s) w (ltb-true n 10 t)))
    (λ t.
    let r = last_byte b s in
    let large = ltb-false n 10 t in
    let p = large-written n r.0 r.1 (rw r.2 at w) large in
    rw (t, r.2, written-digits k (n / 10) r.0 p.0 (omega arith), p.1))

-- What a field holds is not too large, and the field is its decimal form.
number-reads : (s : List ℕ) (n : ℕ) → number s ≡ Some n → (n ≤ largest) × (s ≡ decimal n)
unfolding number decimal
number-reads s n e =
    by-test ((leads s && all_digits s) && leb (value 0 s) largest)
    (λ t.
    let fits = (and-eq-true_iff (leads s && all_digits s) (leb (value 0 s) largest)).0 t in
    let shape = (and-eq-true_iff (leads s) (all_digits s)).0 fits.0 in
    let worth : value 0 s ≡ n = let e' = rw t at e in cc in
    let within : n ≤ largest = omega (arith, leb-true (value 0 s) largest fits.1) in (
      within,
      written-digits 9 n s (record { leading = shape.0; digital = shape.1; worth = worth }) (omega arith),
    ))
    (λ t. let e' = rw t at e in absurd (let z : ◌≡◌ {A = ℕ} 0 1 = cc in omega arith))

-- The decimal form of a number that is not too large holds it.
number-writes : (n : ℕ) → n ≤ largest → number (decimal n) ≡ Some n
unfolding number decimal
number-writes n h =
    let w = digits-written 9 n (omega arith) in
    rw (w.leading, w.digital, w.worth, le-leb n largest h)

-- A field holds a number just where it is the number's digits, and the number is not too large.
pub number-decimal : (s : List ℕ) (n : ℕ) → (number s ≡ Some n) ↔ ((n ≤ largest) × (s ≡ decimal n))
number-decimal s n = (number-reads s n, λ p. rw p.1 (number-writes n p.0))
