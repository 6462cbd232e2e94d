-- The decimal digits of a number: its last digit and those before it, and how many it has. Assumes nothing.
use Prim.Native.Nat.{ℕ, zero, suc, ◌+◌, ◌/◌, ◌%◌, ◌^◌, ◌≤◌, ◌<◌}
use mathlib.Core.Path.{◌≡◌}
use mathlib.Core.List.{[], ◌∷◌, ◌++◌}
use native.Mathlib.Omega.{arith}
use borrow.Author.Tests.{lt-ltb, le-ltb}
use lib.Dec.{ltb}
use lib.ListN.{length, length-append}
use Rattle.spec_text.proofs.Cases.{by-test}
use Rattle.spec_text.specs.Decimal.{digits, decimal}

-- A digit more does not change how a number is written that has no need of it.
digits_more : (k n : ℕ) → n < 10 ^ suc k → digits (suc k) n ≡ digits k n
digits_more zero n h = rw (lt-ltb n 10 (omega arith))
digits_more (suc k) n h =
    by-test (ltb n 10)
    (λ t. rw t)
    (λ t. rw t
    (rw (digits_more k (n / 10) (omega arith))))

-- A number has at most k + 1 digits of k + 1.
length_digits : (k n : ℕ) → length (digits k n) ≤ suc k
length_digits zero n = omega arith
length_digits (suc k) n =
    by-test (ltb n 10)
    (λ t. rw t (omega arith))
    (λ t. rw (t, length-append (digits k (n / 10)) ((48 + n % 10) ∷ [])) (omega (arith, length_digits k (n / 10))))

-- A number below 10 to the j + 1 has at most j + 1 digits, whatever k is.
digits-within : (k j n : ℕ) → n < 10 ^ suc j → length (digits k n) ≤ suc j
digits-within zero j n h = omega arith
digits-within (suc k) zero n h = rw (lt-ltb n 10 (omega arith)) (omega arith)
digits-within (suc k) (suc j) n h =
    by-test (ltb n 10)
    (λ t. rw t (omega arith))
    (λ t.
    rw (t, length-append (digits k (n / 10)) ((48 + n % 10) ∷ []))
    (omega (arith, digits-within k j (n / 10) (omega arith))))

-- A number below ten is its digit.
pub decimal-small : (n : ℕ) → n < 10 → decimal n ≡ (48 + n) ∷ []
unfolding decimal
decimal-small n h = rw (lt-ltb n 10 h)

-- A number of two digits or more is the digits before its last, and its last.
pub decimal-large : (n : ℕ) → 10 ≤ n → n < 4294967296 → decimal n ≡ decimal (n / 10) ++ ((48 + n % 10) ∷ [])
unfolding decimal
decimal-large n l h = rw (le-ltb n 10 l, digits_more 8 (n / 10) (omega arith))

-- A number below 10 to the j + 1 has at most j + 1 digits.
pub decimal-within : (j n : ℕ) → n < 10 ^ suc j → length (decimal n) ≤ suc j
unfolding decimal
decimal-within j n h = digits-within 9 j n h

-- All but the last digit of a number of 32 bits are at most nine.
pub decimal-short : (n : ℕ) → n < 4294967296 → length (decimal (n / 10)) ≤ 9
decimal-short n h = decimal-within 8 (n / 10) (omega arith)

-- What is written of a number has at most ten digits, however large the number is.
pub decimal-most : (n : ℕ) → length (decimal n) ≤ 10
unfolding decimal
decimal-most n = length_digits 9 n

-- A power of ten is not 0.
some-power : (k : ℕ) → 1 ≤ 10 ^ k
some-power zero = omega arith
some-power (suc k) = omega (arith, some-power k)

-- A number from 10 to the k on, and below ten times that, has k + 1 digits.
pub length-decimal : (k n : ℕ) → 10 ^ k ≤ n → n < 10 ^ suc k → n < 4294967296 → length (decimal n) ≡ suc k
length-decimal zero n l h b = rw (decimal-small n (omega arith))
length-decimal (suc k) n l h b =
    rw (decimal-large n (omega (arith, l, some-power k)) b, length-append (decimal (n / 10)) ((48 + n % 10) ∷ []))
    (omega (arith, length-decimal k (n / 10) (omega arith) (omega arith) (omega arith)))
