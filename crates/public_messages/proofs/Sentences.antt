-- No sentence of the table is longer than 100 bytes. Assumes nothing.
use Prim.Native.Nat.{ℕ, zero, suc, ◌≤◌}
use mathlib.Core.Path.{◌≡◌}
use mathlib.Core.List.{List, [], ◌∷◌}
use native.Mathlib.Omega.{arith}
use lib.Dec.{lit≤}
use lib.ListN.{length, get_or}
use Rattle.report_bytes.specs.Writes.{Writes}
use Rattle.report_bytes.proofs.Writes.{renamed, within}
use Rattle.public_messages.specs.Messages.{meanings, meaning}

-- Each of some lists has at most 100 bytes.
abbrev Short : List (List ℕ) → Type 0
Short [] = Unit {0}
Short (xs ∷ xss) = (length xs ≤ 100) × Short xss

-- So has the one at any place.
short-at : (xss : List (List ℕ)) → Short xss → (i : ℕ) → length (get_or xss i []) ≤ 100
short-at [] s i = omega arith
short-at (xs ∷ xss) s zero = s.0
short-at (xs ∷ xss) s (suc i) = short-at xss s.1 i

-- No sentence is longer.
pub meaning-short : (number : ℕ) → length (meaning number) ≤ 100
meaning-short number = short-at meanings (search lit≤) number

-- What is written of bytes that are the sentence of a number is the sentence.
pub said : (number : ℕ) {xs : List ℕ} → xs ≡ meaning number → {n at next : ℕ} {before after : List ℕ}
    → Writes xs n at before next after
    → Writes (meaning number) 100 at before next after
said number is w = within 100 (meaning-short number) (renamed (meaning number) is w)
