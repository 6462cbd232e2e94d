-- Lines that a number counts, one behind the other: alike where each is alike, how long the first of them are,
-- and that there is room for the next. Assumes nothing.
use Prim.Native.Nat.{ℕ, zero, suc, ◌+◌, ◌≤◌, ◌<◌}
use mathlib.Core.Path.{◌≡◌, refl, ap, ◌∙◌}
use mathlib.Core.List.{List, ◌++◌}
use native.Mathlib.Decide.{dec_lt}
use native.Mathlib.Numerals.{add-one}
use native.Mathlib.Omega.{arith}
use lib.ListN.{length, length-append}
use Rattle.spec_report.specs.Report.{joined}
use Rattle.text_lines.specs.Fills.{Fills}
use Rattle.text_lines.proofs.Fills.{keeps}

-- Where the lines are alike, so are all of them together.
pub joined_same : (n : ℕ) (f g : ℕ → List ℕ) → ((k : ℕ) → k < n → f k ≡ g k) → joined n f ≡ joined n g
joined_same zero f g h = refl
joined_same (suc n) f g h =
    ap (λ (s : List ℕ). s ++ f n) (joined_same n f g (λ k l. h k (omega arith)))
    ∙ ap (λ (s : List ℕ). joined n g ++ s) (h n (omega arith))

-- One line more is longer by that line.
pub joined-length-more :
    (i : ℕ) (f : ℕ → List ℕ) → length (joined (i + 1) f) ≡ length (joined i f) + length (f i)
joined-length-more i f = rw (add-one i) (length-append (joined i f) (f i))

-- The first lines and the one behind them fit where all fit.
pub part_room : (n i : ℕ) (f : ℕ → List ℕ) → i < n → length (joined i f) + length (f i) ≤ length (joined n f)
part_room zero i f h = elim h [ ]
part_room (suc n) i f h = go (dec_lt i n) (part_room n i f)
  where
    go : Dec (i < n) → (i < n → length (joined i f) + length (f i) ≤ length (joined n f))
        → length (joined i f) + length (f i) ≤ length (joined (suc n) f)
    go (yes l) before = omega (arith, before l, length-append (joined n f) (f n))
    go (no m) before =
        let e : i ≡ n = omega arith in
        rw e (omega (arith, length-append (joined n f) (f n)))

-- Where all fit from a place on and the first are written, there is room for the next.
pub next-room : (n i : ℕ) (f : ℕ → List ℕ) {at next : ℕ} {before after : List ℕ} → i < n
    → at + length (joined n f) ≤ length before → Fills (joined i f) at before next after
    → next + length (f i) ≤ length after
next-room n i f h room v = omega (arith, part_room n i f h, v.next_is, keeps v)
