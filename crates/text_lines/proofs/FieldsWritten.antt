-- The digits of a number, by its last digit, and the fields of numbers, by the last of them. Assumes nothing.
use Prim.Native.Nat.{ℕ, suc, ◌+◌, ◌/◌, ◌%◌, ◌≤◌, ◌<◌}
use mathlib.Core.Path.{◌≡◌, refl, sym, ap, ◌∙◌}
use mathlib.Core.List.{List, [], ◌∷◌, ◌++◌, map, append_assoc, append-nil}
use native.Mathlib.Decide.{dec_lt}
use native.Mathlib.Omega.{arith}
use lib.ListN.{length, get_or, take, drop, length-append}
use lib.Seq.{take-suc}
use Rattle.spec_text.specs.Decimal.{decimal}
use Rattle.spec_text.specs.WrittenLines.{fields_behind}
use Rattle.spec_text.proofs.Digits.{decimal-small, decimal-large, decimal-most}
use Rattle.text_lines.proofs.Backwards.{Filling, room, moved, done-is}

-- A number has a digit at least.
pub some-digit : (n : ℕ) → n < 4294967296 → 1 ≤ length (decimal n)
some-digit n h = go (dec_lt n 10)
  where
    go : Dec (n < 10) → 1 ≤ length (decimal n)
    go (yes l) = rw (decimal-small n l) (omega arith)
    go (no m) =
        rw (decimal-large n (omega arith) h, length-append (decimal (n / 10)) ((48 + n % 10) ∷ [])) (omega arith)

-- The fields of numbers, each behind a tab.
abbrev pub tabbed : List ℕ → List ℕ
tabbed [] = []
tabbed (n ∷ ns) = (9 ∷ decimal n) ++ tabbed ns

-- The fields of numbers, and the line feed.
abbrev pub fields_of : List ℕ → List ℕ
fields_of ns = fields_behind (map decimal ns)

-- The line feed stands behind the fields,
pub fields-tabbed : (ns : List ℕ) → fields_of ns ≡ tabbed ns ++ (10 ∷ [])
fields-tabbed [] = refl
fields-tabbed (n ∷ ns) =
    ap (λ (s : List ℕ). (9 ∷ decimal n) ++ s) (fields-tabbed ns)
    ∙ sym (append_assoc (9 ∷ decimal n) (tabbed ns) (10 ∷ []))

-- and is one byte more.
pub length-fields : (ns : List ℕ) → length (fields_of ns) ≡ length (tabbed ns) + 1
length-fields ns = ap length (fields-tabbed ns) ∙ length-append (tabbed ns) (10 ∷ [])

-- A number more at the end.
pub tabbed-snoc : (ns : List ℕ) (n : ℕ) → tabbed (ns ++ (n ∷ [])) ≡ tabbed ns ++ (9 ∷ decimal n)
tabbed-snoc [] n = append-nil (9 ∷ decimal n)
tabbed-snoc (m ∷ ns) n = rw (tabbed-snoc ns n) (simp append_assoc)

-- One field more is longer by it.
pub tabbed-more : (ns : List ℕ) (i : ℕ) → i < length ns
    → length (tabbed (take (i + 1) ns)) ≡ length (tabbed (take i ns)) + 1 + length (decimal (get_or ns i 0))
tabbed-more ns i h =
    let next : i + 1 ≡ suc i = omega arith in
    rw (next, take-suc ns i 0 h, tabbed-snoc (take i ns) (get_or ns i 0))
    (omega (arith, length-append (tabbed (take i ns)) (9 ∷ decimal (get_or ns i 0))))

-- How long one field is, and that it is short.
pub ruleset field_lengths = (decimal-most, tabbed-more)

-- The last of some fields to come is written, from r on.
pub field-moved : {whole before part : List ℕ} {at r : ℕ} {ns' front : List ℕ} (ns : List ℕ) (n : ℕ)
    → Filling whole (tabbed ns') before at part → ns' ≡ ns ++ (n ∷ [])
    → r + (1 + length (decimal n)) ≡ length (take at part)
    → front ≡ take r (take at part) ++ (9 ∷ decimal n)
    → Filling whole (tabbed ns) before r (front ++ drop at part)
field-moved {r = r} {front = front} ns n f last place is =
    moved f (tabbed ns) (9 ∷ decimal n) front r (ap tabbed last ∙ tabbed-snoc ns n) (omega (arith, place)) is

-- No field is to come: the part is the whole.
pub no-field : {whole before part : List ℕ} {at : ℕ} (ns : List ℕ) → Filling whole (tabbed ns) before at part
    → length ns ≡ 0 → length part ≡ length before → length before ≡ length whole → part ≡ whole
no-field {at = at} [] f none same long =
    let start : at ≡ 0 = omega (arith, room f same, long) in
    done-is f refl ∙ rw start
no-field (n ∷ ns) f none same long = absurd (omega arith)
