-- What is written is read: a line of fields that hold neither a tab nor a line feed is one line of a text, with those
-- fields (line-written, fields-written), so a line of numbers is (numbers-line, numbers-fields), and the decimal digits
-- of numbers are read to the numbers (numbers-written). The argument: bytes are parted only where the parting byte
-- stands, and no digit is a tab or a line feed. Assumes nothing.
use Prim.Native.Nat.{ℕ, zero, suc, ◌+◌, ◌/◌, ◌%◌, ◌≤◌, ◌<◌}
use mathlib.Core.Path.{◌≡◌, refl}
use mathlib.Core.Bool.{Bool, true, not, ◌&&◌}
use mathlib.Core.List.{List, [], ◌∷◌, ◌++◌, map, append-nil, append_assoc}
use Rattle.std.specs.Prelude.{Some}
use native.Mathlib.Omega.{arith}
use borrow.Author.Tests.{eq-eqb, ne_eqb, not-true}
use lib.Dec.{ltb, eqb}
use lib.ListN.{length}
use Rattle.spec_text.proofs.Cases.{by-test, both}
use Rattle.spec_text.proofs.Decimal.{number-decimal}
use Rattle.spec_text.specs.Numbers.{largest}
use Rattle.spec_text.specs.Decimal.{digits, decimal}
use Rattle.spec_text.specs.Lines.{in_front, split, fields, Line, as_lines, lines, numbers}
use Rattle.spec_text.specs.WrittenLines.{fields_behind, line_of}

-- A byte is not among these.
abbrev pub lacks : ℕ → List ℕ → Bool
lacks x [] = true
lacks x (b ∷ s) = not (eqb b x) && lacks x s

-- It is not among two lists in a row, where it is in neither.
pub lacks-append : (x : ℕ) (s t : List ℕ) → lacks x s ≡ true → lacks x t ≡ true → lacks x (s ++ t) ≡ true
lacks-append x [] t e f = f
lacks-append x (b ∷ s) t e f =
    let first = both (not (eqb b x)) (lacks x s) e in
    rw first.0 (lacks-append x s t first.1 f)

-- Bytes without x are one part.
pub split-lacking : (x : ℕ) (s : List ℕ) → lacks x s ≡ true → split x s ≡ s ∷ []
split-lacking x [] e = refl
split-lacking x (b ∷ s) e =
    let first = both (not (eqb b x)) (lacks x s) e in
    rw (not-true (eqb b x) first.0, split-lacking x s first.1)

-- Bytes without x, and x behind them, are the first part.
pub split-first : (x : ℕ) (s rest : List ℕ) → lacks x s ≡ true → split x (s ++ (x ∷ rest)) ≡ s ∷ split x rest
split-first x [] rest e = rw (eq-eqb x x refl)
split-first x (b ∷ s) rest e =
    let first = both (not (eqb b x)) (lacks x s) e in
    rw (not-true (eqb b x) first.0, split-first x s rest first.1)

-- A part in front of others is an ended line in front of theirs, where the first of them got a byte more,
parts_more :
    (l : List ℕ) (b : ℕ) (parts : List (List ℕ))
    → as_lines (l ∷ in_front b parts) ≡ record { bytes = l; ended = true } ∷ as_lines (in_front b parts)
parts_more l b [] = refl
parts_more l b (part ∷ parts) = refl

-- and where they are the parts of bytes, of which there is always one.
pub part-more :
    (x : ℕ) (l s : List ℕ)
    → as_lines (l ∷ split x s) ≡ record { bytes = l; ended = true } ∷ as_lines (split x s)
part-more x l [] = refl
part-more x l (b ∷ s) = by-test (eqb b x) (λ t. rw t) (λ t. rw t (parts_more l b (split x s)))

-- Bytes without a line feed, and one behind them, are the first line.
pub lines-first :
    (l rest : List ℕ) → lacks 10 l ≡ true
    → lines (l ++ (10 ∷ rest)) ≡ record { bytes = l; ended = true } ∷ lines rest
unfolding lines
lines-first l rest e = rw (split-first 10 l rest e) (part-more 10 l rest)

-- The digits of a number are neither tabs nor line feeds, nor any other byte below 48, however large it is.
digits-lack : (x : ℕ) → x < 48 → (k n : ℕ) → lacks x (digits k n) ≡ true
digits-lack x h zero n = rw (ne_eqb (48 + n) x (omega arith))
digits-lack x h (suc k) n =
    by-test (ltb n 10)
    (λ t. rw (t, ne_eqb (48 + n) x (omega arith)))
    (λ t.
    rw t
    (lacks-append x (digits k (n / 10)) ((48 + n % 10) ∷ []) (digits-lack x h k (n / 10))
    (rw (ne_eqb (48 + n % 10) x (omega arith)))))

-- A field as a line can hold it: it has neither a tab nor a line feed.
pub record Plain (f : List ℕ) : Type 0 where
  pub no-tab : lacks 9 f ≡ true
  pub no-feed : lacks 10 f ≡ true

-- All fields are so.
abbrev pub AllPlain : List (List ℕ) → Type 0
AllPlain [] = Unit {0}
AllPlain (f ∷ fs) = Plain f × AllPlain fs

-- All numbers can be read: none is too large.
abbrev pub AllFit : List ℕ → Type 0
AllFit [] = Unit {0}
AllFit (n ∷ ns) = (n ≤ largest) × AllFit ns

-- Decimal forms are fields of a line,
pub decimals-plain : (ns : List ℕ) → AllPlain (map decimal ns)
unfolding decimal
decimals-plain [] = tt
decimals-plain (n ∷ ns) = (
  record { no-tab = digits-lack 9 (omega arith) 9 n; no-feed = digits-lack 10 (omega arith) 9 n },
  decimals-plain ns,
)

-- and those of such numbers are read to the numbers.
pub numbers-written : (ns : List ℕ) → AllFit ns → numbers (length ns) (map decimal ns) ≡ Some ns
numbers-written [] fit = refl
numbers-written (n ∷ ns) fit =
    rw ((number-decimal (decimal n) n).1 (fit.0, refl), numbers-written ns fit.1)

-- Fields behind a first one, each behind a tab: fields_behind without the line feed.
abbrev pub tabbed : List (List ℕ) → List ℕ
tabbed [] = []
tabbed (f ∷ fs) = (9 ∷ f) ++ tabbed fs

-- The line of these fields.
abbrev pub written_line : List ℕ → List (List ℕ) → Line
written_line first fs = record { bytes = first ++ tabbed fs; ended = true }

-- Its fields are they.
pub fields-written :
    (first : List ℕ) (fs : List (List ℕ)) → Plain first → AllPlain fs
    → fields (written_line first fs).bytes ≡ first ∷ fs
unfolding fields
fields-written first [] p ps = rw (append-nil first) (split-lacking 9 first p.no-tab)
fields-written first (f ∷ fs) p ps =
    rw (split-first 9 first (f ++ tabbed fs) p.no-tab, fields-written f fs ps.0 ps.1)

-- No line feed stands in it.
no-feed-within :
    (first : List ℕ) (fs : List (List ℕ)) → Plain first → AllPlain fs → lacks 10 (written_line first fs).bytes ≡ true
no-feed-within first [] p ps = rw (append-nil first) p.no-feed
no-feed-within first (f ∷ fs) p ps =
    lacks-append 10 first (9 ∷ (f ++ tabbed fs)) p.no-feed (no-feed-within f fs ps.0 ps.1)

-- Behind it stands the line feed.
feed-behind : (fs : List (List ℕ)) (rest : List ℕ) → fields_behind fs ++ rest ≡ tabbed fs ++ (10 ∷ rest)
feed-behind [] rest = refl
feed-behind (f ∷ fs) rest = simp (append_assoc, feed-behind fs rest)

-- So it is the first line of what is written, and the others are those behind it.
pub line-written :
    (first : List ℕ) (fs : List (List ℕ)) (rest : List ℕ) → Plain first → AllPlain fs
    → lines ((first ++ fields_behind fs) ++ rest) ≡ written_line first fs ∷ lines rest
line-written first fs rest p ps =
    rw (append_assoc first (fields_behind fs) rest, feed-behind fs rest, ← append_assoc first (tabbed fs) (10 ∷ rest))
    (lines-first (first ++ tabbed fs) rest (no-feed-within first fs p ps))

-- A line of numbers is the first line of what is written,
pub numbers-line :
    (first ns rest : List ℕ) → Plain first
    → lines (line_of first ns ++ rest) ≡ written_line first (map decimal ns) ∷ lines rest
numbers-line first ns rest p = line-written first (map decimal ns) rest p (decimals-plain ns)

-- and its fields are the first and the numbers' decimal forms.
pub numbers-fields :
    (first ns : List ℕ) → Plain first
    → fields (written_line first (map decimal ns)).bytes ≡ first ∷ map decimal ns
numbers-fields first ns p = fields-written first (map decimal ns) p (decimals-plain ns)
