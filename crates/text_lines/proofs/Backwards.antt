-- A part that is written from its end to its start: the digits of a number, and the fields of numbers. Assumes nothing.
use Prim.Native.Nat.{ℕ, suc, ◌+◌, ◌≤◌, ◌<◌}
use mathlib.Core.Path.{◌≡◌, sym, ap, ◌∙◌}
use mathlib.Core.List.{List, [], ◌∷◌, ◌++◌, append_assoc, append-nil}
use native.Mathlib.Omega.{arith}
use lib.ListN.{length, get_or, set, take, drop, length-append}
use lib.Seq.{length-take-le, take-take, take-suc, take_all, take_at, drop_at, set_at}

-- The bytes `whole` are being written: from a place on the part holds the last of them, and in front of it what it held
-- before; those of `todo` are still to come.
pub record Filling (whole todo before : List ℕ) (at : ℕ) (part : List ℕ) : Type 0 where
  pub done : List ℕ
  pub place : at ≤ length before
  pub is : part ≡ take at before ++ done
  pub all : todo ++ done ≡ whole

-- None is written.
pub begun : (whole before : List ℕ) → Filling whole whole before (length before) before
begun whole before =
    record {
      done = [];
      place = omega arith;
      is = rw (take_all (length before) before (omega arith), append-nil);
      all = append-nil whole;
    }

module _ {whole todo before part : List ℕ} {at : ℕ} (f : Filling whole todo before at part) where
  -- What is to come has as much room in front as is left of the part.
  pub room : length part ≡ length before → length whole + at ≡ length todo + length before
  room same =
      omega (
        arith,
        ap length f.is,
        length-append (take at before) f.done,
        length-take-le at before f.place,
        ap length f.all,
        length-append todo f.done,
      )

  -- All are written.
  pub done-is : todo ≡ [] → part ≡ take at before ++ whole
  done-is none = f.is ∙ ap (λ (s : List ℕ). take at before ++ s) (rw none at f.all)

  -- The last byte of those to come is written.
  pub more : (todo' : List ℕ) (i d : ℕ) → todo ≡ todo' ++ (d ∷ []) → i + 1 ≡ at
      → Filling whole todo' before i (set part i d)
  more todo' i d last next =
      let inside : i < length before = omega (arith, f.place) in
      let suc-i : at ≡ suc i = omega arith in
      record {
        done = d ∷ f.done;
        place = omega arith;
        is =
            ap (λ (s : List ℕ). set s i d)
            (f.is ∙ rw (suc-i, take-suc before i 0 inside) (append_assoc (take i before) (get_or before i 0 ∷ []) f.done))
            ∙ set_at (take i before) (get_or before i 0) f.done d i (length-take-le i before (omega arith));
        all = sym (append_assoc todo' (d ∷ []) f.done) ∙ rw last at f.all;
      }

  -- The last of those to come are written, from r on.
  pub moved : (todo' bytes front : List ℕ) (r : ℕ) → todo ≡ todo' ++ bytes → r + length bytes ≡ length (take at part)
      → front ≡ take r (take at part) ++ bytes
      → Filling whole todo' before r (front ++ drop at part)
  moved todo' bytes front r last place-is is =
      let long : length (take at before) ≡ at = length-take-le at before f.place in
      let kept : take at part ≡ take at before = ap (take at) f.is ∙ take_at (take at before) f.done at long in
      let below : r ≤ at = omega (arith, place-is, ap length kept, long) in
      record {
        done = bytes ++ f.done;
        place = omega (arith, below, f.place);
        is =
            ap (λ (s : List ℕ). front ++ drop at s) f.is
            ∙ ap (λ (s : List ℕ). front ++ s) (drop_at (take at before) f.done at long)
            ∙ ap (λ (s : List ℕ). s ++ f.done) (is ∙ rw (kept, take-take r at before below))
            ∙ append_assoc (take r before) bytes f.done;
        all = sym (append_assoc todo' bytes f.done) ∙ rw last at f.all;
      }
