-- Bytes written one behind the other are written together. Assumes nothing.
use Prim.Native.Nat.{ℕ, suc, ◌+◌, ◌*◌, ◌≤◌}
use mathlib.Core.Path.{◌≡◌, refl, sym, ap, ◌∙◌}
use mathlib.Core.List.{List, [], ◌∷◌, ◌++◌}
use native.Mathlib.Nat.{add-zero, zero-add}
use native.Mathlib.Numerals.{add-one}
use native.Mathlib.Omega.{arith}
use lib.ListN.{length, set, take, drop, length-append}
use lib.Seq.{sets, length-sets, sets-eq, set_out, take-append_seam}
use Rattle.spec_text.specs.FirstPlaces.{in_first_places}
use Rattle.spec_report.specs.Report.{joined}
use Rattle.report_bytes.specs.Writes.{put, Writes}

-- Writing is a run of stores.
put-sets : (b : List ℕ) (at : ℕ) (xs : List ℕ) → put b at xs ≡ sets b at xs
unfolding put
put-sets b at [] = refl
put-sets b at (x ∷ xs) = rw (add-one at) (put-sets (set b at x) (suc at) xs)

-- Bytes past the buffer's end are not written.
put-past : (b : List ℕ) (at : ℕ) (xs : List ℕ) → length b ≤ at → put b at xs ≡ b
unfolding put
put-past b at [] h = refl
put-past b at (x ∷ xs) h = rw (set_out b at x h) (put-past b (at + 1) xs (omega arith))

-- So what has no room is only counted.
pub counted : (xs : List ℕ) (most at : ℕ) (b : List ℕ) → length xs ≤ most → length b ≤ at
    → Writes xs most at b (at + length xs) b
counted xs most at b few h = record { next_is = refl; at_most = omega arith; after_is = sym (put-past b at xs h) }

-- Bytes and bytes behind them.
put-append : (b : List ℕ) (at : ℕ) (xs ys : List ℕ) → put b at (xs ++ ys) ≡ put (put b at xs) (at + length xs) ys
unfolding put
put-append b at [] ys = rw (add-zero at)
put-append b at (x ∷ xs) ys =
    let e : at + 1 + length xs ≡ at + suc (length xs) = omega arith in
    put-append (set b at x) (at + 1) xs ys ∙ rw e

-- Bytes from the start on, where they fit.
pub put_whole : (b : List ℕ) (xs : List ℕ) → length xs ≤ length b → put b 0 xs ≡ in_first_places xs b
put_whole b xs h = put-sets b 0 xs ∙ sets-eq xs b 0 (omega arith) ∙ rw (zero-add (length xs))

-- Bytes in the first places of a buffer are so many of its first bytes.
pub counts : (xs before : List ℕ) {n : ℕ} {after : List ℕ} → n ≡ length xs → after ≡ in_first_places xs before
    → (n ≤ length after) × (n ≡ length (take n after))
counts xs before e is =
    rw (e, is) (
      omega (arith, length-append xs (drop (length xs) before)),
      ap length (sym (take-append_seam xs (drop (length xs) before))),
    )

module _ {xs : List ℕ} {most at next : ℕ} {before after : List ℕ} where
  -- A buffer keeps its length.
  pub keeps : Writes xs most at before next after → length after ≡ length before
  keeps w = ap length (w.after_is ∙ put-sets before at xs) ∙ length-sets before at xs

  -- More room is room enough.
  pub widen : (more : ℕ) → most ≤ more → Writes xs most at before next after → Writes xs more at before next after
  widen more h w = record { next_is = w.next_is; at_most = omega (arith, w.at_most); after_is = w.after_is }

  -- Bytes of which there are no more.
  pub within : (less : ℕ) → length xs ≤ less → Writes xs most at before next after
      → Writes xs less at before next after
  within less h w = record { next_is = w.next_is; at_most = omega (arith, w.next_is); after_is = w.after_is }

  -- The same bytes under another name.
  pub renamed : (ys : List ℕ) → xs ≡ ys → Writes xs most at before next after → Writes ys most at before next after
  renamed ys e w = rw (← e) w

  -- One behind the other.
  pub then : {ys : List ℕ} {most' next' : ℕ} {after' : List ℕ} → Writes xs most at before next after
      → Writes ys most' next after next' after'
      → Writes (xs ++ ys) (most + most') at before next' after'
  then {ys} v w =
      record {
        next_is = w.next_is ∙ rw (v.next_is, length-append xs ys) (omega arith);
        at_most = omega (arith, v.at_most, w.at_most);
        after_is = w.after_is ∙ rw (v.after_is, v.next_is) (sym (put-append before at xs ys));
      }

-- Nothing.
pub nothing : (at : ℕ) (b : List ℕ) → Writes [] 0 at b at b
unfolding put
nothing at b = record { next_is = omega arith; at_most = omega arith; after_is = refl }

-- One turn more of a loop that writes f 0, f 1, .., each of at most k bytes.
pub once_more : (i : ℕ) (f : ℕ → List ℕ) {k at next next' : ℕ} {before after after' : List ℕ}
    → Writes (joined i f) (k * i) at before next after
    → Writes (f i) k next after next' after'
    → Writes (joined (i + 1) f) (k * (i + 1)) at before next' after'
once_more i f {k} v w = rw (add-one i) (widen (k * suc i) (omega arith) (then v w))
