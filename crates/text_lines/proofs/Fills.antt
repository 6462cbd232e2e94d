-- Bytes written one behind the other are written together. Assumes nothing.
use Prim.Native.Nat.{ℕ, suc, ◌+◌, ◌≤◌}
use mathlib.Core.Path.{◌≡◌, refl, sym, ap, ◌∙◌, subst}
use mathlib.Core.List.{List, [], ◌∷◌, ◌++◌, append_assoc}
use native.Mathlib.Nat.{add-zero}
use native.Mathlib.Numerals.{add-one}
use native.Mathlib.Omega.{arith}
use lib.ListN.{length, set, take, drop, length-append}
use lib.Seq.{sets, length-sets, sets-eq}
use Rattle.spec_text.specs.FirstPlaces.{in_first_places}
use Rattle.spec_report.specs.Report.{joined}
use Rattle.text_lines.specs.Fills.{filled, Fills}

-- Stores one behind the other are stores of both.
sets-append : (b : List ℕ) (at : ℕ) (xs ys : List ℕ) → sets b at (xs ++ ys) ≡ sets (sets b at xs) (at + length xs) ys
sets-append b at [] ys = rw (add-zero at)
sets-append b at (x ∷ xs) ys =
    let e : suc at + length xs ≡ at + suc (length xs) = omega arith in
    sets-append (set b at x) (suc at) xs ys ∙ rw e

-- Bytes from a place on are a run of stores, where there is room.
stores : (xs before : List ℕ) (at : ℕ) → at + length xs ≤ length before → filled before at xs ≡ sets before at xs
stores xs before at h =
    sym (sets-eq xs before at h ∙ append_assoc (take at before) xs (drop (at + length xs) before))

module _ {xs : List ℕ} {at next : ℕ} {before after : List ℕ} where
  -- What is written is a run of stores.
  as-stores : Fills xs at before next after → after ≡ sets before at xs
  as-stores f = f.after_is ∙ stores xs before at (omega (arith, f.room, f.next_is))

  -- A run of stores, where there is room, is written.
  of-stores : next ≡ at + length xs → next ≤ length before → after ≡ sets before at xs → Fills xs at before next after
  of-stores n r a = record { next_is = n; room = r; after_is = a ∙ sym (stores xs before at (omega arith)) }

  -- A buffer keeps its length.
  pub keeps : Fills xs at before next after → length after ≡ length before
  keeps f = ap length (as-stores f) ∙ length-sets before at xs

  -- The same bytes under another name.
  pub renamed : (ys : List ℕ) → xs ≡ ys → Fills xs at before next after → Fills ys at before next after
  renamed ys e f = subst (λ zs. Fills zs at before next after) e f

-- One behind the other.
pub then : {xs ys : List ℕ} {at next next' : ℕ} {before after after' : List ℕ} → Fills xs at before next after
    → Fills ys next after next' after' → Fills (xs ++ ys) at before next' after'
then {xs} {ys} {at} {before = before} f g =
    of-stores (omega (arith, f.next_is, g.next_is, length-append xs ys)) (omega (arith, g.room, keeps f))
    (as-stores g ∙ rw (as-stores f, f.next_is) (sym (sets-append before at xs ys)))

-- Nothing.
pub nothing : (at : ℕ) (b : List ℕ) → at ≤ length b → Fills [] at b at b
nothing at b h = of-stores (omega arith) h refl

-- One turn more of a loop that writes f 0, f 1 and so on.
pub once_more : (i : ℕ) (f : ℕ → List ℕ) {at next next' : ℕ} {before after after' : List ℕ}
    → Fills (joined i f) at before next after → Fills (f i) next after next' after'
    → Fills (joined (i + 1) f) at before next' after'
once_more i f v w = rw (add-one i) (then v w)

-- From the start on.
pub whole : {xs : List ℕ} {next : ℕ} {before after : List ℕ} → Fills xs 0 before next after
    → (next ≡ length xs) × (after ≡ in_first_places xs before)
whole {xs} {next} {before} f =
    let n : 0 + length xs ≡ length xs = omega arith in
    (f.next_is ∙ n, f.after_is ∙ ap (λ k. xs ++ drop k before) n)
