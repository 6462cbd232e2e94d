-- One more move in the last update, by the place of that update. Assumes nothing.
use Rattle.std.proofs.Common.{◌≡◌, refl, sym, ◌∙◌, ap, ◌<◌, ◌+◌, ◌-◌, ℕ, suc, arith, List, [], ◌∷◌, ◌++◌}
use Rattle.std.proofs.Common.{length, get_or, map}
use Rattle.std.proofs.Math.ListN.{set, length-set}
use Rattle.std.proofs.Math.Seq.{drop-length}
use Rattle.std.proofs.lemmas.List.{map-set, take_all, get_or-map, length-map}
use mathlib.Core.List.{append-nil}
use Rattle.std.specs.List.{refill}
use Rattle.arrayvec.specs.ArrayVec.{ArrayVec}
use Rattle.spec_format.specs.declared.Move.{Move}
use Rattle.spec_format.specs.Reading.{add_to_last}

-- The update at the last place, with one more move.
set_last : (x : Move) (us : List (List Move)) (i : ℕ) (d : List Move) → length us ≡ i + 1
    → set us i (get_or us i d ++ x ∷ []) ≡ add_to_last x us
set_last x [] i d h = absurd (omega arith)
set_last x (u ∷ []) i d h =
    let e : i ≡ 0 = omega arith in
    rw e refl
set_last x (u ∷ w ∷ us) i d h =
    let e : i ≡ suc (i - 1) = omega arith in
    rw e (ap (λ (vs : List (List Move)). u ∷ vs) (set_last x (w ∷ us) (i - 1) d (omega arith)))

-- The same of updates whose moves are lent for writing.
pub pushed_last : (x : Move) (us : List (ArrayVec Move)) (v d : ArrayVec Move) → 0 < length us
    → v.items ≡ (get_or us (length us - 1) d).items ++ x ∷ []
    → map (λ update. update.items) (refill (length us) us (set us (length us - 1) v))
    ≡ add_to_last x (map (λ update. update.items) us)
pushed_last x us v d some e =
    let f : ArrayVec Move → List Move = λ update. update.items in
    let n = length us - 1 in
    let whole : refill (length us) us (set us n v) ≡ set us n v
    = rw (length-set us n v, drop-length us, append-nil (set us n v))
    (take_all (length us) (set us n v) (omega (arith, length-set us n v))) in
    let here : get_or (map f us) n [] ≡ (get_or us n d).items = get_or-map f us n d [] (omega arith) in
    ap (map f) whole
    ∙ map-set f us n v
    ∙ ap (set (map f us) n) (e ∙ sym (ap (λ (ms : List Move). ms ++ x ∷ []) here))
    ∙ set_last x (map f us) n [] (omega (arith, length-map us f))
