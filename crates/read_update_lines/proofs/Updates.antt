-- The last of updates: where it stands, with one more update behind it, and with one more move in it. Assumes nothing.
use Rattle.std.proofs.Common.{◌≡◌, refl, ap, ◌∙◌, ℕ, suc, ◌-◌, ◌<◌, List, [], ◌∷◌, ◌++◌, length, get_or, arith}
use Rattle.spec_format.specs.declared.Move.{Move}
use Rattle.spec_format.specs.Plan.{blocks_written}
use Rattle.spec_format.specs.Faults.{last_of}
use Rattle.spec_format.specs.Reading.{add_to_last}

-- The last of updates stands at the last place.
pub last_at : (us : List (List Move)) → last_of us ≡ get_or us (length us - 1) []
last_at [] = refl
last_at (u ∷ []) = refl
last_at (u ∷ v ∷ us) = let next : length (u ∷ v ∷ us) - 1 ≡ suc (length (v ∷ us) - 1) = omega arith in rw next (last_at (v ∷ us))

-- The last of updates with one more.
pub last_push : (us : List (List Move)) (u : List Move) → last_of (us ++ u ∷ []) ≡ u
last_push [] u = refl
last_push (v ∷ []) u = refl
last_push (v ∷ w ∷ us) u = last_push (w ∷ us) u

-- An update without moves writes no block.
pub none_written : (s : ℕ) (us : List (List Move)) → length (blocks_written s (last_of (us ++ [] ∷ []))) ≡ 0
unfolding blocks_written
none_written s us = rw last_push

-- One more move in the last of updates,
pub last_more : (m : Move) (us : List (List Move)) → 0 < length us → last_of (add_to_last m us) ≡ last_of us ++ m ∷ []
last_more m [] h = absurd (omega arith)
last_more m (u ∷ []) h = refl
last_more m (u ∷ v ∷ us) h = last_step m u (v ∷ us) (omega arith) ∙ last_more m (v ∷ us) (omega arith)
  where
    last_step : (m : Move) (u : List Move) (us : List (List Move)) → 0 < length us
        → last_of (u ∷ add_to_last m us) ≡ last_of (add_to_last m us)
    last_step m u [] h = absurd (omega arith)
    last_step m u (v ∷ []) h = refl
    last_step m u (v ∷ w ∷ us) h = refl

-- and no more updates.
pub length_more : (m : Move) (us : List (List Move)) → length (add_to_last m us) ≡ length us
length_more m [] = refl
length_more m (u ∷ []) = refl
length_more m (u ∷ v ∷ us) = ap suc (length_more m (v ∷ us))
