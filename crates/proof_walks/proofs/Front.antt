-- The first elements of a local array, lent by `&` as a slice for a lifetime, and taken home with the others.
--     at-list      a `&` to some elements at (b, o)
--     Slice, Kept  what the `&κ [T]` on some elements owns, and what the lender keeps of the array
--     lend-front   the local's cell ∗ what the array owns ∗ a share of κ's token
--                  ⊢ ⇛ what the `&κ [T]` on the first k elements owns ∗ the token ∗ what the lender keeps.
--                  The elements are shared by `Denote/Shares.antt`'s law at κ, as those of a type that is Copy are
--                  (`Borrow/Table/Copies.antt`'s `Shares-copy`), and k is at most n
--     front-home   [†κ] ∗ what the lender keeps
--                  ⊢ ⇛ the array's relation holds, and the local's cell is at its machine value
-- The whole array is lent, and the slice on it is cut by `Borrow/Rule/Slice/Prefix.antt`.
-- It says nothing of the crate. Assumes `Logic`.
use mathlib.Core.Path.{◌≡◌, refl, sym, subst}
use Prim.Native.Nat.{ℕ, ◌≤◌}
use mathlib.Core.List.{List, [], ◌∷◌}
use lib.ListN.{length, take}
use lib.Seq.{length-take-le}
use seplogic.Ra.Ura.{Ura}
use base.Fraction.{full_share}
use mir.Syntax.{Ty, ty_array, Lifetime, erased}
use mir.Val.{Val}
use base.Logic.{SProp, ent, sep, guard}
use base.Fml.{Lft, Share, Fml, Incl-refl, fat, flft, fdead, flent}
use types.Logic.{Logic, sem}
use types.Kit.{‵, ◌⊛◌, later, ◌$◌, ◌∵◌, !, qed, by, move, use1, use2, use3, split, join, rewrite, await}
use types.Kit.{updating, now as at_once, fsplit, fjoin, feq_i, done}
use types.Tokens.{lent_back}
use types.Share.{arr_parts}
use denote.RattleType.{RattleType}
use denote.Laws.{Is, Tells}
use denote.Memory.{lone, shares, part_at}
use denote.Array.{Array}
use denote.ArrayMemory.{Single, Array-apart, Array-whole}
use denote.Ref.{Bor}
use denote.Shares.{Shares}
use denote.Slice.{slice_val, ShrSlice, Room}
use borrow.Table.Owned as cut
use borrow.Rule.Slice.Prefix.{shs_prefix_same}
use Rattle.proof_walks.proofs.Local.{lies_in, lies_out}

abbrev pub at-list : {X : Type 0} → ℕ → ℕ → List X → Bor (List X)
at-list b o xs = record { ref_ptr = (b, o); now = xs }

module _ {M : Type 1} {𝓤 : Ura M} (𝓛 : Logic 𝓤) (S : RattleType) (n : ℕ) where
  open 𝓛 use {H, A}

  abbrev τ : Ty
  τ = ty_array (lone S.mir) n

  -- What the slice on some elements owns, as a parameter's type has it and as the rule that cuts it has it.
  abbrev pub Slice : Lifetime → Lft → ℕ → ℕ → List S.Denot → ℕ → Fml
  Slice ℓ κ b o xs k = (ShrSlice ℓ κ S).own_val (at-list b o xs) (slice_val (b, o) k ∷ [])

  abbrev Bare : Lft → ℕ → ℕ → List S.Denot → Fml
  Bare κ b o xs = (cut.ShrSlice erased κ S).own_val (at-list b o xs)

  -- What the lender keeps.
  abbrev pub Kept : Lft → ℕ → ℕ → List S.Denot → Fml
  Kept κ b o xs = flent κ ((arr_parts (shares S) n).part full_share xs b o)

  module _ (single : Single S.mir) (room : Room S n) (xs : List S.Denot) (len : length xs ≡ n) (b o : ℕ)
      (κ : Lft) where
    -- The whole array, lent.
    share : Shares 𝓛 S κ → (q : Share) (v : Val) → ent 𝓤 (sep 𝓤 (sem 𝓛 (fat full_share τ b o v))
        (sep 𝓤 (sem 𝓛 ((Array S n).own_val xs (v ∷ []))) (A.lft κ q)))
        (H.⇛ (sep 𝓤 (sep 𝓤 (sem 𝓛 (Bare κ b o xs)) (sem 𝓛 (Kept κ b o xs))) (A.lft κ q)))
    share shared q v =
        qed 𝓛 (‵ (fat full_share τ b o v) ∷ ‵ ((Array S n).own_val xs (v ∷ [])) ∷ ‵ (flft κ q) ∷ []) ∵ updating ! $
        use2 𝓛 (‵ (part_at (Array S n) full_share xs b o)) (lies_in 𝓛 S n xs v b o) $
        use1 𝓛 (‵ ((arr_parts (shares S) n).part full_share xs b o)) (Array-apart 𝓛 S full_share single n xs b o) $
        rewrite ! 0 (λ (k : ℕ). ‵ ((arr_parts (shares S) k).part full_share xs b o)) (sym len) refl $
        use2 𝓛 (later ((‵ (Bare κ b o xs) ⊛ ‵ (flent κ ((arr_parts (shares S) (length xs)).part full_share xs b o)))
        ⊛ ‵ (flft κ q)))
        (cut.lends_shr_slice 𝓛 S erased κ full_share xs b o (subst (Room S) (sym len) room) κ shared ((κ, q) ∷ [])
        (Incl-refl κ) (Incl-refl κ)) $ await ! tt $ split ! $ split ! $
        rewrite ! 1 (λ (k : ℕ). ‵ (flent κ ((arr_parts (shares S) k).part full_share xs b o))) len refl $
        at_once ! $ join ! $ done !

    -- Its first k elements.
    abbrev Lent : Lifetime → Share → ℕ → SProp 𝓤
    Lent ℓ q k = sep 𝓤 (sem 𝓛 (Slice ℓ κ b o (take k xs) k)) (sep 𝓤 (A.lft κ q) (sem 𝓛 (Kept κ b o xs)))

    pub lend-front : Shares 𝓛 S κ → (ℓ : Lifetime) (q : Share) (v : Val) (k : ℕ) → k ≤ n
        → ent 𝓤 (sep 𝓤 (sem 𝓛 (fat full_share τ b o v))
        (sep 𝓤 (sem 𝓛 ((Array S n).own_val xs (v ∷ []))) (A.lft κ q)))
        (H.⇛ (Lent ℓ q k))
    lend-front shared ℓ q v k fits =
        let k-long : length (take k xs) ≡ k = length-take-le k xs (subst (λ (m : ℕ). k ≤ m) (sym len) fits) in
        qed 𝓛 (‵ (fat full_share τ b o v) ∷ ‵ ((Array S n).own_val xs (v ∷ [])) ∷ ‵ (flft κ q) ∷ []) ∵ updating ! $
        use3 𝓛 (later ((‵ (Bare κ b o xs) ⊛ ‵ (Kept κ b o xs)) ⊛ ‵ (flft κ q))) (share shared q v) $ await ! tt $
        split ! $ split ! $ move ! (0 ∷ 2 ∷ []) $
        use2 𝓛 (later (‵ (Bare κ b o (take k xs)) ⊛ ‵ (flft κ q)))
        (shs_prefix_same 𝓛 S κ q b o xs k) $ await ! tt $ split ! $
        -- [what the cut slice owns; the token; what the lender keeps]
        fsplit ! $ feq_i ! (List Val) (slice_val (b, o) (length (take k xs)) ∷ [])
        (slice_val (b, o) (length (take k xs)) ∷ []) refl $ fjoin ! $ fjoin ! $
        rewrite ! 0 (λ (m : ℕ). ‵ (Slice ℓ κ b o (take k xs) m)) k-long refl $
        at_once ! $ done !

  pub front-home : (val : List S.Denot → Val) → Tells (Array S n) (Is (Array S n)) (λ xs. val xs ∷ [])
      → (κ : Lft) (xs : List S.Denot) (b o : ℕ) → ent 𝓤 (sep 𝓤 (A.dead κ) (sem 𝓛 (Kept κ b o xs)))
      (H.⇛ (guard 𝓤 (Is (Array S n) xs (val xs ∷ [])) (sem 𝓛 (fat full_share τ b o (val xs)))))
  front-home val tells κ xs b o =
      qed 𝓛 (‵ (fdead κ) ∷ ‵ (Kept κ b o xs) ∷ []) ∵ updating ! $ lent_back ! tt $
      use1 𝓛 (‵ (part_at (Array S n) full_share xs b o)) (Array-whole 𝓛 S full_share n xs b o) $ at_once ! $
      by ! (lies_out 𝓛 S n val tells xs b o)
