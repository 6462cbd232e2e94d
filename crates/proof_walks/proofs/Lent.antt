-- A local array, lent whole for a lifetime and taken home, each as one step of a walk.
--     big-lit                 a constant that MIR writes as `int_big`, which `Types/Run.antt`'s `lit` does not take
--     repeat-is               the relation of `[x; n]`, from the element's
--     at, seen-at             what a `&mut` to a list at a block, under a name, denotes, and what a `&` does
--     Slice, Whole            what is owned of the array lent as a `&κ mut [T]`, and as a `&κ mut [T; n]`
--     Seen, SeenWhole         what is owned of it lent as a `&κ [T]`, and as a `&κ [T; n]`
--     Slice' and so on        what the lender has of each
--     lends, lends-whole      the local's cell, lent by `&mut`.       home, home-whole        it comes home
--     shows-slice, shows-whole    the cell, lent by `&`.              unseen, unseen-whole    it comes home
--     Frees                   a `&` is made out of memory with no token, as to each type that is Copy: so `shows-slice`
--                             takes it of the element, and `shows-whole` of the array
--     shows-slice-by, shows-whole-by      by `&` of any type that is shared by `Denote/Shares.antt`'s law: with tokens,
--                             which come back
-- A cell comes home when the lifetime is over: it is at the machine value of what the array holds then.
-- It says nothing of the crate. Assumes `Logic`.
use mathlib.Core.Path.{refl, sym, subst}
use Prim.Native.Nat.{ℕ, zero, suc, ◌+◌}
use mathlib.Core.List.{List, [], ◌∷◌}
use lib.ListN.{length, replicate, length-replicate}
use seplogic.Ra.Ura.{Ura}
use base.Fraction.{full_share}
use mir.Syntax.{Ty, Width, ty_array, named, int_big}
use mir.Val.{Val, Fits, vint, vstruct, of_list}
use base.Logic.{SProp, ent, sep, ex, guard, guard_i, via}
use base.Fml.{Lft, GName, Fml, Incl, fsep, fat, fdead, flent, fres, fhide}
use prog.Wp.{Env}
use ghost.Rules.{Toks, span}
use types.Logic.{Logic, sem, lfts}
use types.Kit.{Goal, Soaks, Item, Seq, ‵, ⋆, ◌⊛◌, some, later, given, ◌$◌, ◌∵◌, !, qed, by, move, use1, use2}
use types.Kit.{use3, split, pick, learn, rewrite, await, updating, now as at_once, show, fsplit, fjoin, feq_l, feq_i}
use types.Kit.{done, raw, join, drop}
use types.Run.{Opd}
use types.SemTy.{cells, Arr, Body}
use types.Tokens.{lent_back}
use types.Share.{parts, arr_parts}
use denote.RattleType.{RattleType}
use denote.Shadow.{shadow, pure_i}
use denote.Laws.{Is, Tells, Makes}
use denote.Memory.{lone, mem, shares, part_at, shared_of}
use denote.Array.{Array, each}
use denote.ArrayMemory.{Single, Array-apart, Array-whole}
use denote.Ref.{Bor, MutBor, MutRef, ShrRef, shr_vals, mut_vals}
use denote.Slice.{slice_val, MutSlice, ShrSlice, Room, finally, shr_slice_at, elements_shared}
use denote.Index.{row, whole_in, whole_out}
use denote.Lend.{Held, lends_slice, slice_back, lends_ref, ref_back, lends_shr, lends_free, lends_shr_slice}
use denote.Lends.{Lent as Free, Lent-nothing, Lent-both, Lent-map}
use denote.Shares.{Shares}
use denote.Steps.{owned}
use Rattle.proof_walks.proofs.Local.{lies_in, lies_out}

module _ {M : Type 1} {𝓤 : Ura M} {𝓛 : Logic 𝓤} {K : Type 0} {Γ : List (Item 𝓤)}
    {E : Env 𝓤 𝓛.H} where
  pub big-lit : K → {w : Width} {n : ℕ} → Fits w n → Opd K 𝓛 Γ E (int_big w n) (vint w n)
  big-lit t {w} {n} z = record { go = λ Kt h. via 𝓤 (Kt (vint w n)) h (guard_i 𝓤 (Fits w n) (Kt (vint w n)) z) }

each_repeat : (S : RattleType) (n : ℕ) (x : S.Denot) (v : Val) → Is S x (v ∷ [])
    → shadow (each S.Denot S.own_val (replicate n x) (replicate n v))
each_repeat S zero x v is = tt
each_repeat S (suc n) x v is = (is, each_repeat S n x v is)

pub repeat-is : (S : RattleType) (n : ℕ) (x : S.Denot) (v : Val) → Is S x (v ∷ [])
    → Is (Array S n) (replicate n x) (vstruct (of_list (replicate n v)) ∷ [])
repeat-is S n x v is = (replicate n v, ((refl, length-replicate n x), each_repeat S n x v is))

abbrev pub at : {X : Type 0} → ℕ → GName → List X → MutBor (List X)
at b γ xs = record { ref_ptr = (b, 0); ghost_name = γ; now = xs }

abbrev pub seen-at : {X : Type 0} → ℕ → List X → Bor (List X)
seen-at b xs = record { ref_ptr = (b, 0); now = xs }

-- The array at the block b, lent for the lifetime κ.
module _ (S : RattleType) (n : ℕ) where
  abbrev τ : Ty
  τ = ty_array (lone S.mir) n

  abbrev pub Slice : Lft → MutBor (List S.Denot) → Fml
  Slice κ r = (MutSlice (named 0) κ S).own_val r (slice_val r.ref_ptr n ∷ [])

  abbrev pub Slice' : Lft → ℕ → GName → Fml
  Slice' κ b γ = flent κ (Held S n b 0 γ)

  abbrev pub Whole : Lft → MutBor (List S.Denot) → Fml
  Whole κ r = (MutRef (named 0) κ (Array S n)).own_val r (mut_vals r)

  abbrev pub Whole' : Lft → ℕ → GName → Fml
  Whole' κ b γ = flent κ (Body (mem (Array S n)) b 0 γ)

  abbrev pub Seen : Lft → Bor (List S.Denot) → Fml
  Seen κ r = (ShrSlice (named 0) κ S).own_val r (slice_val r.ref_ptr n ∷ [])

  abbrev pub Seen' : Lft → ℕ → List S.Denot → Fml
  Seen' κ b xs = flent κ ((arr_parts (shares S) n).part full_share xs b 0)

  abbrev pub SeenWhole : Lft → Bor (List S.Denot) → Fml
  SeenWhole κ r = (ShrRef (named 0) κ (Array S n)).own_val r (shr_vals r)

  abbrev pub SeenWhole' : Lft → ℕ → List S.Denot → Fml
  SeenWhole' κ b xs = flent κ (part_at (Array S n) full_share xs b 0)

-- A `&` to an R is made out of memory with no token, as to each type that is Copy (`Denote/Copied.antt`'s `lends`).
abbrev pub Frees : {M : Type 1} {𝓤 : Ura M} (𝓛 : Logic 𝓤) → RattleType → Type 1
Frees 𝓛 R = (x : R.Denot) (b o : ℕ) → Free 𝓛 (part_at R full_share x b o) (shared_of R x b o)

-- The four loans, and the four ways home, as entailments. Those by `&` stand there twice: with no token, and by tokens.
module _ {M : Type 1} {𝓤 : Ura M} (𝓛 : Logic 𝓤) (S : RattleType) (n : ℕ) where
  -- The local's cell with what the array owns at its machine value; what is had of it lent; and the cell come home.
  open 𝓛 use {H, A}

  abbrev Cell : List S.Denot → Val → ℕ → List (Item 𝓤)
  Cell xs v b = ‵ (fat full_share (τ S n) b 0 v) ∷ ‵ ((Array S n).own_val xs (v ∷ [])) ∷ []

  abbrev CellBy : Toks → List S.Denot → Val → ℕ → List (Item 𝓤)
  CellBy ts xs v b =
      ‵ (fat full_share (τ S n) b 0 v) ∷ ‵ ((Array S n).own_val xs (v ∷ [])) ∷ raw (lfts 𝓛 ts) ∷ []

  abbrev Both : (GName → Fml) → (GName → Fml) → SProp 𝓤
  Both P Q = H.⇛ (ex 𝓤 (λ (γ : GName). sep 𝓤 (sem 𝓛 (P γ)) (sem 𝓛 (Q γ))))

  -- What is had of it seen.
  abbrev BothSeen : Fml → Fml → SProp 𝓤
  BothSeen P Q = H.⇛ (sep 𝓤 (sem 𝓛 P) (sem 𝓛 Q))

  -- The same, with the tokens that a type shared out by tokens asks for.
  abbrev BothBy : Fml → Fml → Toks → SProp 𝓤
  BothBy P Q ts = H.⇛ (sep 𝓤 (sep 𝓤 (sem 𝓛 P) (sem 𝓛 Q)) (lfts 𝓛 ts))

  abbrev Home : (List S.Denot → Val) → List S.Denot → ℕ → SProp 𝓤
  Home val ys b = H.⇛ (guard 𝓤 (Is (Array S n) ys (val ys ∷ [])) (sem 𝓛 (fat full_share (τ S n) b 0 (val ys))))

  lend-slice : Single S.mir → Room S n → (κ : Lft) (xs : List S.Denot) (v : Val) (b : ℕ)
      → ent 𝓤 (⋆ 𝓛 (Cell xs v b)) (Both (λ γ. Slice S n κ (at b γ xs)) (λ γ. Slice' S n κ b γ))
  lend-slice single room κ xs v b =
      qed 𝓛 (Cell xs v b) ∵ updating ! $
      use2 𝓛 (‵ (part_at (Array S n) full_share xs b 0)) (lies_in 𝓛 S n xs v b 0) $
      use1 𝓛 (‵ ((arr_parts (shares S) n).part full_share xs b 0)) (Array-apart 𝓛 S full_share single n xs b 0) $
      fsplit ! $ feq_l ! (λ len. use1 𝓛 (‵ (cells (mem S) xs b 0)) (whole_in 𝓛 S xs b 0) $
      use1 𝓛 (later (some (λ (γ : GName). ‵ (Slice S (length xs) κ (at b γ xs)) ⊛ ‵ (Slice' S (length xs) κ b γ))))
      (lends_slice 𝓛 S (named 0) κ xs b 0 (subst (Room S) (sym len) room)) $ await ! tt $ pick ! (λ γ. split ! $
      rewrite ! 0 (λ (k : ℕ). ‵ (Slice S k κ (at b γ xs))) len refl $
      rewrite ! 1 (λ (k : ℕ). ‵ (Slice' S k κ b γ)) len refl $ at_once ! $
      show ! (λ (δ : GName). sep 𝓤 (sem 𝓛 (Slice S n κ (at b δ xs))) (sem 𝓛 (Slice' S n κ b δ))) γ $ done !))

  slice-home : (val : List S.Denot → Val) → Tells (Array S n) (Is (Array S n)) (λ xs. val xs ∷ []) → (κ : Lft)
      (γ : GName) (ys : List S.Denot) (b : ℕ)
      → ent 𝓤 (sep 𝓤 (A.dead κ) (sep 𝓤 (A.lent κ (Held S n b 0 γ)) (sem 𝓛 (finally S γ ys))))
      (Home val ys b)
  slice-home val tl κ γ ys b =
      qed 𝓛 (‵ (fdead κ) ∷ ‵ (Slice' S n κ b γ) ∷ ‵ (finally S γ ys) ∷ []) ∵ updating ! $
      use3 𝓛 (later (‵ ((Arr (mem S) n).own_at ys b 0))) (slice_back 𝓛 S κ γ ys n b 0) $ await ! tt $ fsplit ! $
      move ! (1 ∷ []) $ use1 𝓛 (‵ (row S full_share ys b 0)) (whole_out 𝓛 S ys b 0) $
      move ! (1 ∷ 0 ∷ []) $ fjoin ! $
      use1 𝓛 (‵ (part_at (Array S n) full_share ys b 0)) (Array-whole 𝓛 S full_share n ys b 0) $ at_once ! $
      by ! (lies_out 𝓛 S n val tl ys b 0)

  lend-whole : (κ : Lft) (xs : List S.Denot) (v : Val) (b : ℕ)
      → ent 𝓤 (⋆ 𝓛 (Cell xs v b)) (Both (λ γ. Whole S n κ (at b γ xs)) (λ γ. Whole' S n κ b γ))
  lend-whole κ xs v b =
      qed 𝓛 (Cell xs v b) ∵
      use2 𝓛 (‵ (part_at (Array S n) full_share xs b 0)) (lies_in 𝓛 S n xs v b 0) $
      by ! (lends_ref 𝓛 (Array S n) (named 0) κ xs b 0)

  whole-home : (val : List S.Denot → Val) → Tells (Array S n) (Is (Array S n)) (λ xs. val xs ∷ []) → (κ : Lft)
      (γ : GName) (ys : List S.Denot) (b : ℕ)
      → ent 𝓤 (sep 𝓤 (A.dead κ) (sep 𝓤 (A.lent κ (Body (mem (Array S n)) b 0 γ))
      (A.res γ ((Array S n).coded.code ys))))
      (Home val ys b)
  whole-home val tl κ γ ys b =
      qed 𝓛 (‵ (fdead κ) ∷ ‵ (Whole' S n κ b γ) ∷ ‵ (fres γ ((Array S n).coded.code ys)) ∷ []) ∵ updating ! $
      use3 𝓛 (later (‵ (part_at (Array S n) full_share ys b 0))) (ref_back 𝓛 (Array S n) κ γ ys b 0) $
      await ! tt $ at_once ! $ by ! (lies_out 𝓛 S n val tl ys b 0)

  -- The elements side by side, lent with no token where each is.
  each-free : Frees 𝓛 S → (xs : List S.Denot) (b o : ℕ)
      → Free 𝓛 (parts (mem S) (shares S) full_share xs b o) (elements_shared S xs b o)
  each-free free [] b o = Lent-nothing 𝓛
  each-free free (x ∷ xs) b o =
      Lent-both 𝓛 (part_at S full_share x b o) (parts (mem S) (shares S) full_share xs b (o + (mem S).size))
      (shared_of S x b o) (elements_shared S xs b (o + (mem S).size)) (free x b o)
      (each-free free xs b (o + (mem S).size))

  row-free : Frees 𝓛 S → (xs : List S.Denot) (b o : ℕ)
      → Free 𝓛 ((arr_parts (shares S) (length xs)).part full_share xs b o) (elements_shared S xs b o)
  row-free free xs b o =
      let P : Fml = (arr_parts (shares S) (length xs)).part full_share xs b o in
      let Q : Fml = parts (mem S) (shares S) full_share xs b o in
      Lent-map 𝓛 P Q (elements_shared S xs b o)
      (qed 𝓛 (‵ P ∷ []) {P = sem 𝓛 Q} (fsplit ! $ drop ! $ done !))
      (qed 𝓛 (‵ Q ∷ []) {P = sem 𝓛 P} (feq_i ! ℕ (length xs) (length xs) refl $ done !)) (each-free free xs b o)

  show-slice : Frees 𝓛 S → Single S.mir → Room S n → (κ : Lft) (xs : List S.Denot) (v : Val) (b : ℕ)
      → ent 𝓤 (⋆ 𝓛 (Cell xs v b)) (BothSeen (Seen S n κ (seen-at b xs)) (Seen' S n κ b xs))
  show-slice free single room κ xs v b =
      qed 𝓛 (Cell xs v b) ∵ updating ! $
      use2 𝓛 (‵ (part_at (Array S n) full_share xs b 0)) (lies_in 𝓛 S n xs v b 0) $
      use1 𝓛 (‵ ((arr_parts (shares S) n).part full_share xs b 0)) (Array-apart 𝓛 S full_share single n xs b 0) $
      fsplit ! $ feq_l ! (λ len. feq_i ! ℕ (length xs) (length xs) refl $ fjoin ! $
      use1 𝓛 (later (‵ (fhide (elements_shared S xs b 0 κ)) ⊛ ‵ (Seen' S (length xs) κ b xs)))
      (row-free free xs b 0 κ) $ await ! tt $ split ! $
      pure_i ! (shr_slice_at S (seen-at b xs) (slice_val (b, 0) (length xs) ∷ [])) (tt, (tt, tt))
      (refl, subst (Room S) (sym len) room) $ fjoin ! $
      rewrite ! 0 (λ (k : ℕ). ‵ (Seen S k κ (seen-at b xs))) len refl $
      rewrite ! 1 (λ (k : ℕ). ‵ (Seen' S k κ b xs)) len refl $ at_once ! $ done !)

  show-slice-by : (l : Lft) → Shares 𝓛 S l → (ts : Toks) → Single S.mir → Room S n → (κ : Lft)
      → Incl (span ts) l → Incl (span ts) κ → (xs : List S.Denot) (v : Val) (b : ℕ)
      → ent 𝓤 (⋆ 𝓛 (CellBy ts xs v b)) (BothBy (Seen S n κ (seen-at b xs)) (Seen' S n κ b xs) ts)
  show-slice-by l out ts single room κ inc sp xs v b =
      qed 𝓛 (CellBy ts xs v b) ∵ updating ! $
      use2 𝓛 (‵ (part_at (Array S n) full_share xs b 0)) (lies_in 𝓛 S n xs v b 0) $
      use1 𝓛 (‵ ((arr_parts (shares S) n).part full_share xs b 0)) (Array-apart 𝓛 S full_share single n xs b 0) $
      fsplit ! $ feq_l ! (λ len. feq_i ! ℕ (length xs) (length xs) refl $ fjoin ! $
      use2 𝓛 (later ((‵ (Seen S (length xs) κ (seen-at b xs)) ⊛ ‵ (Seen' S (length xs) κ b xs)) ⊛ raw (lfts 𝓛 ts)))
      (lends_shr_slice 𝓛 S (named 0) κ full_share xs b 0 (subst (Room S) (sym len) room) l out ts inc sp) $
      await ! tt $ split ! $ split ! $
      rewrite ! 0 (λ (k : ℕ). ‵ (Seen S k κ (seen-at b xs))) len refl $
      rewrite ! 1 (λ (k : ℕ). ‵ (Seen' S k κ b xs)) len refl $ at_once ! $ join ! $ done !)

  slice-unseen : (val : List S.Denot → Val) → Tells (Array S n) (Is (Array S n)) (λ xs. val xs ∷ []) → (κ : Lft)
      (ys : List S.Denot) (b : ℕ)
      → ent 𝓤 (sep 𝓤 (A.dead κ) (A.lent κ ((arr_parts (shares S) n).part full_share ys b 0)))
      (Home val ys b)
  slice-unseen val tl κ ys b =
      qed 𝓛 (‵ (fdead κ) ∷ ‵ (Seen' S n κ b ys) ∷ []) ∵ updating ! $ lent_back ! tt $
      use1 𝓛 (‵ (part_at (Array S n) full_share ys b 0)) (Array-whole 𝓛 S full_share n ys b 0) $ at_once ! $
      by ! (lies_out 𝓛 S n val tl ys b 0)

  show-whole : Frees 𝓛 (Array S n) → (κ : Lft) (xs : List S.Denot) (v : Val) (b : ℕ)
      → ent 𝓤 (⋆ 𝓛 (Cell xs v b)) (BothSeen (SeenWhole S n κ (seen-at b xs)) (SeenWhole' S n κ b xs))
  show-whole free κ xs v b =
      qed 𝓛 (Cell xs v b) ∵
      use2 𝓛 (‵ (part_at (Array S n) full_share xs b 0)) (lies_in 𝓛 S n xs v b 0) $
      by ! (lends_free 𝓛 (Array S n) (named 0) κ full_share xs b 0 (free xs b 0))

  show-whole-by : (l : Lft) → Shares 𝓛 (Array S n) l → (ts : Toks) → (κ : Lft) → Incl (span ts) l → Incl (span ts) κ
      → (xs : List S.Denot) (v : Val) (b : ℕ)
      → ent 𝓤 (⋆ 𝓛 (CellBy ts xs v b)) (BothBy (SeenWhole S n κ (seen-at b xs)) (SeenWhole' S n κ b xs) ts)
  show-whole-by l out ts κ inc sp xs v b =
      qed 𝓛 (CellBy ts xs v b) ∵
      use2 𝓛 (‵ (part_at (Array S n) full_share xs b 0)) (lies_in 𝓛 S n xs v b 0) $
      by ! (lends_shr 𝓛 (Array S n) (named 0) κ full_share xs b 0 l (out xs) ts inc sp)

  whole-unseen : (val : List S.Denot → Val) → Tells (Array S n) (Is (Array S n)) (λ xs. val xs ∷ []) → (κ : Lft)
      (ys : List S.Denot) (b : ℕ)
      → ent 𝓤 (sep 𝓤 (A.dead κ) (A.lent κ (part_at (Array S n) full_share ys b 0))) (Home val ys b)
  whole-unseen val tl κ ys b =
      qed 𝓛 (‵ (fdead κ) ∷ ‵ (SeenWhole' S n κ b ys) ∷ []) ∵ updating ! $ lent_back ! tt $ at_once ! $
      by ! (lies_out 𝓛 S n val tl ys b 0)

-- What a step takes and gives. Where an array comes home the token of the lifetime's end stays.
module _ {M : Type 1} {𝓤 : Ura M} (K : Type 0) (𝓛 : Logic 𝓤) (Γ : List (Item 𝓤))
    (G : Goal 𝓤 𝓛.H) (S : RattleType) (n b : ℕ) where
  abbrev Lends : Val → (GName → Fml) → (GName → Fml) → Type 1
  Lends v P Q = ((γ : GName) → Seq K 𝓛 (‵ (P γ) ∷ ‵ (Q γ) ∷ Γ) G) → Seq K 𝓛 (‵ (fat full_share (τ S n) b 0 v) ∷ Γ) G

  -- By `&`, and by `&` with tokens, which come back.
  abbrev Shows : Val → Fml → Fml → Type 1
  Shows v P Q = Seq K 𝓛 (‵ P ∷ ‵ Q ∷ Γ) G → Seq K 𝓛 (‵ (fat full_share (τ S n) b 0 v) ∷ Γ) G

  abbrev ShowsBy : Toks → Val → Fml → Fml → Type 1
  ShowsBy ts v P Q =
      Seq K 𝓛 (‵ P ∷ ‵ Q ∷ raw (lfts 𝓛 ts) ∷ Γ) G
      → Seq K 𝓛 (‵ (fat full_share (τ S n) b 0 v) ∷ raw (lfts 𝓛 ts) ∷ Γ) G

  module _ (val : List S.Denot → Val) (κ : Lft) (ys : List S.Denot) where
    abbrev Comes : List (Item 𝓤) → Type 1
    Comes Δ =
        (Is (Array S n) ys (val ys ∷ []) → Seq K 𝓛 (‵ (fat full_share (τ S n) b 0 (val ys)) ∷ ‵ (fdead κ) ∷ Γ) G)
        → Seq K 𝓛 Δ G

-- The steps.
module _ {M : Type 1} {𝓤 : Ura M} {𝓛 : Logic 𝓤} {K : Type 0} {Γ : List (Item 𝓤)}
    {G : Goal 𝓤 𝓛.H} where
  open 𝓛 use {A}

  module _ (t : K) (z : Soaks G) (S : RattleType) (n : ℕ) (mk : Makes 𝓛 (Array S n) (Is (Array S n))) (κ : Lft)
      (xs : List S.Denot) (v : Val) (b : ℕ) (is : Is (Array S n) xs (v ∷ [])) where
    lent_by : (P Q : GName → Fml) → ent 𝓤 (⋆ 𝓛 (Cell 𝓛 S n xs v b)) (Both 𝓛 S n P Q)
        → Lends K 𝓛 Γ G S n b v P Q
    lent_by P Q h k =
        owned t (Array S n) (Is (Array S n)) mk xs (v ∷ []) is $ move t (1 ∷ 0 ∷ []) $
        use2 𝓛 (later (some (λ (γ : GName). ‵ (P γ) ⊛ ‵ (Q γ)))) h $ await t z $ pick t (λ γ. split t $ k γ)

    pub lends : Single S.mir → Room S n → Lends K 𝓛 Γ G S n b v (λ γ. Slice S n κ (at b γ xs)) (Slice' S n κ b)
    lends single room k =
        lent_by (λ γ. Slice S n κ (at b γ xs)) (Slice' S n κ b) (lend-slice 𝓛 S n single room κ xs v b) k

    pub lends-whole : Lends K 𝓛 Γ G S n b v (λ γ. Whole S n κ (at b γ xs)) (Whole' S n κ b)
    lends-whole k = lent_by (λ γ. Whole S n κ (at b γ xs)) (Whole' S n κ b) (lend-whole 𝓛 S n κ xs v b) k

    seen-by : (P Q : Fml) → ent 𝓤 (⋆ 𝓛 (Cell 𝓛 S n xs v b)) (BothSeen 𝓛 S n P Q) → Shows K 𝓛 Γ G S n b v P Q
    seen-by P Q h k =
        owned t (Array S n) (Is (Array S n)) mk xs (v ∷ []) is $ move t (1 ∷ 0 ∷ []) $
        use2 𝓛 (later (‵ P ⊛ ‵ Q)) h $ await t z $ split t $ k

    seen-by-tokens : (ts : Toks) (P Q : Fml) → ent 𝓤 (⋆ 𝓛 (CellBy 𝓛 S n ts xs v b)) (BothBy 𝓛 S n P Q ts)
        → ShowsBy K 𝓛 Γ G S n b ts v P Q
    seen-by-tokens ts P Q h k =
        owned t (Array S n) (Is (Array S n)) mk xs (v ∷ []) is $ move t (1 ∷ 0 ∷ 2 ∷ []) $
        use3 𝓛 (later ((‵ P ⊛ ‵ Q) ⊛ raw (lfts 𝓛 ts))) h $ await t z $ split t $ split t $ k

    pub shows-slice : Frees 𝓛 S → Single S.mir → Room S n
        → Shows K 𝓛 Γ G S n b v (Seen S n κ (seen-at b xs)) (Seen' S n κ b xs)
    shows-slice free single room k =
        seen-by (Seen S n κ (seen-at b xs)) (Seen' S n κ b xs) (show-slice 𝓛 S n free single room κ xs v b) k

    pub shows-whole : Frees 𝓛 (Array S n)
        → Shows K 𝓛 Γ G S n b v (SeenWhole S n κ (seen-at b xs)) (SeenWhole' S n κ b xs)
    shows-whole free k =
        seen-by (SeenWhole S n κ (seen-at b xs)) (SeenWhole' S n κ b xs) (show-whole 𝓛 S n free κ xs v b) k

    pub shows-slice-by : (l : Lft) → Shares 𝓛 S l → (ts : Toks) → Incl (span ts) l → Incl (span ts) κ
        → Single S.mir → Room S n
        → ShowsBy K 𝓛 Γ G S n b ts v (Seen S n κ (seen-at b xs)) (Seen' S n κ b xs)
    shows-slice-by l out ts inc sp single room k =
        seen-by-tokens ts (Seen S n κ (seen-at b xs)) (Seen' S n κ b xs)
        (show-slice-by 𝓛 S n l out ts single room κ inc sp xs v b) k

    pub shows-whole-by : (l : Lft) → Shares 𝓛 (Array S n) l → (ts : Toks) → Incl (span ts) l → Incl (span ts) κ
        → ShowsBy K 𝓛 Γ G S n b ts v (SeenWhole S n κ (seen-at b xs)) (SeenWhole' S n κ b xs)
    shows-whole-by l out ts inc sp k =
        seen-by-tokens ts (SeenWhole S n κ (seen-at b xs)) (SeenWhole' S n κ b xs)
        (show-whole-by 𝓛 S n l out ts κ inc sp xs v b) k

  module _ (t : K) (z : Soaks G) (S : RattleType) (n : ℕ) (val : List S.Denot → Val)
      (tl : Tells (Array S n) (Is (Array S n)) (λ xs. val xs ∷ [])) (κ : Lft) (ys : List S.Denot) (b : ℕ) where
    back_by : (P : Fml) → ent 𝓤 (sep 𝓤 (A.dead κ) (sem 𝓛 P)) (Home 𝓛 S n val ys b)
        → Comes K 𝓛 Γ G S n b val κ ys (‵ (fdead κ) ∷ ‵ P ∷ Γ)
    back_by P h k =
        use1 𝓛 (‵ (fdead κ) ⊛ ‵ (fdead κ)) (𝓛.lfts.dead_dup κ) $ split t $ move t (1 ∷ 2 ∷ []) $
        use2 𝓛 (later (given (Is (Array S n) ys (val ys ∷ [])) (‵ (fat full_share (τ S n) b 0 (val ys))))) h $
        await t z $ learn t k

    pub home : (γ : GName)
        → Comes K 𝓛 Γ G S n b val κ ys (‵ (fdead κ) ∷ ‵ (Slice' S n κ b γ) ∷ ‵ (finally S γ ys) ∷ Γ)
    home γ k =
        move t (1 ∷ 2 ∷ 0 ∷ []) $ fjoin t $ move t (1 ∷ 0 ∷ []) $
        back_by (fsep (Slice' S n κ b γ) (finally S γ ys)) (slice-home 𝓛 S n val tl κ γ ys b) k

    pub home-whole : (γ : GName) → Comes K 𝓛 Γ G S n b val κ ys
        (‵ (fdead κ) ∷ ‵ (Whole' S n κ b γ) ∷ ‵ (fres γ ((Array S n).coded.code ys)) ∷ Γ)
    home-whole γ k =
        move t (1 ∷ 2 ∷ 0 ∷ []) $ fjoin t $ move t (1 ∷ 0 ∷ []) $
        back_by (fsep (Whole' S n κ b γ) (fres γ ((Array S n).coded.code ys)))
        (whole-home 𝓛 S n val tl κ γ ys b) k

    pub unseen : Comes K 𝓛 Γ G S n b val κ ys (‵ (fdead κ) ∷ ‵ (Seen' S n κ b ys) ∷ Γ)
    unseen k = back_by (Seen' S n κ b ys) (slice-unseen 𝓛 S n val tl κ ys b) k

    pub unseen-whole : Comes K 𝓛 Γ G S n b val κ ys (‵ (fdead κ) ∷ ‵ (SeenWhole' S n κ b ys) ∷ Γ)
    unseen-whole k = back_by (SeenWhole' S n κ b ys) (whole-unseen 𝓛 S n val tl κ ys b) k
