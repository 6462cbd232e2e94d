-- Several `&mut` of one lifetime, to values or to slices, taken together: lent again for one lifetime, and come back.
-- What is said is for any list of them. It says nothing of the crate.
--     Kind, Of          a `&mut` to a value or to a slice, and what lies behind it
--     refs              their types.                        spelt, telling    their machine values
--     Refs, Lasts, Names    the references, values of them, and names
--     nows, moved, renamed  the values they have; the references at other values, and under other names
--     own               what they own
--     Kept              what the holder keeps while all are lent again for ν, with what is left of the token
--     fins              what a contract says of their last values;  lefts     with their borrows, closed, as it leaves
--                       them (left-ref, left-slice: it is their types' `exit`)
--     Rooms, Sames      the slices fit; the slices are as long as they were
--     lends             own at ι ∗ [ι]_q  ⊢ ⇛ ∃ names. own at ν under these names ∗ Kept
--     comes_back        [†ν] ∗ Kept ∗ fins  ⊢ ⇛ Sames, and own at ι at the last values ∗ [ι]_q
--     ends, ends-left   own at the last values  ⊢  fins, and ⊢ lefts.      left-fins    lefts  ⊢  fins
--     Shown, shows-again, unshown   one `&mut` is lent again as a `&`, and comes back as it was. The `&` has no name,
--                       and is made with no token where the value is lent so, as of each type that is Copy
--                       (`Denote/Copied.antt`'s `lends`)
--     shows-again-by    the same of any type, by tokens (`Denote/Shares.antt`)
--     array_long        own of a `&mut [T; n]` ∗ [ι]_q  ⊢ ⇛ the array has n elements, and both are had still
-- Assumes `Logic`.
use mathlib.Core.Path.{◌≡◌, refl, sym}
use Prim.Native.Nat.{ℕ}
use mathlib.Core.List.{List, [], ◌∷◌}
use lib.ListN.{length}
use seplogic.Ra.Ura.{Ura}
use base.Share
use base.Fraction.{full_share}
use mir.Syntax.{Lifetime}
use mir.Val.{Val}
use base.Logic.{SProp, ent, sep, ex, guard, id⊢}
use base.Fml.{Lft, GName, Share, Fml, Incl, ftrue, fsep, feq, flft, fdead, fres, fobs, fauth, flent, fobor, fbor}
use ghost.Rules.{Toks, span}
use types.Logic.{Logic, sem, lfts}
use types.Kit.{‵, raw, ◌⊛◌, some, later, given, ◌$◌, ◌∵◌, !, qed, by, move, keep, drop, use1, use2, use3, split}
use types.Kit.{pick, rewrite, fsplit, fsplit3, fjoin, fjoin3, feq_i, feq_l, frame, await, updating, show, done}
use types.Kit.{now as at_once, learn, check}
use types.SemTy.{Body}
use types.Mut.{open_ref, close_ref}
use types.Tokens.{lent_back}
use denote.RattleType.{RattleType}
use denote.Exit.{left, yes}
use denote.Array.{Array}
use denote.Laws.{Is, Ises, Spells, Tellss, shows}
use denote.Memory.{mem, part_at, shared_of}
use denote.Ref.{MutBor, at_last, as_bor, MutRef, ShrRef, shr_vals, mut_vals, mut_Tells}
use denote.Slice.{slice_val, MutSlice, Room, finally, res-finally, coded_holeys, heres, mut_slice_vals, mut_slice_Tells}
use denote.Steps.{opens, closes, peeks}
use denote.Lend as one
use denote.Lend.{lends_shr, lends_free}
use denote.Lends.{Lent as Free}
use denote.Shares.{SharesFrom}
use Rattle.proof_walks.proofs.Again as row

-- A `&mut` to a value or to a slice.
pub data Kind : Type 2 where
  ref : RattleType → Kind
  slice : RattleType → Kind

abbrev pub Of : Kind → Type 0
Of (ref R) = R.Denot
Of (slice R) = List R.Denot

-- Their types, and machine values.
module _ (ℓ : Lifetime) (ι : Lft) where
  abbrev pub refs : List Kind → List RattleType
  refs [] = []
  refs (ref R ∷ ks) = MutRef ℓ ι R ∷ refs ks
  refs (slice R ∷ ks) = MutSlice ℓ ι R ∷ refs ks

  abbrev pub spelt : (ks : List Kind) → Spells (refs ks)
  spelt [] = tt
  spelt (ref R ∷ ks) = (mut_vals, spelt ks)
  spelt (slice R ∷ ks) = (mut_slice_vals, spelt ks)

  pub telling : (ks : List Kind) → Tellss (refs ks) (Ises (refs ks)) (spelt ks)
  telling [] = tt
  telling (ref R ∷ ks) = (mut_Tells ℓ ι R, telling ks)
  telling (slice R ∷ ks) = (mut_slice_Tells ℓ ι R, telling ks)

-- The references, values of them, and names.
abbrev pub Refs : List Kind → Type 0
Refs [] = Unit {0}
Refs (k ∷ ks) = MutBor (Of k) × Refs ks

abbrev pub Lasts : List Kind → Type 0
Lasts [] = Unit {0}
Lasts (k ∷ ks) = Of k × Lasts ks

abbrev pub Names : List Kind → Type 0
Names [] = Unit {0}
Names (k ∷ ks) = GName × Names ks

abbrev pub called : {X : Type 0} → MutBor X → GName → MutBor X
called x δ = record { ref_ptr = x.ref_ptr; ghost_name = δ; now = x.now }

abbrev pub nows : (ks : List Kind) → Refs ks → Lasts ks
nows [] x = tt
nows (k ∷ ks) x = (x.0.now, nows ks x.1)

abbrev pub moved : (ks : List Kind) → Refs ks → Lasts ks → Refs ks
moved [] x z = tt
moved (k ∷ ks) x z = (at_last x.0 z.0, moved ks x.1 z.1)

abbrev pub renamed : (ks : List Kind) → Refs ks → Names ks → Refs ks
renamed [] x ds = tt
renamed (k ∷ ks) x ds = (called x.0 ds.0, renamed ks x.1 ds.1)

-- What one owns, what is kept of one, and what is said of its last value.
abbrev own₁ : Lifetime → Lft → (k : Kind) → MutBor (Of k) → Fml
own₁ ℓ ι (ref R) x = (MutRef ℓ ι R).own_val x (mut_vals x)
own₁ ℓ ι (slice R) x = (MutSlice ℓ ι R).own_val x (mut_slice_vals x)

abbrev kept₁ : Lft → Lft → Share → (k : Kind) → MutBor (Of k) → GName → Fml
kept₁ ι ν q (ref R) x δ = one.LentAgain R ι ν q x.ghost_name x.ref_ptr.0 x.ref_ptr.1 δ x.now
kept₁ ι ν q (slice R) x δ = row.LentAgain R ι ν q x.ghost_name x.ref_ptr.0 x.ref_ptr.1 δ x.now

abbrev fin₁ : (k : Kind) → MutBor (Of k) → Of k → Fml
fin₁ (ref R) x z = fres x.ghost_name (R.coded.code z)
fin₁ (slice R) x z = fsep (finally R x.ghost_name z) (feq ℕ (length z) (length x.now))

-- What a contract leaves of one: what is said of its last value, and the borrow, closed.
abbrev left₁ : Lft → (k : Kind) → MutBor (Of k) → Of k → Fml
left₁ ι (ref R) x z = fsep (fin₁ (ref R) x z) (fbor ι (Body (mem R) x.ref_ptr.0 x.ref_ptr.1 x.ghost_name))
left₁ ι (slice R) x z =
    fsep (fin₁ (slice R) x z) (fbor ι (one.Held R (length x.now) x.ref_ptr.0 x.ref_ptr.1 x.ghost_name))

-- It is what their types leave at exit.
pub left-ref : (ℓ : Lifetime) (ι : Lft) (R : RattleType) (x : MutBor R.Denot) (z : R.Denot)
    → left₁ ι (ref R) x z ≡ left ((MutRef ℓ ι R).exit yes) x z
left-ref ℓ ι R x z = refl

pub left-slice : (ℓ : Lifetime) (ι : Lft) (R : RattleType) (x : MutBor (List R.Denot)) (z : List R.Denot)
    → left₁ ι (slice R) x z ≡ left ((MutSlice ℓ ι R).exit yes) x z
left-slice ℓ ι R x z = refl

abbrev Room₁ : (k : Kind) → MutBor (Of k) → Type 0
Room₁ (ref R) x = Unit {0}
Room₁ (slice R) x = Room R (length x.now)

abbrev Same₁ : (k : Kind) → MutBor (Of k) → Of k → Type 0
Same₁ (ref R) x z = Unit {0}
Same₁ (slice R) x z = length z ≡ length x.now

-- The same of all.
abbrev pub own : Lifetime → Lft → (ks : List Kind) → Refs ks → Fml
own ℓ ι [] x = ftrue
own ℓ ι (k ∷ ks) x = fsep (own₁ ℓ ι k x.0) (own ℓ ι ks x.1)

abbrev pub Kept : Lft → Lft → Share → (ks : List Kind) → Refs ks → Names ks → Fml
Kept ι ν q [] x ds = flft ι q
Kept ι ν q (k ∷ ks) x ds =
    fsep (kept₁ ι ν (Share.left q) k x.0 ds.0) (Kept ι ν (Share.right q) ks x.1 ds.1)

abbrev pub fins : (ks : List Kind) → Refs ks → Lasts ks → Fml
fins [] x z = ftrue
fins (k ∷ ks) x z = fsep (fin₁ k x.0 z.0) (fins ks x.1 z.1)

abbrev pub lefts : Lft → (ks : List Kind) → Refs ks → Lasts ks → Fml
lefts ι [] x z = ftrue
lefts ι (k ∷ ks) x z = fsep (left₁ ι k x.0 z.0) (lefts ι ks x.1 z.1)

abbrev pub Rooms : (ks : List Kind) → Refs ks → Type 0
Rooms [] x = Unit {0}
Rooms (k ∷ ks) x = Room₁ k x.0 × Rooms ks x.1

abbrev pub Sames : (ks : List Kind) → Refs ks → Lasts ks → Type 0
Sames [] x z = Unit {0}
Sames (k ∷ ks) x z = Same₁ k x.0 z.0 × Sames ks x.1 z.1

module _ {M : Type 1} {𝓤 : Ura M} (𝓛 : Logic 𝓤) (ℓ ℓ' : Lifetime) (ι ν : Lft) where
  -- One is lent again.
  open 𝓛 use {H, A}

  abbrev Lent₁ : Share → (k : Kind) → MutBor (Of k) → GName → SProp 𝓤
  Lent₁ q k x δ = sep 𝓤 (sem 𝓛 (own₁ ℓ' ν k (called x δ))) (sem 𝓛 (kept₁ ι ν q k x δ))

  lends₁ : (q : Share) (k : Kind) (x : MutBor (Of k))
      → ent 𝓤 (sep 𝓤 (sem 𝓛 (own₁ ℓ ι k x)) (A.lft ι q)) (H.⇛ (ex 𝓤 (Lent₁ q k x)))
  lends₁ q (ref R) x = one.lends_again 𝓛 R ℓ ι ν q x.ghost_name x.ref_ptr.0 x.ref_ptr.1 ℓ' x.now
  lends₁ q (slice R) x = row.lends_again R ι ν q x.ghost_name x.ref_ptr.0 x.ref_ptr.1 𝓛 ℓ ℓ' x.now

  -- All are lent again.
  abbrev Lent : Share → (ks : List Kind) → Refs ks → Names ks → SProp 𝓤
  Lent q ks x ds = sep 𝓤 (sem 𝓛 (own ℓ' ν ks (renamed ks x ds))) (sem 𝓛 (Kept ι ν q ks x ds))

  pub lends : (q : Share) (ks : List Kind) (x : Refs ks)
      → ent 𝓤 (sep 𝓤 (sem 𝓛 (own ℓ ι ks x)) (A.lft ι q)) (H.⇛ (ex 𝓤 (Lent q ks x)))
  lends q [] x =
      qed 𝓛 (‵ ftrue ∷ ‵ (flft ι q) ∷ []) ∵ updating ! $ at_once ! $ show ! (Lent q [] x) tt $ done !
  lends q (k ∷ ks) x =
      qed 𝓛 (‵ (own ℓ ι (k ∷ ks) x) ∷ ‵ (flft ι q) ∷ []) ∵ updating ! $ fsplit ! $ move ! (2 ∷ []) $
      use1 𝓛 (‵ (flft ι (Share.left q)) ⊛ ‵ (flft ι (Share.right q))) (𝓛.lfts.lft_split ι q) $ split ! $
      move ! (2 ∷ 0 ∷ []) $
      use2 𝓛 (later (some (λ (δ : GName). ‵ (own₁ ℓ' ν k (called x.0 δ))
      ⊛ ‵ (kept₁ ι ν (Share.left q) k x.0 δ)))) (lends₁ (Share.left q) k x.0) $ await ! tt $
      pick ! (λ δ. split ! $ move ! (3 ∷ 2 ∷ []) $
      use2 𝓛 (later (some (λ (ds : Names ks). ‵ (own ℓ' ν ks (renamed ks x.1 ds))
      ⊛ ‵ (Kept ι ν (Share.right q) ks x.1 ds)))) (lends (Share.right q) ks x.1) $ await ! tt $
      pick ! (λ ds. split ! $ at_once ! $ show ! (Lent q (k ∷ ks) x) (δ, ds) $
      move ! (2 ∷ 0 ∷ []) $ fjoin ! $ frame ! $ move ! (1 ∷ 0 ∷ []) $ fjoin ! $ done !))

  -- One comes back.
  comes₁ : (q : Share) (k : Kind) (x : MutBor (Of k)) (δ : GName) (z : Of k) → Room₁ k x
      → ent 𝓤 (sep 𝓤 (A.dead ν) (sep 𝓤 (sem 𝓛 (kept₁ ι ν q k x δ)) (sem 𝓛 (fin₁ k (called x δ) z))))
      (H.⇛ (guard 𝓤 (Same₁ k x z) (sep 𝓤 (sem 𝓛 (own₁ ℓ ι k (at_last x z))) (A.lft ι q))))
  comes₁ q (ref R) x δ z room =
      qed 𝓛 (‵ (fdead ν) ∷ ‵ (kept₁ ι ν q (ref R) x δ) ∷ ‵ (fres δ (R.coded.code z)) ∷ []) ∵ updating ! $
      use3 𝓛 (later (‵ (own₁ ℓ ι (ref R) (at_last x z)) ⊛ ‵ (flft ι q)))
      (one.comes_back 𝓛 R ℓ ι ν q x.ghost_name x.ref_ptr.0 x.ref_ptr.1 δ x.now z) $ await ! tt $ at_once ! $
      check ! tt $ split ! $ done !
  comes₁ q (slice R) x δ z room =
      qed 𝓛 (‵ (fdead ν) ∷ ‵ (kept₁ ι ν q (slice R) x δ)
      ∷ ‵ (fsep (finally R δ z) (feq ℕ (length z) (length x.now))) ∷ []) ∵ updating ! $
      move ! (2 ∷ []) $ fsplit ! $ move ! (1 ∷ []) $ feq_l ! (λ same. move ! (1 ∷ 2 ∷ 0 ∷ []) $
      use3 𝓛 (later (‵ ((MutSlice ℓ ι R).own_val (at_last x z) (slice_val x.ref_ptr (length x.now) ∷ [])) ⊛ ‵
      (flft ι q)))
      (row.comes_back R ι ν q x.ghost_name x.ref_ptr.0 x.ref_ptr.1 𝓛 ℓ ℓ x.now δ z room same) $ await ! tt $
      at_once ! $ split ! $
      rewrite ! 0 (λ (n : ℕ). ‵ ((MutSlice ℓ ι R).own_val (at_last x z) (slice_val x.ref_ptr n ∷ []))) (sym same) refl $
      check ! same $ done !)

  -- All come back.
  pub comes_back : (q : Share) (ks : List Kind) (x : Refs ks) (ds : Names ks) (z : Lasts ks) → Rooms ks x
      → ent 𝓤 (sep 𝓤 (A.dead ν) (sep 𝓤 (sem 𝓛 (Kept ι ν q ks x ds)) (sem 𝓛 (fins ks (renamed ks x ds) z))))
      (H.⇛ (guard 𝓤 (Sames ks x z) (sep 𝓤 (sem 𝓛 (own ℓ ι ks (moved ks x z))) (A.lft ι q))))
  comes_back q [] x ds z rooms =
      qed 𝓛 (‵ (fdead ν) ∷ ‵ (flft ι q) ∷ ‵ ftrue ∷ []) ∵ updating ! $ at_once ! $ check ! tt $
      move ! (2 ∷ 1 ∷ []) $ keep ! (0 ∷ 1 ∷ []) $ done !
  comes_back q (k ∷ ks) x ds z rooms =
      qed 𝓛 (‵ (fdead ν) ∷ ‵ (Kept ι ν q (k ∷ ks) x ds) ∷ ‵ (fins (k ∷ ks) (renamed (k ∷ ks) x ds) z) ∷ []) ∵
      updating ! $ use1 𝓛 (‵ (fdead ν) ⊛ ‵ (fdead ν)) (𝓛.lfts.dead_dup ν) $ split ! $
      move ! (2 ∷ []) $ fsplit ! $ move ! (4 ∷ []) $ fsplit ! $
      -- [fin; fins; kept; Kept; dead; dead]
      move ! (4 ∷ 2 ∷ 0 ∷ []) $
      use3 𝓛 (later (given (Same₁ k x.0 z.0) (‵ (own₁ ℓ ι k (at_last x.0 z.0))
      ⊛ ‵ (flft ι (Share.left q)))))
      (comes₁ (Share.left q) k x.0 ds.0 z.0 rooms.0) $ await ! tt $ learn ! (λ same. split ! $
      -- [own; the token's left; fins; Kept; dead]
      move ! (4 ∷ 3 ∷ 2 ∷ []) $
      use3 𝓛 (later (given (Sames ks x.1 z.1) (‵ (own ℓ ι ks (moved ks x.1 z.1))
      ⊛ ‵ (flft ι (Share.right q)))))
      (comes_back (Share.right q) ks x.1 ds.1 z.1 rooms.1) $ await ! tt $ learn ! (λ sames. split ! $
      -- [owns; the token's right; own; the token's left]
      move ! (3 ∷ 1 ∷ []) $ use2 𝓛 (‵ (flft ι q)) (𝓛.lfts.lft_join ι q) $ at_once ! $ check ! (same, sames) $
      move ! (2 ∷ 1 ∷ []) $ fjoin ! $ done !))

module _ {M : Type 1} {𝓤 : Ura M} (𝓛 : Logic 𝓤) (ℓ : Lifetime) (ι : Lft) where
  -- One has ended at its last value.
  ends₁ : (k : Kind) (x : MutBor (Of k)) (z : Of k) → Same₁ k x z
      → ent 𝓤 (sem 𝓛 (own₁ ℓ ι k (at_last x z))) (sem 𝓛 (fin₁ k x z))
  ends₁ (ref R) x z same =
      qed 𝓛 (‵ (own₁ ℓ ι (ref R) (at_last x z)) ∷ []) ∵ fsplit3 ! $ keep ! (1 ∷ []) $
      by ! (𝓛.names.obs-res x.ghost_name (R.coded.code z))
  ends₁ (slice R) x z same =
      qed 𝓛 (‵ (own₁ ℓ ι (slice R) (at_last x z)) ∷ []) ∵ fsplit ! $ drop ! $ fsplit ! $ keep ! (0 ∷ []) $
      use1 𝓛 (‵ (fres x.ghost_name ((coded_holeys R).code (heres R z))))
      (𝓛.names.obs-res x.ghost_name ((coded_holeys R).code (heres R z))) $
      use1 𝓛 (‵ (finally R x.ghost_name z)) (res-finally 𝓛 ℓ ι R x.ghost_name z) $
      feq_i ! ℕ (length z) (length x.now) same $ move ! (1 ∷ 0 ∷ []) $ fjoin ! $ done !

  -- All have.
  pub ends : (ks : List Kind) (x : Refs ks) (z : Lasts ks) → Sames ks x z
      → ent 𝓤 (sem 𝓛 (own ℓ ι ks (moved ks x z))) (sem 𝓛 (fins ks x z))
  ends [] x z sames = id⊢ 𝓤 (sem 𝓛 ftrue)
  ends (k ∷ ks) x z sames =
      qed 𝓛 (‵ (own ℓ ι (k ∷ ks) (moved (k ∷ ks) x z)) ∷ []) ∵ fsplit ! $
      use1 𝓛 (‵ (fin₁ k x.0 z.0)) (ends₁ k x.0 z.0 sames.0) $ move ! (1 ∷ []) $
      use1 𝓛 (‵ (fins ks x.1 z.1)) (ends ks x.1 z.1 sames.1) $ move ! (1 ∷ 0 ∷ []) $ fjoin ! $ done !

  -- The same with the borrows, as a contract leaves them.
  ends-left₁ : (k : Kind) (x : MutBor (Of k)) (z : Of k) → Same₁ k x z
      → ent 𝓤 (sem 𝓛 (own₁ ℓ ι k (at_last x z))) (sem 𝓛 (left₁ ι k x z))
  ends-left₁ (ref R) x z same =
      qed 𝓛 (‵ (own₁ ℓ ι (ref R) (at_last x z)) ∷ []) ∵ fsplit3 ! $ keep ! (1 ∷ 2 ∷ []) $
      use1 𝓛 (‵ (fres x.ghost_name (R.coded.code z))) (𝓛.names.obs-res x.ghost_name (R.coded.code z)) $ fjoin ! $ done !
  ends-left₁ (slice R) x z same =
      qed 𝓛 (‵ (own₁ ℓ ι (slice R) (at_last x z)) ∷ []) ∵ fsplit ! $ drop ! $ fsplit ! $
      use1 𝓛 (‵ (fres x.ghost_name ((coded_holeys R).code (heres R z))))
      (𝓛.names.obs-res x.ghost_name ((coded_holeys R).code (heres R z))) $
      use1 𝓛 (‵ (finally R x.ghost_name z)) (res-finally 𝓛 ℓ ι R x.ghost_name z) $
      rewrite ! 1 (λ (n : ℕ). ‵ (fbor ι (one.Held R n x.ref_ptr.0 x.ref_ptr.1 x.ghost_name))) same refl $
      feq_i ! ℕ (length z) (length x.now) same $ move ! (1 ∷ 0 ∷ []) $ fjoin ! $ fjoin ! $ done !

  pub ends-left : (ks : List Kind) (x : Refs ks) (z : Lasts ks) → Sames ks x z
      → ent 𝓤 (sem 𝓛 (own ℓ ι ks (moved ks x z))) (sem 𝓛 (lefts ι ks x z))
  ends-left [] x z sames = id⊢ 𝓤 (sem 𝓛 ftrue)
  ends-left (k ∷ ks) x z sames =
      qed 𝓛 (‵ (own ℓ ι (k ∷ ks) (moved (k ∷ ks) x z)) ∷ []) ∵ fsplit ! $
      use1 𝓛 (‵ (left₁ ι k x.0 z.0)) (ends-left₁ k x.0 z.0 sames.0) $ move ! (1 ∷ []) $
      use1 𝓛 (‵ (lefts ι ks x.1 z.1)) (ends-left ks x.1 z.1 sames.1) $ move ! (1 ∷ 0 ∷ []) $ fjoin ! $ done !

  -- What a contract leaves of them says their last values.
  left-fin₁ : (k : Kind) (x : MutBor (Of k)) (z : Of k) → ent 𝓤 (sem 𝓛 (left₁ ι k x z)) (sem 𝓛 (fin₁ k x z))
  left-fin₁ (ref R) x z = qed 𝓛 (‵ (left₁ ι (ref R) x z) ∷ []) ∵ fsplit ! $ keep ! (0 ∷ []) $ done !
  left-fin₁ (slice R) x z = qed 𝓛 (‵ (left₁ ι (slice R) x z) ∷ []) ∵ fsplit ! $ keep ! (0 ∷ []) $ done !

  pub left-fins : (ks : List Kind) (x : Refs ks) (z : Lasts ks)
      → ent 𝓤 (sem 𝓛 (lefts ι ks x z)) (sem 𝓛 (fins ks x z))
  left-fins [] x z = id⊢ 𝓤 (sem 𝓛 ftrue)
  left-fins (k ∷ ks) x z =
      qed 𝓛 (‵ (lefts ι (k ∷ ks) x z) ∷ []) ∵ fsplit ! $
      use1 𝓛 (‵ (fin₁ k x.0 z.0)) (left-fin₁ k x.0 z.0) $ move ! (1 ∷ []) $
      use1 𝓛 (‵ (fins ks x.1 z.1)) (left-fins ks x.1 z.1) $ move ! (1 ∷ 0 ∷ []) $ fjoin ! $ done !

-- One `&mut` that is lent again as a `&`.
abbrev pub Shown : Lft → Lft → Share → GName → ℕ → ℕ → (R : RattleType) → R.Denot → Fml
Shown ι ν q γ b o R h =
    fsep (flent ν (part_at R full_share h b o)) (fsep (fobor ι q (Body (mem R) b o γ))
    (fsep (fobs γ (R.coded.code h)) (fauth γ (R.coded.code h))))

module _ {M : Type 1} {𝓤 : Ura M} (𝓛 : Logic 𝓤) (R : RattleType) (ℓ ℓ' : Lifetime)
    (ι ν : Lft) (q : Share) (x : MutBor R.Denot) where
  open 𝓛 use {H, A}

  abbrev mine : Fml
  mine = (MutRef ℓ ι R).own_val x (mut_vals x)

  abbrev its : Fml
  its = (ShrRef ℓ' ν R).own_val (as_bor x) (shr_vals (as_bor x))

  abbrev shown : Fml
  shown = Shown ι ν q x.ghost_name x.ref_ptr.0 x.ref_ptr.1 R x.now

  -- It is shown, and what is kept of it.
  pub shows-again : Free 𝓛 (part_at R full_share x.now x.ref_ptr.0 x.ref_ptr.1)
      (shared_of R x.now x.ref_ptr.0 x.ref_ptr.1)
      → ent 𝓤 (sep 𝓤 (sem 𝓛 mine) (A.lft ι q)) (H.⇛ (sep 𝓤 (sem 𝓛 its) (sem 𝓛 shown)))
  shows-again free =
      qed 𝓛 (‵ mine ∷ ‵ (flft ι q) ∷ []) ∵ updating ! $ fsplit3 ! $ feq_l ! (λ _.
      open_ref ! tt (mem R) $
      use1 𝓛 (later (‵ its ⊛ ‵ (flent ν (part_at R full_share x.now x.ref_ptr.0 x.ref_ptr.1))))
      (lends_free 𝓛 R ℓ' ν full_share x.now x.ref_ptr.0 x.ref_ptr.1 free) $ await ! tt $ split ! $
      at_once ! $ frame ! $
      move ! (2 ∷ 3 ∷ []) $ fjoin ! $ move ! (2 ∷ 0 ∷ []) $ fjoin ! $ move ! (1 ∷ 0 ∷ []) $ fjoin ! $ done !)

  -- The same of a type that is shared out by tokens, which come back.
  pub shows-again-by : (l : Lft) → SharesFrom 𝓛 full_share R x.now (shared_of R x.now) l → (ts : Toks)
      → Incl (span ts) l → Incl (span ts) ν
      → ent 𝓤 (sep 𝓤 (sem 𝓛 mine) (sep 𝓤 (A.lft ι q) (lfts 𝓛 ts)))
      (H.⇛ (sep 𝓤 (sem 𝓛 its) (sep 𝓤 (sem 𝓛 shown) (lfts 𝓛 ts))))
  shows-again-by l out ts inc sp =
      qed 𝓛 (‵ mine ∷ ‵ (flft ι q) ∷ raw (lfts 𝓛 ts) ∷ []) ∵ updating ! $ fsplit3 ! $ feq_l ! (λ _.
      open_ref ! tt (mem R) $ move ! (0 ∷ 4 ∷ []) $
      use2 𝓛 (later ((‵ its ⊛ ‵ (flent ν (part_at R full_share x.now x.ref_ptr.0 x.ref_ptr.1))) ⊛ raw (lfts 𝓛 ts)))
      (lends_shr 𝓛 R ℓ' ν full_share x.now x.ref_ptr.0 x.ref_ptr.1 l out ts inc sp) $ await ! tt $ split ! $ split ! $
      -- [what the `&` owns; the lender's part; the tokens; the open borrow; obs; auth]
      at_once ! $ frame ! $ move ! (3 ∷ 4 ∷ []) $ fjoin ! $ move ! (3 ∷ 0 ∷ []) $ fjoin ! $ move ! (1 ∷ 0 ∷ []) $
      fjoin ! $ done !)

  -- It comes back as it was.
  pub unshown : ent 𝓤 (sep 𝓤 (A.dead ν) (sem 𝓛 shown)) (H.⇛ (sep 𝓤 (sem 𝓛 mine) (A.lft ι q)))
  unshown =
      qed 𝓛 (‵ (fdead ν) ∷ ‵ shown ∷ []) ∵ updating ! $ move ! (1 ∷ []) $ fsplit ! $ move ! (2 ∷ 0 ∷ []) $
      lent_back ! tt $ move ! (1 ∷ []) $ fsplit3 ! $ move ! (3 ∷ 0 ∷ 1 ∷ 2 ∷ []) $ close_ref ! tt (mem R) x.now $
      at_once ! $ feq_i ! (List Val) (mut_vals x) (mut_vals x) refl $ fjoin3 ! $ frame ! $ done !

-- One `&mut` to an array, looked into for the array's length.
module _ {M : Type 1} {𝓤 : Ura M} (𝓛 : Logic 𝓤) (S : RattleType) (n : ℕ) (ℓ : Lifetime)
    (ι : Lft) (q : Share) (x : MutBor (List S.Denot)) where
  open 𝓛 use {H, A}

  abbrev own-array : Fml
  own-array = (MutRef ℓ ι (Array S n)).own_val x (mut_vals x)

  pub array_long : ent 𝓤 (sep 𝓤 (sem 𝓛 own-array) (A.lft ι q))
      (H.⇛ (guard 𝓤 (length x.now ≡ n) (sep 𝓤 (sem 𝓛 own-array) (A.lft ι q))))
  array_long =
      qed 𝓛 (‵ own-array ∷ ‵ (flft ι q) ∷ []) ∵ updating ! $ fsplit3 ! $ feq_l ! (λ _.
      opens ! tt (Array S n) x.ref_ptr.0 x.ref_ptr.1 (λ vs. move ! (1 ∷ []) $
      peeks ! (Array S n) (Is (Array S n)) (shows 𝓛 (Array S n)) x.now vs (λ is. move ! (1 ∷ []) $
      closes ! tt (Array S n) x.now vs x.ref_ptr.0 x.ref_ptr.1 $ at_once ! $ check ! is.1.0.1 $
      feq_i ! (List Val) (mut_vals x) (mut_vals x) refl $ fjoin3 ! $ frame ! $ done !)))
