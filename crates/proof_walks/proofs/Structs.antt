-- An array of n values of a declared struct S of plain data, and a slice of them.
--     Structs, vals    the array as a type, and its machine value
--     tell, typed      the machine value is the only one, and has the array's MIR type
--     make, halve      what the array owns is had for nothing, and what is shared of its elements is opened and halved
--     halves           the shares of its elements can be halved
--     shared, free, free-whole     a `&` to an element is made by tokens, and with none, and one to the array with none
--     reads-one        an element of a `&[S]`, to which one local points, is read into another
-- It says nothing of the crate. `tell`, `Structs` and `vals` assume nothing. The rest takes `Logic`.
use Prim.Native.Nat.{ℕ, suc, ◌<◌}
use mathlib.Core.Path.{◌≡◌, refl, sym, subst}
use mathlib.Core.List.{List, [], ◌∷◌, map}
use lib.Dec.{T}
use lib.ListN.{length, get_or}
use seplogic.Ra.Ura.{Ura}
use base.Fraction.{full_share}
use mir.Syntax.{Ty, ty_array, named, deref, place, copy, rv_opd, Body, seq, assign}
use mir.Val.{Val, WT, has_ty, vptr}
use base.Fml.{Lft, Share, Fml, fat, froom, flft}
use prog.Wp.{Env, Calls, Loops, spot_of}
use ghost.Rules.{Halves}
use types.Logic.{Logic, sem}
use types.Kit.{Item, Post, Seq, ‵, nth, put, runs, ◌$◌, !, qed, move, drop, fsplit, fjoin, feq_i, done}
use types.Share.{parts, arr_parts}
use types.Run.{look, look_raw, stop, hop, from, load, of_opd}
use denote.RattleType.{RattleType}
use denote.Array.{Array, array_val, Array-Makes, Array-Tells, Array-Lawful}
use denote.Memory.{lone, mem, shares}
use denote.Opens.{Cuts-Halves, Cuts-map}
use denote.Copied.{each_Cuts, Array-Copied}
use denote.Shares.{Shares}
use denote.Laws.{Is, Tells, Makes, shows}
use denote.Ref.{Bor}
use denote.Slice.{ShrSlice, shr_slice_vals}
use denote.Index.{place as at_place, elem_out, elem_back, looks_slice, shuts_slice}
use denote.Struct.Declared.{Declared, fields, row}
use denote.Struct.Struct.{Plains}
use denote.Struct.Laws as LL
use borrow.Table.Copies.{Halved, halved, Shares-copy, c_struct}
use Rattle.proof_walks.proofs.JoinedSteps.{sets}
use Rattle.proof_walks.proofs.Lent.{Frees}

module _ (S : Declared) where
  -- The array as a type.
  abbrev pub Structs : ℕ → RattleType
  Structs n = Array (row S) n

  module _ (L : LL.Laws S) where
    -- Its machine value.
    abbrev pub vals : List S.D → Val
    vals xs = array_val (map (LL.val S L) xs)

    -- It is the only one.
    pub tell : (n : ℕ) → Tells (Structs n) (Is (Structs n)) (λ xs. vals xs ∷ [])
    tell n = Array-Tells (row S) (LL.vals S L) (LL.tells S L) n

    module _ {M : Type 1} {𝓤 : Ura M} (𝓛 : Logic 𝓤) where
      -- A machine value of it has its MIR type.
      pub typed : (n : ℕ) (xs : List S.D) (v : Val) → Is (Structs n) xs (v ∷ [])
          → T (has_ty (ty_array (lone (row S).mir) n) v) × WT v
      typed n xs v is = ((Array-Lawful 𝓛 (row S) (LL.lawful S L 𝓛) n).typed xs _ is).0

      -- The shares of its elements can be halved, where the struct is Copy.
      pub halve : LL.Copyables S.parts → Halved 𝓛 (row S)
      halve c = halved 𝓛 (c_struct S L c)

      -- The same of the shares alone: a share of the elements, side by side, is its two halves.
      pub halves : LL.Copyables S.parts → (xs : List S.D) (b o : ℕ)
          → Halves 𝓤 𝓛.H 𝓛.A (λ s. (arr_parts (shares (row S)) (length xs)).part s xs b o)
      halves c xs b o =
          let P : Share → Fml = λ s. parts (mem (row S)) (shares (row S)) s xs b o in
          let Q : Share → Fml = λ s. (arr_parts (shares (row S)) (length xs)).part s xs b o in
          Cuts-Halves 𝓛 Q (Cuts-map 𝓛 P Q
          (λ s. qed 𝓛 (‵ (P s) ∷ []) {P = sem 𝓛 (Q s)} (feq_i ! ℕ (length xs) (length xs) refl $ done !))
          (λ s. qed 𝓛 (‵ (Q s) ∷ []) {P = sem 𝓛 (P s)} (fsplit ! $ drop ! $ done !))
          (each_Cuts 𝓛 (row S) (LL.copied S c 𝓛) xs b o))

      -- A `&` to one is made by the law that `lend-front` takes, and out of memory with no token, as `shows-slice` and
      -- `shows-whole` take it.
      pub shared : LL.Copyables S.parts → (l : Lft) → Shares 𝓛 (row S) l
      shared c l = Shares-copy 𝓛 (c_struct S L c) l

      pub free : LL.Copyables S.parts → Frees 𝓛 (row S)
      free c = (LL.copied S c 𝓛).lends full_share

      pub free-whole : LL.Copyables S.parts → (n : ℕ) → Frees 𝓛 (Structs n)
      free-whole c n = (Array-Copied 𝓛 (row S) (LL.copied S c 𝓛) tt n).lends full_share

  -- What it owns is had for nothing.
  pub make : Plains (fields S) → {M : Type 1} {𝓤 : Ura M} (𝓛 : Logic 𝓤) (n : ℕ)
      → Makes 𝓛 (Structs n) (Is (Structs n))
  make p 𝓛 n = Array-Makes 𝓛 (row S) (LL.makes S p 𝓛) n

module _ {M : Type 1} {𝓤 : Ura M} {𝓛 : Logic 𝓤} {K : Type 0} {Γ : List (Item 𝓤)}
    {E : Env 𝓤 𝓛.H} {C : Calls 𝓤 𝓛.H} {Λ : Loops 𝓤 𝓛.H} {p : Post 𝓤 𝓛.H} where
  -- The element n of the slice is read through the local i, whose cell is the item a, into the local k, whose room is
  -- the item c.
  open 𝓛 use {H}

  pub reads-one : K → (S : Declared) (L : LL.Laws S) → LL.Copyables S.parts → {κ : Lft} {q : Share}
      (x : Bor (List S.D)) (n : ℕ) (d : S.D) → n < length x.now → {i k : ℕ} {rest : Body} (a c : ℕ)
      → nth 𝓛 a Γ ≡ ‵ (fat full_share (spot_of 𝓤 H E i).0 (spot_of 𝓤 H E i).1 (spot_of 𝓤 H E i).2
      (vptr x.ref_ptr.0 (at_place (mem (row S)).size x.ref_ptr.1 n)))
      → nth 𝓛 c Γ ≡ ‵ (froom (spot_of 𝓤 H E k).0 (spot_of 𝓤 H E k).1 (spot_of 𝓤 H E k).2)
      → (spot_of 𝓤 H E k).0 ≡ lone (row S).mir
      → (Is (row S) (get_or x.now n d) (LL.vals S L (get_or x.now n d))
      → Seq K 𝓛 (‵ ((ShrSlice (named 0) κ (row S)).own_val x (shr_slice_vals x)) ∷ ‵ (flft κ q)
      ∷ put 𝓛 c (‵ (fat full_share (spot_of 𝓤 H E k).0 (spot_of 𝓤 H E k).1 (spot_of 𝓤 H E k).2
      (LL.val S L (get_or x.now n d)))) Γ) (runs C Λ E rest p))
      → Seq K 𝓛 (‵ ((ShrSlice (named 0) κ (row S)).own_val x (shr_slice_vals x)) ∷ ‵ (flft κ q) ∷ Γ)
      (runs C Λ E (seq (assign (place k []) (rv_opd (copy (place i (deref (lone (row S).mir) ∷ []))))) rest) p)
  reads-one t S L cs x n d inside {i} {k} a c points empty same go =
      let b = x.ref_ptr.0 in
      let o = x.ref_ptr.1 in
      let v = LL.val S L (get_or x.now n d) in
      fsplit t $ move t (1 ∷ 2 ∷ []) $
      looks_slice t tt (row S) (LL.copied S cs 𝓛) x.now b o (λ q'.
      elem_out t (row S) (Is (row S)) (shows 𝓛 (row S)) (LL.vals S L) (LL.tells S L) q' x.now n d b o inside
      (λ is.
      sets t (of_opd t (load t (from t (hop t (look t (suc (suc (suc (suc (suc (suc a)))))) points) (stop t)))
      (look_raw t 0 refl))) (suc (suc (suc (suc (suc (suc c)))))) empty
      (subst (λ (τ : Ty). T (has_ty τ v) × WT v) (sym same) ((LL.lawful S L 𝓛).typed (get_or x.now n d) _ is).0) $
      elem_back t (row S) q' x.now n d (v ∷ []) b o inside $ shuts_slice t tt (row S) q' x.now b o $
      move t (2 ∷ 1 ∷ []) $ fjoin t $ go is))
