-- Steps of `Types/Run.antt` that a walk takes together, as one. They say nothing of the crate.
--     var, arg     a local is read, and read as the first of some operands
--     behind       the address of what a local points at
--     sets         a local is given its first value
--     after        what follows a first statement: what is left of a body when that has run
--     leave        at the end all locals are given up: their values are vs, and Θ is what stands before their cells
-- Assumes `Logic`.
use mathlib.Core.Path.{◌≡◌}
use Prim.Native.Nat.{ℕ, zero}
use mathlib.Core.List.{List, [], ◌∷◌, ◌++◌, map}
use seplogic.Ra.Ura.{Ura}
use base.Fraction.{full_share}
use lib.Dec.{T}
use mir.Syntax.{Ty, deref, place, Opd as Operand, copy, Rv as RValue, addr_of, Body, seq, assign}
use mir.Syntax.{skip, block, loop, cond, switch, exit, return, unreachable, call, call_v, lend_static}
use mir.Val.{Val, vptr, WT, has_ty}
use base.Logic.{SProp, ent, sep, emp, id⊢, via, mono_r, fst∗}
use base.Fml.{Share, fat, froom, fdies}
use prog.Wp.{Env, Calls, Loops, spot_of, release}
use types.Logic.{Logic}
use types.Kit.{Item, ‵, raw, mean, ⋆, nth, put, pop, ⊢++, Post, Goal, runs, frees, aim}
use types.Kit.{Step, step}
use types.Kit.{◌$◌, ◌∵◌, !, qed, move, use1, join, done}
use types.Run.{Opd, Opds, Rv, look, init, stop, hop, from, load, addr, and_then, assigns}
use Rattle.proof_walks.proofs.Spots.{Held, unset, has, cell, cells, swapped}

-- What follows a first statement.
abbrev pub after : Body → Body
after skip = skip
after (seq a b) = b
after (assign p v) = skip
after (block b) = skip
after (loop b) = skip
after (cond c a b) = skip
after (switch c ks) = skip
after (exit n) = skip
after return = skip
after unreachable = skip
after (call f xs p) = skip
after (call_v f xs ys p) = skip
after (lend_static s a p) = skip

module _ {M : Type 1} {𝓤 : Ura M} {𝓛 : Logic 𝓤} {K : Type 0} {Γ : List (Item 𝓤)} where
  open 𝓛 use {H}

  module _ {E : Env 𝓤 H} where
    pub var : K → {i : ℕ} (n : ℕ) {q : Share} {v : Val}
        → nth 𝓛 n Γ ≡ ‵ (fat q (spot_of 𝓤 H E i).0 (spot_of 𝓤 H E i).1 (spot_of 𝓤 H E i).2 v)
        → Opd K 𝓛 Γ E (copy (place i [])) v
    var t n e = load t (from t (stop t)) (look t n e)

    pub arg : K → {i : ℕ} (n : ℕ) {q : Share} {v : Val} {xs : List Operand} {vs : List Val}
        → nth 𝓛 n Γ ≡ ‵ (fat q (spot_of 𝓤 H E i).0 (spot_of 𝓤 H E i).1 (spot_of 𝓤 H E i).2 v)
        → Opds K 𝓛 Γ E xs vs → Opds K 𝓛 Γ E (copy (place i []) ∷ xs) (v ∷ vs)
    arg t n e os = and_then t (var t n e) os

    pub behind : K → {i : ℕ} {τ : Ty} (n : ℕ) {q : Share} {b o : ℕ}
        → nth 𝓛 n Γ ≡ ‵ (fat q (spot_of 𝓤 H E i).0 (spot_of 𝓤 H E i).1 (spot_of 𝓤 H E i).2 (vptr b o))
        → Rv K 𝓛 Γ E (addr_of (place i (deref τ ∷ []))) (vptr b o)
    behind t n e = addr t (from t (hop t (look t n e) (stop t)))

    module _ {C : Calls 𝓤 H} {Λ : Loops 𝓤 H} {q : Post 𝓤 H} where
      pub sets : K → {i : ℕ} {rv : RValue} {rest : Body} {v : Val} → Rv K 𝓛 Γ E rv v → (n : ℕ)
          → nth 𝓛 n Γ ≡ ‵ (froom (spot_of 𝓤 H E i).0 (spot_of 𝓤 H E i).1 (spot_of 𝓤 H E i).2)
          → T (has_ty (spot_of 𝓤 H E i).0 v) × WT v
          → Step K 𝓛 (put 𝓛 n (‵ (fat full_share (spot_of 𝓤 H E i).0 (spot_of 𝓤 H E i).1 (spot_of 𝓤 H E i).2 v)) Γ)
          (runs C Λ E rest q) Γ (runs C Λ E (seq (assign (place i []) rv) rest) q)
      sets t r n e ok = assigns t r (from t (stop t)) (init t n e ok)

module _ {M : Type 1} {𝓤 : Ura M} (𝓛 : Logic 𝓤) where
  -- A local's cell as room, before what else there is.
  open 𝓛 use {H}

  abbrev gone : Ty × ℕ → SProp 𝓤
  gone e = sep 𝓤 (H.room e.0 e.1 zero) (H.dies e.0 e.1)

  -- A cell is room, whatever is known of it.
  as_room : (e : Ty × ℕ) (h : Held) → ent 𝓤 (mean 𝓛 (cell 𝓤 e.0 e.1 h)) (H.room e.0 e.1 zero)
  as_room e unset = id⊢ 𝓤 _
  as_room e (has v) = 𝓛.laws.at_room e.0 e.1 zero v

  -- One local is given up, whatever is known of it.
  first : (e : Ty × ℕ) (h : Held) (Γ : List (Item 𝓤)) (P Q : SProp 𝓤) → ent 𝓤 (sep 𝓤 P (⋆ 𝓛 Γ)) Q
      → ent 𝓤 (sep 𝓤 P (⋆ 𝓛 (cells 𝓤 (e ∷ []) (h ∷ []) Γ))) (sep 𝓤 (gone e) Q)
  first e h Γ P Q k =
      let i : Item 𝓤 = cell 𝓤 e.0 e.1 h in
      let R : SProp 𝓤 = H.room e.0 e.1 zero in
      let D : SProp 𝓤 = H.dies e.0 e.1 in
      via 𝓤 (sep 𝓤 P (sep 𝓤 (mean 𝓛 i) (sep 𝓤 D (⋆ 𝓛 Γ))))
      (mono_r 𝓤 P (via 𝓤 (sep 𝓤 (mean 𝓛 i) (⋆ 𝓛 (‵ (fdies e.0 e.1) ∷ Γ)))
      (pop 𝓛 i (‵ (fdies e.0 e.1) ∷ Γ))
      (mono_r 𝓤 (mean 𝓛 i) (pop 𝓛 (‵ (fdies e.0 e.1)) Γ))))
      (via 𝓤 (sep 𝓤 (gone e) (sep 𝓤 P (⋆ 𝓛 Γ)))
      (qed 𝓛 (raw P ∷ i ∷ raw D ∷ raw (⋆ 𝓛 Γ) ∷ []) ∵ move ! (1 ∷ 2 ∷ []) $ use1 𝓛 (raw R) (as_room e h) $
      join ! $ done !)
      (mono_r 𝓤 (gone e) k))

  -- What is beside the locals of an environment as they are given up is still there.
  past : (E : Env 𝓤 H) (P Q : SProp 𝓤) → ent 𝓤 (release 𝓤 H E (sep 𝓤 P Q)) (sep 𝓤 P (release 𝓤 H E Q))
  past [] P Q = id⊢ 𝓤 (sep 𝓤 P Q)
  past (e ∷ E) P Q =
      via 𝓤 (sep 𝓤 (gone e) (sep 𝓤 P (release 𝓤 H E Q))) (mono_r 𝓤 (gone e) (past E P Q))
      (swapped 𝓛 (gone e) P (release 𝓤 H E Q))

  -- All locals of an environment are given up.
  all-gone : (E : Env 𝓤 H) (hs : List Held) (Γ : List (Item 𝓤)) (P Q : SProp 𝓤) → ent 𝓤 (sep 𝓤 P (⋆ 𝓛 Γ)) Q
      → ent 𝓤 (sep 𝓤 P (⋆ 𝓛 (cells 𝓤 E hs Γ))) (release 𝓤 H E Q)
  all-gone [] hs Γ P Q k = k
  all-gone (e ∷ E) [] Γ P Q k =
      via 𝓤 (release 𝓤 H E (sep 𝓤 (gone e) Q))
      (all-gone E [] (cells 𝓤 (e ∷ []) [] Γ) P (sep 𝓤 (gone e) Q) (first e unset Γ P Q k)) (past E (gone e) Q)
  all-gone (e ∷ E) (h ∷ hs) Γ P Q k =
      via 𝓤 (release 𝓤 H E (sep 𝓤 (gone e) Q))
      (all-gone E hs (cells 𝓤 (e ∷ []) (h ∷ []) Γ) P (sep 𝓤 (gone e) Q) (first e h Γ P Q k)) (past E (gone e) Q)

module _ {M : Type 1} {𝓤 : Ura M} {𝓛 : Logic 𝓤} {K : Type 0} where
  open 𝓛 use {H}

  pub leave : K → (vs : List Val) (Θ : List (Item 𝓤)) {E : Env 𝓤 H} {g : Goal 𝓤 H}
      → Step K 𝓛 Θ g (Θ ++ cells 𝓤 E (map has vs) []) (frees E g)
  leave t vs Θ {E} {g} = step (λ s. record {
    prf = via 𝓤 (sep 𝓤 (⋆ 𝓛 Θ) (⋆ 𝓛 (cells 𝓤 E (map has vs) []))) (⊢++ 𝓛 Θ (cells 𝓤 E (map has vs) []))
        (all-gone 𝓛 E (map has vs) [] (⋆ 𝓛 Θ) (aim 𝓤 H g)
        (via 𝓤 (⋆ 𝓛 Θ) (fst∗ 𝓤 (⋆ 𝓛 Θ) (emp 𝓤)) s.prf));
  })
