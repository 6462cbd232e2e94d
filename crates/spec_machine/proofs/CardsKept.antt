-- Every item of the step list keeps the first layer: each place is one of the few changes of Cards.antt (A2, both A14,
-- A15, H42), reads an announcement (A4), leaves the loop (A7), or changes nothing that the clauses read.
-- Assumes of the plan that jobs of one card differ in priority.
use mathlib.Core.Path.{◌≡◌, refl, sym, ◌∙◌, ap, subst}
use mathlib.Core.Logic.{◌≢◌, inl, inr}
use mathlib.Core.List.{[]}
use mathlib.Core.Bool.{Bool, true, false, false≢true}
use Prim.Native.Nat.{ℕ, ◌≤◌}
use native.Mathlib.Omega.{arith}
use native.Mathlib.Nat.{le_antisymm}
use lib.Dec.{eqb}
use lib.IntN.{ℤ, pos, negsuc}
use lib.ListN.{get_or}
use borrow.Author.Tests.{eqb-true, eqb-false, ne_eqb}
use Rattle.spec_format.specs.Plan.{Plan}
use Rattle.spec_machine.specs.declared.Stage.{Stage}
use Rattle.spec_machine.specs.declared.Place.{Place}
use Rattle.spec_machine.specs.declared.Working.{Working}
use Rattle.spec_machine.specs.declared.Store.{Store}
use Rattle.spec_machine.specs.declared.Out.{Out}
use Rattle.spec_machine.specs.Places.{is_active}
use Rattle.spec_machine.specs.Moves.{block, offset, move, word_written}
use Rattle.spec_machine.specs.Working.{goto, with_round, taking, with_word}
use Rattle.spec_machine.specs.Steps.{Shared, quiet, doing, item, stage}
use Rattle.spec_machine.proofs.ChangedAt.{upd, upd_same, upd-map}
use Rattle.spec_machine.proofs.View.{
  Status,
  undecided,
  decided,
  finished,
  is_finished,
  is_undecided,
  State,
  status_in,
  showing,
  changed,
  after,
  finished-is,
  undecided-is,
  finished-means,
  undecided-means,
}
use Rattle.spec_machine.proofs.SmallSteps.{Layout, layout}
use Rattle.spec_machine.proofs.Tests.{shut-test, test, onward-elim, store-elim, begin-elim, and_l, and_r}
use Rattle.spec_machine.proofs.Cards.{
  awake,
  active-phase,
  look,
  loop,
  swap,
  phase_at,
  second,
  phase,
  announced,
  board,
  Accepted,
  Runs,
  OnBoard,
  CardsHold,
  stating,
  working,
  local,
  commits,
  arms,
  again,
  announces,
  returns,
}

-- What is −1 is not N.
pub undecided-not : (x : Status) → is_undecided x ≡ true → is_finished x ≡ false
undecided-not undecided h = refl
undecided-not (decided w) h = refl
undecided-not finished h = absurd (false≢true h)

module _ (plan : Plan) (acc : Accepted (layout plan)) (sh : Shared) (job : ℕ → Working)
    (I : CardsHold (layout plan) (record { sh = showing plan sh; job = job })) (p : ℕ)
    (R : Runs (layout plan) (board (record { sh = showing plan sh; job = job })) p) where
  -- The plan as the clauses read it.
  abbrev P : Layout
  P = layout plan

  -- The state before the item.
  abbrev s : State
  s = record { sh = showing plan sh; job = job }

  -- What the item gives keeps the layer. A record, so that the outcome can be read off the goal.
  pub record Good (o : Out) : Type 0 where
    pub kept : CardsHold P (after plan p o s)

  -- p keeps its phase and its lid, and the store is none that the clauses read.
  stay :
      {o : Out} → (changed plan p o.work o.store s.sh).ann ≡ s.sh.ann
      → ((k : ℕ) → is_finished ((changed plan p o.work o.store s.sh).stat k) ≡ is_finished (s.sh.stat k))
      → phase o.work ≡ phase (job p) → o.work.lid ≡ (job p).lid → Good o
  stay {o} ea ef ep el =
      record {
        kept =
            local plan acc s I p o ea ef (active-phase (second o.work) o.work.place ∙ ap awake ep
            ∙ sym (active-phase (second (job p)) (job p).place)) (ap announced ep) (rw (el, ep) (I.each p));
      }

  -- The same where nothing is stored.
  calm : (w : Working) → phase w ≡ phase (job p) → w.lid ≡ (job p).lid → Good (quiet w)
  calm w ep el = stay refl (λ _. refl) ep el

  -- p's own record changes and nothing is stored; p's clause is asked.
  turns :
      (w : Working) → is_active w.place ≡ is_active (job p).place → announced (phase w) ≡ announced (phase (job p))
      → OnBoard P (board s) p w.lid (phase w) → Good (quiet w)
  turns w eo el own = record { kept = local plan acc s I p (quiet w) refl (λ _. refl) eo el own }

  -- p still runs when it alone has changed.
  runs-still : (w : Working) → is_active w.place ≡ is_active (job p).place → Runs P (board (working p w s)) p
  runs-still w e =
      record {
        up = simp upd_same (e ∙ R.up);
        top = λ k h. R.top k (sym (upd-map (λ (x : Working). is_active x.place) job p w k e) ∙ h);
      }

  -- A store to a status, by what it means.
  means :
      (q : ℕ) (x : ℤ) (y : Status) (w : Working) (d : Bool) → status_in plan.sizes.jobs x ≡ y
      → CardsHold P (working p w (stating q y s)) → Good (record { work = w; store = Store.Stat q x; done = d })
  means q x y w d e c = record { kept = subst (λ z. CardsHold P (working p w (stating q z s))) (sym e) c }

  -- A4: what is read from the announcement.
  looks :
      (r : Bool) → phase (job p) ≡ look r → (b : Bool) → eqb (sh.ann (P.card p)) P.jobs ≡ b
      → OnBoard P (board s) p (sh.ann (P.card p)) (elim b [ true ↦ swap r | false ↦ loop r ])
  looks false e true t = (
    record {
      here = R.up;
      under = inl (eqb-true _ _ t);
      only = λ q b lo f. sym (rw b.card at (I.whole.pending q lo f));
    },
    rw (eqb-true (sh.ann (P.card p)) P.jobs t) I.whole.none,
  )
  looks true e true t = go (is_finished (s.sh.stat p)) refl
    where
      go : (x : Bool) → is_finished (s.sh.stat p) ≡ x → is_finished (s.sh.stat p) ≡ true
      go true f = f
      go false f =
          let z : p ≡ P.jobs = sym (I.whole.pending p (ap announced e) f) ∙ eqb-true _ _ t in
          let h = I.whole.in-plan p R.up in
          absurd (omega arith)
  looks false e false t =
      record {
        here = R.up;
        under = inr (a.1, record { card = a.0; prio = omega (arith, le, ne) });
        only = λ q b lo f. sym (rw b.card at (I.whole.pending q lo f));
      }
    where
      a : (P.card (sh.ann (P.card p)) ≡ P.card p) × (announced (phase (job (sh.ann (P.card p)))) ≡ true)
      a = I.whole.named-announced (P.card p) (eqb-false _ _ t)

      le : P.prio (sh.ann (P.card p)) ≤ P.prio p
      le = R.top _ (I.whole.announced-active _ a.1) a.0

      ne : P.prio (sh.ann (P.card p)) ≢ P.prio p
      ne z =
          false≢true (sym (ap announced e)
          ∙ rw (acc.apart (sh.ann (P.card p)) p (I.whole.in-plan _ (I.whole.announced-active _ a.1))
          (I.whole.in-plan p R.up) a.0 z) at a.1)
  looks true e false t =
      inl (acc.apart _ p (I.whole.in-plan _ (I.whole.announced-active _ a.1)) (I.whole.in-plan p R.up)
      a.0
      (le_antisymm (R.top _ (I.whole.announced-active _ a.1) a.0)
      (I.whole.highest p (ap announced e) (eqb-false _ _ t))))
    where
      a : (P.card (sh.ann (P.card p)) ≡ P.card p) × (announced (phase (job (sh.ann (P.card p)))) ≡ true)
      a = I.whole.named-announced (P.card p) (eqb-false _ _ t)

  -- A7: out of the loop.
  leaves :
      (r : Bool) → OnBoard P (board s) p (job p).lid (loop r) → is_finished (s.sh.stat (job p).lid) ≡ true
      → OnBoard P (board s) p (job p).lid (swap r)
  leaves false u f = (u, f)
  leaves true (inl e) f = rw e at f
  leaves true (inr g) f = g

  -- Second A14: p's own record first, then the announcement.
  swaps-again :
      (job p).place ≡ Place.A14 → second (job p) ≡ true → is_finished (s.sh.stat p) ≡ true
      → Good (record { work = goto Place.A15 (job p); store = Store.Ann (P.card p) p; done = false })
  swaps-again e er own =
      record { kept = again plan acc s₁ I₁ p (runs-still (goto Place.A15 (job p)) (rw e)) (simp upd_same refl) own }
    where
      s₁ : State
      s₁ = working p (goto Place.A15 (job p)) s

      I₁ : CardsHold P s₁
      I₁ = local plan acc s I p (quiet (goto Place.A15 (job p))) refl (λ _. refl) (rw e) (rw (e, er)) own

  -- H25: −1 becomes another number that is not N.
  decides :
      (q : ℕ) (x : ℤ) → is_undecided (s.sh.stat q) ≡ true → is_finished (status_in plan.sizes.jobs x) ≡ false
      → (k : ℕ) → is_finished (upd s.sh.stat q (status_in plan.sizes.jobs x) k) ≡ is_finished (s.sh.stat k)
  decides q x t f k =
      upd-map is_finished s.sh.stat q (status_in plan.sizes.jobs x) k (f ∙ sym (undecided-not (s.sh.stat q) t))

  -- The number p is not N.
  not-N : is_finished (status_in plan.sizes.jobs (pos p)) ≡ false
  not-N =
      finished-is plan.sizes.jobs (pos p)
      ∙ ne_eqb p plan.sizes.jobs (λ z. let h = I.whole.in-plan p R.up in omega arith)

  -- The stages of a move.
  stages : (st : Stage) → (job p).place ≡ Place.Move st → Good (stage plan sh p st (job p))
  unfolding stage
  stages Stage.Check e = rw shut-test (test Good _ _ _ (λ _. calm _ (rw e) refl) (λ _. calm _ (rw e) refl))
  stages Stage.List e =
      rw shut-test (test Good _ _ _ (λ _. stay refl (λ _. refl) (rw e) refl) (λ _. calm _ (rw e) refl))
  stages Stage.Copy e =
      rw shut-test (test Good _ _ _ (λ _. calm _ (rw e) refl) (λ _. stay refl (λ _. refl) (rw e) refl))
  stages Stage.Take e =
      onward-elim (λ x. Good (quiet x)) plan
      (with_word (sh.blk (get_or (job p).curr (block plan (job p)) 0) (offset plan (job p))) (job p))
      (λ _ _. calm _ (rw e) refl) (λ _ _. calm _ (rw e) refl)
  stages Stage.Write e =
      onward-elim (λ x. Good (record {
        work = x;
        store =
            Store.Word (get_or (job p).curr (block plan (job p)) 0) (offset plan (job p))
            (word_written (move plan (job p)) (job p).word);
        done = false;
      })) plan (job p) (λ _ _. stay refl (λ _. refl) (rw e) refl) (λ _ _. stay refl (λ _. refl) (rw e) refl)

  -- Every item, by the place.
  items :
      (pl : Place) → (job p).place ≡ pl → OnBoard P (board s) p (job p).lid (phase_at (second (job p)) pl)
      → Good (item plan sh p pl (job p))
  unfolding item
  items Place.Idle e own = calm _ refl refl
  items Place.A1 e own = stay refl (λ _. refl) (rw e) refl
  items Place.A2 e own =
      means p (negsuc 0) undecided _ false (undecided-means plan.sizes.jobs)
      (arms plan acc s₁ I₁ p (runs-still (goto Place.A4 (with_round 0 (job p))) (rw e)) (simp upd_same refl))
    where
      s₁ : State
      s₁ = working p (goto Place.A4 (with_round 0 (job p))) s

      I₁ : CardsHold P s₁
      I₁ = local plan acc s I p (quiet (goto Place.A4 (with_round 0 (job p)))) refl (λ _. refl) (rw e) (rw e) tt
  items Place.A4 e own =
      rw shut-test (test Good _ _ _ (λ t. turns _ (rw e) (rw e) (looks (second (job p)) (rw e) true t))
      (λ t. turns _ (rw e) (rw e) (looks (second (job p)) (rw e) false t)))
  items Place.A7 e own =
      rw shut-test (test Good _ _ _
      (λ t. turns _ (rw e) (rw e) (leaves (second (job p)) own (finished-is _ _ ∙ search (and_l, and_r))))
      (λ _. rw shut-test (test Good _ _ _ (λ _. calm _ (rw e) refl) (λ _. calm _ (rw e) refl))))
  items Place.A10 e own = calm _ (rw e) refl
  items Place.A12 e own =
      rw shut-test (test Good _ _ _ (λ _. stay refl (λ _. refl) (rw e) refl) (λ _. calm _ (rw e) refl))
  items Place.A14 e own =
      rw shut-test (test Good _ _ _ (λ t. let c = rw t at own in
      record { kept = announces plan acc s I p R (goto Place.A4 (with_round 1 (job p))) refl refl c.0 c.1 })
      (λ t. swaps-again e (rw t) (rw t at own)))
  items Place.A15 e own = record { kept = returns plan acc s I p R (goto Place.Idle (job p)) refl refl (rw e) own }
  items Place.H16 e own = calm _ (rw e) refl
  items Place.H17 e own =
      rw shut-test (test Good _ _ _ (λ _. calm _ (rw e) refl)
      (λ _. rw shut-test (test Good _ _ _ (λ _. calm _ (rw e) refl) (λ _. calm _ (rw e) refl))))
  items Place.H21 e own =
      begin-elim (λ a. Good (quiet (goto a (taking (sh.trans (job p).hid) (job p)))))
      (get_or plan.updates (sh.trans (job p).hid) []) (calm _ (rw e) refl) (calm _ (rw e) refl)
  items (Place.Move st) e own = stages st e
  items Place.H22 e own = stay refl (λ _. refl) (rw e) refl
  items Place.H25 e own =
      rw shut-test (test Good _ _ _ (λ t. stay refl (decides (job p).hid _ (undecided-is _ _ ∙ search (and_l, and_r))
      (search not-N)) (rw e) refl)
      (λ _. calm _ (rw e) refl))
  items Place.H32 e own = rw shut-test (test Good _ _ _ (λ _. calm _ (rw e) refl) (λ _. calm _ (rw e) refl))
  items Place.H34 e own = rw shut-test (test Good _ _ _ (λ _. calm _ (rw e) refl) (λ _. calm _ (rw e) refl))
  items Place.H36 e own = rw shut-test (test Good _ _ _ (λ _. calm _ (rw e) refl) (λ _. calm _ (rw e) refl))
  items Place.H37 e own = rw shut-test (test Good _ _ _ (λ _. calm _ (rw e) refl) (λ _. calm _ (rw e) refl))
  items Place.H38 e own = calm _ (rw e) refl
  items Place.H41 e own =
      rw shut-test
      (test Good _ _ _ (λ _. store-elim (λ x. Good (doing (Store.Bank (job p).addr (job p).new) x)) (job p)
      (stay refl (λ _. refl) (simp e) refl) (stay refl (λ _. refl) (simp e) refl))
      (λ _. store-elim (λ x. Good (quiet x)) (job p) (calm _ (simp e) refl) (calm _ (simp e) refl)))
  items Place.H42 e own =
      rw shut-test (test Good _ _ _ (λ _. means (job p).hid (pos plan.sizes.jobs) finished _ true
      (finished-means plan.sizes.jobs)
      (local plan acc s₂ I₂ p (quiet (goto Place.A10 (job p))) refl (λ _. refl) (rw e) (rw e) (rw e at (I₂.each p))))
      (λ _. calm _ (rw e) refl))
    where
      s₂ : State
      s₂ = stating (job p).hid finished s

      I₂ : CardsHold P s₂
      I₂ = commits P s (job p).hid I

  -- The item that p stands before keeps the layer.
  pub cards-kept : CardsHold P (after plan p (item plan sh p (job p).place (job p)) s)
  cards-kept = (items (job p).place refl (I.each p)).kept
