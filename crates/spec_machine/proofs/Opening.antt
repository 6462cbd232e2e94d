-- The opening meets the first four layers: nobody is active, nothing is announced or decided, the bank and the copy
-- lists hold every block number once, and the words seen through the bank are those of the block lines.
-- Assumes a sound plan.
use Prim.Native.Nat.{ℕ, suc, ◌+◌, ◌*◌, ◌≤◌, ◌<◌}
use mathlib.Core.Path.{◌≡◌, refl, sym, ◌∙◌, ap, subst}
use mathlib.Core.Logic.{◌⊎◌, inl, inr}
use mathlib.Core.Bool.{Bool, true, false, cond, false≢true}
use mathlib.Core.List.{[]}
use native.Mathlib.Omega.{arith}
use native.Mathlib.Nat.{le_refl, mul-le-mul_right}
use native.Mathlib.Decide.{dec_lt}
use lib.Dec.{ltb}
use lib.ListN.{get_or}
use borrow.Author.Tests.{ltb-true}
use Rattle.spec_format.specs.Plan.{Plan}
use Rattle.spec_format.specs.Sound.{Sound}
use Rattle.spec_machine.specs.declared.Version.{Version}
use Rattle.spec_machine.specs.Places.{is_active}
use Rattle.spec_machine.specs.Machine.{copy_blocks}
use Rattle.spec_machine.proofs.View.{decided, is_finished, State, state_in, decided≢finished}
use Rattle.spec_machine.proofs.ListsByPlace.{digits}
use Rattle.spec_machine.proofs.ListMachine.{opening_state, Opened, opened}
use Rattle.spec_machine.proofs.SmallSteps.{copy_of, Layout, layout}
use Rattle.spec_machine.proofs.Attempts.{seen, Stock}
use Rattle.spec_machine.proofs.Words.{blocks_of, seen-blocks}
use Rattle.spec_machine.proofs.Cards.{phase_at, second, phase, announced, OnBoard, CardsHold, board}
use Rattle.spec_machine.proofs.Epochs.{kind, HelpHolds, ChiefGuard, MoverHolds, EpochsHold}
use Rattle.spec_machine.proofs.Contents.{Ghost, part, OwnAt, ContentsHold}
use Rattle.spec_machine.proofs.Bypass.{Tally, PhaseHolds, BypassHolds}

-- The memory of the block lines, no block stored.
abbrev pub opening_ghost : Plan → Ghost
opening_ghost plan = record { mem = blocks_of plan plan.words; done = λ _. false }

-- Nothing has committed.
abbrev pub opening_tally : Tally
opening_tally = record { committed = λ _. 0; passed = λ _ _. []; target = λ _. 0 }

module _ (plan : Plan) (ok : Sound plan) where
  -- The plan as the clauses read it.
  abbrev P : Layout
  P = layout plan

  -- The opening state.
  abbrev s : State
  s = opening_state plan

  -- The opening as it is.
  o : Opened plan
  o = opened plan ok

  -- Nobody is active, and nobody is announced.
  off : (k : ℕ) → is_active (s.job k).place ≡ true → ⊥
  off k h = false≢true (sym (ap is_active (o.idle k)) ∙ h)

  -- Nobody is announced.
  quiet : (k : ℕ) → announced (phase (s.job k)) ≡ true → ⊥
  quiet k h = false≢true (sym (ap (λ a. announced (phase_at (second (s.job k)) a)) (o.idle k)) ∙ h)

  -- Every status is N, and the flag is false.
  fin : (k : ℕ) → is_finished (s.sh.stat k) ≡ true
  fin k = ap is_finished (o.settled k)

  -- Nothing is decided.
  undecided-all : (q w : ℕ) → s.sh.stat q ≡ decided w → ⊥
  undecided-all q w e = decided≢finished e (o.settled q)

  -- The flag is false.
  no_flag : s.sh.v.flag ≡ true → ⊥
  no_flag f = false≢true (sym (ap (λ (x : Version). x.flag) o.version) ∙ f)

  -- The first layer.
  pub opening-cards : CardsHold P s
  opening-cards =
      record {
        whole =
            record {
              in-plan = λ k h. absurd (off k h);
              announced-active = λ k h. absurd (quiet k h);
              none = fin P.jobs;
              named-announced = λ r h. absurd (h (o.unannounced r));
              pending = λ k h. absurd (quiet k h);
              highest = λ k h. absurd (quiet k h);
            };
        each =
            λ k. subst (λ a. OnBoard P (board s) k (s.job k).lid (phase_at (second (s.job k)) a)) (sym (o.idle k))
            (fin k);
      }

  -- The second layer.
  pub opening-epochs : EpochsHold P s
  opening-epochs =
      record {
        whole = record { named = λ f. absurd (no_flag f); one = λ q w e. absurd (undecided-all q w e) };
        each =
            λ k. record {
              old = rw (o.version, o.taken k) (le_refl 0);
              flag = subst (λ a. HelpHolds P (s.job k) (kind a)) (sym (o.idle k)) tt;
              guard =
                  subst
                  (λ a. ChiefGuard P s.sh.v s.sh.ann s.sh.stat k (s.job k).lid
                  (phase_at (second (s.job k)) a))
                  (sym (o.idle k)) tt;
              fresh = λ _ f. absurd (no_flag f);
              mover =
                  λ _. subst (λ a. MoverHolds P s.sh.v s.sh.ann s.sh.stat (s.job k) (kind a))
                  (sym (o.idle k))
                  tt;
            };
      }

  -- A copy number of one of the plan's jobs is below those of the bank.
  inside : (q i : ℕ) → i < P.copies → q < P.jobs → q * P.copies + i < P.jobs * P.copies
  inside q i hi hq = let z : suc q * P.copies ≤ P.jobs * P.copies = mul-le-mul_right P.copies hq in omega arith

  -- Where a copy number stands: below the bank's, or, for a job that is not the plan's, past them.
  copy_at :
      (q i : ℕ) → i < P.copies
      → ((q < P.jobs) × (copy_of (s.job q) i ≡ q * P.copies + i))
      ⊎ ((P.jobs ≤ q) × (copy_of (s.job q) i ≡ copy_blocks plan + P.blocks + (q * P.copies + i)))
  copy_at q i hi = go (dec_lt q P.jobs)
    where
      go :
          Dec (q < P.jobs)
          → ((q < P.jobs) × (copy_of (s.job q) i ≡ q * P.copies + i))
          ⊎ ((P.jobs ≤ q) × (copy_of (s.job q) i ≡ copy_blocks plan + P.blocks + (q * P.copies + i)))
      go (yes h) = inl (h, o.copies q i h hi)
      go (no n) = let h : P.jobs ≤ q = omega arith in inr (h, o.absent-copies q i h hi)

  -- Every block number stands once.
  stocked : Stock P s.sh.bank (λ q. copy_of (s.job q))
  stocked =
      record {
        bank_bank = λ k l hk hl e. let a = o.bank k hk in let b = o.bank l hl in omega arith;
        bank_copy = λ k q i hk hi e. bank_copy k q i hk hi e (copy_at q i hi);
        copy_copy = λ q r i j hi hj e. copy_copy q r i j hi hj e (copy_at q i hi) (copy_at r j hj);
        bank_in = λ k hk. let a = o.bank k hk in omega arith;
        copy_in =
            λ q i hq hi. let a : copy_of (s.job q) i ≡ q * P.copies + i = o.copies q i hq hi in
            let b = inside q i hi hq in
            omega arith;
      }
    where
      bank_copy :
          (k q i : ℕ) → k < P.blocks → i < P.copies → s.sh.bank k ≡ copy_of (s.job q) i
          → ((q < P.jobs) × (copy_of (s.job q) i ≡ q * P.copies + i))
          ⊎ ((P.jobs ≤ q) × (copy_of (s.job q) i ≡ copy_blocks plan + P.blocks + (q * P.copies + i))) → ⊥
      bank_copy k q i hk hi e (inl c) =
          let a = o.bank k hk in
          let b = inside q i hi c.0 in
          let d = c.1 in
          omega arith
      bank_copy k q i hk hi e (inr c) = let a = o.bank k hk in let d = c.1 in omega arith

      copy_copy :
          (q r i j : ℕ) → i < P.copies → j < P.copies → copy_of (s.job q) i ≡ copy_of (s.job r) j
          → ((q < P.jobs) × (copy_of (s.job q) i ≡ q * P.copies + i))
          ⊎ ((P.jobs ≤ q) × (copy_of (s.job q) i ≡ copy_blocks plan + P.blocks + (q * P.copies + i)))
          → ((r < P.jobs) × (copy_of (s.job r) j ≡ r * P.copies + j))
          ⊎ ((P.jobs ≤ r) × (copy_of (s.job r) j ≡ copy_blocks plan + P.blocks + (r * P.copies + j)))
          → (q ≡ r) × (i ≡ j)
      copy_copy q r i j hi hj e (inl c) (inl d) = digits P.copies q r i j hi hj (sym c.1 ∙ e ∙ d.1)
      copy_copy q r i j hi hj e (inl c) (inr d) =
          let a = inside q i hi c.0 in
          let x = c.1 in
          let y = d.1 in
          absurd (omega arith)
      copy_copy q r i j hi hj e (inr c) (inl d) =
          let a = inside r j hj d.0 in
          let x = c.1 in
          let y = d.1 in
          absurd (omega arith)
      copy_copy q r i j hi hj e (inr c) (inr d) =
          let x = c.1 in
          let y = d.1 in
          digits P.copies q r i j hi hj (omega arith)

  -- The words seen through the bank are those of the block lines.
  seen-opening : blocks_of plan plan.words ≡ seen P s.sh.bank s.sh.blk
  unfolding state_in
  seen-opening =
      sym (seen-blocks plan plan.words s.sh.bank s.sh.blk
      (λ k i hk. ap (λ b. s.sh.blk b i) (o.bank k hk) ∙ go k i hk (ltb i plan.sizes.words) refl))
    where
      go :
          (k i : ℕ) → k < P.blocks → (b : Bool) → ltb i plan.sizes.words ≡ b
          → s.sh.blk (copy_blocks plan + k) i ≡ cond b (get_or plan.words (k * plan.sizes.words + i) 0) 0
      go k i hk true e = o.words k i hk (ltb-true _ _ e)
      go k i hk false e = rw e

  -- The third layer.
  pub opening-contents : ContentsHold plan s (opening_ghost plan)
  opening-contents =
      record {
        whole = record { calm = λ _. (seen-opening, stocked); settled = λ q w e. absurd (undecided-all q w e) };
        each =
            λ k. record {
              roomy = o.roomy k;
              own = subst (λ a. OwnAt plan (s.sh.addrlist k) (s.job k) (part a)) (sym (o.idle k)) (o.unmarked k);
              fresh = λ _ f. absurd (no_flag f);
            };
      }

  -- The fourth layer.
  pub opening-bypass : BypassHolds P s.sh.v s.sh.ann s.sh.stat s.job opening_tally
  opening-bypass =
      record {
        none_yet = λ k f. refl;
        once = λ k h. absurd (quiet k h);
        parts =
            λ k. subst (λ a. PhaseHolds P s.sh.v s.sh.ann s.sh.stat opening_tally k
            (phase_at (second (s.job k)) a))
            (sym (o.idle k)) tt;
        bound = λ k r h. absurd (quiet k h);
        pending = λ k h. absurd (quiet k h);
        mover = λ x e _ _ k h. absurd (quiet k h);
      }
