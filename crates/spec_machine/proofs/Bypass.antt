-- The fourth layer of the invariant: how often a call has committed, and who has committed since its announcement. It
-- carries along, for the latest call of each job, how often it has committed, the counts of V at which calls of each
-- other card have committed between its announcement and its commit, and a target: the count at which V will point at
-- its card under a true flag (Tally).
--
-- In plain words. A call commits at its chief's H42 alone, when its status is not yet N, so it commits at most once,
-- and a call whose job has announced it and whose status is N has committed once. For the bound on the others: in one
-- epoch at most one call commits, and it is one of the card that the count points at; so it is enough that all commits
-- since the announcement lie within less than P counts before the target, where each other card has one count. At the
-- announcement the target is the first count past V's that points at the card. The only way for V to reach the target
-- without a true flag is a mover that did its A10 before the announcement (lines 10 and 11 are one step); then nothing
-- has committed since the announcement, because a commit in this epoch would be before that mover's A10, and the target
-- moves on by P. With a true flag the pending job is helped, and V does not move on before it has committed.
--
-- Assumes the first two layers.
use mathlib.Core.Path.{◌≡◌}
use mathlib.Core.Logic.{◌≢◌, ◌⊎◌}
use mathlib.Core.Bool.{true, false, cond, not, ◌&&◌}
use mathlib.Core.List.{List, [], ◌∷◌}
use Prim.Native.Nat.{ℕ, ◌+◌, ◌≤◌, ◌%◌}
use lib.Dec.{eqb}
use lib.ListN.{length}
use Rattle.spec_format.specs.Plan.{Plan}
use Rattle.spec_machine.specs.declared.Version.{Version}
use Rattle.spec_machine.specs.declared.Working.{Working}
use Rattle.spec_machine.specs.declared.Store.{Store}
use Rattle.spec_machine.proofs.ChangedAt.{upd}
use Rattle.spec_machine.proofs.View.{Status, undecided, decided, finished, is_finished, status_in, Scene}
use Rattle.spec_machine.proofs.SmallSteps.{Layout, layout}
use Rattle.spec_machine.proofs.Counts.{target, Window}
use Rattle.spec_machine.proofs.Cards.{Phase, idle, start, clear, look, loop, swap, phase, announced}
use Rattle.spec_machine.proofs.Epochs.{swing, kind, chief}

-- Of each job's latest call: its commits, the counts at which other cards committed, and its target.
pub record Tally : Type 0 where
  pub committed : ℕ → ℕ
  pub passed : ℕ → ℕ → List ℕ
  pub target : ℕ → ℕ

-- After a status of job q becomes this: H42 counts, for q, and for every call that is not finished.
abbrev pub tally_stat : Layout → Scene → ℕ → Status → Tally → Tally
tally_stat P s q undecided H = H
tally_stat P s q (decided w) H = H
tally_stat P s q finished H =
    record {
      committed = upd H.committed q (H.committed q + 1);
      passed =
          λ k r.
          cond (eqb r (P.card q) && not (is_finished (s.stat k))) (s.v.count ∷ H.passed k r) (H.passed k r);
      target = H.target;
    }

-- After a store of job p. An A14 of a job that is not finished is the announcement.
abbrev pub tally : Plan → Scene → ℕ → Store → Tally → Tally
tally plan s p Store.Nothing H = H
tally plan s p (Store.Version n f) H =
    record {
      committed = H.committed;
      passed = H.passed;
      target =
          λ k.
          cond (eqb (s.v.count + 1) (H.target k) && not f) (H.target k + plan.sizes.cards) (H.target k);
    }
tally plan s p (Store.Ann r a) H =
    cond (is_finished (s.stat p)) H
    (record {
      committed = H.committed;
      passed = upd H.passed p (λ _. []);
      target = upd H.target p (target plan.sizes.cards ((layout plan).card p) s.v.count);
    })
tally plan s p (Store.Stat q x) H = tally_stat (layout plan) s q (status_in plan.sizes.jobs x) H
tally plan s p (Store.Trans q u) H = H
tally plan s p (Store.Listed i a b) H = H
tally plan s p (Store.Block from to) H = H
tally plan s p (Store.Word b i x) H = H
tally plan s p Store.Published H = H
tally plan s p (Store.Bank b n) H = H

-- After an accepted call of job p: it has not committed.
abbrev pub tally_call : ℕ → Tally → Tally
tally_call p H = record { committed = upd H.committed p 0; passed = H.passed; target = H.target }

module _ (P : Layout) (v : Version) (A : ℕ → ℕ) (S : ℕ → Status) (H : Tally) where
  -- The clauses of a job by its phase: before A2 its call has not committed, and in round 0 it is not finished.
  abbrev pub PhaseHolds : ℕ → Phase → Type 0
  PhaseHolds k idle = Unit {0}
  PhaseHolds k start = H.committed k ≡ 0
  PhaseHolds k clear = Unit {0}
  PhaseHolds k (look false) = is_finished (S k) ≡ false
  PhaseHolds k (look true) = Unit {0}
  PhaseHolds k (loop false) = is_finished (S k) ≡ false
  PhaseHolds k (loop true) = Unit {0}
  PhaseHolds k (swap false) = is_finished (S k) ≡ false
  PhaseHolds k (swap true) = Unit {0}

  -- A pending call: its target points at its card, V has not passed it and comes there within P counts, and if V is
  -- there its flag is true; the commits of each other card lie in the window before the target, the last one, in the
  -- present epoch, only if the chief is finished.
  pub record Pending (k : ℕ) : Type 0 where
    pub card : H.target k % P.cards ≡ P.card k
    pub ahead : v.count ≤ H.target k
    pub near : H.target k ≤ v.count + P.cards
    pub hit : v.count ≡ H.target k → v.flag ≡ true
    pub window :
        (r : ℕ) → r ≢ P.card k
        → (Window P.cards r (H.target k) v.count (H.passed k r))
        ⊎ ((v.flag ≡ true)
        × (S (chief P v A S) ≡ finished)
        × Window P.cards r (H.target k) (v.count + 1) (H.passed k r))

-- The fourth layer.
pub record BypassHolds (P : Layout) (v : Version) (A : ℕ → ℕ) (S : ℕ → Status) (J : ℕ → Working) (H : Tally) : Type 0
  where
    -- a call whose status is not N has not committed; one that is announced and finished has committed once
    pub none_yet : (k : ℕ) → is_finished (S k) ≡ false → H.committed k ≡ 0
    pub once : (k : ℕ) → announced (phase (J k)) ≡ true → is_finished (S k) ≡ true → H.committed k ≡ 1
    pub parts : (k : ℕ) → PhaseHolds P v A S H k (phase (J k))
    -- each other card has passed an announced call once at most
    pub bound : (k r : ℕ) → announced (phase (J k)) ≡ true → r ≢ P.card k → length (H.passed k r) ≤ 1
    pub pending : (k : ℕ) → announced (phase (J k)) ≡ true → is_finished (S k) ≡ false → Pending P v A S H k
    -- who is about to move V to a pending call's target without a flag has read before its announcement, and then
    -- nothing has committed since
    pub mover :
        (x : ℕ) → kind (J x).place ≡ swing → (J x).ver ≡ v → (J x).next ≡ false → (k : ℕ)
        → announced (phase (J k)) ≡ true → is_finished (S k) ≡ false → v.count + 1 ≡ H.target k → (r : ℕ)
        → r ≢ P.card k → H.passed k r ≡ []
