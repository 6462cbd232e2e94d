-- The first layer of the invariant: who is announced on a card, and whose call is pending. A job is pending from its
-- first A14 until its status is N.
--
-- In plain words. Ann[R] names a job of card R that has announced its call and not returned (named-announced), and no
-- announced job of the card has a higher priority (highest). A pending job stands in Ann of its card (pending), so a
-- card has one at most. A job that has passed A4 in round 0 keeps in lid the job that it found announced; that job is
-- below it, and no other job below it is pending (Under): the jobs below cannot run while it is active, so nothing
-- there changes but by statuses becoming N. At A14 the job lid is finished, and in round 1 the job itself is finished
-- when it leaves the loop (OnBoard at swap), so an announcement never hides a pending job, and A15 never takes one
-- away. Before A2 and when idle the status is N. A step of job p keeps this because p is the active job of highest
-- priority on its card: whatever another active job of the card sees lies below that job, and p does not.
--
-- Assumes of the plan that jobs of one card differ in priority.
use mathlib.Core.Path.{◌≡◌, refl, sym, ◌∙◌, ap, fun_ext}
use mathlib.Core.Logic.{◌≢◌, ◌⊎◌, inl, inr}
use mathlib.Core.Bool.{Bool, true, false, not, true≢false, false≢true}
use Prim.Native.Nat.{ℕ, ◌≤◌, ◌<◌}
use native.Mathlib.Omega.{arith}
use native.Mathlib.Nat.{le_antisymm}
use native.Mathlib.Decide.{ℕ_discrete}
use lib.Dec.{eqb}
use Rattle.spec_format.specs.Plan.{Plan}
use Rattle.spec_format.specs.Sound.{Sound}
use Rattle.spec_machine.specs.declared.Place.{Place}
use Rattle.spec_machine.specs.declared.Working.{Working}
use Rattle.spec_machine.specs.declared.Store.{Store}
use Rattle.spec_machine.specs.declared.Out.{Out}
use Rattle.spec_machine.specs.Places.{is_active}
use Rattle.spec_machine.specs.Working.{called}
use Rattle.spec_machine.proofs.ChangedAt.{upd, upd_same, upd_other, upd-elim, upd-map}
use Rattle.spec_machine.proofs.View.{Status, undecided, finished, is_finished, State, with_cells, changed, after}
use Rattle.spec_machine.proofs.SmallSteps.{Layout, layout}

-- Which part of its call a job is in: before its A2, at A4, from A7 on in the loop, at A14, at A15. The Bool is false
-- in round 0 and true in round 1.
pub data Phase : Type 0 where
  idle start clear : Phase
  look loop swap : Bool → Phase

-- The phase at a place, by the round.
abbrev pub phase_at : Bool → Place → Phase
phase_at r Place.Idle = idle
phase_at r Place.A1 = start
phase_at r Place.A2 = start
phase_at r Place.A4 = look r
phase_at r Place.A7 = loop r
phase_at r Place.A10 = loop r
phase_at r Place.A12 = loop r
phase_at r Place.A14 = swap r
phase_at r Place.A15 = clear
phase_at r Place.H16 = loop r
phase_at r Place.H17 = loop r
phase_at r Place.H21 = loop r
phase_at r (Place.Move st) = loop r
phase_at r Place.H22 = loop r
phase_at r Place.H25 = loop r
phase_at r Place.H32 = loop r
phase_at r Place.H34 = loop r
phase_at r Place.H36 = loop r
phase_at r Place.H37 = loop r
phase_at r Place.H38 = loop r
phase_at r Place.H41 = loop r
phase_at r Place.H42 = loop r

-- Whether a job is in round 1.
abbrev pub second : Working → Bool
second w = not (eqb w.round 0)

-- A job's phase.
abbrev pub phase : Working → Phase
phase w = phase_at (second w) w.place

-- Announced and not yet returned, by the phase.
abbrev pub announced : Phase → Bool
announced idle = false
announced start = false
announced clear = true
announced (look r) = r
announced (loop r) = r
announced (swap r) = r

-- Active, by the phase.
abbrev pub awake : Phase → Bool
awake idle = false
awake start = true
awake clear = true
awake (look r) = true
awake (loop r) = true
awake (swap r) = true

-- A job is active exactly when its phase is not idle.
pub active-phase : (r : Bool) (pl : Place) → is_active pl ≡ awake (phase_at r pl)
active-phase r Place.Idle = refl
active-phase r Place.A1 = refl
active-phase r Place.A2 = refl
active-phase r Place.A4 = refl
active-phase r Place.A7 = refl
active-phase r Place.A10 = refl
active-phase r Place.A12 = refl
active-phase r Place.A14 = refl
active-phase r Place.A15 = refl
active-phase r Place.H16 = refl
active-phase r Place.H17 = refl
active-phase r Place.H21 = refl
active-phase r (Place.Move st) = refl
active-phase r Place.H22 = refl
active-phase r Place.H25 = refl
active-phase r Place.H32 = refl
active-phase r Place.H34 = refl
active-phase r Place.H36 = refl
active-phase r Place.H37 = refl
active-phase r Place.H38 = refl
active-phase r Place.H41 = refl
active-phase r Place.H42 = refl

-- What the clauses of this layer read of a state: the announcements, whose status is N, who is announced and not yet
-- returned, and who is active.
pub record Board : Type 0 where
  pub ann : ℕ → ℕ
  pub finished : ℕ → Bool
  pub announced : ℕ → Bool
  pub active : ℕ → Bool

-- The board of a state.
abbrev pub board : State → Board
board s =
    record {
      ann = s.sh.ann;
      finished = λ k. is_finished (s.sh.stat k);
      announced = λ k. announced (phase (s.job k));
      active = λ k. is_active (s.job k).place;
    }

-- What the reader's acceptance gives of the cards and priorities.
pub record Accepted (P : Layout) : Type 0 where
  pub some_card : 0 < P.cards
  pub on_card : (a : ℕ) → a < P.jobs → P.card a < P.cards
  pub apart : (a b : ℕ) → a < P.jobs → b < P.jobs → P.card a ≡ P.card b → P.prio a ≡ P.prio b → a ≡ b

-- A sound plan gives it.
pub accepted : (plan : Plan) → Sound plan → Accepted (layout plan)
accepted plan ok = record { some_card = ok.some_card; on_card = ok.on_card; apart = ok.apart }

module _ (P : Layout) where
  -- Job p is the active job of highest priority on its card.
  pub record Runs (B : Board) (p : ℕ) : Type 0 where
    pub up : B.active p ≡ true
    pub top : (k : ℕ) → B.active k ≡ true → P.card k ≡ P.card p → P.prio k ≤ P.prio p

  -- Job q is on job k's card, with a lower priority.
  pub record Below (q k : ℕ) : Type 0 where
    pub card : P.card q ≡ P.card k
    pub prio : P.prio q < P.prio k

  -- The clauses of the whole board.
  pub record BoardHolds (B : Board) : Type 0 where
    -- active jobs are the plan's, and announced ones are active
    pub in-plan : (k : ℕ) → B.active k ≡ true → k < P.jobs
    pub announced-active : (k : ℕ) → B.announced k ≡ true → B.active k ≡ true
    -- "Stat[N] is N always"
    pub none : B.finished P.jobs ≡ true
    -- an announcement names an announced job of that card
    pub named-announced : (r : ℕ) → B.ann r ≢ P.jobs → (P.card (B.ann r) ≡ r) × (B.announced (B.ann r) ≡ true)
    -- a pending job stands in its card's announcement
    pub pending : (k : ℕ) → B.announced k ≡ true → B.finished k ≡ false → B.ann (P.card k) ≡ k
    -- no announced job of the card has a higher priority than the one that stands there
    pub highest :
        (k : ℕ) → B.announced k ≡ true → B.ann (P.card k) ≢ P.jobs → P.prio k ≤ P.prio (B.ann (P.card k))

  -- The job l that job k found announced is below it, and no other job below is pending.
  pub record Under (B : Board) (k l : ℕ) : Type 0 where
    pub here : B.active k ≡ true
    pub under : (l ≡ P.jobs) ⊎ ((B.announced l ≡ true) × Below l k)
    pub only : (q : ℕ) → Below q k → B.announced q ≡ true → B.finished q ≡ false → q ≡ l

  -- The clauses of job k, whose lid is l, by its phase.
  abbrev pub OnBoard : Board → ℕ → ℕ → Phase → Type 0
  OnBoard B k l idle = B.finished k ≡ true
  OnBoard B k l start = B.finished k ≡ true
  OnBoard B k l clear = B.finished k ≡ true
  OnBoard B k l (look r) = Unit {0}
  OnBoard B k l (loop true) = (l ≡ k) ⊎ (B.finished k ≡ true)
  OnBoard B k l (loop false) = Under B k l
  OnBoard B k l (swap true) = B.finished k ≡ true
  OnBoard B k l (swap false) = Under B k l × (B.finished l ≡ true)

  -- The first layer.
  pub record CardsHold (s : State) : Type 0 where
    pub whole : BoardHolds (board s)
    pub each : (k : ℕ) → OnBoard (board s) k (s.job k).lid (phase (s.job k))

  -- The frame: what job k sees when the board changes from B to B'.
  pub record Keeps (B B' : Board) (k : ℕ) : Type 0 where
    pub own : B.finished k ≡ true → B'.finished k ≡ true
    pub none : B'.finished P.jobs ≡ true
    pub active : B.active k ≡ true → B'.active k ≡ true
    pub below :
        B.active k ≡ true → (q : ℕ) → Below q k
        → (B'.announced q ≡ B.announced q) × (B.finished q ≡ true → B'.finished q ≡ true)

  -- Where statuses only become N, what is not N was not N.
  was-pending :
      (B B' : Board) (q : ℕ) → (B.finished q ≡ true → B'.finished q ≡ true) → B'.finished q ≡ false
      → B.finished q ≡ false
  was-pending B B' q K f = go (B.finished q) refl
    where
      go : (x : Bool) → B.finished q ≡ x → B.finished q ≡ false
      go false e = e
      go true e = absurd (true≢false (sym (K e) ∙ f))

  -- Under in the frame.
  under-keeps : (B B' : Board) (k l : ℕ) → Keeps B B' k → Under B k l → Under B' k l
  under-keeps B B' k l K u =
      record {
        here = K.active u.here;
        under = go u.under;
        only = λ q b lo f. u.only q b (sym (below q b).0 ∙ lo) (was-pending B B' q (below q b).1 f);
      }
    where
      below : (q : ℕ) → Below q k → (B'.announced q ≡ B.announced q) × (B.finished q ≡ true → B'.finished q ≡ true)
      below = K.below u.here

      go :
          (l ≡ P.jobs) ⊎ ((B.announced l ≡ true) × Below l k)
          → (l ≡ P.jobs) ⊎ ((B'.announced l ≡ true) × Below l k)
      go (inl e) = inl e
      go (inr h) = inr ((below l h.1).0 ∙ h.0, h.1)

  -- The job under k stays finished.
  fin-keeps : (B B' : Board) (k l : ℕ) → Keeps B B' k → Under B k l → B.finished l ≡ true → B'.finished l ≡ true
  fin-keeps B B' k l K u f = go u.under
    where
      go : (l ≡ P.jobs) ⊎ ((B.announced l ≡ true) × Below l k) → B'.finished l ≡ true
      go (inl e) = rw e K.none
      go (inr h) = (K.below u.here l h.1).1 f

  -- Every clause of one job in the frame.
  on-board-keeps : (B B' : Board) (k l : ℕ) (ph : Phase) → Keeps B B' k → OnBoard B k l ph → OnBoard B' k l ph
  on-board-keeps B B' k l idle K h = K.own h
  on-board-keeps B B' k l start K h = K.own h
  on-board-keeps B B' k l clear K h = K.own h
  on-board-keeps B B' k l (look r) K h = tt
  on-board-keeps B B' k l (loop true) K (inl e) = inl e
  on-board-keeps B B' k l (loop true) K (inr f) = inr (K.own f)
  on-board-keeps B B' k l (loop false) K h = under-keeps B B' k l K h
  on-board-keeps B B' k l (swap true) K h = K.own h
  on-board-keeps B B' k l (swap false) K h = (under-keeps B B' k l K h.0, fin-keeps B B' k l K h.0 h.1)

-- The state with another status of job q.
abbrev pub stating : ℕ → Status → State → State
stating q x s = record { sh = with_cells s.sh.ann (upd s.sh.stat q x) s.sh.trans s.sh; job = s.job }

-- The state with another announcement on card r.
abbrev pub announcing : ℕ → ℕ → State → State
announcing r a s = record { sh = with_cells (upd s.sh.ann r a) s.sh.stat s.sh.trans s.sh; job = s.job }

-- The state with another record of job p.
abbrev pub working : ℕ → Working → State → State
working p w s = record { sh = s.sh; job = upd s.job p w }

-- A status that is N stays so when one more becomes N.
stays-true : (f : ℕ → Status) (q k : ℕ) → is_finished (f q) ≡ true → is_finished (upd f k finished q) ≡ true
stays-true f q k h = upd-elim (λ x. is_finished x ≡ true) f k finished q (λ _. refl) (λ _. h)

-- And what is not N then was not N before.
was-false : (f : ℕ → Status) (q k : ℕ) → is_finished (upd f k finished q) ≡ false → is_finished (f q) ≡ false
was-false f q k =
    upd-elim (λ x. is_finished x ≡ false → is_finished (f q) ≡ false) f k finished q (λ _ h. absurd (true≢false h))
    (λ _ h. h)

-- H42: one more status becomes N.
pub commits : (P : Layout) (s : State) (q : ℕ) → CardsHold P s → CardsHold P (stating q finished s)
commits P s q I =
    record {
      whole =
          record {
            in-plan = I.whole.in-plan;
            announced-active = I.whole.announced-active;
            none = stays-true _ _ q I.whole.none;
            named-announced = I.whole.named-announced;
            pending = λ k lo f. I.whole.pending k lo (was-false _ k q f);
            highest = I.whole.highest;
          };
      each =
          λ k. on-board-keeps P (board s) (board (stating q finished s)) k (s.job k).lid (phase (s.job k))
          (record {
            own = stays-true _ k q;
            none = stays-true _ _ q I.whole.none;
            active = λ h. h;
            below = λ _ x _. (refl, stays-true _ x q);
          }) (I.each k);
    }

module _ (plan : Plan) (acc : Accepted (layout plan)) (s : State) (I : CardsHold (layout plan) s) (p : ℕ) where
  -- The plan as the clauses read it.
  abbrev P : Layout
  P = layout plan

  -- The board is as it was: only p's own clause is asked.
  pub local :
      (o : Out) → (changed plan p o.work o.store s.sh).ann ≡ s.sh.ann
      → ((k : ℕ) → is_finished ((changed plan p o.work o.store s.sh).stat k) ≡ is_finished (s.sh.stat k))
      → is_active o.work.place ≡ is_active (s.job p).place
      → announced (phase o.work) ≡ announced (phase (s.job p))
      → OnBoard P (board s) p o.work.lid (phase o.work) → CardsHold P (after plan p o s)
  local o ea ef eo el own =
      record {
        whole = rw same I.whole;
        each =
            λ k. rw same (upd-elim (λ j. OnBoard P (board s) k j.lid (phase j)) s.job p o.work k
            (λ e. rw e own)
            (λ _. I.each k));
      }
    where
      same : board (after plan p o s) ≡ board s
      same =
          λ i. record {
            ann = ea i;
            finished = fun_ext ef i;
            announced = fun_ext (λ k. upd-map (λ j. announced (phase j)) s.job p o.work k el) i;
            active = fun_ext (λ k. upd-map (λ (j : Working). is_active j.place) s.job p o.work k eo) i;
          }

  module _ (R : Runs P (board s) p) where
    -- What an active job has below it is not the running job.
    not-under : (k q : ℕ) → is_active (s.job k).place ≡ true → Below P q k → q ≢ p
    not-under k q on b e =
        let t : P.prio k ≤ P.prio p = R.top k on (sym b.card ∙ ap P.card e) in
        let z : P.prio q ≡ P.prio p = ap P.prio e in
        let u = b.prio in
        omega arith

    -- The board changes at p only, and by statuses that become N: p's own clause and those of the whole are asked.
    build :
        (o : Out) → BoardHolds P (board (after plan p o s))
        → ((q : ℕ) → q ≢ p → is_finished (s.sh.stat q) ≡ true
        → is_finished ((changed plan p o.work o.store s.sh).stat q) ≡ true)
        → OnBoard P (board (after plan p o s)) p o.work.lid (phase o.work) → CardsHold P (after plan p o s)
    build o g fin own =
        record {
          whole = g;
          each =
              λ k. upd-elim (λ j. OnBoard P (board (after plan p o s)) k j.lid (phase j)) s.job p o.work k
              (λ e. rw e own) (λ n. on-board-keeps P (board s) (board (after plan p o s)) k (s.job k).lid
              (phase (s.job k)) (keeps k n) (I.each k));
        }
      where
        keeps : (k : ℕ) → k ≢ p → Keeps P (board s) (board (after plan p o s)) k
        keeps k n =
            record {
              own = fin k n;
              none = g.none;
              active = λ h. simp upd_other h;
              below = λ on q b. let m : q ≢ p = not-under k q on b in (simp upd_other, fin q m);
            }

    -- The running job is one of the plan's.
    p<N : p < P.jobs
    p<N = I.whole.in-plan p R.up

    -- A2: the running job's status becomes −1.
    pub arms : phase (s.job p) ≡ look false → CardsHold P (stating p undecided s)
    arms e =
        record {
          whole =
              record {
                in-plan = I.whole.in-plan;
                announced-active = I.whole.announced-active;
                none = none;
                named-announced = I.whole.named-announced;
                pending = pending;
                highest = I.whole.highest;
              };
          each = each;
        }
      where
        none : is_finished (upd s.sh.stat p undecided P.jobs) ≡ true
        none = let n : P.jobs ≢ p = λ z. let h = p<N in omega arith in simp upd_other I.whole.none

        high : (k : ℕ) → announced (phase (s.job k)) ≡ true → k ≢ p
        high k lo z = absurd (false≢true (sym (ap announced e) ∙ rw z at lo))

        pending :
            (k : ℕ) → announced (phase (s.job k)) ≡ true → is_finished (upd s.sh.stat p undecided k) ≡ false
            → s.sh.ann (P.card k) ≡ k
        pending k lo = let n : k ≢ p = high k lo in simp upd_other (I.whole.pending k lo)

        keeps : (k : ℕ) → k ≢ p → Keeps P (board s) (board (stating p undecided s)) k
        keeps k n =
            record {
              own = simp upd_other (λ h. h);
              none = none;
              active = λ h. h;
              below = λ on q b. let m : q ≢ p = not-under k q on b in (refl, simp upd_other (λ h. h));
            }

        each : (k : ℕ) → OnBoard P (board (stating p undecided s)) k (s.job k).lid (phase (s.job k))
        each k = go (ℕ_discrete k p)
          where
            go : Dec (k ≡ p) → OnBoard P (board (stating p undecided s)) k (s.job k).lid (phase (s.job k))
            go (yes z) = rw (z, e) tt
            go (no n) =
                on-board-keeps P (board s) (board (stating p undecided s)) k (s.job k).lid (phase (s.job k))
                (keeps k n)
                (I.each k)

    -- A pending job of the running job's card, where the running job is announced, is the running job.
    pending-top :
        (k : ℕ) → announced (phase (s.job p)) ≡ true → P.card k ≡ P.card p → announced (phase (s.job k)) ≡ true
        → is_finished (s.sh.stat k) ≡ false → k ≡ p
    pending-top k lp c lo f =
        let a : s.sh.ann (P.card p) ≡ k = rw c at (I.whole.pending k lo f) in
        let kN : k < P.jobs = I.whole.in-plan k (I.whole.announced-active k lo) in
        let hi :
        P.prio p ≤ P.prio k = rw a at
        (I.whole.highest p lp (λ z. let y : k ≡ P.jobs = sym a ∙ z in omega arith)) in
        acc.apart k p kN p<N c (le_antisymm (R.top k (I.whole.announced-active k lo) c) hi)

    -- Second A14: the announcement is stored again.
    pub again :
        announced (phase (s.job p)) ≡ true → is_finished (s.sh.stat p) ≡ true → CardsHold P
        (announcing (P.card p) p s)
    again lp fp =
        record {
          whole =
              record {
                in-plan = I.whole.in-plan;
                announced-active = I.whole.announced-active;
                none = I.whole.none;
                named-announced = named-announced;
                pending = pending;
                highest = highest;
              };
          each =
              λ k. on-board-keeps P (board s) (board (announcing (P.card p) p s)) k (s.job k).lid (phase (s.job k))
              (record { own = λ h. h; none = I.whole.none; active = λ h. h; below = λ _ _ _. (refl, λ h. h) })
              (I.each k);
        }
      where
        named-announced :
            (r : ℕ) → upd s.sh.ann (P.card p) p r ≢ P.jobs
            → (P.card (upd s.sh.ann (P.card p) p r) ≡ r)
            × (announced (phase (s.job (upd s.sh.ann (P.card p) p r))) ≡ true)
        named-announced r =
            upd-elim (λ a. a ≢ P.jobs → (P.card a ≡ r) × (announced (phase (s.job a)) ≡ true)) s.sh.ann
            (P.card p) p r (λ e _. (sym e, lp)) (λ _. I.whole.named-announced r)

        pending :
            (k : ℕ) → announced (phase (s.job k)) ≡ true → is_finished (s.sh.stat k) ≡ false
            → upd s.sh.ann (P.card p) p (P.card k) ≡ k
        pending k lo f =
            upd-elim (λ a. a ≡ k) s.sh.ann (P.card p) p (P.card k) (λ e. sym (pending-top k lp e lo f))
            (λ _. I.whole.pending k lo f)

        highest :
            (k : ℕ) → announced (phase (s.job k)) ≡ true → upd s.sh.ann (P.card p) p (P.card k) ≢ P.jobs
            → P.prio k ≤ P.prio (upd s.sh.ann (P.card p) p (P.card k))
        highest k lo =
            upd-elim (λ a. a ≢ P.jobs → P.prio k ≤ P.prio a) s.sh.ann (P.card p) p (P.card k)
            (λ e _. R.top k (I.whole.announced-active k lo) e) (λ _. I.whole.highest k lo)

    -- First A14: the announcement.
    pub announces :
        (j : Working) → phase j ≡ look true → is_active j.place ≡ true → Under P (board s) p (s.job p).lid
        → is_finished (s.sh.stat (s.job p).lid) ≡ true → CardsHold P (working p j (announcing (P.card p) p s))
    announces j ep ea u f =
        build (record { work = j; store = Store.Ann (P.card p) p; done = false })
        (record {
          in-plan = in-plan;
          announced-active = announced-active;
          none = I.whole.none;
          named-announced = named-announced;
          pending = pending;
          highest = highest;
        }) (λ q _ h. h) (rw ep tt)
      where
        J : ℕ → Working
        J = upd s.job p j

        A : ℕ → ℕ
        A = upd s.sh.ann (P.card p) p

        lp : announced (phase j) ≡ true
        lp = rw ep

        on' : (k : ℕ) → is_active (J k).place ≡ true → is_active (s.job k).place ≡ true
        on' k =
            upd-elim (λ (x : Working). is_active x.place ≡ true → is_active (s.job k).place ≡ true) s.job p j k
            (λ e _. rw e R.up) (λ _ h. h)

        in-plan : (k : ℕ) → is_active (J k).place ≡ true → k < P.jobs
        in-plan k h = I.whole.in-plan k (on' k h)

        announced-active : (k : ℕ) → announced (phase (J k)) ≡ true → is_active (J k).place ≡ true
        announced-active k =
            upd-elim (λ x. announced (phase x) ≡ true → is_active x.place ≡ true) s.job p j k (λ _ _. ea)
            (λ _. I.whole.announced-active k)

        grows : (k : ℕ) → announced (phase (s.job k)) ≡ true → announced (phase (J k)) ≡ true
        grows k h = upd-elim (λ x. announced (phase x) ≡ true) s.job p j k (λ _. lp) (λ _. h)

        named-announced : (r : ℕ) → A r ≢ P.jobs → (P.card (A r) ≡ r) × (announced (phase (J (A r))) ≡ true)
        named-announced r =
            upd-elim (λ a. a ≢ P.jobs → (P.card a ≡ r) × (announced (phase (J a)) ≡ true)) s.sh.ann (P.card p)
            p r (λ e _. (sym e, simp upd_same lp))
            (λ _ h. ((I.whole.named-announced r h).0, grows _ (I.whole.named-announced r h).1))

        none_below :
            (k : ℕ) → k ≢ p → P.card k ≡ P.card p → announced (phase (s.job k)) ≡ true
            → is_finished (s.sh.stat k) ≡ false → ⊥
        none_below k n c lo q =
            let le : P.prio k ≤ P.prio p = R.top k (I.whole.announced-active k lo) c in
            let ne :
            P.prio k ≢ P.prio p =
            λ z. n (acc.apart k p (I.whole.in-plan k (I.whole.announced-active k lo)) p<N c z) in
            let e : k ≡ (s.job p).lid = u.only k (record { card = c; prio = omega arith }) lo q in
            true≢false (sym f ∙ rw e at q)

        pending : (k : ℕ) → announced (phase (J k)) ≡ true → is_finished (s.sh.stat k) ≡ false → A (P.card k) ≡ k
        pending k =
            upd-elim (λ x. announced (phase x) ≡ true → is_finished (s.sh.stat k) ≡ false → A (P.card k) ≡ k)
            s.job p j k (λ e _ _. rw e (upd_same s.sh.ann (P.card p) p))
            (λ n lo q. upd-elim (λ a. a ≡ k) s.sh.ann (P.card p) p (P.card k)
            (λ c. absurd (none_below k n c lo q)) (λ _. I.whole.pending k lo q))

        highest :
            (k : ℕ) → announced (phase (J k)) ≡ true → A (P.card k) ≢ P.jobs → P.prio k ≤ P.prio (A (P.card k))
        highest k lo =
            upd-elim (λ a. a ≢ P.jobs → P.prio k ≤ P.prio a) s.sh.ann (P.card p) p (P.card k)
            (λ e _. R.top k (on' k (announced-active k lo)) e)
            (λ n. I.whole.highest k (rw (upd_other s.job p j k (λ z. n (ap P.card z))) at lo))

    -- A15: the return.
    pub returns :
        (j : Working) → phase j ≡ idle → is_active j.place ≡ false → announced (phase (s.job p)) ≡ true
        → is_finished (s.sh.stat p) ≡ true → CardsHold P (working p j (announcing (P.card p) P.jobs s))
    returns j ep ea lp fp =
        build (record { work = j; store = Store.Ann (P.card p) P.jobs; done = false })
        (record {
          in-plan = in-plan;
          announced-active = announced-active;
          none = I.whole.none;
          named-announced = named-announced;
          pending = pending;
          highest = highest;
        }) (λ q _ h. h) (rw ep fp)
      where
        J : ℕ → Working
        J = upd s.job p j

        A : ℕ → ℕ
        A = upd s.sh.ann (P.card p) P.jobs

        -- who is still announced is another
        other : (k : ℕ) → announced (phase (J k)) ≡ true → (k ≢ p) × (announced (phase (s.job k)) ≡ true)
        other k =
            upd-elim (λ x. announced (phase x) ≡ true → (k ≢ p) × (announced (phase (s.job k)) ≡ true)) s.job p j
            k (λ _ h. absurd (false≢true (sym (ap announced ep) ∙ h))) (λ n h. (n, h))

        in-plan : (k : ℕ) → is_active (J k).place ≡ true → k < P.jobs
        in-plan k =
            upd-elim (λ (x : Working). is_active x.place ≡ true → k < P.jobs) s.job p j k (λ e _. rw e p<N)
            (λ _. I.whole.in-plan k)

        announced-active : (k : ℕ) → announced (phase (J k)) ≡ true → is_active (J k).place ≡ true
        announced-active k lo =
            let n : k ≢ p = (other k lo).0 in
            simp upd_other (I.whole.announced-active k (other k lo).1)

        named-announced : (r : ℕ) → A r ≢ P.jobs → (P.card (A r) ≡ r) × (announced (phase (J (A r))) ≡ true)
        named-announced r =
            upd-elim (λ a. a ≢ P.jobs → (P.card a ≡ r) × (announced (phase (J a)) ≡ true)) s.sh.ann (P.card p)
            P.jobs r (λ _ h. absurd (h refl)) (λ n h. (
              (I.whole.named-announced r h).0,
              rw
                  (upd_other s.job p j (s.sh.ann r) (λ z. n
                  (sym (I.whole.named-announced r h).0 ∙ ap P.card z)))
                  (I.whole.named-announced r h).1,
            ))

        pending : (k : ℕ) → announced (phase (J k)) ≡ true → is_finished (s.sh.stat k) ≡ false → A (P.card k) ≡ k
        pending k lo q =
            upd-elim (λ a. a ≡ k) s.sh.ann (P.card p) P.jobs (P.card k)
            (λ c. absurd ((other k lo).0 (pending-top k lp c (other k lo).1 q)))
            (λ _. I.whole.pending k (other k lo).1 q)

        highest :
            (k : ℕ) → announced (phase (J k)) ≡ true → A (P.card k) ≢ P.jobs → P.prio k ≤ P.prio (A (P.card k))
        highest k lo =
            upd-elim (λ a. a ≢ P.jobs → P.prio k ≤ P.prio a) s.sh.ann (P.card p) P.jobs (P.card k)
            (λ _ h. absurd (h refl)) (λ _. I.whole.highest k (other k lo).1)

-- An accepted call of an idle job.
pub cards-called :
    (P : Layout) (s : State) (p u : ℕ) → CardsHold P s → p < P.jobs → (s.job p).place ≡ Place.Idle
    → CardsHold P (working p (called u (s.job p)) s)
cards-called P s p u I pN off =
    record {
      whole =
          record {
            in-plan = in-plan;
            announced-active = λ k lo. on k (I.whole.announced-active k (rw (← low k) lo));
            none = I.whole.none;
            named-announced = λ r h. ((I.whole.named-announced r h).0, rw low (I.whole.named-announced r h).1);
            pending = λ k lo. I.whole.pending k (rw (← low k) lo);
            highest = λ k lo. I.whole.highest k (rw (← low k) lo);
          };
      each = each;
    }
  where
    J : ℕ → Working
    J = upd s.job p (called u (s.job p))

    low : (k : ℕ) → announced (phase (J k)) ≡ announced (phase (s.job k))
    low k = upd-map (λ x. announced (phase x)) s.job p (called u (s.job p)) k (rw off)

    on : (k : ℕ) → is_active (s.job k).place ≡ true → is_active (J k).place ≡ true
    on k h =
        upd-elim (λ (x : Working). is_active x.place ≡ true) s.job p (called u (s.job p)) k (λ _. refl) (λ _. h)

    in-plan : (k : ℕ) → is_active (J k).place ≡ true → k < P.jobs
    in-plan k =
        upd-elim (λ (x : Working). is_active x.place ≡ true → k < P.jobs) s.job p (called u (s.job p)) k
        (λ e _. rw e pN) (λ _. I.whole.in-plan k)

    idle-fin : is_finished (s.sh.stat p) ≡ true
    idle-fin = rw off at (I.each p)

    each : (k : ℕ) → OnBoard P (board (record { sh = s.sh; job = J })) k (J k).lid (phase (J k))
    each k =
        upd-elim (λ x. OnBoard P (board (record { sh = s.sh; job = J })) k x.lid (phase x)) s.job p
        (called u (s.job p)) k (λ e. rw e idle-fin) (λ _. on-board-keeps P (board s)
        (board (record { sh = s.sh; job = J })) k (s.job k).lid (phase (s.job k))
        (record { own = λ h. h; none = I.whole.none; active = on k; below = λ _ q _. (low q, λ h. h) }) (I.each k))
