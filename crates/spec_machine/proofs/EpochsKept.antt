-- Every item of the step list keeps the second layer, and so does a call.
--
-- In plain words. The layer reads V, Ann and Stat. Most items store to none of these, and then only the running job's
-- own clauses are asked. A2 makes a status −1 that was N, so it is neither the chief's, who is announced, nor that of a
-- job found pending. A14 and A15 store to the announcement of the running job's card. Were that the chief's card, the
-- running job would be at or above the chief, and ChiefGuard keeps such a job out of A14 and A15; and by the first
-- layer no job at A14 or A15 is at or above a pending announced job of its card, so what A10 found on the next card
-- stays. H25 and H42 are
-- done by fresh jobs only, and they help the chief: its status alone goes on, to a job's number and then to N. No fresh
-- job is at A10 or A12 at that time, as the chief was not finished. A12 moves V when the mover is fresh: then the chief
-- is finished, so no status is a job's number; a true new flag speaks of a pending announced job, and the first layer
-- gives ChiefGuard of it; all else speaks of fresh jobs, and at the new count there are none. A7 makes the job fresh,
-- and leaves the loop only where ChiefGuard asks nothing. H16 reads who the chief is. A fresh job goes from H17, H32,
-- H37 or H42 to A10 only when the chief is finished, and from H36 no fresh job does. A10 reads who is pending next.
--
-- Assumes the first layer, that jobs of one card differ in priority, and that statuses are −1 or no less than 0.
use mathlib.Core.Path.{◌≡◌, refl, sym, ◌∙◌, ap, subst}
use mathlib.Core.Logic.{◌≢◌, ◌⊎◌, inl, inr}
use mathlib.Core.Bool.{Bool, true, false, not, ◌||◌, true≢false, false≢true}
use mathlib.Core.List.{[]}
use Prim.Native.Nat.{ℕ, zero, suc, ◌+◌, ◌≤◌, ◌<◌, ◌%◌}
use native.Mathlib.Omega.{arith}
use native.Mathlib.Nat.{le_antisymm, le_refl}
use lib.Dec.{eqb}
use lib.IntN.{ℤ, pos, negsuc}
use lib.ListN.{get_or}
use borrow.Author.Tests.{eqb-true, eqb-false, eq-eqb, not-true}
use Rattle.spec_format.specs.Plan.{Plan}
use Rattle.spec_machine.specs.declared.Stage.{Stage}
use Rattle.spec_machine.specs.declared.Place.{Place}
use Rattle.spec_machine.specs.declared.Version.{Version}
use Rattle.spec_machine.specs.declared.Working.{Working}
use Rattle.spec_machine.specs.declared.Store.{Store}
use Rattle.spec_machine.specs.declared.Out.{Out}
use Rattle.spec_machine.specs.Status.{same_status, job_named}
use Rattle.spec_machine.specs.Moves.{block, offset, move, word_written}
use Rattle.spec_machine.specs.Working.{goto, called, with_wid, taking, with_word}
use Rattle.spec_machine.specs.Steps.{Shared, quiet, storing, doing, next_helped, item, stage}
use Rattle.spec_machine.proofs.ChangedAt.{upd, upd_other, upd-at, upd-elim}
use Rattle.spec_machine.proofs.View.{
  Status,
  undecided,
  decided,
  finished,
  is_finished,
  is_undecided,
  Scene,
  State,
  status_in,
  Proper,
  showing,
  with_cells,
  after,
  same_true,
  same_refl,
  finished-is,
  undecided-is,
  undecided-means,
  decided-means,
  finished-means,
  decided-from,
  decided≢finished,
  undecided≢decided,
}
use Rattle.spec_machine.proofs.SmallSteps.{Layout, layout}
use Rattle.spec_machine.proofs.Tests.{
  shut-test,
  test,
  onward-elim,
  store-elim,
  begin-elim,
  and_l,
  and_r,
  or_l,
  or_r,
  same_version_lem,
  failed,
  stale,
}
use Rattle.spec_machine.proofs.Cards.{
  Phase,
  idle,
  start,
  clear,
  look,
  loop,
  swap,
  phase_at,
  second,
  phase,
  announced,
  board,
  Accepted,
  Runs,
  Under,
  OnBoard,
  CardsHold,
  stating,
  announcing,
  working,
}
use Rattle.spec_machine.proofs.Epochs.{
  plain,
  kind,
  winner_of,
  Widened,
  wid-means,
  HelpHolds,
  chief,
  ChiefGuard,
  FreshHolds,
  MoverHolds,
  InEpoch,
  EpochHolds,
  EpochsHold,
  chief-under,
  Onward,
  Sees,
  guard-keeps,
  epoch-keeps,
}

-- What is N by the test means finished.
pub is-finished : (x : Status) → is_finished x ≡ true → x ≡ finished
is-finished undecided h = absurd (false≢true h)
is-finished (decided w) h = absurd (false≢true h)
is-finished finished h = refl

-- What is −1 by the test means undecided.
pub is-undecided : (x : Status) → is_undecided x ≡ true → x ≡ undecided
is-undecided undecided h = refl
is-undecided (decided w) h = absurd (false≢true h)
is-undecided finished h = absurd (false≢true h)

-- A number that is neither −1 nor N is a job's.
job-number : (n : ℕ) (x : ℤ) → Proper x → same_status x (negsuc 0) ≡ false → same_status x (pos n) ≡ false
    → (x ≡ pos (job_named x)) × (job_named x ≢ n)
job-number n (pos w) h u f = (refl, eqb-false w n f)
job-number n (negsuc zero) h u f = absurd (true≢false (sym (eq-eqb 0 0 refl) ∙ u))
job-number n (negsuc (suc a)) h u f = absurd h

-- With the same wid.
pub still-widened : {n : ℕ} {w w' : Working} → w'.wid ≡ w.wid → Widened n w → Widened n w'
still-widened e h = record { number = rw e h.number; job = rw e h.job }

-- A7's test: V points elsewhere or its flag is false.
elsewhere : (a b : ℕ) (f : Bool) → (not (eqb a b) || not f) ≡ true → f ≡ true → b ≡ a → ⊥
elsewhere a b f h t e = false≢true (rw (eq-eqb a b (sym e), t) at h)

-- A job's clauses outside of helping: only ChiefGuard is asked.
outside :
    {P : Layout} {v : Version} {A : ℕ → ℕ} {S : ℕ → Status} {k : ℕ} {w : Working} → kind w.place ≡ plain
    → w.ver.count ≤ v.count → ChiefGuard P v A S k w.lid (phase w) → InEpoch P v A S k w
outside e le guard =
    record { old = le; flag = rw e tt; guard = guard; fresh = λ _ _. rw e tt; mover = λ _. rw e tt }

-- What the layer reads of the shared cells.
record Reading : Type 0 where
  v : Version
  ann : ℕ → ℕ
  stat : ℕ → Status

-- What it reads of a scene.
abbrev reading : Scene → Reading
reading s = record { v = s.v; ann = s.ann; stat = s.stat }

-- What holds of whoever is at or above a pending announced job a of its card, by its lid and its phase: it is not at
-- A14 or A15, and in round 0 its lid is a.
abbrev Heeds : ℕ → ℕ → Phase → Type 0
Heeds a l idle = Unit {0}
Heeds a l start = Unit {0}
Heeds a l (look r) = Unit {0}
Heeds a l (loop true) = Unit {0}
Heeds a l (loop false) = l ≡ a
Heeds a l (swap r) = ⊥
Heeds a l clear = ⊥

module _ (plan : Plan) (acc : Accepted (layout plan)) (sh : Shared) (job : ℕ → Working)
    (C : CardsHold (layout plan) (record { sh = showing plan sh; job = job }))
    (D : EpochsHold (layout plan) (record { sh = showing plan sh; job = job }))
    (proper : (k : ℕ) → Proper (sh.stat k)) (p : ℕ)
    (R : Runs (layout plan) (board (record { sh = showing plan sh; job = job })) p) where
  open sh use {v, ann}

  -- The plan as the layer reads it.
  abbrev P : Layout
  P = layout plan

  -- The state before the item.
  abbrev s : State
  s = record { sh = showing plan sh; job = job }

  -- Statuses by what they mean.
  abbrev stat : ℕ → Status
  stat = (showing plan sh).stat

  -- The card that V points at.
  abbrev pointed : ℕ
  pointed = v.count % P.cards

  -- The card after it.
  abbrev following : ℕ
  following = (v.count + 1) % P.cards

  -- The job that a true flag speaks of.
  abbrev head : ℕ
  head = chief P v ann stat

  -- The status of the job that p helps, as a number.
  abbrev helped : ℤ
  helped = sh.stat (job p).hid

  -- Job k is at or above a pending announced job a of its card.
  module _ (k a : ℕ) (ea : ann (P.card k) ≡ a) (na : a ≢ P.jobs) (fa : is_finished (stat a) ≡ false)
      (pr : P.prio a ≤ P.prio k) where
    -- a is announced, on k's card.
    a-announced : (P.card a ≡ P.card k) × (announced (phase (job a)) ≡ true)
    a-announced = rw ea at (C.whole.named-announced (P.card k) (λ z. na (sym ea ∙ z)))

    -- On one card one priority is one job.
    apart : k < P.jobs → P.prio k ≡ P.prio a → k ≡ a
    apart lt e =
        acc.apart k a lt (C.whole.in-plan a (C.whole.announced-active a a-announced.1)) (sym a-announced.0) e

    -- Where k is announced too, k is a.
    announced-is : announced (phase (job k)) ≡ true → k ≡ a
    announced-is lo =
        apart (C.whole.in-plan k (C.whole.announced-active k lo))
        (le_antisymm (rw ea at (C.whole.highest k lo (λ z. na (sym ea ∙ z)))) pr)

    -- So k is not both announced and finished.
    not-finished : announced (phase (job k)) ≡ true → is_finished (stat k) ≡ true → ⊥
    not-finished lo f = true≢false (sym (rw (announced-is lo) at f) ∙ fa)

    -- Where k is not announced, a is what k found announced.
    is-lid : (l : ℕ) → announced (phase (job k)) ≡ false → Under P (board s) k l → l ≡ a
    is-lid l lo u =
        sym (u.only a (record { card = a-announced.0; prio = omega (arith, ne) }) a-announced.1 fa)
      where
        ne : P.prio a ≢ P.prio k
        ne z =
            true≢false (sym a-announced.1 ∙ rw (apart (C.whole.in-plan k u.here) (sym z)) at lo)

    -- By the first layer, k heeds a.
    above : (l : ℕ) (ph : Phase) → phase (job k) ≡ ph → OnBoard P (board s) k l ph → Heeds a l ph
    above l idle e c = tt
    above l start e c = tt
    above l (look r) e c = tt
    above l (loop true) e c = tt
    above l (loop false) e c = is-lid l (ap announced e) c
    above l (swap true) e c = not-finished (ap announced e) c
    above l (swap false) e c = true≢false (sym c.1 ∙ rw (is-lid l (ap announced e) c.0) fa)
    above l clear e c = not-finished (ap announced e) c

  -- What the item gives keeps the layer. A record, so that the outcome can be read off the goal.
  pub record Good (o : Out) : Type 0 where
    pub kept : EpochsHold P (after plan p o s)

  -- Nothing is stored that the layer reads: only p's own clauses are asked.
  steps : {o : Out} → reading (after plan p o s).sh ≡ reading s.sh → InEpoch P v ann stat p o.work → Good o
  steps {o} e own =
      record {
        kept =
            record {
              whole = rw (ev, ea, es) D.whole;
              each =
                  λ k.
                  rw (ev, ea, es)
                  (upd-elim (λ w. InEpoch P v ann stat k w) job p o.work k (λ z. rw z own) (λ _. D.each k));
            };
      }
    where
      ev : (after plan p o s).sh.v ≡ v
      ev = ap (λ x. x.v) e

      ea : (after plan p o s).sh.ann ≡ ann
      ea = ap (λ x. x.ann) e

      es : (after plan p o s).sh.stat ≡ stat
      es = ap (λ x. x.stat) e

  -- The same where p goes on in the loop with its lid and ver: ChiefGuard stays.
  loops : {o : Out} → reading (after plan p o s).sh ≡ reading s.sh → phase o.work ≡ phase (job p)
      → o.work.lid ≡ (job p).lid → o.work.ver ≡ (job p).ver → HelpHolds P o.work (kind o.work.place)
      → (o.work.ver ≡ v → v.flag ≡ true → FreshHolds P v ann stat o.work (kind o.work.place))
      → (o.work.ver ≡ v → MoverHolds P v ann stat o.work (kind o.work.place)) → Good o
  loops a ep el ev fl fr mv =
      steps a
      (record {
        old = rw ev (D.each p).old;
        flag = fl;
        guard = rw (el, ep) (D.each p).guard;
        fresh = fr;
        mover = mv;
      })

  -- Ann and Stat become A and S, and p's record w: p's own clauses are asked, those of the whole, and what the other
  -- jobs see of the change.
  changes : (A : ℕ → ℕ) (S : ℕ → Status) (w : Working) → EpochHolds P v A S
      → ((k : ℕ) → k ≢ p → Sees P v ann A stat S (job k)) → InEpoch P v A S p w
      → EpochsHold P (working p w (record { sh = with_cells A S sh.trans (showing plan sh); job = job }))
  changes A S w g K own =
      record {
        whole = g;
        each =
            λ k.
            upd-elim (λ x. InEpoch P v A S k x) job p w k (λ e. rw e own)
            (λ n. epoch-keeps P v ann A stat S k (job k) (K k n) (D.each k));
      }

  -- p is at A14 or A15: not at or above the chief on its card, nor any other pending announced job.
  module _ (shut : v.flag ≡ true → P.card p ≡ pointed → P.prio head ≤ P.prio p → ⊥)
      (shut-next : (a : ℕ) → ann (P.card p) ≡ a → a ≢ P.jobs → is_finished (stat a) ≡ false
      → P.prio a ≤ P.prio p → ⊥) where
    -- The announcement of p's card changes.
    announces : (x : ℕ) (w : Working) → InEpoch P v (upd ann (P.card p) x) stat p w
        → EpochsHold P (working p w (announcing (P.card p) x s))
    announces x w own =
        changes (upd ann (P.card p) x) stat w
        (record {
          named = λ f. rw (chief-same f) (D.whole.named f);
          one = λ q y e. let d = D.whole.one q y e in (d.0, d.1 ∙ sym (chief-same d.0));
        })
        (λ k n.
        record {
          ann = chief-same;
          stat = λ _. Onward.same;
          next = λ _ e f. (upd_other ann (P.card p) x following (λ c. not-next (job k).hid (sym c) e f) ∙ e, f);
        })
        own
      where
        -- the chief's card is another
        chief-same : v.flag ≡ true → upd ann (P.card p) x pointed ≡ head
        chief-same f = upd_other ann (P.card p) x pointed (λ e. shut f (sym e) (chief-under P s C D p R f (sym e)))

        -- and so is the next card, where a job is pending on it
        not-next : (a : ℕ) → P.card p ≡ following → ann following ≡ a → is_finished (stat a) ≡ false → ⊥
        not-next a c e f =
            let na : a ≢ P.jobs = λ z. true≢false (sym C.whole.none ∙ rw z at f) in
            let lo : (P.card a ≡ following) × (announced (phase (job a)) ≡ true) =
            rw e at (C.whole.named-announced following (λ z. na (sym e ∙ z))) in
            shut-next a (ap ann c ∙ e) na f (R.top a (C.whole.announced-active a lo.1) (lo.0 ∙ sym c))

  -- A store to a status, by what it means.
  means : (q : ℕ) (x : ℤ) (y : Status) (w : Working) (d : Bool) → status_in plan.sizes.jobs x ≡ y
      → EpochsHold P (working p w (stating q y s)) → Good (record { work = w; store = Store.Stat q x; done = d })
  means q x y w d e h = record { kept = subst (λ z. EpochsHold P (working p w (stating q z s))) (sym e) h }

  -- A2: p's status was N and becomes −1.
  arms : phase (job p) ≡ start → is_finished (stat p) ≡ true → (w : Working)
      → InEpoch P v ann (upd stat p undecided) p w → EpochsHold P (working p w (stating p undecided s))
  arms ep fp w own =
      changes ann (upd stat p undecided) w (record { named = D.whole.named; one = one })
      (λ k n.
      record {
        ann = λ _. refl;
        stat = λ f. rw (upd_other stat p undecided head (other f)) Onward.same;
        next = λ _ e f. (e, rw (upd_other stat p undecided (job k).hid (λ z. true≢false (sym fp ∙ rw z at f))) f);
      })
      own
    where
      -- the chief is announced, and p is not
      other : v.flag ≡ true → head ≢ p
      other f z =
          true≢false
          (sym (C.whole.named-announced pointed (D.whole.named f)).1 ∙ ap (λ k. announced (phase (job k))) z
          ∙ ap announced ep)

      one : (q y : ℕ) → upd stat p undecided q ≡ decided y → (v.flag ≡ true) × (q ≡ head)
      one q y =
          upd-elim (λ x. x ≡ decided y → (v.flag ≡ true) × (q ≡ head)) stat p undecided q
          (λ _ e. absurd (undecided≢decided refl e))
          (λ _. D.whole.one q y)

  -- H25 and H42: the chief's status, not N, goes on to y, stored as x.
  goes_on : (x : ℤ) (y : Status) → status_in plan.sizes.jobs x ≡ y → (w : Working) → phase w ≡ phase (job p)
      → w.lid ≡ (job p).lid → w.ver ≡ v → v.flag ≡ true → w.hid ≡ head → Onward (stat head) y
      → is_finished (stat head) ≡ false → HelpHolds P w (kind w.place)
      → FreshHolds P v ann (upd stat w.hid y) w (kind w.place) → MoverHolds P v ann (upd stat w.hid y) w
      (kind w.place)
      → Good (doing (Store.Stat w.hid x) w)
  goes_on x y ey w ep el ev f q o nf fl fr mv =
      means w.hid x y w true ey
      (changes ann S w (record { named = D.whole.named; one = one })
      (λ k n.
      record {
        ann = λ _. refl;
        stat = λ _. rw (upd-at stat w.hid y head (sym q)) o;
        next = λ done. absurd (true≢false (sym (ap is_finished (done f)) ∙ nf));
      })
      (record { old = rw ev (le_refl _); flag = fl; guard = guard; fresh = λ _ _. fr; mover = λ _. mv }))
    where
      S : ℕ → Status
      S = upd stat w.hid y

      one : (r z : ℕ) → S r ≡ decided z → (v.flag ≡ true) × (r ≡ head)
      one r z =
          upd-elim (λ a. a ≡ decided z → (v.flag ≡ true) × (r ≡ head)) stat w.hid y r (λ e _. (f, e ∙ q))
          (λ _. D.whole.one r z)

      -- ChiefGuard does not read the statuses
      guard : ChiefGuard P v ann S p w.lid (phase w)
      guard = rw (el, ep) (guard-keeps P v ann ann stat S p (job p).lid (phase (job p)) (λ _. refl) (D.each p).guard)

  -- A12: V moves on, with flag b, when the chief is finished; a true flag speaks of a pending job.
  module _ (b : Bool) (done : v.flag ≡ true → stat head ≡ finished)
      (pending : b ≡ true → is_finished (stat (ann following)) ≡ false) where
    -- The new V.
    abbrev moved : Version
    moved = record { count = v.count + 1; flag = b }

    -- The pending job is one.
    named-next : b ≡ true → ann following ≢ P.jobs
    named-next f z = true≢false (sym C.whole.none ∙ rw z at (pending f))

    -- ChiefGuard of the new V.
    guard-next :
        (k l : ℕ) (ph : Phase) → phase (job k) ≡ ph → OnBoard P (board s) k l ph → ChiefGuard P moved ann stat k l ph
    guard-next k l idle e c = tt
    guard-next k l start e c = tt
    guard-next k l (look r) e c = tt
    guard-next k l (loop true) e c = tt
    guard-next k l (loop false) e c =
        λ f d pr. above k (ann following) (ap ann d) (named-next f) (pending f) pr l (loop false) e c
    guard-next k l (swap r) e c =
        λ f d pr. above k (ann following) (ap ann d) (named-next f) (pending f) pr l (swap r) e c
    guard-next k l clear e c =
        λ f d pr. above k (ann following) (ap ann d) (named-next f) (pending f) pr l clear e c

    -- No job has the new V yet.
    later : (x : Version) → x.count ≤ v.count → x ≡ moved → ⊥
    later x le e = let z : x.count ≡ v.count + 1 = ap (λ y. y.count) e in omega arith

    -- The mover goes back to A7.
    turns : (w : Working) → w.lid ≡ (job p).lid → phase w ≡ phase (job p) → kind w.place ≡ plain → w.ver ≡ v
        → EpochsHold P (after plan p (storing (Store.Version (w.ver.count + 1) b) w) s)
    turns w el ep ek ev =
        subst (λ (x : Version). EpochsHold P (after plan p (storing (Store.Version (x.count + 1) b) w) s)) (sym ev)
        (record {
          whole = record { named = named-next; one = one };
          each =
              λ k. upd-elim (λ x. InEpoch P moved ann stat k x) job p w k (λ e. rw e own) (λ _. other k);
        })
      where
        one : (q y : ℕ) → stat q ≡ decided y → (b ≡ true) × (q ≡ ann following)
        one q y e =
            let d = D.whole.one q y e in absurd (decided≢finished e (ap stat d.1 ∙ done d.0))

        le : w.ver.count ≤ v.count
        le = rw ev (le_refl _)

        own : InEpoch P moved ann stat p w
        own =
            outside ek (omega (arith, le))
            (rw (el, ep) (guard-next p (job p).lid (phase (job p)) refl (C.each p)))

        other : (k : ℕ) → InEpoch P moved ann stat k (job k)
        other k =
            record {
              old = let o = (D.each k).old in omega arith;
              flag = (D.each k).flag;
              guard = guard-next k (job k).lid (phase (job k)) refl (C.each k);
              fresh = λ e. absurd (later (job k).ver (D.each k).old e);
              mover = λ e. absurd (later (job k).ver (D.each k).old e);
            }

  -- A4: lid is the job announced on p's card, in round 0 the chief where ChiefGuard asks.
  guard-look : (r : Bool) → ChiefGuard P v ann stat p (ann (P.card p)) (loop r)
  guard-look true = tt
  guard-look false = λ _ c _. ap ann c

  -- hid's status is N: a fresh job finds the chief finished.
  finds : same_status helped (pos P.jobs) ≡ true → (job p).hid ≡ head → stat head ≡ finished
  finds t q =
      ap stat (sym q) ∙ is-finished (stat (job p).hid) (finished-is P.jobs helped ∙ t)

  -- hid's status is not −1: a fresh job finds the chief decided or finished.
  passes : same_status helped (negsuc 0) ≡ false → (job p).hid ≡ head
      → ((job p).hid ≡ head) × (is_undecided (stat head) ≡ false)
  passes t q =
      (q, ap (λ k. is_undecided (stat k)) (sym q) ∙ undecided-is P.jobs helped ∙ t)

  -- H25 done: the chief's status, −1 so far, becomes p.
  decides : (w : Working) → w.place ≡ Place.H32 → phase w ≡ phase (job p) → w.lid ≡ (job p).lid → w.ver ≡ v
      → v.flag ≡ true → w.hid ≡ head → is_undecided (stat w.hid) ≡ true
      → Good (doing (Store.Stat w.hid (pos p)) w)
  decides w pl ep el ev f q u =
      goes_on (pos p) (decided p) (decided-means P.jobs p not_none) w ep el ev f q (rw und Onward.decide) (rw und)
      (rw (pl, ev) f)
      (rw pl (q, ap is_undecided (upd-at stat w.hid (decided p) head (sym q))))
      (rw pl tt)
    where
      und : stat head ≡ undecided
      und = ap stat (sym q) ∙ is-undecided (stat w.hid) u

      not_none : p ≢ P.jobs
      not_none z = let h = C.whole.in-plan p R.up in omega arith

  -- H42 done, the commit: the chief's status, a job's number so far, becomes N.
  commits : (w : Working) (y : ℕ) → w.place ≡ Place.A10 → phase w ≡ phase (job p) → w.lid ≡ (job p).lid
      → w.ver ≡ v → v.flag ≡ true → w.hid ≡ head → stat w.hid ≡ decided y
      → Good (doing (Store.Stat w.hid (pos plan.sizes.jobs)) w)
  commits w y pl ep el ev f q d =
      goes_on (pos plan.sizes.jobs) finished (finished-means P.jobs) w ep el ev f q Onward.finish
      (ap is_finished (ap stat (sym q) ∙ d))
      (rw pl tt)
      (rw pl (upd-at stat w.hid finished head (sym q)))
      (rw pl tt)

  -- H42 not done by a fresh job: the chief is finished.
  committed : Widened P.jobs (job p) → same_status helped (job p).wid ≡ false → (job p).hid ≡ head
      → (stat head ≡ decided (winner_of (job p))) ⊎ (stat head ≡ finished) → stat head ≡ finished
  committed h t q (inl d) =
      let e : helped ≡ pos (winner_of (job p)) =
      (decided-from P.jobs (winner_of (job p)) helped (proper (job p).hid) (ap stat q ∙ d)).0 in
      absurd (true≢false (sym (same_refl (job p).wid) ∙ rw (e ∙ sym h.number) at t))
  committed h t q (inr d) = d

  -- H32 finding −1 or N: a fresh job finds the chief finished, as it was past −1.
  settled : (same_status helped (negsuc 0) || same_status helped (pos P.jobs)) ≡ true
      → (job p).hid ≡ head → is_undecided (stat head) ≡ false → stat head ≡ finished
  settled t q u = finds (rw past at t) q
    where
      past : same_status helped (negsuc 0) ≡ false
      past =
          sym (undecided-is P.jobs helped) ∙ ap (λ k. is_undecided (stat k)) q ∙ u

  -- H32 finding neither: wid is a job's number.
  takes : (same_status helped (negsuc 0) || same_status helped (pos P.jobs)) ≡ false
      → Widened P.jobs (goto Place.H34 (with_wid helped (job p)))
  takes t = record { number = n.0; job = n.1 }
    where
      n : (helped ≡ pos (job_named helped)) × (job_named helped ≢ P.jobs)
      n =
          job-number P.jobs helped (proper (job p).hid) (or_l _ _ t) (or_r (same_status helped (negsuc 0)) _ t)

  -- The stages of a move.
  stages : (st : Stage) → (job p).place ≡ Place.Move st → (job p).ver.flag ≡ true
      → ((job p).ver ≡ v → v.flag ≡ true → (job p).hid ≡ head) → Good (stage plan sh p st (job p))
  unfolding stage
  stages Stage.Check e fl fr =
      rw shut-test (test Good _ _ _ (λ _. loops refl (rw e) refl refl fl fr (λ _. tt))
      (λ t. loops refl (rw e) refl refl fl (λ z f. passes (search failed) (fr z f)) (λ _. tt)))
  stages Stage.List e fl fr =
      rw shut-test (test Good _ _ _ (λ _. loops refl (rw e) refl refl fl fr (λ _. tt))
      (λ _. loops refl (rw e) refl refl fl fr (λ _. tt)))
  stages Stage.Copy e fl fr =
      rw shut-test (test Good _ _ _ (λ _. loops refl (rw e) refl refl fl fr (λ _. tt))
      (λ _. loops refl (rw e) refl refl fl fr (λ _. tt)))
  stages Stage.Take e fl fr =
      onward-elim (λ x. Good (quiet x)) plan
      (with_word (sh.blk (get_or (job p).curr (block plan (job p)) 0) (offset plan (job p))) (job p))
      (λ _ _. loops refl (rw e) refl refl fl fr (λ _. tt))
      (λ _ _. loops refl (rw e) refl refl fl fr (λ _. tt))
  stages Stage.Write e fl fr =
      onward-elim
      (λ x.
      Good
      (storing
      (Store.Word (get_or (job p).curr (block plan (job p)) 0) (offset plan (job p))
      (word_written (move plan (job p)) (job p).word))
      x))
      plan
      (job p)
      (λ _ _. loops refl (rw e) refl refl fl fr (λ _. tt))
      (λ _ _. loops refl (rw e) refl refl fl fr (λ _. tt))

  -- Every item, by the place, from p's clauses there.
  items : (pl : Place) → (job p).place ≡ pl → OnBoard P (board s) p (job p).lid (phase_at (second (job p)) pl)
      → HelpHolds P (job p) (kind pl) → ChiefGuard P v ann stat p (job p).lid (phase_at (second (job p)) pl)
      → ((job p).ver ≡ v → v.flag ≡ true → FreshHolds P v ann stat (job p) (kind pl))
      → ((job p).ver ≡ v → MoverHolds P v ann stat (job p) (kind pl)) → Good (item plan sh p pl (job p))
  unfolding item
  items Place.Idle e c fl guard fr mv = steps refl (D.each p)
  items Place.A1 e c fl guard fr mv = steps refl (outside refl (D.each p).old tt)
  items Place.A2 e c fl guard fr mv =
      means p (negsuc 0) undecided _ false (undecided-means plan.sizes.jobs)
      (arms (rw e) c _ (outside refl (D.each p).old tt))
  items Place.A4 e c fl guard fr mv =
      rw shut-test (test Good _ _ _
      (λ t. steps refl (outside refl (D.each p).old (λ f d _. D.whole.named f (ap ann (sym d) ∙ eqb-true _ _ t))))
      (λ _. steps refl (outside refl (D.each p).old (guard-look (second (job p))))))
  items Place.A7 e c fl guard fr mv =
      rw shut-test (test Good _ _ _
      (λ t.
      let away : (not (eqb pointed (P.card p)) || not v.flag) ≡ true = search (and_l, and_r) in
      steps refl (outside refl (le_refl _) (λ f d _. elsewhere pointed (P.card p) v.flag away f d)))
      (λ _.
      rw shut-test (test Good _ _ _
      (λ t. steps refl (record { old = le_refl _; flag = t; guard = guard; fresh = λ _ _. tt; mover = λ _. tt }))
      (λ t.
      steps refl
      (record {
        old = le_refl _;
        flag = tt;
        guard = guard;
        fresh = λ _ f. absurd (true≢false (sym f ∙ t));
        mover = λ _. tt;
      })))))
  items Place.A10 e c fl guard fr mv =
      loops refl (rw e) refl refl tt fr
      (λ z t.
      let found : ℤ = sh.stat (next_helped plan sh p (job p)) in
      let pending : not (same_status found (pos P.jobs)) ≡ true = search (and_l, and_r) in
      (ap (λ x. ann ((x.count + 1) % P.cards)) (sym z), finished-is _ _ ∙ not-true _ pending))
  items Place.A12 e c fl guard fr mv =
      rw shut-test (test Good _ _ _
      (λ t.
      let ev : (job p).ver ≡ v = same_version_lem v (job p).ver (search) in
      record {
        kept = turns (job p).next (fr ev) (λ n. rw (mv ev n).0 (mv ev n).1) _ refl (rw e) refl ev;
      })
      (λ _. loops refl (rw e) refl refl tt (λ _ _. tt) (λ _. tt)))
  items Place.A14 e c fl guard fr mv =
      rw shut-test (test Good _ _ _
      (λ _. record { kept = announces guard shut p _ (outside refl (D.each p).old tt) })
      (λ _.
      record {
        kept = announces guard shut p _ (outside refl (D.each p).old
            (λ f d _. guard f d (chief-under P s C D p R f d)));
      }))
    where
      shut : (a : ℕ) → ann (P.card p) ≡ a → a ≢ P.jobs → is_finished (stat a) ≡ false → P.prio a ≤ P.prio p → ⊥
      shut a ea na fa pr = above p a ea na fa pr (job p).lid (swap (second (job p))) (rw e) c
  items Place.A15 e c fl guard fr mv =
      record {
        kept =
            announces guard (λ a ea na fa pr. above p a ea na fa pr (job p).lid clear (rw e) c) _ _
            (outside refl (D.each p).old tt);
      }
  items Place.H16 e c fl guard fr mv =
      loops refl (rw e) refl refl fl (λ z _. ap (λ x. ann (x.count % P.cards)) z) (λ _. tt)
  items Place.H17 e c fl guard fr mv =
      rw shut-test (test Good _ _ _ (λ t. loops refl (rw e) refl refl tt (λ z f. finds t (fr z f)) (λ _. tt))
      (λ _.
      rw shut-test (test Good _ _ _ (λ _. loops refl (rw e) refl refl fl fr (λ _. tt))
      (λ t. loops refl (rw e) refl refl fl (λ z f. passes t (fr z f)) (λ _. tt)))))
  items Place.H21 e c fl guard fr mv =
      begin-elim (λ a. Good (quiet (goto a (taking (sh.trans (job p).hid) (job p)))))
      (get_or plan.updates (sh.trans (job p).hid) [])
      (loops refl (rw e) refl refl fl fr (λ _. tt))
      (loops refl (rw e) refl refl fl fr (λ _. tt))
  items (Place.Move st) e c fl guard fr mv = stages st e fl fr
  items Place.H22 e c fl guard fr mv = loops refl (rw e) refl refl fl fr (λ _. tt)
  items Place.H25 e c fl guard fr mv =
      rw shut-test (test Good _ _ _
      (λ t.
      let ev : (job p).ver ≡ v = same_version_lem v (job p).ver (search (and_l, and_r)) in
      let und : is_undecided (stat (job p).hid) ≡ true = undecided-is _ _ ∙ search (and_l, and_r) in
      let f : v.flag ≡ true = sym (ap (λ x. x.flag) ev) ∙ fl in
      decides _ refl (rw e) refl ev f (fr ev f) und)
      (λ t. loops refl (rw e) refl refl fl (λ z f. passes (search failed) (fr z f)) (λ _. tt)))
  items Place.H32 e c fl guard fr mv =
      rw shut-test (test Good _ _ _
      (λ t. loops refl (rw e) refl refl tt (λ z f. settled t (fr z f).0 (fr z f).1) (λ _. tt))
      (λ t.
      let n : Widened P.jobs (goto Place.H34 (with_wid helped (job p))) = takes t in
      loops refl (rw e) refl refl (fl, n)
      (λ z f. ((fr z f).0, inl (ap stat (sym (fr z f).0) ∙ wid-means P.jobs _ _ n refl)))
      (λ _. tt)))
  items Place.H34 e c fl guard fr mv =
      rw shut-test (test Good _ _ _ (λ _. loops refl (rw e) refl refl (fl.0, still-widened refl fl.1) fr (λ _. tt))
      (λ _. loops refl (rw e) refl refl (fl.0, still-widened refl fl.1) fr (λ _. tt)))
  items Place.H36 e c fl guard fr mv =
      rw shut-test (test Good _ _ _
      (λ t. loops refl (rw e) refl refl tt (λ z _. absurd (stale v (job p).ver (not-true _ t) z)) (λ _. tt))
      (λ _. loops refl (rw e) refl refl (fl.0, still-widened refl fl.1) fr (λ _. tt)))
  items Place.H37 e c fl guard fr mv =
      rw shut-test (test Good _ _ _ (λ t. loops refl (rw e) refl refl tt (λ z f. finds t (fr z f).0) (λ _. tt))
      (λ _. loops refl (rw e) refl refl (fl.0, still-widened refl fl.1) fr (λ _. tt)))
  items Place.H38 e c fl guard fr mv =
      loops refl (rw e) refl refl (fl.0, still-widened refl fl.1) fr (λ _. tt)
  items Place.H41 e c fl guard fr mv =
      rw shut-test (test Good _ _ _
      (λ _.
      store-elim (λ x. Good (doing (Store.Bank (job p).addr (job p).new) x)) (job p)
      (loops refl (rw e) refl refl (fl.0, still-widened refl fl.1) fr (λ _. tt))
      (loops refl (rw e) refl refl (fl.0, still-widened refl fl.1) fr (λ _. tt)))
      (λ _.
      store-elim (λ x. Good (quiet x)) (job p)
      (loops refl (rw e) refl refl (fl.0, still-widened refl fl.1) fr (λ _. tt))
      (loops refl (rw e) refl refl (fl.0, still-widened refl fl.1) fr (λ _. tt))))
  items Place.H42 e c fl guard fr mv =
      rw shut-test (test Good _ _ _
      (λ t.
      let ev : (job p).ver ≡ v = same_version_lem v (job p).ver (search (and_l, and_r)) in
      let is : helped ≡ (job p).wid = same_true _ _ (search (and_l, and_r)) in
      let f : v.flag ≡ true = sym (ap (λ x. x.flag) ev) ∙ fl.0 in
      commits _ (winner_of (job p)) refl (rw e) refl ev f (fr ev f).0 (wid-means P.jobs (job p) _ fl.1 is))
      (λ t.
      loops refl (rw e) refl refl tt
      (λ z f.
      committed fl.1 (search failed) (fr z f).0 (fr z f).1)
      (λ _. tt)))

  -- The item that p stands before keeps the layer.
  pub epochs-kept : EpochsHold P (after plan p (item plan sh p (job p).place (job p)) s)
  epochs-kept =
      (items (job p).place refl (C.each p) (D.each p).flag (D.each p).guard (D.each p).fresh (D.each p).mover
      ).kept

-- An accepted call.
pub epochs-called :
    (P : Layout) (s : State) (p u : ℕ) → EpochsHold P s → EpochsHold P (working p (called u (s.job p)) s)
epochs-called P s p u D =
    record {
      whole = D.whole;
      each =
          λ k.
          upd-elim (λ w. InEpoch P s.sh.v s.sh.ann s.sh.stat k w) s.job p (called u (s.job p)) k
          (λ _. outside refl (D.each p).old tt)
          (λ _. D.each k);
    }
