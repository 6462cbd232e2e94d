-- The second layer of the invariant: what V promises. The count of V is an epoch; under a true flag the epoch has a
-- chief, the job that Ann names on the card that the count points at.
--
-- In plain words. A job keeps in ver the value of V that A7 took, and V only counts up, so a job whose ver is not V (a
-- stale job) never becomes fresh again. Under a true flag the chief stays the same until V moves on: on its card nobody
-- at or above it is at A14 or A15, and who is above it in round 0 has it as lid (ChiefGuard), because A7 leaves the
-- loop only when V points elsewhere or its flag is false; that is why lines 7 and 8 are one step. Every fresh helper
-- helps the chief (FreshHolds), so in one epoch one status alone goes from −1 to a job's number (H25) and on to N
-- (H42), and a status that is a job's number is the chief's (one). A fresh job that has left the helping, at A10 or
-- A12, has seen the chief finished, so V cannot move on before. Who is to move V with a true flag has found a pending
-- job on the next card, and it stays pending and announced until V moves (MoverHolds); that is why lines 10 and 11 are
-- one step.
--
-- Assumes the first layer.
use mathlib.Core.Path.{◌≡◌, refl, sym, ◌∙◌, ap}
use mathlib.Core.Logic.{◌≢◌, ◌⊎◌, inl, inr}
use mathlib.Core.Bool.{true, false}
use Prim.Native.Nat.{ℕ, ◌+◌, ◌≤◌, ◌%◌}
use lib.IntN.{ℤ, pos}
use Rattle.spec_machine.specs.declared.Place.{Place}
use Rattle.spec_machine.specs.declared.Version.{Version}
use Rattle.spec_machine.specs.declared.Working.{Working}
use Rattle.spec_machine.specs.Status.{job_named}
use Rattle.spec_machine.proofs.View.{
  Status,
  undecided,
  decided,
  finished,
  is_finished,
  is_undecided,
  status_in,
  State,
  decided-means,
}
use Rattle.spec_machine.proofs.SmallSteps.{Layout}
use Rattle.spec_machine.proofs.Cards.{Phase, idle, start, clear, look, loop, swap, phase, board, Runs, CardsHold}

-- Where a job is in helping: outside of it, at H16, from H17 to H25, at H32, from H34 to H42, at A10, at A12.
pub data Kind : Type 0 where
  plain enter help settle put out swing : Kind

-- The kind of a place.
abbrev pub kind : Place → Kind
kind Place.Idle = plain
kind Place.A1 = plain
kind Place.A2 = plain
kind Place.A4 = plain
kind Place.A7 = plain
kind Place.A10 = out
kind Place.A12 = swing
kind Place.A14 = plain
kind Place.A15 = plain
kind Place.H16 = enter
kind Place.H17 = help
kind Place.H21 = help
kind (Place.Move st) = help
kind Place.H22 = help
kind Place.H25 = help
kind Place.H32 = settle
kind Place.H34 = put
kind Place.H36 = put
kind Place.H37 = put
kind Place.H38 = put
kind Place.H41 = put
kind Place.H42 = put

-- The job whose row is stored: wid as a job's number.
abbrev pub winner_of : Working → ℕ
winner_of w = job_named w.wid

-- What holds of a job from H34 on: wid is a job's number, and not N.
pub record Widened (n : ℕ) (w : Working) : Type 0 where
  pub number : w.wid ≡ pos (winner_of w)
  pub job : winner_of w ≢ n

-- From H34 on, a status that is wid means decided by wid's job.
pub wid-means : (n : ℕ) (w : Working) (x : ℤ) → Widened n w → x ≡ w.wid → status_in n x ≡ decided (winner_of w)
wid-means n w x h e = ap (status_in n) (e ∙ h.number) ∙ decided-means n (winner_of w) h.job

module _ (P : Layout) where
  -- A help began under a true flag, and from H34 on wid is a job.
  abbrev pub HelpHolds : Working → Kind → Type 0
  HelpHolds w plain = Unit {0}
  HelpHolds w enter = w.ver.flag ≡ true
  HelpHolds w help = w.ver.flag ≡ true
  HelpHolds w settle = w.ver.flag ≡ true
  HelpHolds w put = (w.ver.flag ≡ true) × Widened P.jobs w
  HelpHolds w out = Unit {0}
  HelpHolds w swing = Unit {0}

  module _ (v : Version) (A : ℕ → ℕ) (S : ℕ → Status) where
    -- The job that a true flag speaks of.
    abbrev pub chief : ℕ
    chief = A (v.count % P.cards)

    -- ChiefGuard for job k, whose lid is l, by its phase: under a true flag, on the card pointed at, at or above the
    -- chief.
    abbrev pub ChiefGuard : ℕ → ℕ → Phase → Type 0
    ChiefGuard k l idle = Unit {0}
    ChiefGuard k l start = Unit {0}
    ChiefGuard k l (look r) = Unit {0}
    ChiefGuard k l (loop true) = Unit {0}
    ChiefGuard k l (loop false) =
        v.flag ≡ true → P.card k ≡ v.count % P.cards → P.prio chief ≤ P.prio k → l ≡ chief
    ChiefGuard k l (swap r) = v.flag ≡ true → P.card k ≡ v.count % P.cards → P.prio chief ≤ P.prio k → ⊥
    ChiefGuard k l clear = v.flag ≡ true → P.card k ≡ v.count % P.cards → P.prio chief ≤ P.prio k → ⊥

    -- What a job whose version is V knows under a true flag: whom it helps, and how far that one's status has gone.
    abbrev pub FreshHolds : Working → Kind → Type 0
    FreshHolds w plain = Unit {0}
    FreshHolds w enter = Unit {0}
    FreshHolds w help = w.hid ≡ chief
    FreshHolds w settle = (w.hid ≡ chief) × (is_undecided (S chief) ≡ false)
    FreshHolds w put = (w.hid ≡ chief) × ((S chief ≡ decided (winner_of w)) ⊎ (S chief ≡ finished))
    FreshHolds w out = S chief ≡ finished
    FreshHolds w swing = S chief ≡ finished

    -- A job whose version is V and that is to move V with a true flag: who is pending on the next card.
    abbrev pub MoverHolds : Working → Kind → Type 0
    MoverHolds w plain = Unit {0}
    MoverHolds w enter = Unit {0}
    MoverHolds w help = Unit {0}
    MoverHolds w settle = Unit {0}
    MoverHolds w put = Unit {0}
    MoverHolds w out = Unit {0}
    MoverHolds w swing = w.next ≡ true → (A ((v.count + 1) % P.cards) ≡ w.hid) × (is_finished (S w.hid) ≡ false)

    -- The clauses of job k.
    pub record InEpoch (k : ℕ) (w : Working) : Type 0 where
      pub old : w.ver.count ≤ v.count
      pub flag : HelpHolds w (kind w.place)
      pub guard : ChiefGuard k w.lid (phase w)
      pub fresh : w.ver ≡ v → v.flag ≡ true → FreshHolds w (kind w.place)
      pub mover : w.ver ≡ v → MoverHolds w (kind w.place)

    -- The clauses of the whole: a true flag has a chief, and only the chief is decided.
    pub record EpochHolds : Type 0 where
      pub named : v.flag ≡ true → chief ≢ P.jobs
      pub one : (q w : ℕ) → S q ≡ decided w → (v.flag ≡ true) × (q ≡ chief)

-- The second layer.
pub record EpochsHold (P : Layout) (s : State) : Type 0 where
  pub whole : EpochHolds P s.sh.v s.sh.ann s.sh.stat
  pub each : (k : ℕ) → InEpoch P s.sh.v s.sh.ann s.sh.stat k (s.job k)

-- The chief is announced, so it is not above the running job of its card.
pub chief-under :
    (P : Layout) (s : State) → CardsHold P s → EpochsHold P s → (p : ℕ) → Runs P (board s) p → s.sh.v.flag ≡ true
    → P.card p ≡ s.sh.v.count % P.cards → P.prio (chief P s.sh.v s.sh.ann s.sh.stat) ≤ P.prio p
chief-under P s C D p R f c =
    let a = C.whole.named-announced (s.sh.v.count % P.cards) (D.whole.named f) in
    R.top (chief P s.sh.v s.sh.ann s.sh.stat) (C.whole.announced-active _ a.1) (a.0 ∙ sym c)

-- In an epoch a status goes from −1 to decided, and to N.
pub data Onward : Status → Status → Type 0 where
  same : {a : Status} → Onward a a
  decide : {w : ℕ} → Onward undecided (decided w)
  finish : {a : Status} → Onward a finished

-- The frame: V stays, announcements and statuses change from A and S to A' and S'.
module _ (P : Layout) (v : Version) (A A' : ℕ → ℕ) (S S' : ℕ → Status) where
  -- What a job with this record sees of the change.
  pub record Sees (j : Working) : Type 0 where
    pub ann : v.flag ≡ true → chief P v A' S' ≡ chief P v A S
    pub stat : v.flag ≡ true → Onward (S (chief P v A S)) (S' (chief P v A S))
    pub next :
        (v.flag ≡ true → S (chief P v A S) ≡ finished) → A ((v.count + 1) % P.cards) ≡ j.hid
        → is_finished (S j.hid) ≡ false
        → (A' ((v.count + 1) % P.cards) ≡ j.hid) × (is_finished (S' j.hid) ≡ false)

  -- ChiefGuard in the frame.
  pub guard-keeps :
      (k l : ℕ) (ph : Phase) → (v.flag ≡ true → chief P v A' S' ≡ chief P v A S) → ChiefGuard P v A S k l ph
      → ChiefGuard P v A' S' k l ph
  guard-keeps k l idle e h = tt
  guard-keeps k l start e h = tt
  guard-keeps k l (look r) e h = tt
  guard-keeps k l (loop true) e h = tt
  guard-keeps k l (loop false) e h = λ f c p. h f c (rw (e f) at p) ∙ sym (e f)
  guard-keeps k l (swap r) e h = λ f c p. h f c (rw (e f) at p)
  guard-keeps k l clear e h = λ f c p. h f c (rw (e f) at p)

  -- What is not −1 stays so.
  on-undecided : {a b : Status} → Onward a b → is_undecided a ≡ false → is_undecided b ≡ false
  on-undecided same h = h
  on-undecided decide h = refl
  on-undecided finish h = refl

  -- What is N stays so.
  on-finished : {a b : Status} → Onward a b → a ≡ finished → b ≡ finished
  on-finished same h = h
  on-finished decide h = cc
  on-finished finish h = refl

  -- What is decided stays so, or becomes N.
  on-decided :
      {a b : Status} → Onward a b → (w : ℕ) → (a ≡ decided w) ⊎ (a ≡ finished) → (b ≡ decided w) ⊎ (b ≡ finished)
  on-decided same w h = h
  on-decided decide w (inl h) = inl cc
  on-decided decide w (inr h) = inr cc
  on-decided finish w h = inr refl

  -- FreshHolds in the frame.
  fresh_keeps :
      (j : Working) (c : Kind) → chief P v A' S' ≡ chief P v A S → Onward (S (chief P v A S)) (S' (chief P v A S))
      → FreshHolds P v A S j c → FreshHolds P v A' S' j c
  fresh_keeps j plain e o h = tt
  fresh_keeps j enter e o h = tt
  fresh_keeps j help e o h = h ∙ sym e
  fresh_keeps j settle e o h = (h.0 ∙ sym e, rw e (on-undecided o h.1))
  fresh_keeps j put e o h = (h.0 ∙ sym e, rw e (on-decided o (winner_of j) h.1))
  fresh_keeps j out e o h = rw e (on-finished o h)
  fresh_keeps j swing e o h = rw e (on-finished o h)

  -- MoverHolds in the frame.
  mover-keeps :
      (j : Working) (c : Kind) → Sees j → (v.flag ≡ true → FreshHolds P v A S j c) → MoverHolds P v A S j c
      → MoverHolds P v A' S' j c
  mover-keeps j plain K f h = tt
  mover-keeps j enter K f h = tt
  mover-keeps j help K f h = tt
  mover-keeps j settle K f h = tt
  mover-keeps j put K f h = tt
  mover-keeps j out K f h = tt
  mover-keeps j swing K f h = λ n. K.next f (h n).0 (h n).1

  -- Every clause of one job in the frame.
  pub epoch-keeps : (k : ℕ) (j : Working) → Sees j → InEpoch P v A S k j → InEpoch P v A' S' k j
  epoch-keeps k j K D =
      record {
        old = D.old;
        flag = D.flag;
        guard = guard-keeps k j.lid (phase j) K.ann D.guard;
        fresh = λ e f. fresh_keeps j (kind j.place) (K.ann f) (K.stat f) (D.fresh e f);
        mover = λ e. mover-keeps j (kind j.place) K (D.fresh e) (D.mover e);
      }
