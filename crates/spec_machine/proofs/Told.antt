-- The fifth layer of the invariant: what the history tells agrees with the state and with what the layers before carry
-- along (Ghost and Tally).
--
-- In plain words. The latest call of an active job is current: it has not returned, it is announced exactly when the
-- job has done its first A14, it is decided and uncommitted exactly when the job's status is a job's number, it has
-- committed as often as the fourth layer counts, and each other card has passed it as often as is counted there. Every
-- other number is closed: it is a call that has returned after one commit, or no call, and then was never announced;
-- and nothing that is to come speaks of it, because an item is done for the running job's current call, and what it
-- decides or commits is the chief's, which is announced and so active. The one-after-another memory that the history
-- gives is the one of the third layer, because Trans of the chief names the update that the chief's call names; and the
-- blocks that the history says H41 has stored since the deciding are the ones of the third layer.
--
-- Assumes nothing here; the laws about it assume the layers before.
use Prim.Native.Nat.{ℕ, ◌≤◌, ◌<◌}
use mathlib.Core.Path.{◌≡◌, refl}
use mathlib.Core.Logic.{◌≢◌, ◌⊎◌}
use mathlib.Core.Bool.{Bool, true, false, false≢true}
use mathlib.Core.List.{List}
use lib.ListN.{length}
use Rattle.spec_format.specs.declared.Entry.{Entry}
use Rattle.spec_format.specs.Plan.{Plan, any, job_in}
use Rattle.spec_machine.specs.declared.Place.{Place}
use Rattle.spec_machine.specs.Selected.{select, before_first, after_first}
use Rattle.spec_machine.specs.Memory.{job_of, update_of}
use Rattle.spec_machine.specs.Places.{is_active}
use Rattle.spec_machine.specs.History.{Event, announces, decides, commits, returns, commits_in, latest}
use Rattle.spec_machine.specs.Demand3.{is_decided_uncommitted, is_stored, card_of, passing, memory_after}
use Rattle.spec_machine.proofs.View.{Status, undecided, decided, finished, State}
use Rattle.spec_machine.proofs.Words.{blocks_of}
use Rattle.spec_machine.proofs.Growing.{Within}
use Rattle.spec_machine.proofs.Cards.{phase_at, phase, announced}
use Rattle.spec_machine.proofs.Contents.{Ghost}
use Rattle.spec_machine.proofs.Bypass.{Tally}

-- Whether a status is a job's number.
abbrev pub is_decided : Status → Bool
is_decided undecided = false
is_decided (decided w) = true
is_decided finished = false

-- What is a job's number is some job's.
pub decided-by : (x : Status) → is_decided x ≡ true → (w : ℕ) × (x ≡ decided w)
decided-by undecided y = absurd (false≢true y)
decided-by (decided w) y = (w, refl)
decided-by finished y = absurd (false≢true y)

-- The places past A1.
abbrev pub Taken : Place → Type 0
Taken Place.Idle = ⊥
Taken Place.A1 = ⊥
Taken Place.A2 = Unit {0}
Taken Place.A4 = Unit {0}
Taken Place.A7 = Unit {0}
Taken Place.A10 = Unit {0}
Taken Place.A12 = Unit {0}
Taken Place.A14 = Unit {0}
Taken Place.A15 = Unit {0}
Taken Place.H16 = Unit {0}
Taken Place.H17 = Unit {0}
Taken Place.H21 = Unit {0}
Taken (Place.Move st) = Unit {0}
Taken Place.H22 = Unit {0}
Taken Place.H25 = Unit {0}
Taken Place.H32 = Unit {0}
Taken Place.H34 = Unit {0}
Taken Place.H36 = Unit {0}
Taken Place.H37 = Unit {0}
Taken Place.H38 = Unit {0}
Taken Place.H41 = Unit {0}
Taken Place.H42 = Unit {0}

-- An announced job is past A1.
pub announced-taken : (r : Bool) (a : Place) → announced (phase_at r a) ≡ true → Taken a
announced-taken r Place.Idle y = absurd (false≢true y)
announced-taken r Place.A1 y = absurd (false≢true y)
announced-taken r Place.A2 y = tt
announced-taken r Place.A4 y = tt
announced-taken r Place.A7 y = tt
announced-taken r Place.A10 y = tt
announced-taken r Place.A12 y = tt
announced-taken r Place.A14 y = tt
announced-taken r Place.A15 y = tt
announced-taken r Place.H16 y = tt
announced-taken r Place.H17 y = tt
announced-taken r Place.H21 y = tt
announced-taken r (Place.Move st) y = tt
announced-taken r Place.H22 y = tt
announced-taken r Place.H25 y = tt
announced-taken r Place.H32 y = tt
announced-taken r Place.H34 y = tt
announced-taken r Place.H36 y = tt
announced-taken r Place.H37 y = tt
announced-taken r Place.H38 y = tt
announced-taken r Place.H41 y = tt
announced-taken r Place.H42 y = tt

-- No event speaks of call c.
pub record Unused (h : List Event) (c : ℕ) : Type 0 where
  pub not-announced : any (announces c) h ≡ false
  pub not-decided : any (decides c) h ≡ false
  pub not-committed : any (commits c) h ≡ false
  pub not-returned : any (returns c) h ≡ false

-- What a history tells of a call c of card `own` that has not returned: whether it is announced (a), whether it is
-- decided and uncommitted (d), how often it has committed (n), and, once announced, how many calls of each other card
-- have passed it, as many as the lists l are long.
pub record Telling
    (plan : Plan) (es : List Entry) (h : List Event) (c : ℕ) (a d : Bool) (n : ℕ) (l : ℕ → List ℕ) (own : ℕ)
    : Type 0 where
  pub not-returned : any (returns c) h ≡ false
  pub announced-is : any (announces c) h ≡ a
  pub decided-is : is_decided_uncommitted h c ≡ d
  pub commits-are : length (select (commits c) h) ≡ n
  pub passing-are : a ≡ true → (r : ℕ) → r ≢ own → length (passing plan es h c r) ≡ length (l r)

module _ (plan : Plan) (es : List Entry) (h : List Event) where
  -- What the history tells of call c agrees with the state and with what is counted of job k.
  abbrev pub Agrees : ℕ → State → Tally → ℕ → Type 0
  Agrees c s H k =
      Telling plan es h c (announced (phase (s.job k))) (is_decided (s.sh.stat k)) (H.committed k) (H.passed k)
      (job_in plan k).card

  -- A call that is not current.
  pub record Closed (c : ℕ) : Type 0 where
    pub once : length (select (commits c) h) ≤ 1
    pub returned : any (returns c) h ≡ true → length (select (commits c) h) ≡ 1
    pub shut : is_decided_uncommitted h c ≡ false
    -- if it was announced, it has committed since
    pub sealed : any (announces c) h ≡ true → any (commits c) (after_first (announces c) h) ≡ true
    pub passed : (r : ℕ) → r ≢ card_of plan es c → length (passing plan es h c r) ≤ 1

  -- The fifth layer. The history h tells of the first entries of es.
  pub record Told (s : State) (g : Ghost) (H : Tally) : Type 0 where
    pub short : length h ≤ length es
    -- calls are numbered by their entries, and these name their jobs
    pub latest-in : (k : ℕ) → latest k h ≤ length h
    pub job-of : (k : ℕ) → latest k h ≢ 0 → job_of es (latest k h) ≡ k
    -- an active job has a call, its record has the update that the call names, and past A1 Trans has it too
    pub has-call : (k : ℕ) → is_active (s.job k).place ≡ true → latest k h ≢ 0
    pub update-of : (k : ℕ) → is_active (s.job k).place ≡ true → update_of es (latest k h) ≡ (s.job k).update
    pub trans-of : (k : ℕ) → Taken (s.job k).place → s.sh.trans k ≡ (s.job k).update
    -- no event speaks of "no call" or of a call to come
    pub unused : (c : ℕ) → (c ≡ 0) ⊎ (length h < c) → Unused h c
    -- the latest call of an active job is current; every other number is closed
    pub current : (k : ℕ) → is_active (s.job k).place ≡ true → Agrees (latest k h) s H k
    pub closed : (c : ℕ) → ((k : ℕ) → is_active (s.job k).place ≡ true → latest k h ≢ c) → Closed c
    pub announced-first : (c : ℕ) → any (commits c) (before_first (announces c) h) ≡ false
    -- the memory and the stored blocks
    pub within : Within (length h) (commits_in h)
    pub memory : g.mem ≡ blocks_of plan (memory_after plan es h)
    pub stored-are : (q w : ℕ) → s.sh.stat q ≡ decided w → (b : ℕ) → is_stored h (latest q h) b ≡ g.done b
