-- The third layer of the invariant: what the blocks hold. It carries along the one-after-another memory, by blocks, and
-- which blocks H41 has stored since the deciding (Ghost).
--
-- In plain words. While nothing is decided, the memory is what is seen through the bank, and every block number stands
-- once, in the bank or in a copy list (calm). A job in a run writes to its own copy blocks alone, also where it was
-- overtaken (Own in OwnAt), so nobody else sees a run; a fresh run of an undecided update has before it what leads to
-- the update run whole (Live in FreshContents), and its row lists the blocks with their bank numbers. So when H25
-- decides, the decider's copies hold the memory with the update run, and its row names them (settled). From then until
-- V moves on the decider is past H25 under the present V (Past): its row and its reclaimed copies are not touched.
-- Every fresh helper stores that same row, line by line (PutOk): a line that it has passed is stored, so at H42 all of
-- it is, and what is seen through the bank is the memory with the update run. A helper that is still storing after the
-- commit in the same epoch finds new numbers where it would store them, and changes nothing.
--
-- Assumes the first two layers.
use Prim.Native.Nat.{ℕ, ◌≤◌, ◌<◌}
use mathlib.Core.Path.{◌≡◌}
use mathlib.Core.Logic.{◌≢◌, ◌⊎◌}
use mathlib.Core.Bool.{Bool, true, false}
use mathlib.Core.List.{List, []}
use lib.ListN.{length, get_or}
use Rattle.spec_format.specs.Plan.{Plan}
use Rattle.spec_machine.specs.declared.Stage.{Stage}
use Rattle.spec_machine.specs.declared.Place.{Place}
use Rattle.spec_machine.specs.declared.Version.{Version}
use Rattle.spec_machine.specs.declared.Working.{Working}
use Rattle.spec_machine.specs.declared.Store.{Store}
use Rattle.spec_machine.specs.Places.{is_active}
use Rattle.spec_machine.specs.Ranges.{MoveInside}
use Rattle.spec_machine.proofs.ChangedAt.{upd}
use Rattle.spec_machine.proofs.View.{Status, undecided, decided, finished, is_undecided, status_in, Scene, State}
use Rattle.spec_machine.proofs.Sizes.{Roomy}
use Rattle.spec_machine.proofs.SmallSteps.{Blocks, Op, exec, ahead, attempt, copy_of, Layout, layout}
use Rattle.spec_machine.proofs.Attempts.{seen, Stock, settled_bank, Settling, Own, Live}
use Rattle.spec_machine.proofs.Epochs.{Kind, plain, enter, help, settle, put, out, swing, kind, chief, winner_of}

-- The one-after-another memory by blocks, and the blocks stored since the deciding.
pub record Ghost : Type 0 where
  pub mem : Blocks
  pub done : ℕ → Bool

-- After a status of job q becomes this: a deciding has stored no block yet, a commit runs the update whole.
abbrev pub ghost_stat : Layout → (ℕ → ℕ) → ℕ → Status → Ghost → Ghost
ghost_stat P trans q undecided g = g
ghost_stat P trans q (decided w) g = record { mem = g.mem; done = λ _. false }
ghost_stat P trans q finished g = record { mem = exec (P.ops (trans q)) g.mem 0; done = λ _. false }

-- After a store.
abbrev pub ghost : Plan → Scene → Store → Ghost → Ghost
ghost plan s Store.Nothing g = g
ghost plan s (Store.Version n f) g = g
ghost plan s (Store.Ann r k) g = g
ghost plan s (Store.Stat q x) g = ghost_stat (layout plan) s.trans q (status_in plan.sizes.jobs x) g
ghost plan s (Store.Trans q u) g = g
ghost plan s (Store.Listed i a b) g = g
ghost plan s (Store.Block from to) g = g
ghost plan s (Store.Word b i x) g = g
ghost plan s Store.Published g = g
ghost plan s (Store.Bank b n) g = record { mem = g.mem; done = upd g.done b true }

-- Where a job is with a run and a row: in neither, inside a move, at H22, at H25, at H34, from H36 to H38, at H41, at
-- H42.
pub data Part : Type 0 where
  elsewhere publish deciding first looping putting last : Part
  moving : Stage → Part

-- The part of a place.
abbrev pub part : Place → Part
part Place.Idle = elsewhere
part Place.A1 = elsewhere
part Place.A2 = elsewhere
part Place.A4 = elsewhere
part Place.A7 = elsewhere
part Place.A10 = elsewhere
part Place.A12 = elsewhere
part Place.A14 = elsewhere
part Place.A15 = elsewhere
part Place.H16 = elsewhere
part Place.H17 = elsewhere
part Place.H21 = elsewhere
part (Place.Move st) = moving st
part Place.H22 = publish
part Place.H25 = deciding
part Place.H32 = elsewhere
part Place.H34 = first
part Place.H36 = looping
part Place.H37 = looping
part Place.H38 = looping
part Place.H41 = putting
part Place.H42 = last

-- The kinds of a job past its deciding.
abbrev pub PastKind : Kind → Type 0
PastKind plain = ⊥
PastKind enter = ⊥
PastKind help = ⊥
PastKind settle = Unit {0}
PastKind put = Unit {0}
PastKind out = Unit {0}
PastKind swing = Unit {0}

-- A job past its deciding in the present epoch: active, its version is V, and from H32 on.
pub record Past (v : Version) (w : Working) : Type 0 where
  pub up : is_active w.place ≡ true
  pub fresh : w.ver ≡ v
  pub past : PastKind (kind w.place)

-- No block is marked.
abbrev pub Clear : Working → Type 0
Clear w = (b : ℕ) → get_or w.dirty b 0 ≡ 0

-- What holds of a job's record and the addresses of its row, whatever V is: inside a move, Own; at H22, that the row
-- has room for what is listed; at H25, nothing; elsewhere, no marks.
abbrev pub OwnAt : Plan → (ℕ → ℕ) → Working → Part → Type 0
OwnAt plan addr w elsewhere = Clear w
OwnAt plan addr w (moving st) =
    MoveInside plan st w × Own (layout plan) (copy_of w) (attempt (ahead plan st w) addr w)
OwnAt plan addr w publish = w.numblks ≤ plan.sizes.blocks
OwnAt plan addr w deciding = Unit {0}
OwnAt plan addr w first = Clear w
OwnAt plan addr w looping = Clear w
OwnAt plan addr w putting = Clear w
OwnAt plan addr w last = Clear w

module _ (plan : Plan) (sh : Scene) (g : Ghost) (J : ℕ → Working) where
  -- The chief.
  abbrev pub head : ℕ
  head = chief (layout plan) sh.v sh.ann sh.stat

  -- A reader of w's row that has passed n of its lines.
  pub record PutOk (w n : ℕ) : Type 0 where
    pub now : (sh.stat head ≡ decided w) ⊎ (sh.stat head ≡ finished)
    pub past : Past sh.v (J w)
    pub in_blocks : (i : ℕ) → i < sh.numblks w → sh.addrlist w i < plan.sizes.blocks
    pub passed :
        sh.stat head ≡ decided w → (i : ℕ) → i < n → i < sh.numblks w → g.done (sh.addrlist w i) ≡ true
    pub over :
        sh.stat head ≡ finished → (i : ℕ) → i < sh.numblks w → sh.bank (sh.addrlist w i) ≡ sh.newlist w i

  -- A run with this left to do, of job k, under the present V.
  abbrev pub LiveAt : List Op → ℕ → Working → Type 0
  LiveAt os k w =
      Live (layout plan) ((layout plan).ops (sh.trans head)) g.mem sh.bank sh.blk (copy_of w)
      (attempt os (sh.addrlist k) w)

  -- The old numbers of job k's row, as far as it lists blocks, are the bank's.
  abbrev pub Olds : ℕ → Working → Type 0
  Olds k w = (i : ℕ) → i < w.numblks → sh.oldlist k i ≡ sh.bank (sh.addrlist k i)

  -- Job k's row is published.
  pub record Published (k : ℕ) (w : Working) : Type 0 where
    pub count : sh.numblks k ≡ w.numblks
    pub news : (i : ℕ) → i < w.numblks → sh.newlist k i ≡ get_or w.curr (sh.addrlist k i) 0

  -- What H38 has read is line j of the row.
  pub record LineRead (w : Working) : Type 0 where
    pub addr : w.addr ≡ sh.addrlist (winner_of w) w.j
    pub old : w.old ≡ sh.oldlist (winner_of w) w.j
    pub new : w.new ≡ sh.newlist (winner_of w) w.j

  -- A row is read: the line reached is one of it, and its count is known.
  pub record Reading (w : Working) : Type 0 where
    pub ok : PutOk (winner_of w) w.j
    pub inside : w.j < sh.numblks (winner_of w)
    pub count : w.numblks ≡ sh.numblks (winner_of w)

  -- For a job k whose version is V, under a true flag.
  abbrev pub FreshContents : ℕ → Working → Part → Type 0
  FreshContents k w elsewhere = Unit {0}
  FreshContents k w (moving st) = is_undecided (sh.stat head) ≡ true → LiveAt (ahead plan st w) k w × Olds k w
  FreshContents k w publish = is_undecided (sh.stat head) ≡ true → LiveAt [] k w × Olds k w
  FreshContents k w deciding = is_undecided (sh.stat head) ≡ true → LiveAt [] k w × Olds k w × Published k w
  FreshContents k w first = PutOk (winner_of w) 0
  FreshContents k w looping = Reading w
  FreshContents k w putting = Reading w × LineRead w
  FreshContents k w last = PutOk (winner_of w) (sh.numblks (winner_of w))

  -- The clauses of job k.
  pub record JobContents (k : ℕ) (w : Working) : Type 0 where
    pub roomy : Roomy w
    pub own : OwnAt plan (sh.addrlist k) w (part w.place)
    pub fresh : w.ver ≡ sh.v → sh.v.flag ≡ true → FreshContents k w (part w.place)

  -- Job w's row lists the blocks ks with these old and new numbers.
  pub record RowIs (old new : ℕ → ℕ) (ks : List ℕ) (w : ℕ) : Type 0 where
    pub count : sh.numblks w ≡ length ks
    pub addr : (i : ℕ) → i < length ks → sh.addrlist w i ≡ get_or ks i 0
    pub olds : (i : ℕ) → i < length ks → sh.oldlist w i ≡ old (get_or ks i 0)
    pub news : (i : ℕ) → i < length ks → sh.newlist w i ≡ new (get_or ks i 0)

  -- The update of job q is decided by job w.
  pub record Settled (q w : ℕ) : Type 0 where
    pub old : ℕ → ℕ
    pub new : ℕ → ℕ
    pub ks : List ℕ
    pub row : RowIs old new ks w
    pub past : Past sh.v (J w)
    pub stocked : Stock (layout plan) (settled_bank (layout plan) new ks sh.bank) (λ x. copy_of (J x))
    pub settling :
        Settling (layout plan) g.mem (exec ((layout plan).ops (sh.trans q)) g.mem 0) old new ks sh.bank
        sh.blk (λ x. copy_of (J x)) w g.done

  -- The clauses of the whole.
  pub record WholeContents : Type 0 where
    pub calm :
        ((q w : ℕ) → sh.stat q ≢ decided w)
        → (g.mem ≡ seen (layout plan) sh.bank sh.blk) × Stock (layout plan) sh.bank (λ x. copy_of (J x))
    pub settled : (q w : ℕ) → sh.stat q ≡ decided w → Settled q w

-- The third layer.
pub record ContentsHold (plan : Plan) (s : State) (g : Ghost) : Type 0 where
  pub whole : WholeContents plan s.sh g s.job
  pub each : (k : ℕ) → JobContents plan s.sh g s.job k (s.job k)
