-- The machine's state as the proofs read it: functions in place of lists, a status by what it means, block contents
-- cut off behind a block's last word, and jobs that the plan does not have as idle ones with block numbers of their
-- own. An item of the step list then changes at most one function at one place. Assumes nothing.
use Prim.Native.Nat.{ℕ, zero, suc, ◌+◌, ◌*◌}
use mathlib.Core.Path.{◌≡◌, refl, sym, ◌∙◌, ap}
use mathlib.Core.Logic.{◌≢◌}
use mathlib.Core.Bool.{Bool, true, false, cond, true≢false, false≢true}
use lib.Dec.{eqb, ltb, eqb-suc-zero}
use lib.IntN.{ℤ, pos, negsuc}
use lib.ListN.{get_or}
use native.Mathlib.Omega.{arith}
use borrow.Author.Tests.{eq-eqb, ne_eqb, eqb-true}
use Rattle.spec_format.specs.Plan.{Plan, tabulate}
use Rattle.spec_machine.specs.declared.Version.{Version}
use Rattle.spec_machine.specs.declared.Working.{Working}
use Rattle.spec_machine.specs.declared.Store.{Store}
use Rattle.spec_machine.specs.declared.Out.{Out}
use Rattle.spec_machine.specs.Status.{same_status, job_named}
use Rattle.spec_machine.specs.Working.{opening}
use Rattle.spec_machine.specs.Steps.{Shared}
use Rattle.spec_machine.specs.Machine.{Machine, shared_in, work_of, copy_blocks}
use Rattle.spec_machine.proofs.ChangedAt.{upd}

-- What a status means: −1, the number of the deciding job, or N.
pub data Status : Type 0 where
  undecided : Status
  decided : ℕ → Status
  finished : Status

-- Whether it is N.
abbrev pub is_finished : Status → Bool
is_finished undecided = false
is_finished (decided w) = false
is_finished finished = true

-- Whether it is −1.
abbrev pub is_undecided : Status → Bool
is_undecided undecided = true
is_undecided (decided w) = false
is_undecided finished = false

-- What a number means as a status, where there are n jobs.
unfoldable pub status_in : ℕ → ℤ → Status
status_in n x = cond (same_status x (negsuc 0)) undecided
    (cond (same_status x (pos n)) finished (decided (job_named x)))

-- Statuses are −1 or no less than 0.
abbrev pub Proper : ℤ → Type 0
Proper (pos w) = Unit {0}
Proper (negsuc zero) = Unit {0}
Proper (negsuc (suc a)) = ⊥

-- The shared cells.
pub record Scene : Type 0 where
  pub v : Version
  pub ann : ℕ → ℕ
  pub stat : ℕ → Status
  pub trans : ℕ → ℕ
  pub bank : ℕ → ℕ
  pub numblks : ℕ → ℕ
  pub addrlist : ℕ → ℕ → ℕ
  pub oldlist : ℕ → ℕ → ℕ
  pub newlist : ℕ → ℕ → ℕ
  pub blk : ℕ → ℕ → ℕ

-- The shared cells and the working records.
pub record State : Type 0 where
  pub sh : Scene
  pub job : ℕ → Working

-- The scene that an item's shared cells show.
abbrev pub showing : Plan → Shared → Scene
showing plan s =
    record {
      v = s.v;
      ann = s.ann;
      stat = λ k. status_in plan.sizes.jobs (s.stat k);
      trans = s.trans;
      bank = s.bank;
      numblks = s.numblks;
      addrlist = s.addrlist;
      oldlist = s.oldlist;
      newlist = s.newlist;
      blk = λ b i. cond (ltb i plan.sizes.words) (s.blk b i) 0;
    }

-- What stands for a job that the plan does not have: idle, its copy numbers past all others.
abbrev pub absent : Plan → ℕ → Working
absent plan k =
    opening
    (tabulate 8
    (λ i. copy_blocks plan + plan.sizes.blocks + (k * plan.sizes.copies + i)))

-- The state of a machine.
unfoldable pub state_in : Plan → Machine → State
state_in plan m =
    record {
      sh = showing plan (shared_in plan m);
      job = λ k. cond (ltb k plan.sizes.jobs) (work_of m k) (absent plan k);
    }

-- The scene with another V.
abbrev pub with_v : Version → Scene → Scene
with_v x s =
    record {
      v = x;
      ann = s.ann;
      stat = s.stat;
      trans = s.trans;
      bank = s.bank;
      numblks = s.numblks;
      addrlist = s.addrlist;
      oldlist = s.oldlist;
      newlist = s.newlist;
      blk = s.blk;
    }

-- With other announcements, statuses and Trans.
abbrev pub with_cells : (ℕ → ℕ) → (ℕ → Status) → (ℕ → ℕ) → Scene → Scene
with_cells ann stat trans s =
    record {
      v = s.v;
      ann = ann;
      stat = stat;
      trans = trans;
      bank = s.bank;
      numblks = s.numblks;
      addrlist = s.addrlist;
      oldlist = s.oldlist;
      newlist = s.newlist;
      blk = s.blk;
    }

-- With another bank.
abbrev pub with_bank : (ℕ → ℕ) → Scene → Scene
with_bank bank s =
    record {
      v = s.v;
      ann = s.ann;
      stat = s.stat;
      trans = s.trans;
      bank = bank;
      numblks = s.numblks;
      addrlist = s.addrlist;
      oldlist = s.oldlist;
      newlist = s.newlist;
      blk = s.blk;
    }

-- With other rows.
abbrev pub with_rows : (ℕ → ℕ) → (ℕ → ℕ → ℕ) → (ℕ → ℕ → ℕ) → (ℕ → ℕ → ℕ) → Scene → Scene
with_rows numblks addrlist oldlist newlist s =
    record {
      v = s.v;
      ann = s.ann;
      stat = s.stat;
      trans = s.trans;
      bank = s.bank;
      numblks = numblks;
      addrlist = addrlist;
      oldlist = oldlist;
      newlist = newlist;
      blk = s.blk;
    }

-- With other contents of the block numbers.
abbrev pub with_blocks : (ℕ → ℕ → ℕ) → Scene → Scene
with_blocks blk s =
    record {
      v = s.v;
      ann = s.ann;
      stat = s.stat;
      trans = s.trans;
      bank = s.bank;
      numblks = s.numblks;
      addrlist = s.addrlist;
      oldlist = s.oldlist;
      newlist = s.newlist;
      blk = blk;
    }

-- The new numbers of job p's row after H22, by place; w is its record.
abbrev pub published : (ℕ → ℕ) → (ℕ → ℕ) → Working → ℕ → ℕ
published addr new w i = cond (ltb i w.numblks) (get_or w.curr (addr i) 0) (new i)

-- The scene after a store of job p, whose record is w.
abbrev pub changed : Plan → ℕ → Working → Store → Scene → Scene
changed plan p w Store.Nothing s = s
changed plan p w (Store.Version n f) s = with_v (record { count = n; flag = f }) s
changed plan p w (Store.Ann r k) s = with_cells (upd s.ann r k) s.stat s.trans s
changed plan p w (Store.Stat k x) s =
    with_cells s.ann (upd s.stat k (status_in plan.sizes.jobs x)) s.trans s
changed plan p w (Store.Trans k u) s = with_cells s.ann s.stat (upd s.trans k u) s
changed plan p w (Store.Listed i a b) s =
    with_rows s.numblks (upd s.addrlist p (upd (s.addrlist p) i a)) (upd s.oldlist p (upd (s.oldlist p) i b))
    s.newlist
    s
changed plan p w (Store.Block from to) s = with_blocks (upd s.blk to (s.blk from)) s
changed plan p w (Store.Word b i x) s = with_blocks (upd s.blk b (upd (s.blk b) i x)) s
changed plan p w Store.Published s =
    with_rows (upd s.numblks p w.numblks) s.addrlist s.oldlist
    (upd s.newlist p (published (s.addrlist p) (s.newlist p) w))
    s
changed plan p w (Store.Bank b n) s = with_bank (upd s.bank b n) s

-- The state after what an item of job p gave.
abbrev pub after : Plan → ℕ → Out → State → State
after plan p o s = record { sh = changed plan p o.work o.store s.sh; job = upd s.job p o.work }

-- The state after a store alone.
abbrev pub onto : Plan → ℕ → Working → Store → State → State
onto plan p w st s = record { sh = changed plan p w st s.sh; job = s.job }

-- Two statuses that are the same by the test are equal.
pub same_true : (x y : ℤ) → same_status x y ≡ true → x ≡ y
same_true (pos a) (pos b) h = ap pos (eqb-true a b h)
same_true (pos a) (negsuc b) h = absurd (false≢true h)
same_true (negsuc a) (pos b) h = absurd (false≢true h)
same_true (negsuc a) (negsuc b) h = ap negsuc (eqb-true a b h)

-- A status is the same as itself.
pub same_refl : (x : ℤ) → same_status x x ≡ true
same_refl (pos a) = eq-eqb a a refl
same_refl (negsuc a) = eq-eqb a a refl

-- The step list's test for N, and what it says of the meaning.
pub finished-is : (n : ℕ) (x : ℤ) → is_finished (status_in n x) ≡ same_status x (pos n)
unfolding status_in
finished-is n (pos w) = go (eqb w n)
  where
    go : (b : Bool) → is_finished (cond b finished (decided w)) ≡ b
    go true = refl
    go false = refl
finished-is n (negsuc zero) = refl
finished-is n (negsuc (suc a)) = rw (eqb-suc-zero a)

-- The step list's test for −1, and what it says of the meaning.
pub undecided-is : (n : ℕ) (x : ℤ) → is_undecided (status_in n x) ≡ same_status x (negsuc 0)
unfolding status_in
undecided-is n (pos w) = go (eqb w n)
  where
    go : (b : Bool) → is_undecided (cond b finished (decided w)) ≡ false
    go true = refl
    go false = refl
undecided-is n (negsuc zero) = refl
undecided-is n (negsuc (suc a)) = rw (eqb-suc-zero a)

-- −1 means undecided.
pub undecided-means : (n : ℕ) → status_in n (negsuc 0) ≡ undecided
unfolding status_in
undecided-means n = refl

-- A job's number means decided by that job.
pub decided-means : (n w : ℕ) → w ≢ n → status_in n (pos w) ≡ decided w
unfolding status_in
decided-means n w h = rw (ne_eqb w n h)

-- N means finished.
pub finished-means : (n : ℕ) → status_in n (pos n) ≡ finished
unfolding status_in
finished-means n = rw (eq-eqb n n refl)

-- What means decided by w is the number w, and not N.
pub decided-from : (n w : ℕ) (x : ℤ) → Proper x → status_in n x ≡ decided w → (x ≡ pos w) × (w ≢ n)
unfolding status_in
decided-from n w (pos y) p e = go (eqb y n) refl e
  where
    go : (b : Bool) → eqb y n ≡ b → cond b finished (decided y) ≡ decided w → (pos y ≡ pos w) × (w ≢ n)
    go true q e = let z : ◌≡◌ {A = ℕ} 0 1 = cc in absurd (omega arith)
    go false q e =
        let z : y ≡ w = cc in (ap pos z, λ f. true≢false (sym (eq-eqb y n (z ∙ f)) ∙ q))
decided-from n w (negsuc zero) p e =
    let z : ◌≡◌ {A = ℕ} 0 1 = cc in absurd (omega arith)
decided-from n w (negsuc (suc a)) p e = absurd p

-- A status is not both decided and finished.
pub decided≢finished : {x : Status} {w : ℕ} → x ≡ decided w → x ≡ finished → ⊥
decided≢finished d f = let z : ◌≡◌ {A = ℕ} 0 1 = cc in omega arith

-- −1 is no job's number.
pub undecided≢decided : {x : Status} {w : ℕ} → x ≡ undecided → x ≡ decided w → ⊥
undecided≢decided u d = let z : ◌≡◌ {A = ℕ} 0 1 = cc in omega arith

-- One job decided.
pub decider-same : {x : Status} {w y : ℕ} → x ≡ decided w → x ≡ decided y → w ≡ y
decider-same d e = cc
