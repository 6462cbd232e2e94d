-- Demand 3, read off the five layers of the invariant. Assumes a plan that is Sound, and the layers of the state that
-- the run reached.
--
-- In plain words. A call is the latest call of an active job, and then the fifth layer says what the history tells of
-- it, or it is closed, and then the fifth layer says the rest. The fourth layer bounds a current call's commits and
-- those that pass it. A call that is decided and uncommitted is a current one whose job's status is a job's number, and
-- by the second layer that job is the chief: so there is one at most. Where there is none, no status is a job's number,
-- because the chief is announced and so active, and its latest call would be decided and uncommitted; then the third
-- layer says that the memory is what is seen through the bank. Where there is one, the third layer says of each block
-- that it has the memory's content, or, once H41 has stored it, the content with the update run whole, which is the
-- update that the call names.
use Prim.Native.Nat.{ℕ, ◌≤◌, ◌<◌, ◌%◌}
use mathlib.Core.Path.{◌≡◌, refl, sym, ◌∙◌, ap, subst}
use mathlib.Core.Logic.{◌≢◌}
use mathlib.Core.Bool.{true, false, true≢false, false≢true}
use mathlib.Core.List.{List}
use native.Mathlib.Decide.{ℕ_discrete}
use native.Mathlib.Omega.{arith}
use lib.ListN.{length}
use borrow.Author.Tests.{lt-ltb}
use Rattle.spec_text.proofs.Cases.{by-test}
use Rattle.spec_format.specs.declared.Entry.{Entry}
use Rattle.spec_format.specs.Plan.{Plan, any, job_in}
use Rattle.spec_format.specs.Sound.{Sound}
use Rattle.spec_machine.specs.Selected.{select}
use Rattle.spec_machine.specs.Memory.{job_of, update_of, moves_of, after_update}
use Rattle.spec_machine.specs.Places.{is_active}
use Rattle.spec_machine.specs.Machine.{Machine, block_in, seen}
use Rattle.spec_machine.specs.History.{Event, announces, commits, returns, commits_in, latest, Run}
use Rattle.spec_machine.specs.Demand3.{is_decided_uncommitted, is_stored, card_of, passing, memory_after, Holds}
use Rattle.spec_machine.proofs.View.{decided, is_finished, State, state_in}
use Rattle.spec_machine.proofs.SmallSteps.{exec, layout}
use Rattle.spec_machine.proofs.Attempts.{settled_bank}
use Rattle.spec_machine.proofs.AttemptSteps.{seen-in}
use Rattle.spec_machine.proofs.Words.{blocks_of, update-whole, content-of}
use Rattle.spec_machine.proofs.Growing.{memory-whole}
use Rattle.spec_machine.proofs.Cards.{
  Phase,
  idle,
  start,
  clear,
  look,
  loop,
  swap,
  awake,
  active-phase,
  second,
  phase,
  announced,
  CardsHold,
}
use Rattle.spec_machine.proofs.Epochs.{EpochsHold}
use Rattle.spec_machine.proofs.Contents.{Ghost, ContentsHold}
use Rattle.spec_machine.proofs.Bypass.{Tally, PhaseHolds, BypassHolds}
use Rattle.spec_machine.proofs.Told.{is_decided, decided-by, announced-taken, Closed, Told}
use Rattle.spec_machine.proofs.Events.{after_none}

-- The words of block b seen through the bank are those of some memory, where the view's are.
content-seen :
    (plan : Plan) (m : Machine) (words : List ℕ) (b : ℕ) → b < plan.sizes.blocks
    → (state_in plan m).sh.blk ((state_in plan m).sh.bank b) ≡ blocks_of plan words b
    → seen plan m b ≡ block_in plan.sizes.words words b
unfolding state_in
content-seen plan m words b h e =
    content-of plan words b h _
    (λ i l. sym (rw (lt-ltb i plan.sizes.words l)) ∙ ap (λ (f : ℕ → ℕ). f i) e)

module _
    {plan : Plan} {es : List Entry} {h : List Event} {s : State} {g : Ghost} {H : Tally}
    (told : Told plan es h s g H) where
  -- A call is the latest of an active job, or closed.
  data Standing : ℕ → Type 0 where
    current : (k : ℕ) → is_active (s.job k).place ≡ true → Standing (latest k h)
    closed : {c : ℕ} → Closed plan es h c → Standing c

  -- Every call is one or the other: it is current only as the latest call of the job that its entry names.
  standing : (c : ℕ) → Standing c
  standing c =
      by-test (is_active (s.job (job_of es c)).place) (λ on. go on (ℕ_discrete (latest (job_of es c) h) c))
      (λ off. closed (told.closed c (λ k on e. false≢true (sym off ∙ rw (named k on e) on))))
    where
      -- the job whose latest call it is, is the one that its entry names
      named : (k : ℕ) → is_active (s.job k).place ≡ true → latest k h ≡ c → job_of es c ≡ k
      named k on e = rw (← e) (told.job-of k (told.has-call k on))

      -- by whether it is that job's latest call
      go : is_active (s.job (job_of es c)).place ≡ true → Dec (latest (job_of es c) h ≡ c) → Standing c
      go on (yes e) = subst Standing e (current (job_of es c) on)
      go on (no n) = closed (told.closed c (λ k a e. n (rw (named k a e) e)))

  -- A call that has returned has committed once.
  returned : (c : ℕ) → any (returns c) h ≡ true → length (select (commits c) h) ≡ 1
  returned c = go (standing c)
    where
      -- by how the call stands
      go : {c : ℕ} → Standing c → any (returns c) h ≡ true → length (select (commits c) h) ≡ 1
      go (current k on) e = absurd (false≢true (sym (told.current k on).not-returned ∙ e))
      go (closed x) e = x.returned e

  -- A call that is the latest of an active job whose status is a job's number.
  record Deciding (c : ℕ) : Type 0 where
    job : ℕ
    winner : ℕ
    active : is_active (s.job job).place ≡ true
    latest-is : latest job h ≡ c
    status : s.sh.stat job ≡ decided winner

  -- A call that is decided and uncommitted is such a one.
  deciding : (c : ℕ) → is_decided_uncommitted h c ≡ true → Deciding c
  deciding c = go (standing c)
    where
      -- by how the call stands
      go : {c : ℕ} → Standing c → is_decided_uncommitted h c ≡ true → Deciding c
      go (current k on) e =
          let d = decided-by (s.sh.stat k) (sym (told.current k on).decided-is ∙ e) in
          record { job = k; winner = d.0; active = on; latest-is = refl; status = d.1 }
      go (closed x) e = absurd (false≢true (sym x.shut ∙ e))

  module _ (bypass : BypassHolds (layout plan) s.sh.v s.sh.ann s.sh.stat s.job H) where
    -- Before its announcement a call of an active job has not committed.
    none_before :
        (k : ℕ) (ph : Phase) → awake ph ≡ true → announced ph ≡ false
        → PhaseHolds (layout plan) s.sh.v s.sh.ann s.sh.stat H k ph → H.committed k ≡ 0
    none_before k idle a e x = absurd (false≢true a)
    none_before k start a e x = x
    none_before k clear a e x = absurd (true≢false e)
    none_before k (look true) a e x = absurd (true≢false e)
    none_before k (look false) a e x = bypass.none_yet k x
    none_before k (loop true) a e x = absurd (true≢false e)
    none_before k (loop false) a e x = bypass.none_yet k x
    none_before k (swap true) a e x = absurd (true≢false e)
    none_before k (swap false) a e x = bypass.none_yet k x

    -- The call of an active job has committed at most once.
    committed-once : (k : ℕ) → is_active (s.job k).place ≡ true → H.committed k ≤ 1
    committed-once k on =
        by-test (announced (phase (s.job k)))
        (λ a.
        by-test (is_finished (s.sh.stat k)) (λ f. omega (arith, bypass.once k a f))
        (λ f. omega (arith, bypass.none_yet k f)))
        (λ a.
        omega (
          arith,
          none_before k (phase (s.job k)) (sym (active-phase (second (s.job k)) (s.job k).place) ∙ on) a
              (bypass.parts k),
        ))

    -- A call has committed at most once.
    once : (c : ℕ) → length (select (commits c) h) ≤ 1
    once c = go (standing c)
      where
        -- by how the call stands
        go : {c : ℕ} → Standing c → length (select (commits c) h) ≤ 1
        go (current k on) = omega (arith, (told.current k on).commits-are, committed-once k on)
        go (closed x) = x.once

    -- Each other card has passed a call once at most.
    passed : (c card : ℕ) → card ≢ card_of plan es c → length (passing plan es h c card) ≤ 1
    passed c card = go (standing c)
      where
        -- by how the call stands
        go : {c : ℕ} → Standing c → card ≢ card_of plan es c → length (passing plan es h c card) ≤ 1
        go (current k on) n =
            let own : card ≢ (job_in plan k).card =
            λ e. n (e ∙ ap (λ (j : ℕ). (job_in plan j).card) (sym (told.job-of k (told.has-call k on)))) in
            by-test (announced (phase (s.job k)))
            (λ a. omega (arith, (told.current k on).passing-are a card own, bypass.bound k card a own))
            (λ a.
            rw (after_none (announces (latest k h)) h ((told.current k on).announced-is ∙ a)) (omega arith))
        go (closed x) n = x.passed card n

  module _ (cards : CardsHold (layout plan) s) (epochs : EpochsHold (layout plan) s) where
    -- At most one call is decided and uncommitted.
    single : (c d : ℕ) → is_decided_uncommitted h c ≡ true → is_decided_uncommitted h d ≡ true → c ≡ d
    single c d e f =
        let x = deciding c e in
        let y = deciding d f in
        sym x.latest-is
        ∙ ap (λ (k : ℕ). latest k h)
        ((epochs.whole.one x.job x.winner x.status).1
        ∙ sym (epochs.whole.one y.job y.winner y.status).1)
        ∙ y.latest-is

    -- A job whose status is a job's number is announced.
    decided-announced : (q w : ℕ) → s.sh.stat q ≡ decided w → announced (phase (s.job q)) ≡ true
    decided-announced q w e =
        let x = epochs.whole.one q w e in
        let chief = cards.whole.named-announced (s.sh.v.count % plan.sizes.cards) (epochs.whole.named x.0)
        in
        rw x.1 chief.1

    -- Where no call is decided and uncommitted, no status is a job's number.
    pub none-decided : ((c : ℕ) → is_decided_uncommitted h c ≡ false) → (q w : ℕ) → s.sh.stat q ≢ decided w
    none-decided none q w e =
        false≢true
        (sym (none (latest q h))
        ∙ (told.current q (cards.whole.announced-active q (decided-announced q w e))).decided-is
        ∙ ap is_decided e)

    -- A decided job's Trans is the update that its call names.
    update-is : (c : ℕ) (x : Deciding c) → s.sh.trans x.job ≡ update_of es c
    update-is c x =
        told.trans-of x.job
        (announced-taken (second (s.job x.job)) (s.job x.job).place
        (decided-announced x.job x.winner x.status))
        ∙ sym (told.update-of x.job x.active)
        ∙ ap (update_of es) x.latest-is

    module _ (contents : ContentsHold plan s g) where
      -- Where no call is decided and uncommitted, each block seen through the bank has the memory's content.
      settled-block :
          ((c : ℕ) → is_decided_uncommitted h c ≡ false) → (b : ℕ) → b < plan.sizes.blocks
          → s.sh.blk (s.sh.bank b) ≡ blocks_of plan (memory_after plan es h) b
      settled-block none b l =
          sym (seen-in (layout plan) s.sh.bank s.sh.blk b l)
          ∙ ap (λ (m : ℕ → ℕ → ℕ). m b) (sym (contents.whole.calm (none-decided none)).0 ∙ told.memory)

      -- Where one is, a block that H41 has not stored since its deciding has the memory's content.
      kept_block :
          (c b : ℕ) → is_decided_uncommitted h c ≡ true → b < plan.sizes.blocks → is_stored h c b ≡ false
          → s.sh.blk (s.sh.bank b) ≡ blocks_of plan (memory_after plan es h) b
      kept_block c b e l n =
          let x = deciding c e in
          (contents.whole.settled x.job x.winner x.status).settling.unstored b l
          (sym (told.stored-are x.job x.winner x.status b)
          ∙ subst (λ (d : ℕ). is_stored h d b ≡ false) (sym x.latest-is) n)
          ∙ ap (λ (m : ℕ → ℕ → ℕ). m b) told.memory

      -- And a block that H41 has stored since has the content with the update run whole.
      stored-block :
          Sound plan → (c b : ℕ) → is_decided_uncommitted h c ≡ true → b < plan.sizes.blocks → is_stored h c b ≡ true
          → s.sh.blk (s.sh.bank b)
          ≡ blocks_of plan (after_update (memory_after plan es h) (moves_of plan.updates es c)) b
      stored-block ok c b e l n =
          let x = deciding c e in
          let z = contents.whole.settled x.job x.winner x.status in
          let d : g.done b ≡ true =
          sym (told.stored-are x.job x.winner x.status b)
          ∙ subst (λ (d : ℕ). is_stored h d b ≡ true) (sym x.latest-is) n in
          let t = z.settling.stored b d in
          let v : s.sh.bank b ≡ settled_bank (layout plan) z.new z.ks s.sh.bank b = rw t.0 t.1 in
          ap s.sh.blk v
          ∙ sym (seen-in (layout plan) (settled_bank (layout plan) z.new z.ks s.sh.bank) s.sh.blk b l)
          ∙ ap (λ (m : ℕ → ℕ → ℕ). m b)
          (z.settling.goal-seen
          ∙ ap (λ (m : ℕ → ℕ → ℕ). exec ((layout plan).ops (s.sh.trans x.job)) m 0) told.memory
          ∙ ap (λ (u : ℕ). exec ((layout plan).ops u) (blocks_of plan (memory_after plan es h)) 0) (update-is c x)
          ∙ update-whole ok (update_of es c) (memory_after plan es h) (memory-whole ok es (commits_in h) (length es)))

-- What demand 3 says of a run, where the layers hold of its state and history.
pub holds_of :
    (plan : Plan) → Sound plan → (es : List Entry) (r : Run) (g : Ghost) (H : Tally)
    → CardsHold (layout plan) (state_in plan r.machine)
    → EpochsHold (layout plan) (state_in plan r.machine)
    → ContentsHold plan (state_in plan r.machine) g
    → BypassHolds (layout plan) (state_in plan r.machine).sh.v (state_in plan r.machine).sh.ann
    (state_in plan r.machine).sh.stat
    (state_in plan r.machine).job
    H
    → Told plan es r.history (state_in plan r.machine) g H
    → Holds plan es r
holds_of plan ok es r g H cards epochs contents bypass told =
    record {
      once = once told bypass;
      announced = told.announced-first;
      returned = returned told;
      single = single told cards epochs;
      settled =
          λ none b l.
          content-seen plan r.machine (memory_after plan es r.history) b l
          (settled-block told cards epochs contents none b l);
      kept =
          λ c b e l n.
          content-seen plan r.machine (memory_after plan es r.history) b l
          (kept_block told cards epochs contents c b e l n);
      stored =
          λ c b e l n.
          content-seen plan r.machine
          (after_update (memory_after plan es r.history) (moves_of plan.updates es c))
          b
          l
          (stored-block told cards epochs contents ok c b e l n);
      passed = passed told bypass;
    }
