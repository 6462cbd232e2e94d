-- The fifth layer is kept: at the opening, by one more entry, by an accepted call, and by every item of the step list.
--
-- In plain words. Most items tell nothing: their event announces, decides, stores, commits and returns nothing, and
-- what the relation reads of the state stays. A1 stores the update that the call names, A2 turns a status from N to −1.
-- The first A14 announces the running job's call, which nobody has passed yet; the second A14 changes nothing that is
-- told; A15 closes the call, which has committed once. H25 done decides, and H42 done commits, the chief's call: the
-- chief is announced, so it is active, and its latest call is current; and no other active job has that call. H41 done
-- stores a block of the one update that is decided. At H42 done the one-after-another memory runs the update that the
-- call names, which is the one that Trans has of the chief; and the commit passes exactly the announced calls whose
-- status is not N.
--
-- Assumes the first, second and fourth layers, and of the plan that it is accepted.
use Prim.Native.Nat.{ℕ, ◌+◌, ◌%◌, ◌≤◌, ◌<◌}
use mathlib.Core.Path.{◌≡◌, refl, sym, ◌∙◌, ap, subst}
use mathlib.Core.Logic.{◌≢◌, ◌⊎◌, inl, inr}
use mathlib.Core.Bool.{Bool, true, false, cond, ◌&&◌, ◌||◌, and-false, or-true, or-false, true≢false, false≢true}
use mathlib.Core.List.{List, [], ◌∷◌, ◌++◌}
use lib.Dec.{eqb}
use lib.IntN.{ℤ, pos, negsuc}
use lib.ListN.{length, get_or}
use native.Mathlib.Omega.{arith}
use native.Mathlib.Nat.{le_refl}
use native.Mathlib.Decide.{ℕ_discrete, dec_lt}
use borrow.Author.Tests.{eqb-true, eq-eqb, ne_eqb}
use Rattle.spec_text.proofs.Cases.{by-test, neither}
use Rattle.spec_format.specs.declared.Entry.{Entry}
use Rattle.spec_format.specs.Plan.{Plan, any, job_in}
use Rattle.spec_format.specs.Sound.{Sound}
use Rattle.spec_machine.specs.declared.Stage.{Stage}
use Rattle.spec_machine.specs.declared.Place.{Place}
use Rattle.spec_machine.specs.declared.Version.{Version}
use Rattle.spec_machine.specs.declared.Working.{Working}
use Rattle.spec_machine.specs.declared.Store.{Store}
use Rattle.spec_machine.specs.declared.Out.{Out}
use Rattle.spec_machine.specs.Memory.{job_of, update_of, memory}
use Rattle.spec_machine.specs.Places.{is_active}
use Rattle.spec_machine.specs.Status.{same_status}
use Rattle.spec_machine.specs.Moves.{block, offset, move, word_written}
use Rattle.spec_machine.specs.Working.{goto, called, with_round, taking, with_word}
use Rattle.spec_machine.specs.Steps.{
  Shared,
  quiet,
  storing,
  doing,
  same_version,
  may_decide,
  may_commit,
  item,
  stage,
}
use Rattle.spec_machine.specs.History.{
  Event,
  did,
  announces,
  decides,
  stores,
  commits,
  is_commit,
  commits_in,
  latest,
  call_event,
  item_event,
}
use Rattle.spec_machine.specs.Demand3.{is_decided_uncommitted, is_stored, card_of, passing, memory_after}
use Rattle.spec_machine.proofs.ChangedAt.{upd, upd_same, upd_other, upd-at, upd-elim, upd-map}
use Rattle.spec_machine.proofs.View.{
  Status,
  undecided,
  decided,
  finished,
  is_finished,
  is_undecided,
  status_in,
  Scene,
  State,
  showing,
  with_cells,
  changed,
  after,
  same_true,
  undecided-is,
  undecided-means,
  decided-means,
  finished-means,
  decided≢finished,
}
use Rattle.spec_machine.proofs.ListMachine.{opening_state, opened}
use Rattle.spec_machine.proofs.SmallSteps.{exec, layout}
use Rattle.spec_machine.proofs.Words.{blocks_of, update-whole}
use Rattle.spec_machine.proofs.Growing.{
  length_more,
  job-before,
  job-last,
  update-before,
  update-last,
  Within,
  no-commit,
  within_more,
  within-idle,
  within-commit,
  memory-whole,
  memory-after-idle,
  memory-after-commit,
}
use Rattle.spec_machine.proofs.Tests.{
  shut-test,
  test,
  onward-elim,
  store-elim,
  begin-elim,
  and_l,
  and_r,
  same_version_lem,
}
use Rattle.spec_machine.proofs.Cards.{second, phase, announced, board, Runs, CardsHold}
use Rattle.spec_machine.proofs.Epochs.{kind, winner_of, Widened, HelpHolds, chief, EpochsHold}
use Rattle.spec_machine.proofs.Contents.{Ghost, ghost_stat, ghost}
use Rattle.spec_machine.proofs.Counts.{target}
use Rattle.spec_machine.proofs.Bypass.{Tally, tally_stat, tally, tally_call, BypassHolds}
use Rattle.spec_machine.proofs.Told.{
  is_decided,
  decided-by,
  Taken,
  announced-taken,
  Unused,
  Telling,
  Agrees,
  Closed,
  Told,
}
use Rattle.spec_machine.proofs.Events.{
  length_last,
  none_passes,
  after_none,
  latest-same,
  latest-last,
  commit_of,
  commits-out,
  commits-last,
  card-before,
  passing-before,
}
use Rattle.spec_machine.proofs.Telling.{
  Quiet,
  unused-same,
  first-same,
  stored_same,
  stored_more,
  stored-none,
  tells-nothing,
  tells-same,
  tells-passed,
  tells-announced,
  tells-again,
  tells-decided,
  tells-committed,
  closed-returned,
  closed_same,
}

-- An idle job is not active.
not-active : (a : Place) → a ≡ Place.Idle → is_active a ≡ true → ⊥
not-active a e y = false≢true (rw e at y)

-- What is N is no job's number.
finished-not : (x : Status) → is_finished x ≡ true → is_decided x ≡ false
finished-not undecided y = refl
finished-not (decided w) y = absurd (false≢true y)
finished-not finished y = refl

-- What is −1 is no job's number, and not N.
undecided-not : (x : Status) → is_undecided x ≡ true → (is_decided x ≡ false) × (is_finished x ≡ false)
undecided-not undecided y = (refl, refl)
undecided-not (decided w) y = absurd (false≢true y)
undecided-not finished y = absurd (false≢true y)

-- The opening: nothing has happened.
pub told-opening :
    (plan : Plan) → Sound plan → (g : Ghost) (H : Tally) → g.mem ≡ blocks_of plan plan.words
    → Told plan [] [] (opening_state plan) g H
unfolding memory
told-opening plan ok g H m =
    record {
      short = omega arith;
      latest-in = λ k. omega arith;
      job-of = λ k n. absurd (n refl);
      has-call = λ k y. absurd (off k y);
      update-of = λ k y. absurd (off k y);
      trans-of = λ k t. absurd (rw ((opened plan ok).idle k) at t);
      unused =
          λ c _. record { not-announced = refl; not-decided = refl; not-committed = refl; not-returned = refl };
      current = λ k y. absurd (off k y);
      closed =
          λ c _.
          record {
            once = omega arith;
            returned = λ y. absurd (false≢true y);
            shut = refl;
            sealed = λ y. absurd (false≢true y);
            passed = λ r _. omega arith;
          };
      announced-first = λ c. refl;
      within = no-commit;
      memory = m;
      stored-are = λ q w d. absurd (decided≢finished d ((opened plan ok).settled q));
    }
  where
    off : (k : ℕ) → is_active ((opening_state plan).job k).place ≡ true → ⊥
    off k = not-active ((opening_state plan).job k).place ((opened plan ok).idle k)

module _
    (plan : Plan) (es : List Entry) (h : List Event) (s : State) (g : Ghost) (H : Tally) (T : Told plan es h s g H)
  where
    -- The latest call of a job that has one is among the entries that the history tells of.
    call-in : (k : ℕ) → latest k h ≢ 0 → (1 ≤ latest k h) × (latest k h ≤ length h)
    call-in k n = let l : latest k h ≤ length h = T.latest-in k in (omega arith, l)

    -- One more entry that the history does not tell of.
    pub told_more : (e : Entry) → Told plan (es ++ (e ∷ [])) h s g H
    told_more e =
        record {
          short = omega (arith, T.short, length_more es e);
          latest-in = T.latest-in;
          job-of = λ k n. job-before es e (latest k h) (call-in k n).0 (in-entries k n) ∙ T.job-of k n;
          has-call = T.has-call;
          update-of =
              λ k y.
              let n : latest k h ≢ 0 = T.has-call k y in
              update-before es e (latest k h) (call-in k n).0 (in-entries k n) ∙ T.update-of k y;
          trans-of = T.trans-of;
          unused = T.unused;
          current = λ k y. current k (T.current k y);
          closed = λ c o. closed c (T.closed c o);
          announced-first = T.announced-first;
          within = T.within;
          memory =
              T.memory
              ∙ ap (blocks_of plan)
              (sym
              (memory-after-idle plan.words plan.updates es e (commits_in h)
              (within_more T.within (length es) T.short)));
          stored-are = T.stored-are;
        }
      where
        in-entries : (k : ℕ) → latest k h ≢ 0 → latest k h ≤ length es
        in-entries k n = omega (arith, (call-in k n).1, T.short)

        passing-same : (c r : ℕ) → passing plan (es ++ (e ∷ [])) h c r ≡ passing plan es h c r
        passing-same = passing-before (length h) plan es e T.short h T.within

        current : (k : ℕ) → Agrees plan es h (latest k h) s H k → Agrees plan (es ++ (e ∷ [])) h (latest k h) s H k
        current k K =
            record {
              not-returned = K.not-returned;
              announced-is = K.announced-is;
              decided-is = K.decided-is;
              commits-are = K.commits-are;
              passing-are = λ y r o. rw (passing-same (latest k h) r) (K.passing-are y r o);
            }

        -- the card of a call is the same, and nobody has passed what is no call of the history
        passed :
            (c : ℕ) → Closed plan es h c → (r : ℕ) → r ≢ card_of plan (es ++ (e ∷ [])) c
            → length (passing plan (es ++ (e ∷ [])) h c r) ≤ 1
        passed c K r o = rw (passing-same c r) (go (ℕ_discrete c 0) (dec_lt (length h) c))
          where
            none : Unused h c → length (passing plan es h c r) ≤ 1
            none u = rw (after_none (announces c) h u.not-announced) (omega arith)

            go : Dec (c ≡ 0) → Dec (length h < c) → length (passing plan es h c r) ≤ 1
            go (yes z) y = none (T.unused c (inl z))
            go (no n) (yes y) = none (T.unused c (inr y))
            go (no n) (no m) =
                K.passed r
                (λ z. o (z ∙ sym (card-before (length h) plan es e T.short c (omega arith) (omega arith))))

        closed : (c : ℕ) → Closed plan es h c → Closed plan (es ++ (e ∷ [])) h c
        closed c K =
            record { once = K.once; returned = K.returned; shut = K.shut; sealed = K.sealed; passed = passed c K }

    -- The memory after an event that commits nothing.
    memory-same : (e : Event) → is_commit e ≡ false → g.mem ≡ blocks_of plan (memory_after plan es (h ++ (e ∷ [])))
    memory-same e n =
        T.memory
        ∙ ap (λ cs. blocks_of plan (memory plan.words plan.updates es cs (length es))) (sym (commits-out h e n))

    -- The commits after an event that commits nothing.
    within_same : (e : Event) → is_commit e ≡ false → Within (length (h ++ (e ∷ []))) (commits_in (h ++ (e ∷ [])))
    within_same e n = rw (commits-out h e n, length_last h e) (within-idle T.within)

module _
    (plan : Plan) (es : List Entry) (h : List Event) (s : State) (g : Ghost) (H : Tally) (e : Entry) (j u : ℕ) where
  -- The entries, the history and the working records after an accepted call of job j with update u.
  abbrev entries : List Entry
  entries = es ++ (e ∷ [])

  -- The history after the call.
  abbrev with_call : List Event
  with_call = h ++ (call_event h j ∷ [])

  -- The working records after it.
  abbrev with-called : ℕ → Working
  with-called = upd s.job j (called u (s.job j))

  -- A call speaks of no call as announced, decided, committed or returned.
  call-quiet : (c : ℕ) → Quiet (call_event h j) c
  call-quiet c = record { not-announced = refl; not-decided = refl; not-committed = refl; not-returned = refl }

  -- Another job's latest call stays.
  other-latest : (k : ℕ) → k ≢ j → latest k with_call ≡ latest k h
  other-latest k n = latest-same k h (call_event h j) (ne_eqb j k (λ z. n (sym z)))

  -- What holds of job j with the new call, and of the others with their latest calls, holds of all.
  split :
      (Q : ℕ → ℕ → Working → Type 0) → Q j (length h + 1) (called u (s.job j))
      → ((k : ℕ) → k ≢ j → Q k (latest k h) (s.job k)) → (k : ℕ) → Q k (latest k with_call) (with-called k)
  split Q a b k = go (ℕ_discrete k j)
    where
      go : Dec (k ≡ j) → Q k (latest k with_call) (with-called k)
      go (yes z) =
          rw (
            z,
            latest-last j h (call_event h j) (eq-eqb j j refl),
            upd_same s.job j (called u (s.job j)),
          )
          a
      go (no n) = rw (other-latest k n, upd_other s.job j (called u (s.job j)) k n) (b k n)

  -- An accepted call.
  pub told-call :
      Told plan es h s g H → length h ≡ length es → e.first ≡ j → e.second ≡ u → (s.job j).place ≡ Place.Idle
      → CardsHold (layout plan) s
      → Told plan entries with_call (record { sh = s.sh; job = with-called }) g (tally_call j H)
  told-call T₀ len ej eu off C =
      record {
        short = omega (arith, len, length_last h (call_event h j), length_more es e);
        latest-in =
            split (λ k c w. c ≤ length with_call) (rw (length_last h (call_event h j)) (le_refl (length h + 1)))
            (λ k _. omega (arith, T.latest-in k, length_last h (call_event h j)));
        job-of =
            split (λ k c w. c ≢ 0 → job_of entries c ≡ k) (λ _. job-last es e (length h + 1) (rw len) ∙ ej)
            (λ k _. T.job-of k);
        has-call =
            split (λ k c w. is_active w.place ≡ true → c ≢ 0) (λ _ z. omega arith) (λ k _. T.has-call k);
        update-of =
            split (λ k c w. is_active w.place ≡ true → update_of entries c ≡ w.update)
            (λ _. update-last es e (length h + 1) (rw len) ∙ eu)
            (λ k _. T.update-of k);
        trans-of =
            split (λ k c w. Taken w.place → s.sh.trans k ≡ w.update) (λ t. absurd t) (λ k _. T.trans-of k);
        unused = λ c o. unused-same h (call_event h j) c (T.unused c (later c o)) (call-quiet c);
        current = split Kept mine others;
        closed = λ c o. closed_same plan entries h (call_event h j) c (T.closed c (before c o)) (call-quiet c);
        announced-first = λ c. first-same h (call_event h j) c (T.announced-first c) (λ _. refl);
        within = within_same plan entries h s g H T (call_event h j) refl;
        memory = memory-same plan entries h s g H T (call_event h j) refl;
        stored-are =
            λ q w d.
            split (λ k c x. is_decided (s.sh.stat k) ≡ true → (b : ℕ) → is_stored with_call c b ≡ g.done b)
            (λ y. absurd (false≢true (sym fin ∙ y)))
            (λ k _ y b.
            stored_same h (call_event h j) (latest k h) b refl
            ∙ T.stored-are k (decided-by _ y).0 (decided-by _ y).1 b)
            q
            (ap is_decided d);
      }
    where
      T : Told plan entries h s g H
      T = told_more plan es h s g H T₀ e

      fin : is_decided (s.sh.stat j) ≡ false
      fin = finished-not (s.sh.stat j) (rw off at (C.each j))

      up : (k : ℕ) → is_active (s.job k).place ≡ true → k ≢ j
      up k y z = not-active (s.job j).place off (rw z at y)

      Kept : ℕ → ℕ → Working → Type 0
      Kept k c w =
          is_active w.place ≡ true
          → Telling plan entries with_call c (announced (phase w)) (is_decided (s.sh.stat k))
          ((tally_call j H).committed k)
          (H.passed k)
          (job_in plan k).card

      mine : Kept j (length h + 1) (called u (s.job j))
      mine _ =
          rw (fin, upd_same H.committed j 0)
          (tells-same plan entries h (call_event h j) (length h + 1)
          (tells-nothing plan entries h (length h + 1) (T.unused (length h + 1) (inr (omega arith))) (H.passed j)
          (job_in plan j).card)
          (call-quiet (length h + 1))
          refl)

      others : (k : ℕ) → k ≢ j → Kept k (latest k h) (s.job k)
      others k n y =
          rw (upd_other H.committed j 0 k n)
          (tells-same plan entries h (call_event h j) (latest k h) (T.current k y)
          (call-quiet (latest k h))
          refl)

      before :
          (c : ℕ) → ((k : ℕ) → is_active (with-called k).place ≡ true → latest k with_call ≢ c)
          → (k : ℕ) → is_active (s.job k).place ≡ true → latest k h ≢ c
      before c o k y z =
          o k (rw (upd_other s.job j (called u (s.job j)) k (up k y)) y) (other-latest k (up k y) ∙ z)

      later : (c : ℕ) → (c ≡ 0) ⊎ (length with_call < c) → (c ≡ 0) ⊎ (length h < c)
      later c (inl z) = inl z
      later c (inr l) =
          let n : length with_call ≡ length h + 1 = length_last h (call_event h j) in inr (omega arith)

-- The event decides or commits a call.
abbrev settles : Event → Bool
settles x = (did 25 x && x.done) || is_commit x

-- The event is an A14, an A15, or an H25, H41 or H42 done.
abbrev tells : Event → Bool
tells x = (did 14 x || did 15 x) || ((did 41 x && x.done) || settles x)

-- An item of the running job p.
module _
    (plan : Plan) (ok : Sound plan) (es : List Entry) (entry : Entry) (h : List Event) (len : length h ≡ length es)
    (sh : Shared) (job : ℕ → Working) (g : Ghost) (H : Tally)
    (T₀ : Told plan es h (record { sh = showing plan sh; job = job }) g H)
    (C : CardsHold (layout plan) (record { sh = showing plan sh; job = job }))
    (D : EpochsHold (layout plan) (record { sh = showing plan sh; job = job }))
    (I : BypassHolds (layout plan) sh.v sh.ann (showing plan sh).stat job H) (p : ℕ)
    (R : Runs (layout plan) (board (record { sh = showing plan sh; job = job })) p) where
  -- The state before.
  abbrev s : State
  s = record { sh = showing plan sh; job = job }

  -- The entries after.
  abbrev more : List Entry
  more = es ++ (entry ∷ [])

  -- The job that p helps.
  abbrev helped : ℕ
  helped = (job p).hid

  -- The event of what the item at a place gave.
  abbrev event : Place → Out → Event
  event a o = item_event h p (goto a (job p)) o

  -- The history after the event.
  abbrev behind : Place → Out → List Event
  behind a o = h ++ (event a o ∷ [])

  -- The layer before the item, with the entry that the history is about to tell of.
  T : Told plan more h s g H
  T = told_more plan es h s g H T₀ entry

  -- What the item gives is told. A record, so that the outcome can be read off the goal.
  pub record Good (a : Place) (o : Out) : Type 0 where
    pub kept :
        Told plan more (behind a o) (after plan p o s) (ghost plan s.sh o.store g)
        (tally plan s.sh p o.store H)

  -- What the history after the item tells of job k's latest call agrees with a scene, with the working records before
  -- and with what is counted.
  abbrev Still : Place → Out → Scene → Tally → ℕ → Type 0
  Still a o sc H' k = Agrees plan more (behind a o) (latest k h) (record { sh = sc; job = job }) H' k

  -- What the history after the item tells of the commits, of the memory, and of the blocks stored since the deciding.
  record Recalled (a : Place) (o : Out) (S : ℕ → Status) (g' : Ghost) : Type 0 where
    within : Within (length (behind a o)) (commits_in (behind a o))
    memory : g'.mem ≡ blocks_of plan (memory_after plan more (behind a o))
    stored-are : (q x : ℕ) → S q ≡ decided x → (b : ℕ) → is_stored (behind a o) (latest q h) b ≡ g'.done b

  -- Active jobs with one latest call are one job.
  one-job :
      (k q : ℕ) → is_active (job k).place ≡ true → is_active (job q).place ≡ true → latest k h ≡ latest q h → k ≡ q
  one-job k q y z w = sym (T.job-of k (T.has-call k y)) ∙ ap (job_of more) w ∙ T.job-of q (T.has-call q z)

  -- The card of an active job's latest call is the job's.
  call-card : (k : ℕ) → is_active (job k).place ≡ true → card_of plan more (latest k h) ≡ (job_in plan k).card
  call-card k y = ap (λ (q : ℕ). (job_in plan q).card) (T.job-of k (T.has-call k y))

  -- Where Trans stays and p is past A1, a job past A1 has its update in Trans still.
  trans-kept :
      (trans : ℕ → ℕ) (w : Working) → trans ≡ sh.trans → w.update ≡ (job p).update → Taken (job p).place
      → (k : ℕ) → Taken (upd job p w k).place → trans k ≡ (upd job p w k).update
  trans-kept trans w et keeps t k =
      rw et
      (upd-elim (λ (x : Working). Taken x.place → sh.trans k ≡ x.update) job p w k
      (λ z _. rw (z, keeps) (T.trans-of p t))
      (λ _. T.trans-of k))

  module _
      (a : Place) (o : Out) (help : settles (event a o) ≡ true → announced (phase (job helped)) ≡ true) where
    -- Where the event decides or commits, the job helped is active.
    up-helped : settles (event a o) ≡ true → is_active (job helped).place ≡ true
    up-helped t = C.whole.announced-active helped (help t)

    -- The event speaks of the latest calls of p and of the job helped alone.
    quiet_of :
        (c : ℕ) → latest p h ≢ c → (is_active (job helped).place ≡ true → latest helped h ≢ c) → Quiet (event a o) c
    quiet_of c n m =
        record {
          not-announced = rw (ne_eqb (latest p h) c n) (and-false (did 14 (event a o)));
          not-decided =
              by-test (did 25 (event a o) && o.done)
              (λ t.
              rw (ne_eqb (latest helped h) c (m (up-helped (rw t)))) (and-false (did 25 (event a o) && o.done)))
              (λ t. rw t);
          not-committed =
              by-test (is_commit (event a o))
              (λ t.
              rw (ne_eqb (latest helped h) c (m (up-helped (rw t (or-true (did 25 (event a o) && o.done))))))
              (and-false (is_commit (event a o))))
              (λ t. rw t);
          not-returned = rw (ne_eqb (latest p h) c n) (and-false (did 15 (event a o)));
        }

    module _
        (sc : Scene) (w : Working) (g' : Ghost) (H' : Tally) (keeps : w.update ≡ (job p).update)
        (here : did 0 (event a o) ≡ false) where
      -- The scene, and the working records with p's new one.
      abbrev s' : State
      s' = record { sh = sc; job = upd job p w }

      -- Who is active was active.
      was-active : (k : ℕ) → is_active (s'.job k).place ≡ true → is_active (job k).place ≡ true
      was-active k =
          upd-elim (λ (x : Working). is_active x.place ≡ true → is_active (job k).place ≡ true) job p w k
          (λ z _. rw z R.up)
          (λ _ y. y)

      -- The latest calls stay.
      same-latest : (k : ℕ) → latest k (behind a o) ≡ latest k h
      same-latest k = latest-same k h (event a o) (rw here)

      -- The layer after the item, from its parts.
      build :
          ((k : ℕ) → Taken (s'.job k).place → sc.trans k ≡ (s'.job k).update)
          → ((k : ℕ) → is_active (s'.job k).place ≡ true → is_active (job k).place ≡ true
          → Agrees plan more (behind a o) (latest k h) s' H' k)
          → (is_active w.place ≡ false → Closed plan more (behind a o) (latest p h))
          → Recalled a o sc.stat g' → Told plan more (behind a o) s' g' H'
      build trans current leaves recalled =
          record {
            short = omega (arith, len, length_last h (event a o), length_more es entry);
            latest-in = λ k. rw (same-latest k) (omega (arith, T.latest-in k, length_last h (event a o)));
            job-of = λ k. rw (same-latest k) (T.job-of k);
            has-call = λ k y. rw (same-latest k) (T.has-call k (was-active k y));
            update-of =
                λ k y.
                rw (same-latest k)
                (T.update-of k (was-active k y) ∙ sym (upd-map (λ (x : Working). x.update) job p w k keeps));
            trans-of = trans;
            unused =
                λ c u.
                unused-same h (event a o) c (T.unused c (outside c u).0)
                (quiet_of c ((outside c u).1 p R.up) ((outside c u).1 helped));
            current = λ k y. rw (same-latest k) (current k y (was-active k y));
            closed =
                λ c m.
                by-test (is_active w.place)
                (λ t. closed c (alive c m (rw (same-latest p) at (m p (rw (upd_same job p w) t)))))
                (λ t. gone c m t (ℕ_discrete (latest p h) c));
            announced-first = λ c. first-same h (event a o) c (T.announced-first c) (after-all c);
            within = recalled.within;
            memory = recalled.memory;
            stored-are = λ q x d b. rw (same-latest q) (recalled.stored-are q x d b);
          }
        where
          -- what is no call, or one to come, was so, and is no active job's latest call
          outside :
              (c : ℕ) → (c ≡ 0) ⊎ (length (behind a o) < c)
              → ((c ≡ 0) ⊎ (length h < c)) × ((k : ℕ) → is_active (job k).place ≡ true → latest k h ≢ c)
          outside c (inl z) = (inl z, λ k y q. T.has-call k y (q ∙ z))
          outside c (inr l) = (
            inr (omega (arith, l, length_last h (event a o))),
            λ k y q. omega (arith, l, q, T.latest-in k, length_last h (event a o)),
          )

          -- a call that is nobody's current one after the event, and not p's, was nobody's
          alive :
              (c : ℕ) → ((k : ℕ) → is_active (s'.job k).place ≡ true → latest k (behind a o) ≢ c)
              → latest p h ≢ c → (k : ℕ) → is_active (job k).place ≡ true → latest k h ≢ c
          alive c m n k y = go (ℕ_discrete k p)
            where
              go : Dec (k ≡ p) → latest k h ≢ c
              go (yes z) = rw z n
              go (no z) = rw (same-latest k) at (m k (rw (upd_other job p w k z) y))

          closed :
              (c : ℕ) → ((k : ℕ) → is_active (job k).place ≡ true → latest k h ≢ c)
              → Closed plan more (behind a o) c
          closed c n =
              closed_same plan more h (event a o) c (T.closed c n) (quiet_of c (n p R.up) (n helped))

          gone :
              (c : ℕ) → ((k : ℕ) → is_active (s'.job k).place ≡ true → latest k (behind a o) ≢ c)
              → is_active w.place ≡ false → Dec (latest p h ≡ c) → Closed plan more (behind a o) c
          gone c m t (yes z) = subst (λ x. Closed plan more (behind a o) x) z (leaves t)
          gone c m t (no z) = closed c (alive c m z)

          -- what is committed is announced
          after-all : (c : ℕ) → any (announces c) h ≡ false → commits c (event a o) ≡ false
          after-all c t =
              by-test (is_commit (event a o))
              (λ m.
              by-test (eqb (latest helped h) c) (λ z. absurd (wrong m z))
              (λ z. rw z (and-false (is_commit (event a o)))))
              (λ m. rw m)
            where
              wrong : is_commit (event a o) ≡ true → eqb (latest helped h) c ≡ true → ⊥
              wrong m z =
                  let y : settles (event a o) ≡ true = rw m (or-true (did 25 (event a o) && o.done)) in
                  true≢false
                  (sym ((T.current helped (up-helped y)).announced-is ∙ help y)
                  ∙ rw (eqb-true (latest helped h) c z) t)

      -- The same, where p stays active, and announced or not.
      steady :
          ((k : ℕ) → Taken (s'.job k).place → sc.trans k ≡ (s'.job k).update)
          → is_active w.place ≡ true → announced (phase w) ≡ announced (phase (job p))
          → ((k : ℕ) → is_active (job k).place ≡ true → Still a o sc H' k)
          → Recalled a o sc.stat g' → Told plan more (behind a o) s' g' H'
      steady trans up low current recalled =
          build trans
          (λ k _ y.
          subst
          (λ x.
          Telling plan more (behind a o) (latest k h) x (is_decided (sc.stat k)) (H'.committed k) (H'.passed k)
          (job_in plan k).card)
          (sym (upd-map (λ x. announced (phase x)) job p w k low))
          (current k y))
          (λ t. absurd (true≢false (sym up ∙ t)))
          recalled

  -- After an event that commits nothing and stores no block, where the same statuses are a job's number.
  recalled-same :
      (a : Place) (o : Out) (S : ℕ → Status) → is_commit (event a o) ≡ false → ((b : ℕ) → stores b (event a o) ≡ false)
      → ((k : ℕ) → is_decided (S k) ≡ is_decided (s.sh.stat k)) → Recalled a o S g
  recalled-same a o S n m f =
      record {
        within = within_same plan more h s g H T (event a o) n;
        memory = memory-same plan more h s g H T (event a o) n;
        stored-are =
            λ q x d b.
            let y = decided-by (s.sh.stat q) (sym (f q) ∙ ap is_decided d) in
            stored_same h (event a o) (latest q h) b (m b) ∙ T.stored-are q y.0 y.1 b;
      }

  -- An event that tells nothing: what is read of the state and of what is counted stays.
  silent :
      (a : Place) (o : Out) (sc : Scene) (H' : Tally) → did 0 (event a o) ≡ false → tells (event a o) ≡ false
      → o.work.update ≡ (job p).update
      → ((k : ℕ) → Taken (upd job p o.work k).place → sc.trans k ≡ (upd job p o.work k).update)
      → is_active o.work.place ≡ true → announced (phase o.work) ≡ announced (phase (job p))
      → ((k : ℕ) → is_decided (sc.stat k) ≡ is_decided (s.sh.stat k)) → H'.committed ≡ H.committed
      → H'.passed ≡ H.passed → Told plan more (behind a o) (record { sh = sc; job = upd job p o.work }) g H'
  silent a o sc H' here n keeps trans up low stat committed passed =
      steady a o (λ t. absurd (true≢false (sym t ∙ nothing.1.1))) sc o.work g H' keeps here trans up low
      (λ k y.
      rw (stat k, committed, passed)
      (tells-same plan more h (event a o) (latest k h) (T.current k y) (quiet-event (latest k h)) settling.1))
      (recalled-same a o sc.stat settling.1 (λ b. rw nothing.1.0) stat)
    where
      nothing :
          ((did 14 (event a o) ≡ false) × (did 15 (event a o) ≡ false))
          × (((did 41 (event a o) && o.done) ≡ false) × (settles (event a o) ≡ false))
      nothing =
          let b =
          neither (did 14 (event a o) || did 15 (event a o)) ((did 41 (event a o) && o.done) || settles (event a o))
          n in (
            neither (did 14 (event a o)) (did 15 (event a o)) b.0,
            neither (did 41 (event a o) && o.done) (settles (event a o)) b.1,
          )

      settling : ((did 25 (event a o) && o.done) ≡ false) × (is_commit (event a o) ≡ false)
      settling = neither (did 25 (event a o) && o.done) (is_commit (event a o)) nothing.1.1

      quiet-event : (c : ℕ) → Quiet (event a o) c
      quiet-event c =
          record {
            not-announced = rw nothing.0.0;
            not-decided = rw settling.0;
            not-committed = rw settling.1;
            not-returned = rw nothing.0.1;
          }

  -- What the layer reads after an item, but for p's phase.
  record Touched : Type 0 where
    trans : ℕ → ℕ
    stat : ℕ → Status
    ghosts : Ghost
    committed : ℕ → ℕ
    passed : ℕ → ℕ → List ℕ
    update : ℕ
    active : Bool
    calling : Bool
    telling : Bool

  -- After the item at a place.
  abbrev touched : Place → Out → Touched
  touched a o =
      record {
        trans = (changed plan p o.work o.store s.sh).trans;
        stat = (changed plan p o.work o.store s.sh).stat;
        ghosts = ghost plan s.sh o.store g;
        committed = (tally plan s.sh p o.store H).committed;
        passed = (tally plan s.sh p o.store H).passed;
        update = o.work.update;
        active = is_active o.work.place;
        calling = did 0 (event a o);
        telling = tells (event a o);
      }

  -- As before, and nothing is told.
  abbrev untouched : Touched
  untouched =
      record {
        trans = sh.trans;
        stat = s.sh.stat;
        ghosts = g;
        committed = H.committed;
        passed = H.passed;
        update = (job p).update;
        active = true;
        calling = false;
        telling = false;
      }

  -- An item that touches nothing of it.
  calm :
      {a : Place} {o : Out} → (job p).place ≡ a → Taken a → touched a o ≡ untouched
      → announced (phase o.work) ≡ announced (phase (job p)) → Good a o
  calm {a} {o} e t y low =
      record {
        kept =
            subst (λ x. Told plan more (behind a o) (after plan p o s) x (tally plan s.sh p o.store H))
            (sym (ap (λ (x : Touched). x.ghosts) y))
            (silent a o (changed plan p o.work o.store s.sh) (tally plan s.sh p o.store H)
            (ap (λ (x : Touched). x.calling) y)
            (ap (λ (x : Touched). x.telling) y)
            (ap (λ (x : Touched). x.update) y)
            (trans-kept (changed plan p o.work o.store s.sh).trans o.work
            (ap (λ (x : Touched). x.trans) y)
            (ap (λ (x : Touched). x.update) y)
            (rw e t))
            (ap (λ (x : Touched). x.active) y)
            low
            (λ k. ap (λ (x : Touched). is_decided (x.stat k)) y)
            (ap (λ (x : Touched). x.committed) y)
            (ap (λ (x : Touched). x.passed) y));
      }

  -- A1: Trans has the update.
  takes : (job p).place ≡ Place.A1 → Good Place.A1 (storing (Store.Trans p (job p).update) (goto Place.A2 (job p)))
  takes e =
      record {
        kept =
            silent Place.A1 (storing (Store.Trans p (job p).update) w)
            (with_cells sh.ann s.sh.stat (upd sh.trans p (job p).update) s.sh)
            H
            refl
            refl
            refl
            (λ k. trans k (ℕ_discrete k p))
            refl
            (rw e)
            (λ _. refl)
            refl
            refl;
      }
    where
      w : Working
      w = goto Place.A2 (job p)

      trans :
          (k : ℕ) → Dec (k ≡ p) → Taken (upd job p w k).place
          → upd sh.trans p (job p).update k ≡ (upd job p w k).update
      trans k (yes z) =
          λ _.
          upd-at sh.trans p (job p).update k z
          ∙ ap (λ (x : Working). x.update) (sym (upd-at job p w k z))
      trans k (no n) = rw (upd_other sh.trans p (job p).update k n, upd_other job p w k n) (T.trans-of k)

  -- A store to a status, by what it means.
  means :
      (a : Place) (q : ℕ) (x : ℤ) (y : Status) (w : Working) (d : Bool) → status_in plan.sizes.jobs x ≡ y
      → Told plan more (behind a (record { work = w; store = Store.Stat q x; done = d }))
      (record { sh = with_cells sh.ann (upd s.sh.stat q y) sh.trans s.sh; job = upd job p w })
      (ghost_stat (layout plan) sh.trans q y g)
      (tally_stat (layout plan) s.sh q y H)
      → Good a (record { work = w; store = Store.Stat q x; done = d })
  means a q x y w d e t =
      record {
        kept =
            subst
            (λ z.
            Told plan more (behind a (record { work = w; store = Store.Stat q x; done = d }))
            (record { sh = with_cells sh.ann (upd s.sh.stat q z) sh.trans s.sh; job = upd job p w })
            (ghost_stat (layout plan) sh.trans q z g)
            (tally_stat (layout plan) s.sh q z H))
            (sym e)
            t;
      }

  -- A2: the status was N and becomes −1.
  arms :
      (job p).place ≡ Place.A2
      → Good Place.A2 (storing (Store.Stat p (negsuc 0)) (goto Place.A4 (with_round 0 (job p))))
  arms e =
      means Place.A2 p (negsuc 0) undecided w false (undecided-means plan.sizes.jobs)
      (silent Place.A2 (storing (Store.Stat p (negsuc 0)) w)
      (with_cells sh.ann (upd s.sh.stat p undecided) sh.trans s.sh)
      H
      refl
      refl
      refl
      (trans-kept sh.trans w refl refl (rw e tt))
      refl
      (rw e)
      (λ k. upd-map is_decided s.sh.stat p undecided k (sym (finished-not (s.sh.stat p) (rw e at (C.each p)))))
      refl
      refl)
    where
      w : Working
      w = goto Place.A4 (with_round 0 (job p))

  -- What decides and commits nothing speaks of p's call alone.
  alone :
      (a : Place) (o : Out) → settles (event a o) ≡ false → (k : ℕ) → k ≢ p → is_active (job k).place ≡ true
      → Quiet (event a o) (latest k h)
  alone a o n k m y =
      record {
        not-announced = rw (ne_eqb (latest p h) (latest k h) other) (and-false (did 14 (event a o)));
        not-decided = rw (neither (did 25 (event a o) && o.done) (is_commit (event a o)) n).0;
        not-committed = rw (neither (did 25 (event a o) && o.done) (is_commit (event a o)) n).1;
        not-returned = rw (ne_eqb (latest p h) (latest k h) other) (and-false (did 15 (event a o)));
      }
    where
      other : latest p h ≢ latest k h
      other z = m (one-job k p y R.up (sym z))

  -- What is counted after p's announcement.
  abbrev restarted : Tally
  restarted =
      record {
        committed = H.committed;
        passed = upd H.passed p (λ _. []);
        target = upd H.target p (target plan.sizes.cards (job_in plan p).card sh.v.count);
      }

  -- An A14 or an A15, by whether p's status is N: it is the announcement if not.
  swaps :
      (a : Place) (r k : ℕ) (w : Working) (b : Bool) → is_finished (s.sh.stat p) ≡ b
      → Told plan more (behind a (storing (Store.Ann r k) w)) (after plan p (storing (Store.Ann r k) w) s) g
      (cond b H restarted)
      → Good a (storing (Store.Ann r k) w)
  swaps a r k w b f t =
      record {
        kept =
            subst
            (λ x.
            Told plan more (behind a (storing (Store.Ann r k) w)) (after plan p (storing (Store.Ann r k) w) s) g
            (cond x H restarted))
            (sym f)
            t;
      }

  -- First A14: p's call is announced, and nobody has passed it.
  announcing :
      (job p).place ≡ Place.A14 → eqb (job p).round 0 ≡ true
      → Good Place.A14 (storing (Store.Ann (job_in plan p).card p) (goto Place.A4 (with_round 1 (job p))))
  announcing e t =
      swaps Place.A14 (job_in plan p).card p w false (rw (e, t) at (I.parts p))
      (build Place.A14 o (λ z. absurd (false≢true z)) (after plan p o s).sh w g restarted refl refl
      (trans-kept sh.trans w refl refl (rw e tt))
      (λ k _ y. current k y (ℕ_discrete k p))
      (λ z. absurd (true≢false z))
      (recalled-same Place.A14 o s.sh.stat refl (λ _. refl) (λ _. refl)))
    where
      w : Working
      w = goto Place.A4 (with_round 1 (job p))

      o : Out
      o = storing (Store.Ann (job_in plan p).card p) w

      current :
          (k : ℕ) → is_active (job k).place ≡ true → Dec (k ≡ p)
          → Agrees plan more (behind Place.A14 o) (latest k h) (after plan p o s) restarted k
      current k y (yes z) =
          rw (z, upd_same job p w, upd_same H.passed p (λ _. []))
          (tells-announced plan more h (event Place.A14 o) (latest p h) (T.current p R.up) (rw (e, t))
          (eq-eqb (latest p h) (latest p h) refl)
          refl
          refl)
      current k y (no n) =
          rw (upd_other job p w k n, upd_other H.passed p (λ _. []) k n)
          (tells-same plan more h (event Place.A14 o) (latest k h) (T.current k y) (alone Place.A14 o refl k n y) refl)

  -- Second A14: p's call is announced already.
  again :
      (job p).place ≡ Place.A14 → eqb (job p).round 0 ≡ false
      → Good Place.A14 (storing (Store.Ann (job_in plan p).card p) (goto Place.A15 (job p)))
  again e t =
      swaps Place.A14 (job_in plan p).card p w true (rw (e, t) at (C.each p))
      (steady Place.A14 o (λ z. absurd (false≢true z)) (after plan p o s).sh w g H refl refl
      (trans-kept sh.trans w refl refl (rw e tt))
      refl
      (sym low)
      (λ k y. current k y (ℕ_discrete k p))
      (recalled-same Place.A14 o s.sh.stat refl (λ _. refl) (λ _. refl)))
    where
      w : Working
      w = goto Place.A15 (job p)

      o : Out
      o = storing (Store.Ann (job_in plan p).card p) w

      low : announced (phase (job p)) ≡ true
      low = rw (e, t)

      current : (k : ℕ) → is_active (job k).place ≡ true → Dec (k ≡ p) → Still Place.A14 o s.sh H k
      current k y (yes z) =
          rw (z, low)
          (tells-again plan more h (event Place.A14 o) (latest p h) (T.current p R.up) low
          (eq-eqb (latest p h) (latest p h) refl)
          refl
          refl
          refl)
      current k y (no n) =
          tells-same plan more h (event Place.A14 o) (latest k h) (T.current k y) (alone Place.A14 o refl k n y) refl

  -- A15: p's call has committed once, and returns.
  returning :
      (job p).place ≡ Place.A15
      → Good Place.A15 (storing (Store.Ann (job_in plan p).card plan.sizes.jobs) (goto Place.Idle (job p)))
  returning e =
      swaps Place.A15 (job_in plan p).card plan.sizes.jobs w true fin
      (build Place.A15 o (λ z. absurd (false≢true z)) (after plan p o s).sh w g H refl refl
      (trans-kept sh.trans w refl refl (rw e tt))
      (λ k x y. current k x y (ℕ_discrete k p))
      (λ _.
      closed-returned plan more h (event Place.A15 o) (latest p h) (T.current p R.up) low
      (finished-not (s.sh.stat p) fin)
      (I.once p low fin)
      refl
      refl
      refl
      (T.announced-first (latest p h))
      (call-card p R.up)
      (λ r n. I.bound p r low n))
      (recalled-same Place.A15 o s.sh.stat refl (λ _. refl) (λ _. refl)))
    where
      w : Working
      w = goto Place.Idle (job p)

      o : Out
      o = storing (Store.Ann (job_in plan p).card plan.sizes.jobs) w

      fin : is_finished (s.sh.stat p) ≡ true
      fin = rw e at (C.each p)

      low : announced (phase (job p)) ≡ true
      low = rw e

      current :
          (k : ℕ) → is_active (upd job p w k).place ≡ true → is_active (job k).place ≡ true → Dec (k ≡ p)
          → Agrees plan more (behind Place.A15 o) (latest k h) (after plan p o s) H k
      current k x y (yes z) = absurd (false≢true (rw (upd-at job p w k z) at x))
      current k x y (no n) =
          rw (upd_other job p w k n)
          (tells-same plan more h (event Place.A15 o) (latest k h) (T.current k y) (alone Place.A15 o refl k n y) refl)

  -- The chief is announced.
  chief-low :
      sh.v.flag ≡ true
      → announced (phase (job (chief (layout plan) sh.v sh.ann s.sh.stat))) ≡ true
  chief-low f = (C.whole.named-announced (sh.v.count % plan.sizes.cards) (D.whole.named f)).1

  -- So is a job whose call is decided and uncommitted.
  decided-low : (q x : ℕ) → s.sh.stat q ≡ decided x → announced (phase (job q)) ≡ true
  decided-low q x d =
      let o = D.whole.one q x d in
      subst (λ k. announced (phase (job k)) ≡ true) (sym o.1) (chief-low o.0)

  -- H41 done: a block is stored.
  puts :
      (w : Working) → (job p).place ≡ Place.H41 → w.update ≡ (job p).update → is_active w.place ≡ true
      → announced (phase w) ≡ announced (phase (job p))
      → Good Place.H41 (doing (Store.Bank (job p).addr (job p).new) w)
  puts w e keeps up low =
      record {
        kept =
            steady Place.H41 o (λ z. absurd (false≢true z)) (after plan p o s).sh w (ghost plan s.sh o.store g)
            H
            keeps
            refl
            (trans-kept sh.trans w refl keeps (rw e tt))
            up
            low
            (λ k y. tells-same plan more h (event Place.H41 o) (latest k h) (T.current k y) (mute (latest k h)) refl)
            (record {
              within = within_same plan more h s g H T (event Place.H41 o) refl;
              memory = memory-same plan more h s g H T (event Place.H41 o) refl;
              stored-are = stored;
            });
      }
    where
      o : Out
      o = doing (Store.Bank (job p).addr (job p).new) w

      mute : (c : ℕ) → Quiet (event Place.H41 o) c
      mute c = record { not-announced = refl; not-decided = refl; not-committed = refl; not-returned = refl }

      stored :
          (q x : ℕ) → s.sh.stat q ≡ decided x → (b : ℕ)
          → is_stored (behind Place.H41 o) (latest q h) b ≡ upd g.done (job p).addr true b
      stored q x d b =
          let begun : is_decided_uncommitted h (latest q h) ≡ true =
          (T.current q (C.whole.announced-active q (decided-low q x d))).decided-is ∙ ap is_decided d in
          stored_more h (event Place.H41 o) (latest q h) b (and_l _ _ begun)
          ∙ rw (T.stored-are q x d b)
          (upd-elim (λ y. (g.done b || eqb (job p).addr b) ≡ y) g.done (job p).addr true b
          (λ z. rw (eq-eqb (job p).addr b (sym z)) (or-true (g.done b)))
          (λ n. rw (ne_eqb (job p).addr b (λ z. n (sym z))) (or-false (g.done b))))

  -- H25 done: the chief's call is decided.
  decides-call :
      (w : Working) → (job p).place ≡ Place.H25 → may_decide plan sh p (job p) ≡ true → w.update ≡ (job p).update
      → is_active w.place ≡ true → announced (phase w) ≡ announced (phase (job p))
      → Good Place.H25 (doing (Store.Stat helped (pos p)) w)
  decides-call w e t keeps up steadily =
      means Place.H25 helped (pos p) (decided p) w true
      (decided-means plan.sizes.jobs p (λ z. let l = C.whole.in-plan p R.up in omega arith))
      (steady Place.H25 o (λ _. low) sc w (ghost_stat (layout plan) sh.trans helped (decided p) g) H keeps refl
      (trans-kept sh.trans w refl keeps (rw e tt))
      up
      steadily
      (λ k y. current k y (ℕ_discrete k helped))
      (record {
        within = within_same plan more h s g H T (event Place.H25 o) refl;
        memory = memory-same plan more h s g H T (event Place.H25 o) refl;
        stored-are = λ q x d b. stored q x d b (ℕ_discrete q helped);
      }))
    where
      o : Out
      o = doing (Store.Stat helped (pos p)) w

      sc : Scene
      sc = with_cells sh.ann (upd s.sh.stat helped (decided p)) sh.trans s.sh

      fresh : (job p).ver ≡ sh.v
      fresh =
          same_version_lem sh.v (job p).ver
          (and_l (same_version sh.v (job p).ver) (same_status (sh.stat helped) (negsuc 0)) t)

      flag : sh.v.flag ≡ true
      flag = ap (λ (x : Version). x.flag) (sym fresh) ∙ rw e at (D.each p).flag

      head : helped ≡ chief (layout plan) sh.v sh.ann s.sh.stat
      head = rw e at ((D.each p).fresh fresh flag)

      low : announced (phase (job helped)) ≡ true
      low = subst (λ k. announced (phase (job k)) ≡ true) (sym head) (chief-low flag)

      -- the chief's call is current, not decided, and not committed
      active : is_active (job helped).place ≡ true
      active = C.whole.announced-active helped low

      was : (is_decided (s.sh.stat helped) ≡ false) × (is_finished (s.sh.stat helped) ≡ false)
      was =
          undecided-not (s.sh.stat helped)
          (undecided-is plan.sizes.jobs (sh.stat helped)
          ∙ and_r (same_version sh.v (job p).ver) (same_status (sh.stat helped) (negsuc 0)) t)

      uncommitted : H.committed helped ≡ 0
      uncommitted = I.none_yet helped was.1

      undone : any (decides (latest helped h)) h ≡ false
      undone =
          let k = T.current helped active in
          let c : any (commits (latest helped h)) h ≡ false =
          none_passes (commits (latest helped h)) h (k.commits-are ∙ uncommitted) in
          by-test (any (decides (latest helped h)) h)
          (λ y. absurd (true≢false (rw (y, c) at (k.decided-is ∙ was.0))))
          (λ n. n)

      current : (k : ℕ) → is_active (job k).place ≡ true → Dec (k ≡ helped) → Still Place.H25 o sc H k
      current k y (yes z) =
          rw (z, upd_same s.sh.stat helped (decided p))
          (tells-decided plan more h (event Place.H25 o) (latest helped h) (T.current helped active) uncommitted refl
          (eq-eqb (latest helped h) (latest helped h) refl)
          refl
          refl)
      current k y (no n) =
          rw (upd_other s.sh.stat helped (decided p) k n)
          (tells-same plan more h (event Place.H25 o) (latest k h) (T.current k y)
          (record {
            not-announced = refl;
            not-decided = ne_eqb (latest helped h) (latest k h) (λ z. n (one-job k helped y active (sym z)));
            not-committed = refl;
            not-returned = refl;
          })
          refl)

      stored :
          (q x : ℕ) → sc.stat q ≡ decided x → (b : ℕ) → Dec (q ≡ helped)
          → is_stored (behind Place.H25 o) (latest q h) b ≡ false
      stored q x d b (yes z) = rw z (stored-none h (event Place.H25 o) (latest helped h) b undone)
      stored q x d b (no n) =
          absurd (n ((D.whole.one q x (rw (upd_other s.sh.stat helped (decided p) q n) at d)).1 ∙ sym head))

  -- H42 done: the chief's call commits.
  commits-call :
      (job p).place ≡ Place.H42 → may_commit plan sh p (job p) ≡ true
      → Good Place.H42 (doing (Store.Stat helped (pos plan.sizes.jobs)) (goto Place.A10 (job p)))
  commits-call e t =
      means Place.H42 helped (pos plan.sizes.jobs) finished w true (finished-means plan.sizes.jobs)
      (steady Place.H42 o (λ _. low) sc w (ghost_stat (layout plan) sh.trans helped finished g) H' refl refl
      (trans-kept sh.trans w refl refl (rw e tt))
      refl
      (rw e)
      (λ k y. current k y (ℕ_discrete k helped))
      (record { within = within; memory = run; stored-are = λ q x d b. absurd (stored q x d (ℕ_discrete q helped)) }))
    where
      w : Working
      w = goto Place.A10 (job p)

      o : Out
      o = doing (Store.Stat helped (pos plan.sizes.jobs)) w

      sc : Scene
      sc = with_cells sh.ann (upd s.sh.stat helped finished) sh.trans s.sh

      H' : Tally
      H' = tally_stat (layout plan) s.sh helped finished H

      wide : ((job p).ver.flag ≡ true) × Widened plan.sizes.jobs (job p)
      wide = subst (λ a. HelpHolds (layout plan) (job p) (kind a)) e (D.each p).flag

      -- the status of the job helped is a job's number, so it is the chief, and its call is current
      was : s.sh.stat helped ≡ decided (winner_of (job p))
      was =
          ap (status_in plan.sizes.jobs)
          (same_true (sh.stat helped) (job p).wid
          (and_r (same_version sh.v (job p).ver) (same_status (sh.stat helped) (job p).wid) t)
          ∙ wide.1.number)
          ∙ decided-means plan.sizes.jobs (winner_of (job p)) wide.1.job

      low : announced (phase (job helped)) ≡ true
      low = decided-low helped (winner_of (job p)) was

      active : is_active (job helped).place ≡ true
      active = C.whole.announced-active helped low

      call : ℕ
      call = latest helped h

      in-history : (1 ≤ call) × (call ≤ length h)
      in-history = call-in plan more h s g H T helped (T.has-call helped active)

      current : (k : ℕ) → is_active (job k).place ≡ true → Dec (k ≡ helped) → Still Place.H42 o sc H' k
      current k y (yes z) =
          rw (
            z,
            upd_same s.sh.stat helped finished,
            upd_same H.committed helped (H.committed helped + 1),
          )
          (tells-committed plan more h (event Place.H42 o) call (T.current helped active) (H'.passed helped) refl
          (eq-eqb call call refl)
          refl
          (call-card helped active)
          (λ r n. rw (ne_eqb r (job_in plan helped).card n)))
      current k y (no n) =
          rw (
            upd_other s.sh.stat helped finished k n,
            upd_other H.committed helped (H.committed helped + 1) k n,
          )
          (tells-passed plan more h (event Place.H42 o) (latest k h) (T.current k y)
          (record {
            not-announced = refl;
            not-decided = refl;
            not-committed = ne_eqb call (latest k h) (λ z. n (one-job k helped y active (sym z)));
            not-returned = refl;
          })
          refl
          (job_in plan helped).card
          sh.v.count
          (is_finished (s.sh.stat k))
          (call-card helped active)
          (I.once k)
          (I.none_yet k)
          (T.announced-first (latest k h)))

      within : Within (length (behind Place.H42 o)) (commits_in (behind Place.H42 o))
      within =
          rw (commits-last h (event Place.H42 o) refl, length_last h (event Place.H42 o))
          (within-commit T.within (commit_of (event Place.H42 o)) refl in-history.0 in-history.1)

      -- Trans has the update that the call names
      names : sh.trans helped ≡ update_of es call
      names =
          T₀.trans-of helped (announced-taken (second (job helped)) (job helped).place low)
          ∙ sym (T₀.update-of helped active)

      run :
          exec ((layout plan).ops (sh.trans helped)) g.mem 0
          ≡ blocks_of plan (memory_after plan more (behind Place.H42 o))
      run =
          rw (names, T₀.memory)
          (update-whole ok (update_of es call) (memory_after plan es h)
          (memory-whole ok es (commits_in h) (length es)))
          ∙ ap (blocks_of plan)
          (sym
          (ap (λ cs. memory plan.words plan.updates more cs (length more))
          (commits-last h (event Place.H42 o) refl)
          ∙ memory-after-commit plan.words plan.updates es entry (commits_in h)
          (within_more T.within (length es) T₀.short)
          (commit_of (event Place.H42 o))
          (rw len)
          in-history.0
          (omega (arith, in-history.1, T₀.short))))

      stored : (q x : ℕ) → sc.stat q ≡ decided x → Dec (q ≡ helped) → ⊥
      stored q x d (yes z) = decided≢finished d (upd-at s.sh.stat helped finished q z)
      stored q x d (no n) =
          n
          ((D.whole.one q x (rw (upd_other s.sh.stat helped finished q n) at d)).1
          ∙ sym (D.whole.one helped (winner_of (job p)) was).1)

  -- The stages of a move.
  stages : (st : Stage) → (job p).place ≡ Place.Move st → Good (Place.Move st) (stage plan sh p st (job p))
  unfolding stage
  stages Stage.Check e =
      rw shut-test
      (test (Good (Place.Move Stage.Check)) _ _ _ (λ _. calm e tt refl (rw e)) (λ _. calm e tt refl (rw e)))
  stages Stage.List e =
      rw shut-test (test (Good (Place.Move Stage.List)) _ _ _ (λ _. calm e tt refl (rw e)) (λ _. calm e tt refl (rw e)))
  stages Stage.Copy e =
      rw shut-test (test (Good (Place.Move Stage.Copy)) _ _ _ (λ _. calm e tt refl (rw e)) (λ _. calm e tt refl (rw e)))
  stages Stage.Take e =
      onward-elim (λ x. Good (Place.Move Stage.Take) (quiet x)) plan
      (with_word (sh.blk (get_or (job p).curr (block plan (job p)) 0) (offset plan (job p))) (job p))
      (λ _ _. calm e tt refl (rw e))
      (λ _ _. calm e tt refl (rw e))
  stages Stage.Write e =
      onward-elim
      (λ x.
      Good (Place.Move Stage.Write)
      (storing
      (Store.Word (get_or (job p).curr (block plan (job p)) 0) (offset plan (job p))
      (word_written (move plan (job p)) (job p).word))
      x))
      plan
      (job p)
      (λ _ _. calm e tt refl (rw e))
      (λ _ _. calm e tt refl (rw e))

  -- Every item, by the place.
  items : (a : Place) → (job p).place ≡ a → Good a (item plan sh p a (job p))
  unfolding item
  items Place.Idle e = absurd (not-active (job p).place e R.up)
  items Place.A1 e = takes e
  items Place.A2 e = arms e
  items Place.A4 e = rw shut-test (test (Good Place.A4) _ _ _ (λ _. calm e tt refl (rw e)) (λ _. calm e tt refl (rw e)))
  items Place.A7 e =
      rw shut-test (test (Good Place.A7) _ _ _ (λ _. calm e tt refl (rw e))
      (λ _. rw shut-test (test (Good Place.A7) _ _ _ (λ _. calm e tt refl (rw e)) (λ _. calm e tt refl (rw e)))))
  items Place.A10 e = calm e tt refl (rw e)
  items Place.A12 e =
      rw shut-test (test (Good Place.A12) _ _ _ (λ _. calm e tt refl (rw e)) (λ _. calm e tt refl (rw e)))
  items Place.A14 e = rw shut-test (test (Good Place.A14) _ _ _ (announcing e) (again e))
  items Place.A15 e = returning e
  items Place.H16 e = calm e tt refl (rw e)
  items Place.H17 e =
      rw shut-test (test (Good Place.H17) _ _ _ (λ _. calm e tt refl (rw e))
      (λ _. rw shut-test (test (Good Place.H17) _ _ _ (λ _. calm e tt refl (rw e)) (λ _. calm e tt refl (rw e)))))
  items Place.H21 e =
      begin-elim (λ a. Good Place.H21 (quiet (goto a (taking (sh.trans helped) (job p)))))
      (get_or plan.updates (sh.trans helped) [])
      (calm e tt refl (rw e))
      (calm e tt refl (rw e))
  items (Place.Move st) e = stages st e
  items Place.H22 e = calm e tt refl (rw e)
  items Place.H25 e =
      rw shut-test (test (Good Place.H25) _ _ _ (λ t. decides-call _ e t refl refl (rw e)) (λ _. calm e tt refl (rw e)))
  items Place.H32 e =
      rw shut-test (test (Good Place.H32) _ _ _ (λ _. calm e tt refl (rw e)) (λ _. calm e tt refl (rw e)))
  items Place.H34 e =
      rw shut-test (test (Good Place.H34) _ _ _ (λ _. calm e tt refl (rw e)) (λ _. calm e tt refl (rw e)))
  items Place.H36 e =
      rw shut-test (test (Good Place.H36) _ _ _ (λ _. calm e tt refl (rw e)) (λ _. calm e tt refl (rw e)))
  items Place.H37 e =
      rw shut-test (test (Good Place.H37) _ _ _ (λ _. calm e tt refl (rw e)) (λ _. calm e tt refl (rw e)))
  items Place.H38 e = calm e tt refl (rw e)
  items Place.H41 e =
      rw shut-test (test (Good Place.H41) _ _ _
      (λ _.
      store-elim (λ x. Good Place.H41 (doing (Store.Bank (job p).addr (job p).new) x)) (job p)
      (puts _ e refl refl (simp e)) (puts _ e refl refl (simp e)))
      (λ _. store-elim (λ x. Good Place.H41 (quiet x)) (job p) (calm e tt refl (simp e)) (calm e tt refl (simp e))))
  items Place.H42 e = rw shut-test (test (Good Place.H42) _ _ _ (commits-call e) (λ _. calm e tt refl (rw e)))

  -- The item that p stands before.
  pub told-step :
      Told plan more (behind (job p).place (item plan sh p (job p).place (job p)))
      (after plan p (item plan sh p (job p).place (job p)) s)
      (ghost plan s.sh (item plan sh p (job p).place (job p)).store g)
      (tally plan s.sh p (item plan sh p (job p).place (job p)).store H)
  told-step = (items (job p).place refl).kept
