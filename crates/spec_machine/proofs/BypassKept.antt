-- Every item of the step list, and an accepted call, keeps the fourth layer: how often a call has committed, and how
-- often the other cards have passed it.
--
-- In plain words. Most items store nothing that the clauses read. A2 makes the status of a call that has not committed
-- −1, and H25 makes −1 a job's number; neither changes the tally. The first A14 starts the account of its call: nothing
-- has passed it, and its target is the first count past V's that points at its card. An A14 or A15 is not on the card
-- that a true flag speaks of (ChiefGuard), so a finished chief stays the chief. A12 moves V on by one, and only when
-- the chief is finished; so V does not leave a pending call's target, where the flag is true and the chief is that
-- call. If V comes to a target without a flag, the mover's clause says that nothing has passed that call, and the
-- target moves on by P. A10 gives that clause: its flag is false only if the job announced on the next card is N or
-- finished, and then no call of that card is pending. A call announced after that starts with nothing past it, and
-- until V moves nothing commits, since the mover has seen the chief finished. H42 commits the chief, whose status was a
-- job's number, so it had not committed before, and now it has, once. For each pending call of another card V's count
-- comes into the window before the target, which is shorter than P, so each card has one count there at most.
--
-- Assumes of the plan what Accepted says (Cards.antt), and the first two layers.
use mathlib.Core.Path.{◌≡◌, refl, sym, ◌∙◌, ap, subst}
use mathlib.Core.Logic.{◌≢◌, ◌⊎◌, inl, inr}
use mathlib.Core.Bool.{Bool, true, false, cond, not, ◌&&◌, true≢false, false≢true}
use mathlib.Core.List.{List, [], ◌∷◌}
use Prim.Native.Nat.{ℕ, ◌+◌, ◌≤◌, ◌<◌, ◌%◌}
use native.Mathlib.Omega.{arith}
use native.Mathlib.Nat.{add-mod_right}
use native.Mathlib.Decide.{ℕ_discrete}
use lib.Dec.{eqb}
use lib.IntN.{ℤ, pos, negsuc}
use lib.ListN.{length, get_or}
use borrow.Author.Tests.{eqb-true, eqb-false, ne_eqb}
use Rattle.spec_format.specs.Plan.{Plan}
use Rattle.spec_machine.specs.declared.Stage.{Stage}
use Rattle.spec_machine.specs.declared.Place.{Place}
use Rattle.spec_machine.specs.declared.Version.{Version}
use Rattle.spec_machine.specs.declared.Working.{Working}
use Rattle.spec_machine.specs.declared.Store.{Store}
use Rattle.spec_machine.specs.declared.Out.{Out}
use Rattle.spec_machine.specs.Status.{same_status}
use Rattle.spec_machine.specs.Moves.{block, offset, move, word_written}
use Rattle.spec_machine.specs.Working.{goto, called, with_round, taking, with_word}
use Rattle.spec_machine.specs.Steps.{Shared, quiet, doing, item, stage}
use Rattle.spec_machine.proofs.ChangedAt.{upd, upd_same, upd_other, upd-at, upd-elim, upd-map}
use Rattle.spec_machine.proofs.View.{
  Status,
  undecided,
  decided,
  finished,
  is_finished,
  is_undecided,
  State,
  status_in,
  showing,
  changed,
  after,
  same_true,
  finished-is,
  undecided-is,
  decided-means,
  finished-means,
  undecided-means,
  decided≢finished,
}
use Rattle.spec_machine.proofs.SmallSteps.{Layout, layout}
use Rattle.spec_machine.proofs.Tests.{
  shut-test,
  test,
  onward-elim,
  store-elim,
  begin-elim,
  and_l,
  and_r,
  same_version_lem,
}
use Rattle.spec_machine.proofs.Counts.{target, target-card, target-le, Window, none, more, weaken, at_most_one}
use Rattle.spec_machine.proofs.Cards.{
  Phase,
  idle,
  start,
  clear,
  look,
  loop,
  swap,
  phase_at,
  second,
  phase,
  announced,
  board,
  Accepted,
  Runs,
  OnBoard,
  CardsHold,
}
use Rattle.spec_machine.proofs.CardsKept.{undecided-not}
use Rattle.spec_machine.proofs.Epochs.{
  Kind,
  plain,
  enter,
  help,
  settle,
  put,
  out,
  swing,
  kind,
  winner_of,
  wid-means,
  HelpHolds,
  chief,
  ChiefGuard,
  FreshHolds,
  EpochsHold,
  chief-under,
}
use Rattle.spec_machine.proofs.Bypass.{Tally, tally_stat, tally, tally_call, PhaseHolds, Pending, BypassHolds}

-- Not at A12, by the kind.
abbrev NoMover : Kind → Type 0
NoMover plain = Unit {0}
NoMover enter = Unit {0}
NoMover help = Unit {0}
NoMover settle = Unit {0}
NoMover put = Unit {0}
NoMover out = Unit {0}
NoMover swing = ⊥

-- The mover's clause for a job with record w: where it is to move V to a pending call's target without a flag, nothing
-- has passed that call.
abbrev Mover : Layout → Version → (ℕ → Status) → (ℕ → Working) → Tally → Working → Type 0
Mover P v S J H w =
    kind w.place ≡ swing → w.ver ≡ v → w.next ≡ false → (k : ℕ) → announced (phase (J k)) ≡ true
    → is_finished (S k) ≡ false → v.count + 1 ≡ H.target k → (r : ℕ) → r ≢ P.card k → H.passed k r ≡ []

-- Who is not at A12 has that clause.
no-mover : (P : Layout) (v : Version) (S : ℕ → Status) (J : ℕ → Working) (H : Tally) (w : Working)
    → NoMover (kind w.place) → Mover P v S J H w
no-mover P v S J H w n a = absurd (subst NoMover a n)

-- The counts l of card r's commits lie in the window before a target t: all before V's count, or, if the chief is
-- finished (F), up to it.
abbrev Passes : Layout → Version → Type 0 → ℕ → ℕ → List ℕ → Type 0
Passes P v F r t l =
    (Window P.cards r t v.count l) ⊎ ((v.flag ≡ true) × F × Window P.cards r t (v.count + 1) l)

-- The same where a finished chief stays finished.
passes-keep : (P : Layout) (v : Version) (F F' : Type 0) (r t : ℕ) (l : List ℕ) → (v.flag ≡ true → F → F')
    → Passes P v F r t l → Passes P v F' r t l
passes-keep P v F F' r t l e (inl w) = inl w
passes-keep P v F F' r t l e (inr w) = inr (w.0, e w.0 w.1, w.2)

-- In either case up to V's count.
passes_up : (P : Layout) (v : Version) (F : Type 0) (r t : ℕ) (l : List ℕ) → Passes P v F r t l
    → Window P.cards r t (v.count + 1) l
passes_up P v F r t l (inl w) = weaken (omega arith) w
passes_up P v F r t l (inr w) = w.2

-- Where the chief is not finished, before V's count.
passes-before : (P : Layout) (v : Version) (F : Type 0) (r t : ℕ) (l : List ℕ) → (F → ⊥) → Passes P v F r t l
    → Window P.cards r t v.count l
passes-before P v F r t l n (inl w) = w
passes-before P v F r t l n (inr w) = absurd (n w.1)

-- The tally with other numbers of commits.
abbrev counting : (ℕ → ℕ) → Tally → Tally
counting n H = record { committed = n; passed = H.passed; target = H.target }

-- Announcements, statuses and tally change.
module _ (P : Layout) (A A' : ℕ → ℕ) (S S' : ℕ → Status) (H H' : Tally) where
  -- A job's clause by its phase: its commits and its status matter before its announcement alone.
  parts-keep :
      (v v' : Version) (k : ℕ) (ph : Phase) → (announced ph ≡ false → H'.committed k ≡ H.committed k)
      → (announced ph ≡ false → is_finished (S' k) ≡ is_finished (S k)) → PhaseHolds P v A S H k ph → PhaseHolds P v' A'
      S' H' k ph
  parts-keep v v' k idle c f x = tt
  parts-keep v v' k start c f x = c refl ∙ x
  parts-keep v v' k clear c f x = tt
  parts-keep v v' k (look true) c f x = tt
  parts-keep v v' k (loop true) c f x = tt
  parts-keep v v' k (swap true) c f x = tt
  parts-keep v v' k (look false) c f x = f refl ∙ x
  parts-keep v v' k (loop false) c f x = f refl ∙ x
  parts-keep v v' k (swap false) c f x = f refl ∙ x

  -- A pending call's clauses, where a finished chief stays finished.
  pending-keeps :
      (v : Version) (k : ℕ) → H'.target k ≡ H.target k → H'.passed k ≡ H.passed k
      → (v.flag ≡ true → S (chief P v A S) ≡ finished → S' (chief P v A' S') ≡ finished) → Pending P v A S H k
      → Pending P v A' S' H' k
  pending-keeps v k et ep ef K =
      record {
        card = rw et K.card;
        ahead = rw et K.ahead;
        near = rw et K.near;
        hit = λ q. K.hit (rw et at q);
        window =
            λ r n.
            rw (et, ep)
            (passes-keep P v (S (chief P v A S) ≡ finished) (S' (chief P v A' S') ≡ finished) r (H.target k)
            (H.passed k r) ef (K.window r n));
      }

module _ (P : Layout) (v : Version) (A : ℕ → ℕ) (S : ℕ → Status) (J : ℕ → Working) (H : Tally)
    (I : BypassHolds P v A S J H) (p : ℕ) where
  -- The frame: V, the targets and the counts at which others committed stay, p's record becomes w and the numbers of
  -- commits n. p does not become announced. Numbers of commits, and whether a status is N, stay, but perhaps for p if
  -- it is not announced; and a finished chief stays finished.
  frame :
      (A' : ℕ → ℕ) (S' : ℕ → Status) (w : Working) (n : ℕ → ℕ)
      → (announced (phase w) ≡ true → announced (phase (J p)) ≡ true)
      → ((k : ℕ) → (k ≡ p → announced (phase w) ≡ true)
      → (is_finished (S' k) ≡ is_finished (S k)) × (n k ≡ H.committed k))
      → (is_finished (S' p) ≡ false → n p ≡ 0)
      → (v.flag ≡ true → S (chief P v A S) ≡ finished → S' (chief P v A' S') ≡ finished)
      → PhaseHolds P v A' S' (counting n H) p (phase w) → Mover P v S J H w → BypassHolds P v A' S' (upd J p w)
      (counting n H)
  frame A' S' w n grows others own done part mover =
      record {
        none_yet = λ k. none_yet k (ℕ_discrete k p);
        once = λ k lo f. (at k lo).1 ∙ I.once k (lows k lo) (sym (at k lo).0 ∙ f);
        parts =
            λ k.
            upd-elim (λ x. PhaseHolds P v A' S' (counting n H) k (phase x)) J p w k (λ e. rw e part)
            (λ m.
            parts-keep P A A' S S' H (counting n H) v v k (phase (J k)) (λ _. (other k m).1) (λ _. (other k m).0)
            (I.parts k));
        bound = λ k r lo. I.bound k r (lows k lo);
        pending =
            λ k lo f.
            pending-keeps P A A' S S' H (counting n H) v k refl refl done
            (I.pending k (lows k lo) (sym (at k lo).0 ∙ f));
        mover =
            λ x.
            upd-elim (λ y. Mover P v S' (upd J p w) (counting n H) y) J p w x (λ _. still w mover)
            (λ _. still (J x) (I.mover x));
      }
    where
      -- who is announced now was so before
      lows : (k : ℕ) → announced (phase (upd J p w k)) ≡ true → announced (phase (J k)) ≡ true
      lows k =
          upd-elim (λ x. announced (phase x) ≡ true → announced (phase (J k)) ≡ true) J p w k
          (λ e lo. rw e (grows lo)) (λ _ lo. lo)

      -- nothing changes for another job
      other : (k : ℕ) → k ≢ p → (is_finished (S' k) ≡ is_finished (S k)) × (n k ≡ H.committed k)
      other k m = others k (λ e. absurd (m e))

      -- nor for one that is announced
      at :
          (k : ℕ) → announced (phase (upd J p w k)) ≡ true
          → (is_finished (S' k) ≡ is_finished (S k)) × (n k ≡ H.committed k)
      at k lo = others k (λ e. sym (ap (λ x. announced (phase x)) (upd-at J p w k e)) ∙ lo)

      -- who is not finished has not committed
      none_yet : (k : ℕ) → Dec (k ≡ p) → is_finished (S' k) ≡ false → n k ≡ 0
      none_yet k (yes e) f = rw e (own (rw e at f))
      none_yet k (no m) f = (other k m).1 ∙ I.none_yet k (sym (other k m).0 ∙ f)

      -- the mover's clause
      still : (y : Working) → Mover P v S J H y → Mover P v S' (upd J p w) (counting n H) y
      still y m a b c k lo f = m a b c k (lows k lo) (sym (at k lo).0 ∙ f)

-- Two tests that hold.
both : (a b : Bool) → a ≡ true → b ≡ true → (a && b) ≡ true
both true b h e = e
both false b h e = h

-- A test does not both hold and fail.
clash : (b : Bool) → b ≡ true → b ≡ false → ⊥
clash b t f = true≢false (sym t ∙ f)

module _ (plan : Plan) (acc : Accepted (layout plan)) (sh : Shared) (job : ℕ → Working)
    (C : CardsHold (layout plan) (record { sh = showing plan sh; job = job }))
    (D : EpochsHold (layout plan) (record { sh = showing plan sh; job = job })) (H : Tally)
    (I : BypassHolds (layout plan) (showing plan sh).v (showing plan sh).ann (showing plan sh).stat job H) (p : ℕ)
    (R : Runs (layout plan) (board (record { sh = showing plan sh; job = job })) p) where
  -- The plan's layout.
  abbrev P : Layout
  P = layout plan

  -- The state before the item.
  abbrev s : State
  s = record { sh = showing plan sh; job = job }

  -- V.
  abbrev v : Version
  v = sh.v

  -- The announcements.
  abbrev ann : ℕ → ℕ
  ann = sh.ann

  -- The statuses.
  abbrev stat : ℕ → Status
  stat = (showing plan sh).stat

  -- The chief, where the flag is true.
  abbrev helped : ℕ
  helped = chief P v ann stat

  -- Who is announced and not yet returned.
  abbrev low : ℕ → Bool
  low k = announced (phase (job k))

  -- What the item gives keeps the layer. A record, so that the outcome can be read off the goal.
  pub record Good (o : Out) : Type 0 where
    pub kept :
        BypassHolds P (after plan p o s).sh.v (after plan p o s).sh.ann (after plan p o s).sh.stat
        (after plan p o s).job (tally plan s.sh p o.store H)

  -- The running job is one of the plan's.
  p<N : p < P.jobs
  p<N = C.whole.in-plan p R.up

  -- V, the announcements, the statuses and the tally stay.
  quietly :
      (o : Out) → (changed plan p o.work o.store s.sh).v ≡ v
      → (changed plan p o.work o.store s.sh).ann ≡ ann
      → (changed plan p o.work o.store s.sh).stat ≡ stat → tally plan s.sh p o.store H ≡ H
      → announced (phase o.work) ≡ low p → PhaseHolds P v ann stat H p (phase o.work)
      → Mover P v stat job H o.work → Good o
  quietly o ev ea es et el part mover =
      record {
        kept =
            rw (ev, ea, es, et)
            (frame P v ann stat job H I p ann stat o.work H.committed (λ lo. sym el ∙ lo)
            (λ _ _. (refl, refl)) (I.none_yet p) (λ _ d. d) part mover);
      }

  -- p keeps its phase and does not come to A12, and the store is none that the clauses read.
  stay :
      {o : Out} → (changed plan p o.work o.store s.sh).v ≡ v
      → (changed plan p o.work o.store s.sh).ann ≡ ann
      → (changed plan p o.work o.store s.sh).stat ≡ stat → tally plan s.sh p o.store H ≡ H
      → phase o.work ≡ phase (job p) → NoMover (kind o.work.place) → Good o
  stay {o} ev ea es et ep n =
      quietly o ev ea es et (ap announced ep) (rw ep (I.parts p)) (no-mover P v stat job H o.work n)

  -- The same where nothing is stored.
  calm : (w : Working) → phase w ≡ phase (job p) → NoMover (kind w.place) → Good (quiet w)
  calm w ep n = stay refl refl refl refl ep n

  -- p goes to another phase and not to A12, and nothing is stored.
  turns :
      (w : Working) → announced (phase w) ≡ low p → PhaseHolds P v ann stat H p (phase w) → NoMover (kind w.place)
      → Good (quiet w)
  turns w el part n = quietly (quiet w) refl refl refl refl el part (no-mover P v stat job H w n)

  -- A store to a status, by what it means.
  means :
      (q : ℕ) (x : ℤ) (y : Status) (w : Working) (d : Bool) → status_in plan.sizes.jobs x ≡ y
      → BypassHolds P v ann (upd stat q y) (upd job p w) (tally_stat P s.sh q y H)
      → Good (record { work = w; store = Store.Stat q x; done = d })
  means q x y w d e c =
      record {
        kept = subst (λ z. BypassHolds P v ann (upd stat q z) (upd job p w) (tally_stat P s.sh q z H)) (sym e) c;
      }

  -- A2: the status of a call that has not committed becomes −1. Its job is not announced, so it is not the chief.
  arms :
      (w : Working) → low p ≡ false → H.committed p ≡ 0 → phase w ≡ look false → NoMover (kind w.place)
      → BypassHolds P v ann (upd stat p undecided) (upd job p w) H
  arms w lp c ep n =
      frame P v ann stat job H I p ann (upd stat p undecided) w H.committed
      (λ lo. absurd (false≢true (sym (ap announced ep) ∙ lo)))
      (λ k e.
      (ap is_finished (upd_other stat p undecided k (λ z. false≢true (sym (ap announced ep) ∙ e z))), refl))
      (λ _. c)
      (λ f d. upd_other stat p undecided helped (not-p f) ∙ d)
      (rw ep (ap is_finished (upd_same stat p undecided)))
      (no-mover P v stat job H w n)
    where
      -- the chief is announced
      not-p : v.flag ≡ true → helped ≢ p
      not-p f z =
          true≢false
          (sym (C.whole.named-announced (v.count % P.cards) (D.whole.named f)).1 ∙ ap (λ x. low x) z ∙ lp)

  -- H25: −1 becomes a job's number.
  decides :
      (q : ℕ) (w : Working) → q ≡ helped → is_undecided (stat q) ≡ true → phase w ≡ phase (job p)
      → NoMover (kind w.place) → BypassHolds P v ann (upd stat q (decided p)) (upd job p w) H
  decides q w eq u ep n =
      frame P v ann stat job H I p ann (upd stat q (decided p)) w H.committed
      (λ lo. sym (ap announced ep) ∙ lo) (λ k _. (fin k, refl)) (λ f. I.none_yet p (sym (fin p) ∙ f))
      (λ _ d. absurd (false≢true (sym (ap is_undecided (ap stat eq ∙ d)) ∙ u)))
      (rw ep
      (parts-keep P ann ann stat (upd stat q (decided p)) H H v v p (phase (job p)) (λ _. refl) (λ _. fin p)
      (I.parts p)))
      (no-mover P v stat job H w n)
    where
      -- who is N stays so, and no one else becomes N
      fin : (k : ℕ) → is_finished (upd stat q (decided p) k) ≡ is_finished (stat k)
      fin k = upd-map is_finished stat q (decided p) k (sym (undecided-not (stat q) u))

  -- A12: V moves on by one, with flag b, and the chief is finished.
  module _ (b : Bool) (ev : (job p).ver ≡ v) (sw : kind (job p).place ≡ swing) (nx : (job p).next ≡ b)
      (fin : v.flag ≡ true → stat helped ≡ finished) (w : Working) (el : announced (phase w) ≡ low p)
      (part : PhaseHolds P v ann stat H p (phase w)) (ns : NoMover (kind w.place)) where
    -- V after it.
    abbrev v' : Version
    v' = record { count = v.count + 1; flag = b }

    -- The tally after it.
    abbrev H' : Tally
    H' = tally plan s.sh p (Store.Version (v.count + 1) b) H

    -- V does not stand at a pending call's target: that call would be the chief, and finished.
    before : (k : ℕ) → low k ≡ true → is_finished (stat k) ≡ false → v.count < H.target k
    before k lo f = omega (arith, K.ahead, ne)
      where
        K : Pending P v ann stat H k
        K = I.pending k lo f

        -- at its target V points at it
        here : v.count ≡ H.target k → helped ≡ k
        here e = ap ann (ap (λ c. c % P.cards) e ∙ K.card) ∙ C.whole.pending k lo f

        ne : v.count ≢ H.target k
        ne e = true≢false (sym (ap is_finished (ap stat (sym (here e)) ∙ fin (K.hit e))) ∙ f)

    -- A pending call's clauses: the target stays, or moves on by P if V comes there without a flag.
    moved : (k : ℕ) → low k ≡ true → is_finished (stat k) ≡ false → Pending P v' ann stat H' k
    moved k lo f = go (eqb (v.count + 1) (H.target k)) refl b refl
      where
        K : Pending P v ann stat H k
        K = I.pending k lo f

        less : v.count < H.target k
        less = before k lo f

        -- the commits so far are before the next count
        counts : (r : ℕ) → r ≢ P.card k → Window P.cards r (H.target k) (v.count + 1) (H.passed k r)
        counts r n = passes_up P v (stat helped ≡ finished) r (H.target k) (H.passed k r) (K.window r n)

        go : (x : Bool) → eqb (v.count + 1) (H.target k) ≡ x → (y : Bool) → b ≡ y → Pending P v' ann stat H' k
        go false e y eb =
            record {
              card = rw e K.card;
              ahead = rw e (omega (arith, less));
              near = rw e (let z = K.near in omega arith);
              hit = λ q. absurd (eqb-false _ _ e (rw e at q));
              window = λ r n. inl (rw e (counts r n));
            }
        go true e true eb =
            record {
              card = rw (e, eb) K.card;
              ahead = rw (e, eb) (omega (arith, less));
              near = rw (e, eb) (let z = K.near in omega arith);
              hit = λ _. eb;
              window = λ r n. inl (rw (e, eb) (counts r n));
            }
        go true e false eb =
            record {
              card = rw (e, eb) (add-mod_right (H.target k) P.cards ∙ K.card);
              ahead = rw (e, eb) (omega (arith, less));
              near = rw (e, eb) (let z = eqb-true (v.count + 1) (H.target k) e in omega arith);
              hit =
                  λ q.
                  absurd
                  (let z : v.count + 1 ≡ H.target k = eqb-true _ _ e in
                  let y : v.count + 1 ≡ H.target k + P.cards = rw (e, eb) at q in
                  let c = acc.some_card in
                  omega arith);
              window =
                  λ r n. inl (rw (e, eb, I.mover p sw ev (nx ∙ eb) k lo f (eqb-true _ _ e) r n) none);
            }

    -- Every clause.
    advances : BypassHolds P v' ann stat (upd job p w) H'
    advances =
        record {
          none_yet = I.none_yet;
          once = λ k lo. I.once k (lows k lo);
          parts =
              λ k.
              parts-keep P ann ann stat stat H H' v v' k (phase (upd job p w k)) (λ _. refl) (λ _. refl)
              (upd-elim (λ x. PhaseHolds P v ann stat H k (phase x)) job p w k (λ e. rw e part) (λ _. I.parts k));
          bound = λ k r lo. I.bound k r (lows k lo);
          pending = λ k lo. moved k (lows k lo);
          mover =
              λ x.
              upd-elim (λ y. Mover P v' stat (upd job p w) H' y) job p w x
              (λ _. no-mover P v' stat (upd job p w) H' w ns)
              (λ _ _ e. absurd (later (job x).ver (D.each x).old e));
        }
      where
        lows : (k : ℕ) → announced (phase (upd job p w k)) ≡ true → low k ≡ true
        lows k lo = sym (upd-map (λ x. announced (phase x)) job p w k el) ∙ lo

        -- no job has the new V as its version
        later : (x : Version) → x.count ≤ v.count → x ≡ v' → ⊥
        later x le e = let z : x.count ≡ v.count + 1 = ap (λ (y : Version). y.count) e in omega arith

  -- A14 and A15: Ann of p's card becomes x. That card is not the one that a true flag speaks of.
  module _ (shut : v.flag ≡ true → P.card p ≡ v.count % P.cards → P.prio helped ≤ P.prio p → ⊥) (x : ℕ)
      (w : Working) (ns : NoMover (kind w.place)) where
    -- The announcements after it.
    abbrev A₁ : ℕ → ℕ
    A₁ = upd ann (P.card p) x

    -- A finished chief stays the chief.
    stays : v.flag ≡ true → stat helped ≡ finished → stat (A₁ (v.count % P.cards)) ≡ finished
    stays f d =
        ap stat
        (upd_other ann (P.card p) x (v.count % P.cards) (λ e. shut f (sym e) (chief-under P s C D p R f (sym e))))
        ∙ d

    -- Second A14, and A15: the call is finished.
    again :
        is_finished (stat p) ≡ true → (announced (phase w) ≡ true → low p ≡ true) → PhaseHolds P v A₁ stat H p (phase w)
        → Good (record { work = w; store = Store.Ann (P.card p) x; done = false })
    again fp grows part =
        record {
          kept =
              rw fp
              (frame P v ann stat job H I p A₁ stat w H.committed grows (λ _ _. (refl, refl)) (I.none_yet p)
              stays part (no-mover P v stat job H w ns));
        }

    -- The target of the call.
    abbrev first : ℕ
    first = target P.cards (P.card p) v.count

    -- The tally after its announcement.
    abbrev H₁ : Tally
    H₁ =
        record {
          committed = H.committed;
          passed = upd H.passed p (λ _. []);
          target = upd H.target p first;
        }

    -- First A14: the announcement.
    announces :
        is_finished (stat p) ≡ false → phase w ≡ look true
        → Good (record { work = w; store = Store.Ann (P.card p) x; done = false })
    announces fp ep =
        record {
          kept =
              rw fp
              (record {
                none_yet = I.none_yet;
                once = λ k. once k (ℕ_discrete k p);
                parts =
                    λ k.
                    upd-elim (λ y. PhaseHolds P v A₁ stat H₁ k (phase y)) job p w k (λ e. rw ep tt)
                    (λ _.
                    parts-keep P ann A₁ stat stat H H₁ v v k (phase (job k)) (λ _. refl) (λ _. refl) (I.parts k));
                bound = λ k. bound k (ℕ_discrete k p);
                pending = λ k. pending k (ℕ_discrete k p);
                mover =
                    λ y.
                    upd-elim (λ z. Mover P v stat (upd job p w) H₁ z) job p w y
                    (λ _. no-mover P v stat (upd job p w) H₁ w ns)
                    (λ _ a b c k. mover y a b c k (ℕ_discrete k p));
              });
        }
      where
        lows : (k : ℕ) → k ≢ p → announced (phase (upd job p w k)) ≡ true → low k ≡ true
        lows k m lo = rw (upd_other job p w k m) at lo

        -- p is not finished
        once :
            (k : ℕ) → Dec (k ≡ p) → announced (phase (upd job p w k)) ≡ true → is_finished (stat k) ≡ true
            → H.committed k ≡ 1
        once k (yes e) lo f = absurd (true≢false (sym (rw e at f) ∙ fp))
        once k (no m) lo f = I.once k (lows k m lo) f

        -- no one has passed p
        bound :
            (k : ℕ) → Dec (k ≡ p) → (r : ℕ) → announced (phase (upd job p w k)) ≡ true → r ≢ P.card k
            → length (H₁.passed k r) ≤ 1
        bound k (yes e) r lo n = rw (upd-at H.passed p (λ _. []) k e) (omega arith)
        bound k (no m) r lo n = rw (upd_other H.passed p (λ _. []) k m) (I.bound k r (lows k m lo) n)

        -- the new call's clauses
        own : Pending P v A₁ stat H₁ p
        own =
            let t = target-le P.cards (P.card p) v.count acc.some_card (acc.on_card p p<N) in
            let past = t.0 in
            let near = t.1 in
            record {
              card =
                  rw (upd_same H.target p first)
                  (target-card P.cards (P.card p) v.count acc.some_card (acc.on_card p p<N));
              ahead = rw (upd_same H.target p first) (omega arith);
              near = rw (upd_same H.target p first) near;
              hit =
                  λ q.
                  absurd (let z : v.count ≡ first = rw (upd_same H.target p first) at q in omega arith);
              window = λ r n. inl (rw (upd_same H.passed p (λ _. [])) none);
            }

        -- and those of the others
        pending :
            (k : ℕ) → Dec (k ≡ p) → announced (phase (upd job p w k)) ≡ true → is_finished (stat k) ≡ false
            → Pending P v A₁ stat H₁ k
        pending k (yes e) lo f = rw e own
        pending k (no m) lo f =
            pending-keeps P ann A₁ stat stat H H₁ v k (upd_other H.target p _ k m)
            (upd_other H.passed p _ k m) stays (I.pending k (lows k m lo) f)

        -- the mover's clause
        mover :
            (y : ℕ) → kind (job y).place ≡ swing → (job y).ver ≡ v → (job y).next ≡ false → (k : ℕ) → Dec (k ≡ p)
            → announced (phase (upd job p w k)) ≡ true → is_finished (stat k) ≡ false
            → v.count + 1 ≡ H₁.target k → (r : ℕ) → r ≢ P.card k → H₁.passed k r ≡ []
        mover y a b c k (yes e) lo f t r n = rw (upd-at H.passed p (λ _. []) k e)
        mover y a b c k (no m) lo f t r n =
            rw (upd_other H.passed p (λ _. []) k m)
            (I.mover y a b c k (lows k m lo) f (rw (upd_other H.target p first k m) at t) r n)

  -- H42: the chief q, whose status is decided, commits.
  module _ (q d : ℕ) (eq : q ≡ helped) (dec : stat helped ≡ decided d) (f : v.flag ≡ true) (w : Working)
      (ep : phase w ≡ phase (job p)) (ns : NoMover (kind w.place)) where
    -- The tally after it.
    abbrev H₂ : Tally
    H₂ = tally_stat P s.sh q finished H

    -- The statuses after it.
    abbrev S₂ : ℕ → Status
    S₂ = upd stat q finished

    -- The chief was not finished.
    undone : stat helped ≡ finished → ⊥
    undone = decided≢finished dec

    -- It is an announced job of the card that V points at.
    q-low : (P.card q ≡ v.count % P.cards) × (low q ≡ true)
    q-low = rw eq (C.whole.named-announced (v.count % P.cards) (D.whole.named f))

    -- Who is not finished after it is another.
    not-q : (k : ℕ) → is_finished (S₂ k) ≡ false → k ≢ q
    not-q k e z = true≢false (sym (ap is_finished (upd-at stat q finished k z)) ∙ e)

    -- Who is not announced is another.
    high-q : (k : ℕ) → low k ≡ false → k ≢ q
    high-q k e z = true≢false (sym q-low.1 ∙ rw z at e)

    -- For a pending call of another card, V's count comes into the window of card r.
    one_more :
        (k r : ℕ) → low k ≡ true → is_finished (stat k) ≡ false → r ≢ P.card k → r ≡ P.card q
        → Window P.cards r (H.target k) (v.count + 1) (v.count ∷ H.passed k r)
    one_more k r lo fk n er =
        let up : v.count < v.count + 1 = omega arith in
        more less up (sym q-low.0 ∙ sym er)
        (passes-before P v (stat helped ≡ finished) r (H.target k) (H.passed k r) undone (K.window r n))
      where
        K : Pending P v ann stat H k
        K = I.pending k lo fk

        -- V's count is less than P before the target: the count P before it points at the call's own card, and V at
        -- another
        ne : H.target k ≢ v.count + P.cards
        ne z =
            n
            (er ∙ q-low.0 ∙ sym (add-mod_right v.count P.cards) ∙ ap (λ t. t % P.cards) (sym z) ∙ K.card)

        less : H.target k < v.count + P.cards
        less = omega (arith, K.near, ne)

    -- Every clause.
    commits : BypassHolds P v ann S₂ (upd job p w) H₂
    commits =
        record {
          none_yet =
              λ k e.
              upd_other H.committed q _ k (not-q k e)
              ∙ I.none_yet k (rw (upd_other stat q finished k (not-q k e)) at e);
          once = λ k lo. once k (lows k lo) (ℕ_discrete k q);
          parts =
              λ k.
              rw (phases k)
              (parts-keep P ann ann stat S₂ H H₂ v v k (phase (job k))
              (λ e. upd_other H.committed q _ k (high-q k e))
              (λ e. ap is_finished (upd_other stat q finished k (high-q k e)))
              (I.parts k));
          bound =
              λ k r lo n.
              bound k r (lows k lo) n (eqb r (P.card q)) refl (is_finished (stat k)) refl;
          pending =
              λ k lo e. pending k (lows k lo) (rw (upd_other stat q finished k (not-q k e)) at e);
          mover =
              λ y.
              upd-elim (λ z. Mover P v S₂ (upd job p w) H₂ z) job p w y
              (λ _. no-mover P v S₂ (upd job p w) H₂ w ns)
              (λ _ a b. absurd (undone (subst (λ c. FreshHolds P v ann stat (job y) c) a ((D.each y).fresh b f))));
        }
      where
        -- phases stay
        phases : (k : ℕ) → phase (upd job p w k) ≡ phase (job k)
        phases k = upd-map phase job p w k ep

        lows : (k : ℕ) → announced (phase (upd job p w k)) ≡ true → low k ≡ true
        lows k lo = sym (ap announced (phases k)) ∙ lo

        -- q had not committed, and has now
        once : (k : ℕ) → low k ≡ true → Dec (k ≡ q) → is_finished (S₂ k) ≡ true → H₂.committed k ≡ 1
        once k lo (yes z) e =
            let zero-yet : H.committed q ≡ 0 = I.none_yet q (ap is_finished (ap stat eq ∙ dec)) in
            upd-at H.committed q (H.committed q + 1) k z ∙ omega arith
        once k lo (no m) e =
            upd_other H.committed q (H.committed q + 1) k m
            ∙ I.once k lo (rw (upd_other stat q finished k m) at e)

        -- each other card has one count at most, with the new one
        bound :
            (k r : ℕ) → low k ≡ true → r ≢ P.card k → (a : Bool) → eqb r (P.card q) ≡ a → (b : Bool)
            → is_finished (stat k) ≡ b
            → length (cond (a && not b) (v.count ∷ H.passed k r) (H.passed k r)) ≤ 1
        bound k r lo n true ea false eb =
            at_most_one P.cards r (H.target k) (v.count + 1) _ (let z = (I.pending k lo eb).ahead in omega arith)
            (one_more k r lo eb n (eqb-true _ _ ea))
        bound k r lo n true ea true eb = I.bound k r lo n
        bound k r lo n false ea b eb = I.bound k r lo n

        -- a pending call's clauses
        pending : (k : ℕ) → low k ≡ true → is_finished (stat k) ≡ false → Pending P v ann S₂ H₂ k
        pending k lo fk =
            record {
              card = K.card;
              ahead = K.ahead;
              near = K.near;
              hit = K.hit;
              window = λ r n. rw fk (window r n (eqb r (P.card q)) refl);
            }
          where
            K : Pending P v ann stat H k
            K = I.pending k lo fk

            window :
                (r : ℕ) → r ≢ P.card k → (a : Bool) → eqb r (P.card q) ≡ a
                → Passes P v (S₂ helped ≡ finished) r (H.target k)
                (cond (a && true) (v.count ∷ H.passed k r) (H.passed k r))
            window r n true ea =
                inr (f, upd-at stat q finished helped (sym eq), one_more k r lo fk n (eqb-true _ _ ea))
            window r n false ea =
                passes-keep P v (stat helped ≡ finished) (S₂ helped ≡ finished) r (H.target k) (H.passed k r)
                (λ _ e. absurd (undone e)) (K.window r n)

  -- A4: the clause of round 0 goes along to the loop and to A14.
  look-parts :
      (r : Bool) → PhaseHolds P v ann stat H p (look r)
      → PhaseHolds P v ann stat H p (loop r) × PhaseHolds P v ann stat H p (swap r)
  look-parts true x = (tt, tt)
  look-parts false x = (x, x)

  -- A7: and from the loop to A14.
  loop-parts : (r : Bool) → PhaseHolds P v ann stat H p (loop r) → PhaseHolds P v ann stat H p (swap r)
  loop-parts true x = tt
  loop-parts false x = x

  -- A10: what it finds on the next card is the pending call whose target is the next count, if there is one.
  finds :
      (k : ℕ) → low k ≡ true → is_finished (stat k) ≡ false → (job p).ver ≡ v → v.count + 1 ≡ H.target k
      → ann (((job p).ver.count + 1) % P.cards) ≡ k
  finds k lo f ev t =
      ap ann
      (ap (λ (y : Version). (y.count + 1) % P.cards) ev
      ∙ ap (λ c. c % P.cards) t
      ∙ (I.pending k lo f).card)
      ∙ C.whole.pending k lo f

  -- The stages of a move.
  stages : (st : Stage) → (job p).place ≡ Place.Move st → Good (stage plan sh p st (job p))
  unfolding stage
  stages Stage.Check e = rw shut-test (test Good _ _ _ (λ _. calm _ (rw e) tt) (λ _. calm _ (rw e) tt))
  stages Stage.List e = rw shut-test (test Good _ _ _ (λ _. stay refl refl refl refl (rw e) tt) (λ _. calm _ (rw e) tt))
  stages Stage.Copy e = rw shut-test (test Good _ _ _ (λ _. calm _ (rw e) tt) (λ _. stay refl refl refl refl (rw e) tt))
  stages Stage.Take e =
      onward-elim (λ x. Good (quiet x)) plan
      (with_word (sh.blk (get_or (job p).curr (block plan (job p)) 0) (offset plan (job p))) (job p))
      (λ _ _. calm _ (rw e) tt) (λ _ _. calm _ (rw e) tt)
  stages Stage.Write e =
      onward-elim
      (λ x.
      Good
      (record {
        work = x;
        store =
            Store.Word (get_or (job p).curr (block plan (job p)) 0) (offset plan (job p))
            (word_written (move plan (job p)) (job p).word);
        done = false;
      }))
      plan (job p) (λ _ _. stay refl refl refl refl (rw e) tt) (λ _ _. stay refl refl refl refl (rw e) tt)

  -- Every item, by the place.
  items :
      (pl : Place) → (job p).place ≡ pl → OnBoard P (board s) p (job p).lid (phase_at (second (job p)) pl)
      → HelpHolds P (job p) (kind pl) → ChiefGuard P v ann stat p (job p).lid (phase_at (second (job p)) pl)
      → ((job p).ver ≡ v → v.flag ≡ true → FreshHolds P v ann stat (job p) (kind pl))
      → PhaseHolds P v ann stat H p (phase_at (second (job p)) pl) → Good (item plan sh p pl (job p))
  unfolding item
  items Place.Idle e c fl guard fk part = calm _ refl (rw e tt)
  items Place.A1 e c fl guard fk part = stay refl refl refl refl (rw e) tt
  items Place.A2 e c fl guard fk part =
      means p (negsuc 0) undecided _ false (undecided-means plan.sizes.jobs)
      (arms (goto Place.A4 (with_round 0 (job p))) (rw e) part refl tt)
  items Place.A4 e c fl guard fk part =
      rw shut-test (test Good _ _ _ (λ _. turns _ (rw e) (look-parts (second (job p)) part).1 tt)
      (λ _. turns _ (rw e) (look-parts (second (job p)) part).0 tt))
  items Place.A7 e c fl guard fk part =
      rw shut-test (test Good _ _ _ (λ _. turns _ (rw e) (loop-parts (second (job p)) part) tt)
      (λ _. rw shut-test (test Good _ _ _ (λ _. calm _ (rw e) tt) (λ _. calm _ (rw e) tt))))
  items Place.A10 e c fl guard fk part =
      quietly _ refl refl refl refl (rw e) part
      (λ _ ev nx k lo f t r n.
      let here : ann (((job p).ver.count + 1) % P.cards) ≡ k = finds k lo f ev t in
      let some : not (eqb (ann (((job p).ver.count + 1) % P.cards)) plan.sizes.jobs) ≡ true =
      rw (
        here,
        ne_eqb k plan.sizes.jobs
            (λ z. let l = C.whole.in-plan k (C.whole.announced-active k lo) in omega arith),
      )
      in
      let unfinished :
      not (same_status (sh.stat (ann (((job p).ver.count + 1) % P.cards))) (pos plan.sizes.jobs)) ≡ true =
      rw (here, ← finished-is plan.sizes.jobs (sh.stat k), f)
      in
      absurd (clash _ (search both) nx))
  items Place.A12 e c fl guard fk part =
      rw shut-test (test Good _ _ _
      (λ t.
      let ev : (job p).ver ≡ v = same_version_lem v (job p).ver (search) in
      subst
      (λ (x : Version).
      Good
      (record { work = goto Place.A7 (job p); store = Store.Version (x.count + 1) (job p).next; done = false }))
      (sym ev)
      (record {
        kept = advances (job p).next ev (rw e) refl (fk ev) (goto Place.A7 (job p)) (rw e) part tt;
      }))
      (λ _. calm _ (rw e) tt))
  items Place.A14 e c fl guard fk part =
      rw shut-test (test Good _ _ _
      (λ t. announces guard p (goto Place.A4 (with_round 1 (job p))) tt (rw t at part) refl)
      (λ t. again guard p (goto Place.A15 (job p)) tt (rw t at c) (λ _. rw (e, t)) tt))
  items Place.A15 e c fl guard fk part =
      again guard plan.sizes.jobs (goto Place.Idle (job p)) tt c (λ lo. absurd (false≢true lo)) tt
  items Place.H16 e c fl guard fk part = calm _ (rw e) tt
  items Place.H17 e c fl guard fk part =
      rw shut-test (test Good _ _ _ (λ _. calm _ (rw e) tt)
      (λ _. rw shut-test (test Good _ _ _ (λ _. calm _ (rw e) tt) (λ _. calm _ (rw e) tt))))
  items Place.H21 e c fl guard fk part =
      begin-elim (λ a. Good (quiet (goto a (taking (sh.trans (job p).hid) (job p)))))
      (get_or plan.updates (sh.trans (job p).hid) []) (calm _ (rw e) tt) (calm _ (rw e) tt)
  items (Place.Move st) e c fl guard fk part = stages st e
  items Place.H22 e c fl guard fk part = stay refl refl refl refl (rw e) tt
  items Place.H25 e c fl guard fk part =
      rw shut-test (test Good _ _ _
      (λ t.
      let ev : (job p).ver ≡ v = same_version_lem v (job p).ver (search (and_l, and_r)) in
      let unset : same_status (sh.stat (job p).hid) (negsuc 0) ≡ true = search (and_l, and_r) in
      means (job p).hid (pos p) (decided p) _ true
      (decided-means plan.sizes.jobs p (λ z. let l = p<N in omega arith))
      (decides (job p).hid _
      (fk ev (sym (ap (λ (x : Version). x.flag) ev) ∙ fl))
      (undecided-is plan.sizes.jobs (sh.stat (job p).hid) ∙ unset)
      (rw e) tt))
      (λ _. calm _ (rw e) tt))
  items Place.H32 e c fl guard fk part = rw shut-test (test Good _ _ _ (λ _. calm _ (rw e) tt) (λ _. calm _ (rw e) tt))
  items Place.H34 e c fl guard fk part = rw shut-test (test Good _ _ _ (λ _. calm _ (rw e) tt) (λ _. calm _ (rw e) tt))
  items Place.H36 e c fl guard fk part = rw shut-test (test Good _ _ _ (λ _. calm _ (rw e) tt) (λ _. calm _ (rw e) tt))
  items Place.H37 e c fl guard fk part = rw shut-test (test Good _ _ _ (λ _. calm _ (rw e) tt) (λ _. calm _ (rw e) tt))
  items Place.H38 e c fl guard fk part = calm _ (rw e) tt
  items Place.H41 e c fl guard fk part =
      rw shut-test (test Good _ _ _
      (λ _.
      store-elim (λ x. Good (doing (Store.Bank (job p).addr (job p).new) x)) (job p)
      (stay refl refl refl refl (simp e) tt) (stay refl refl refl refl (simp e) tt))
      (λ _. store-elim (λ x. Good (quiet x)) (job p) (calm _ (simp e) tt) (calm _ (simp e) tt)))
  items Place.H42 e c fl guard fk part =
      rw shut-test (test Good _ _ _
      (λ t.
      let ev : (job p).ver ≡ v = same_version_lem v (job p).ver (search (and_l, and_r)) in
      let held : same_status (sh.stat (job p).hid) (job p).wid ≡ true = search (and_l, and_r) in
      let f : v.flag ≡ true = sym (ap (λ (x : Version). x.flag) ev) ∙ fl.0 in
      means (job p).hid (pos plan.sizes.jobs) finished _ true (finished-means plan.sizes.jobs)
      (commits (job p).hid (winner_of (job p)) (fk ev f).0
      (ap stat (sym (fk ev f).0) ∙ wid-means P.jobs (job p) _ fl.1 (same_true _ _ held))
      f (goto Place.A10 (job p)) (rw e) tt))
      (λ _. calm _ (rw e) tt))

  -- The item that p stands before keeps the layer.
  pub bypass-kept :
      BypassHolds P (after plan p (item plan sh p (job p).place (job p)) s).sh.v
      (after plan p (item plan sh p (job p).place (job p)) s).sh.ann
      (after plan p (item plan sh p (job p).place (job p)) s).sh.stat
      (after plan p (item plan sh p (job p).place (job p)) s).job
      (tally plan s.sh p (item plan sh p (job p).place (job p)).store H)
  bypass-kept =
      (items (job p).place refl (C.each p) (D.each p).flag (D.each p).guard (D.each p).fresh (I.parts p)).kept

-- An accepted call of an idle job keeps the layer: the new call has not committed.
pub bypass-called :
    (P : Layout) (s : State) (H : Tally) (p u : ℕ)
    → BypassHolds P s.sh.v s.sh.ann s.sh.stat s.job H
    → BypassHolds P s.sh.v s.sh.ann s.sh.stat (upd s.job p (called u (s.job p))) (tally_call p H)
bypass-called P s H p u I =
    frame P s.sh.v s.sh.ann s.sh.stat s.job H I p s.sh.ann s.sh.stat (called u (s.job p))
    (upd H.committed p 0) (λ lo. absurd (false≢true lo))
    (λ k e. (refl, upd_other H.committed p 0 k (λ z. false≢true (e z))))
    (λ _. upd_same H.committed p 0) (λ _ d. d) (upd_same H.committed p 0)
    (no-mover P s.sh.v s.sh.stat s.job H (called u (s.job p)) tt)
