-- What a history tells of one call, and how one more event changes it.
--
-- In plain words. A call goes through five events: announced, decided, committed, announced again, returned. An event
-- that is none of these for a call leaves what is told of it, but for one thing: while the call is announced and not
-- committed, the commit of another call passes it. A call that has returned is closed, and so is a number that is no
-- call: it was never announced, or has committed since, so nothing passes it any more.
--
-- Assumes nothing.
use Prim.Native.Nat.{ℕ, ◌+◌, ◌≤◌}
use mathlib.Core.Path.{◌≡◌, sym, ◌∙◌, ap}
use mathlib.Core.Logic.{◌≢◌}
use mathlib.Core.Bool.{Bool, true, false, cond, not, ◌&&◌, ◌||◌, and-false, true≢false, false≢true}
use mathlib.Core.List.{List, [], ◌∷◌, ◌++◌}
use lib.Dec.{eqb}
use lib.ListN.{length, length-append}
use native.Mathlib.Omega.{arith}
use borrow.Author.Tests.{eqb-true, eq-eqb, ne_eqb}
use Rattle.spec_text.proofs.Cases.{by-test}
use Rattle.spec_format.specs.declared.Entry.{Entry}
use Rattle.spec_format.specs.Plan.{Plan, any}
use Rattle.spec_machine.specs.Selected.{select, before_first, after_first}
use Rattle.spec_machine.specs.History.{Event, announces, decides, stores, commits, is_commit, returns}
use Rattle.spec_machine.specs.Demand3.{is_decided_uncommitted, is_stored, card_of, passing}
use Rattle.spec_machine.proofs.Events.{
  any_last,
  any_out,
  any-in,
  any-still,
  any-after,
  any-split,
  select_in,
  select-out,
  none-selected,
  none_passes,
  one_passes,
  before-none,
  before-some,
  before-in,
  before-out,
  after_none,
  after-some,
  after_last,
  passing-none,
  passing-sealed,
  passing-out,
  passing-in,
  announces-only,
}
use Rattle.spec_machine.proofs.Told.{Unused, Telling, Closed}

-- The event speaks of call c neither as announced, decided, committed nor returned.
pub record Quiet (e : Event) (c : ℕ) : Type 0 where
  pub not-announced : announces c e ≡ false
  pub not-decided : decides c e ≡ false
  pub not-committed : commits c e ≡ false
  pub not-returned : returns c e ≡ false

-- The history h and one more event e, and call c.
module _ (h : List Event) (e : Event) (c : ℕ) where
  -- An event that neither decides nor commits the call leaves it decided and uncommitted, or not.
  decided-same : decides c e ≡ false → commits c e ≡ false
      → is_decided_uncommitted (h ++ (e ∷ [])) c ≡ is_decided_uncommitted h c
  decided-same d m = rw (any_out (decides c) h e d, any_out (commits c) h e m)

  -- Where no event spoke of the call, and this one does not, none does.
  pub unused-same : Unused h c → Quiet e c → Unused (h ++ (e ∷ [])) c
  unused-same u q =
      record {
        not-announced = any_out (announces c) h e q.not-announced ∙ u.not-announced;
        not-decided = any_out (decides c) h e q.not-decided ∙ u.not-decided;
        not-committed = any_out (commits c) h e q.not-committed ∙ u.not-committed;
        not-returned = any_out (returns c) h e q.not-returned ∙ u.not-returned;
      }

  -- The call has not committed before its announcement, if the event commits it after its announcement only.
  pub first-same :
      any (commits c) (before_first (announces c) h) ≡ false → (any (announces c) h ≡ false → commits c e ≡ false)
      → any (commits c) (before_first (announces c) (h ++ (e ∷ []))) ≡ false
  first-same k n =
      by-test (any (announces c) h)
      (λ t. rw (before-some (announces c) h e t) k)
      (λ t.
      let m : any (commits c) h ≡ false = rw (before-none (announces c) h t) at k in
      by-test (announces c e)
      (λ y. rw (before-in (announces c) h e t y) m)
      (λ y. rw (before-out (announces c) h e t y) (any_out (commits c) h e (n t) ∙ m)))

  -- An event that stores no block b leaves the blocks stored since the deciding.
  pub stored_same : (b : ℕ) → stores b e ≡ false → is_stored (h ++ (e ∷ [])) c b ≡ is_stored h c b
  stored_same b n =
      by-test (any (decides c) h)
      (λ t. rw (after-some (decides c) h e t) (any_out (stores b) (after_first (decides c) h) e n))
      (λ t. rw (after_last (decides c) h e t, after_none (decides c) h t))

  -- After the deciding, an event that stores a block adds it.
  pub stored_more :
      (b : ℕ) → any (decides c) h ≡ true → is_stored (h ++ (e ∷ [])) c b ≡ (is_stored h c b || stores b e)
  stored_more b t = rw (after-some (decides c) h e t) (any_last (stores b) (after_first (decides c) h) e)

  -- Before the deciding no block is stored.
  pub stored-none : (b : ℕ) → any (decides c) h ≡ false → is_stored (h ++ (e ∷ [])) c b ≡ false
  stored-none b n = rw (after_last (decides c) h e n)

-- Of a call that no event speaks of.
pub tells-nothing :
    (plan : Plan) (es : List Entry) (h : List Event) (c : ℕ) → Unused h c → (l : ℕ → List ℕ) (own : ℕ)
    → Telling plan es h c false false 0 l own
tells-nothing plan es h c u l own =
    record {
      not-returned = u.not-returned;
      announced-is = u.not-announced;
      decided-is = rw u.not-decided;
      commits-are = ap length (none-selected (commits c) h u.not-committed);
      passing-are = λ y. absurd (false≢true y);
    }

-- A history h of which some is told of call c, and one more event e.
module _
    (plan : Plan) (es : List Entry) (h : List Event) (e : Event) (c : ℕ) {a d : Bool} {n : ℕ} {l : ℕ → List ℕ}
    {own : ℕ} (K : Telling plan es h c a d n l own) where
  -- The history after the event.
  abbrev next : List Event
  next = h ++ (e ∷ [])

  -- An event that is no commit passes no call.
  none_passed : is_commit e ≡ false → a ≡ true → (r : ℕ) → r ≢ own → length (passing plan es next c r) ≡ length (l r)
  none_passed m y r o = ap length (passing-out plan es h e c r (rw m)) ∙ K.passing-are y r o

  -- A call that was announced and has committed is not passed any more.
  sealed :
      any (commits c) (before_first (announces c) h) ≡ false → 1 ≤ n
      → any (commits c) (after_first (announces c) h) ≡ true
  sealed first y =
      any-split (commits c) (announces c) h (announces-only c c) first
      (one_passes (commits c) h (omega (arith, K.commits-are)))

  -- An event that does not speak of the call, by what it does to who has passed it.
  tells-quiet :
      (l' : ℕ → List ℕ) → Quiet e c
      → (a ≡ true → (r : ℕ) → r ≢ own → length (passing plan es next c r) ≡ length (l' r))
      → Telling plan es next c a d n l' own
  tells-quiet l' q p =
      record {
        not-returned = any_out (returns c) h e q.not-returned ∙ K.not-returned;
        announced-is = any_out (announces c) h e q.not-announced ∙ K.announced-is;
        decided-is = decided-same h e c q.not-decided q.not-committed ∙ K.decided-is;
        commits-are = ap length (select-out (commits c) h e q.not-committed) ∙ K.commits-are;
        passing-are = p;
      }

  -- An event that does not speak of the call and is no commit.
  pub tells-same : Quiet e c → is_commit e ≡ false → Telling plan es next c a d n l own
  tells-same q m = tells-quiet l q (none_passed m)

  -- The commit of another call, of card `card`: it passes the call, if that is announced and has not committed.
  pub tells-passed :
      Quiet e c → is_commit e ≡ true → (card x : ℕ) (done : Bool) → card_of plan es e.helped ≡ card
      → (a ≡ true → done ≡ true → n ≡ 1) → (done ≡ false → n ≡ 0)
      → any (commits c) (before_first (announces c) h) ≡ false
      → Telling plan es next c a d n (λ r. cond (eqb r card && not done) (x ∷ l r) (l r)) own
  tells-passed q m card x done f one none first =
      tells-quiet (λ r. cond (eqb r card && not done) (x ∷ l r) (l r)) q
      (λ y r o. by-test done (over y r o) (λ t. by-test (eqb r card) (more y r o t) (other y r o)))
    where
      over :
          a ≡ true → (r : ℕ) → r ≢ own → done ≡ true
          → length (passing plan es next c r) ≡ length (cond (eqb r card && not done) (x ∷ l r) (l r))
      over y r o t =
          rw (t, and-false (eqb r card))
          (ap length (passing-sealed plan es h e c r (λ _. sealed first (omega (arith, one y t))))
          ∙ K.passing-are y r o)

      more :
          a ≡ true → (r : ℕ) → r ≢ own → done ≡ false → eqb r card ≡ true
          → length (passing plan es next c r) ≡ length (cond (eqb r card && not done) (x ∷ l r) (l r))
      more y r o t z =
          let after : any (commits c) (after_first (announces c) h) ≡ false =
          any-after (commits c) (announces c) h (none_passes (commits c) h (K.commits-are ∙ none t)) in
          rw (t, z)
          (ap length
          (passing-in plan es h e c r (K.announced-is ∙ y) after q.not-committed
          (rw (m, f) (eq-eqb card r (sym (eqb-true r card z)))))
          ∙ length-append (passing plan es h c r) (e ∷ [])
          ∙ rw (K.passing-are y r o) (omega arith))

      other :
          a ≡ true → (r : ℕ) → r ≢ own → eqb r card ≡ false
          → length (passing plan es next c r) ≡ length (cond (eqb r card && not done) (x ∷ l r) (l r))
      other y r o z =
          let n : card ≢ r = λ w. true≢false (sym (eq-eqb r card (sym w)) ∙ z) in
          rw z (ap length (passing-out plan es h e c r (rw (m, f) (ne_eqb card r n))) ∙ K.passing-are y r o)

  -- An A14 of the call, by what it does to who has passed it.
  tells-swapped :
      (l' : ℕ → List ℕ) → announces c e ≡ true → decides c e ≡ false → returns c e ≡ false
      → ((r : ℕ) → r ≢ own → length (passing plan es next c r) ≡ length (l' r))
      → Telling plan es next c true d n l' own
  tells-swapped l' y q b p =
      record {
        not-returned = any_out (returns c) h e b ∙ K.not-returned;
        announced-is = any-in (announces c) h e y;
        decided-is = decided-same h e c q (announces-only c c e y) ∙ K.decided-is;
        commits-are = ap length (select-out (commits c) h e (announces-only c c e y)) ∙ K.commits-are;
        passing-are = λ _. p;
      }

  -- The announcement: nobody has passed the call.
  pub tells-announced :
      a ≡ false → announces c e ≡ true → decides c e ≡ false → returns c e ≡ false
      → Telling plan es next c true d n (λ _. []) own
  tells-announced z y q b =
      tells-swapped (λ _. []) y q b (λ r _. ap length (passing-none plan es h e c r (K.announced-is ∙ z)))

  -- A second A14.
  pub tells-again :
      a ≡ true → announces c e ≡ true → decides c e ≡ false → returns c e ≡ false → is_commit e ≡ false
      → Telling plan es next c true d n l own
  tells-again z y q b m = tells-swapped l y q b (none_passed m z)

  -- The deciding.
  pub tells-decided :
      n ≡ 0 → announces c e ≡ false → decides c e ≡ true → returns c e ≡ false → is_commit e ≡ false
      → Telling plan es next c a true n l own
  tells-decided z o y b m =
      record {
        not-returned = any_out (returns c) h e b ∙ K.not-returned;
        announced-is = any_out (announces c) h e o ∙ K.announced-is;
        decided-is =
            rw (
              any-in (decides c) h e y,
              any_out (commits c) h e (rw m),
              none_passes (commits c) h (K.commits-are ∙ z),
            );
        commits-are = ap length (select-out (commits c) h e (rw m)) ∙ K.commits-are;
        passing-are = none_passed m;
      }

  -- The commit.
  pub tells-committed :
      (l' : ℕ → List ℕ) → announces c e ≡ false → commits c e ≡ true → returns c e ≡ false
      → card_of plan es e.helped ≡ own → ((r : ℕ) → r ≢ own → l' r ≡ l r)
      → Telling plan es next c a false (n + 1) l' own
  tells-committed l' o y b f same =
      record {
        not-returned = any_out (returns c) h e b ∙ K.not-returned;
        announced-is = any_out (announces c) h e o ∙ K.announced-is;
        decided-is = rw (any-in (commits c) h e y) (and-false (any (decides c) next));
        commits-are =
            ap length (select_in (commits c) h e y) ∙ length-append (select (commits c) h) (e ∷ [])
            ∙ ap (λ x. x + 1) K.commits-are;
        passing-are =
            λ t r k.
            ap length (passing-out plan es h e c r (rw (f, ne_eqb own r (λ z. k (sym z))) (and-false (is_commit e))))
            ∙ K.passing-are t r k
            ∙ ap length (sym (same r k));
      }

  -- The return of a call that has committed once: it is closed.
  pub closed-returned :
      a ≡ true → d ≡ false → n ≡ 1 → announces c e ≡ false → decides c e ≡ false → is_commit e ≡ false
      → any (commits c) (before_first (announces c) h) ≡ false → card_of plan es c ≡ own
      → ((r : ℕ) → r ≢ own → length (l r) ≤ 1) → Closed plan es next c
  closed-returned y s z o q m first f bound =
      record {
        once = rw once (omega arith);
        returned = λ _. once;
        shut = decided-same h e c q (rw m) ∙ K.decided-is ∙ s;
        sealed =
            λ _.
            rw (after-some (announces c) h e (K.announced-is ∙ y))
            (any-still (commits c) (after_first (announces c) h) e (sealed first (omega arith)));
        passed =
            λ r k. let x : r ≢ own = λ w. k (w ∙ sym f) in rw (none_passed m y r x) (bound r x);
      }
    where
      once : length (select (commits c) next) ≡ 1
      once = ap length (select-out (commits c) h e (rw m)) ∙ K.commits-are ∙ z

-- A closed call stays closed after an event that does not speak of it.
pub closed_same :
    (plan : Plan) (es : List Entry) (h : List Event) (e : Event) (c : ℕ) → Closed plan es h c → Quiet e c
    → Closed plan es (h ++ (e ∷ [])) c
closed_same plan es h e c K q =
    record {
      once = rw (select-out (commits c) h e q.not-committed) K.once;
      returned =
          rw (any_out (returns c) h e q.not-returned, select-out (commits c) h e q.not-committed) K.returned;
      shut = decided-same h e c q.not-decided q.not-committed ∙ K.shut;
      sealed =
          rw (any_out (announces c) h e q.not-announced)
          (λ y.
          rw (after-some (announces c) h e y)
          (any-still (commits c) (after_first (announces c) h) e (K.sealed y)));
      passed = λ r o. rw (passing-sealed plan es h e c r K.sealed) (K.passed r o);
    }
