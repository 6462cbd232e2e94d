-- Lists that grow by a last element, and what that does to a history: which tests some event passes, what is selected,
-- what comes before and after the first event that passes a test, the commits, and the latest call of a job. Assumes
-- nothing.
--
-- In plain words. One more event at the end passes a test or not. If it does not, everything that the test selects is
-- as it was. What comes before the first event of a kind never changes once there is one; what comes after it grows by
-- each event from then on. So a call that is announced and committed is passed by nobody any more, and one that is not
-- announced has been passed by nobody. The commits of a history are of calls whose entries come before, so one more
-- entry changes neither their cards nor who has passed whom.
use Prim.Native.Nat.{ℕ, ◌+◌, ◌≤◌}
use mathlib.Core.Path.{◌≡◌, refl, sym, ◌∙◌, ap}
use mathlib.Core.Bool.{Bool, true, false, ◌&&◌, ◌||◌, or-true, or-false, or_assoc, false≢true}
use mathlib.Core.List.{List, [], ◌∷◌, ◌++◌, map}
use lib.Dec.{eqb}
use lib.ListN.{length, length-append}
use native.Mathlib.Omega.{arith}
use borrow.Author.Tests.{eqb-true}
use Rattle.spec_text.proofs.Cases.{by-test, neither}
use Rattle.spec_format.specs.declared.Entry.{Entry}
use Rattle.spec_format.specs.Plan.{Plan, any, job_in}
use Rattle.spec_machine.specs.Selected.{select, before_first, after_first}
use Rattle.spec_machine.specs.Memory.{Commit}
use Rattle.spec_machine.specs.Places.{label}
use Rattle.spec_machine.specs.History.{
  Event,
  did,
  calls,
  announces,
  commits,
  is_commit,
  commits_in,
  last_entry,
  latest,
}
use Rattle.spec_machine.specs.Demand3.{card_of, passing}
use Rattle.spec_machine.proofs.Tests.{and_l}
use Rattle.spec_machine.proofs.Growing.{Within, no-commit, and-commit, job-before}

module _ {A : Type 0} where
  -- One more element is one more.
  pub length_last : (h : List A) (e : A) → length (h ++ (e ∷ [])) ≡ length h + 1
  length_last h e = length-append h (e ∷ [])

  -- Some element passes a test if one did before, or the last one does.
  pub any_last : (f : A → Bool) (h : List A) (e : A) → any f (h ++ (e ∷ [])) ≡ (any f h || f e)
  any_last f [] e = or-false (f e)
  any_last f (x ∷ h) e = rw (any_last f h e) (sym (or_assoc (f x) (any f h) (f e)))

  -- A last element that does not pass changes nothing.
  pub any_out : (f : A → Bool) (h : List A) (e : A) → f e ≡ false → any f (h ++ (e ∷ [])) ≡ any f h
  any_out f h e n = any_last f h e ∙ rw n (or-false (any f h))

  -- A last element that passes is one that passes.
  pub any-in : (f : A → Bool) (h : List A) (e : A) → f e ≡ true → any f (h ++ (e ∷ [])) ≡ true
  any-in f h e y = any_last f h e ∙ rw y (or-true (any f h))

  -- What passed before still does.
  pub any-still : (f : A → Bool) (h : List A) (e : A) → any f h ≡ true → any f (h ++ (e ∷ [])) ≡ true
  any-still f h e y = any_last f h e ∙ rw y

  -- A last element that passes is selected last.
  pub select_in : (f : A → Bool) (h : List A) (e : A) → f e ≡ true → select f (h ++ (e ∷ [])) ≡ select f h ++ (e ∷ [])
  select_in f [] e y = rw y
  select_in f (x ∷ h) e y =
      by-test (f x) (λ t. rw t (ap {B = List A} (λ r. x ∷ r) (select_in f h e y))) (λ t. rw t (select_in f h e y))

  -- One that does not pass is not selected.
  pub select-out : (f : A → Bool) (h : List A) (e : A) → f e ≡ false → select f (h ++ (e ∷ [])) ≡ select f h
  select-out f [] e n = rw n
  select-out f (x ∷ h) e n =
      by-test (f x) (λ t. rw t (ap {B = List A} (λ r. x ∷ r) (select-out f h e n))) (λ t. rw t (select-out f h e n))

  -- Where none passes, none is selected.
  pub none-selected : (f : A → Bool) (h : List A) → any f h ≡ false → select f h ≡ []
  none-selected f [] n = refl
  none-selected f (x ∷ h) n =
      let b = neither (f x) (any f h) n in rw b.0 (none-selected f h b.1)

  -- Where one passes, one is selected.
  pub some-selected : (f : A → Bool) (h : List A) → any f h ≡ true → 1 ≤ length (select f h)
  some-selected f [] y = absurd (false≢true y)
  some-selected f (x ∷ h) y =
      by-test (f x) (λ t. rw t (omega arith)) (λ t. rw t (some-selected f h (rw t at y)))

  -- Where none is selected, none passes.
  pub none_passes : (f : A → Bool) (h : List A) → length (select f h) ≡ 0 → any f h ≡ false
  none_passes f h n =
      by-test (any f h) (λ t. let l : 1 ≤ length (select f h) = some-selected f h t in absurd (omega arith)) (λ t. t)

  -- Where one is selected, one passes.
  pub one_passes : (f : A → Bool) (h : List A) → 1 ≤ length (select f h) → any f h ≡ true
  one_passes f h y =
      by-test (any f h) (λ t. t)
      (λ t. let l : length (select f h) ≡ 0 = ap length (none-selected f h t) in absurd (omega arith))

  -- Where none passes, all comes before the first.
  pub before-none : (f : A → Bool) (h : List A) → any f h ≡ false → before_first f h ≡ h
  before-none f [] n = refl
  before-none f (x ∷ h) n =
      let b = neither (f x) (any f h) n in rw b.0 (ap {B = List A} (λ r. x ∷ r) (before-none f h b.1))

  -- What comes before the first stays, once there is one.
  pub before-some :
      (f : A → Bool) (h : List A) (e : A) → any f h ≡ true → before_first f (h ++ (e ∷ [])) ≡ before_first f h
  before-some f [] e y = absurd (false≢true y)
  before-some f (x ∷ h) e y =
      by-test (f x) (λ t. rw t) (λ t. rw t (ap {B = List A} (λ r. x ∷ r) (before-some f h e (rw t at y))))

  -- All that was there comes before the last, where that is the first to pass.
  pub before-in :
      (f : A → Bool) (h : List A) (e : A) → any f h ≡ false → f e ≡ true → before_first f (h ++ (e ∷ [])) ≡ h
  before-in f [] e n y = rw y
  before-in f (x ∷ h) e n y =
      let b = neither (f x) (any f h) n in rw b.0 (ap {B = List A} (λ r. x ∷ r) (before-in f h e b.1 y))

  -- Where none passes and the last does not, that comes before the first too.
  pub before-out :
      (f : A → Bool) (h : List A) (e : A) → any f h ≡ false → f e ≡ false
      → before_first f (h ++ (e ∷ [])) ≡ h ++ (e ∷ [])
  before-out f h e n o = before-none f (h ++ (e ∷ [])) (any_out f h e o ∙ n)

  -- Where none passes, nothing comes after the first.
  pub after_none : (f : A → Bool) (h : List A) → any f h ≡ false → after_first f h ≡ []
  after_none f [] n = refl
  after_none f (x ∷ h) n = let b = neither (f x) (any f h) n in rw b.0 (after_none f h b.1)

  -- What comes after the first grows, once there is one.
  pub after-some :
      (f : A → Bool) (h : List A) (e : A) → any f h ≡ true
      → after_first f (h ++ (e ∷ [])) ≡ after_first f h ++ (e ∷ [])
  after-some f [] e y = absurd (false≢true y)
  after-some f (x ∷ h) e y = by-test (f x) (λ t. rw t) (λ t. rw t (after-some f h e (rw t at y)))

  -- Nothing comes after the last, where none passed before.
  pub after_last : (f : A → Bool) (h : List A) (e : A) → any f h ≡ false → after_first f (h ++ (e ∷ [])) ≡ []
  after_last f [] e n = by-test (f e) (λ t. rw t) (λ t. rw t)
  after_last f (x ∷ h) e n = let b = neither (f x) (any f h) n in rw b.0 (after_last f h e b.1)

  -- What passes after the first of another test passes.
  pub any-after : (f g : A → Bool) (h : List A) → any f h ≡ false → any f (after_first g h) ≡ false
  any-after f g [] n = refl
  any-after f g (x ∷ h) n =
      let b = neither (f x) (any f h) n in by-test (g x) (λ t. rw t b.1) (λ t. rw t (any-after f g h b.1))

  -- What passes one test, and not before the first of another, passes after that one, where none passes both.
  pub any-split :
      (f g : A → Bool) (h : List A) → ((x : A) → g x ≡ true → f x ≡ false) → any f (before_first g h) ≡ false
      → any f h ≡ true → any f (after_first g h) ≡ true
  any-split f g [] d n y = y
  any-split f g (x ∷ h) d n y =
      by-test (g x) (λ t. rw t (rw (d x t) at y))
      (λ t.
      let b = neither (f x) (any f (before_first g h)) (rw t at n) in
      rw t (any-split f g h d b.1 (rw b.0 at y)))

-- The entry of the last of some events is that of the last one.
last_entry_lem : (n : ℕ) (h : List Event) (e : Event) → last_entry n (h ++ (e ∷ [])) ≡ e.entry
last_entry_lem n [] e = refl
last_entry_lem n (x ∷ h) e = last_entry_lem x.entry h e

-- An event that is no call of job k leaves its latest call.
pub latest-same : (k : ℕ) (h : List Event) (e : Event) → calls k e ≡ false → latest k (h ++ (e ∷ [])) ≡ latest k h
latest-same k h e n = ap (last_entry 0) (select-out (calls k) h e n)

-- An event that is a call of job k is its latest.
pub latest-last : (k : ℕ) (h : List Event) (e : Event) → calls k e ≡ true → latest k (h ++ (e ∷ [])) ≡ e.entry
latest-last k h e y = ap (last_entry 0) (select_in (calls k) h e y) ∙ last_entry_lem 0 (select (calls k) h) e

-- A commit by its event.
abbrev pub commit_of : Event → Commit
commit_of e = record { entry = e.entry; call = e.helped }

-- The commits of some events and one more.
map_last :
    (h : List Event) (e : Event) → map commit_of (h ++ (e ∷ [])) ≡ map commit_of h ++ (commit_of e ∷ [])
map_last [] e = refl
map_last (x ∷ h) e = ap {B = List Commit} (λ r. commit_of x ∷ r) (map_last h e)

-- An event that commits nothing adds no commit.
pub commits-out : (h : List Event) (e : Event) → is_commit e ≡ false → commits_in (h ++ (e ∷ [])) ≡ commits_in h
commits-out h e n = ap (map commit_of) (select-out is_commit h e n)

-- An event that commits adds its commit.
pub commits-last :
    (h : List Event) (e : Event) → is_commit e ≡ true → commits_in (h ++ (e ∷ [])) ≡ commits_in h ++ (commit_of e ∷ [])
commits-last h e y = ap (map commit_of) (select_in is_commit h e y) ∙ map_last (select is_commit h) e

-- An event that commits a call of card r.
abbrev pub passes : Plan → List Entry → ℕ → Event → Bool
passes plan es r x = is_commit x && eqb (card_of plan es x.helped) r

module _ (plan : Plan) (es : List Entry) (h : List Event) (e : Event) (c r : ℕ) where
  -- Where call c is not announced yet, nobody has passed it.
  pub passing-none : any (announces c) h ≡ false → passing plan es (h ++ (e ∷ [])) c r ≡ []
  passing-none n = rw (after_last (announces c) h e n)

  -- Where call c, once announced, has committed since, nobody passes it any more.
  pub passing-sealed :
      (any (announces c) h ≡ true → any (commits c) (after_first (announces c) h) ≡ true)
      → passing plan es (h ++ (e ∷ [])) c r ≡ passing plan es h c r
  passing-sealed s =
      by-test (any (announces c) h)
      (λ t.
      rw (after-some (announces c) h e t, before-some (commits c) (after_first (announces c) h) e (s t)))
      (λ t. rw (after_last (announces c) h e t, after_none (announces c) h t))

  -- An event that commits no call of card r passes no call.
  pub passing-out : passes plan es r e ≡ false → passing plan es (h ++ (e ∷ [])) c r ≡ passing plan es h c r
  passing-out n =
      by-test (any (announces c) h) some (λ t. rw (after_last (announces c) h e t, after_none (announces c) h t))
    where
      ends :
          any (commits c) (after_first (announces c) h) ≡ false
          → select (passes plan es r) (before_first (commits c) (after_first (announces c) h ++ (e ∷ [])))
          ≡ passing plan es h c r
      ends t =
          rw (before-none (commits c) (after_first (announces c) h) t)
          (by-test (commits c e) (λ q. rw (before-in (commits c) (after_first (announces c) h) e t q))
          (λ q.
          rw (before-out (commits c) (after_first (announces c) h) e t q)
          (select-out (passes plan es r) (after_first (announces c) h) e n)))

      some : any (announces c) h ≡ true → passing plan es (h ++ (e ∷ [])) c r ≡ passing plan es h c r
      some t =
          rw (after-some (announces c) h e t)
          (by-test (any (commits c) (after_first (announces c) h))
          (λ q. rw (before-some (commits c) (after_first (announces c) h) e q))
          ends)

  -- An event that commits another call of card r passes a call that is announced and not committed since.
  pub passing-in :
      any (announces c) h ≡ true → any (commits c) (after_first (announces c) h) ≡ false → commits c e ≡ false
      → passes plan es r e ≡ true → passing plan es (h ++ (e ∷ [])) c r ≡ passing plan es h c r ++ (e ∷ [])
  passing-in a n o y =
      rw (
        after-some (announces c) h e a,
        before-out (commits c) (after_first (announces c) h) e n o,
        before-none (commits c) (after_first (announces c) h) n,
      )
      (select_in (passes plan es r) (after_first (announces c) h) e y)

-- All commits but the first.
within-rest : {n : ℕ} {c : Commit} {cs : List Commit} → Within n (c ∷ cs) → Within n cs
within-rest (and-commit e a b w) = w

-- The call of the first commit.
within_first : {n : ℕ} {c : Commit} {cs : List Commit} → Within n (c ∷ cs) → (1 ≤ c.call) × (c.call ≤ n)
within_first (and-commit e a b w) = (a, b)

-- The first commit before others.
within-with : {n : ℕ} {c : Commit} {cs ds : List Commit} → Within n (c ∷ cs) → Within n ds → Within n (c ∷ ds)
within-with (and-commit e a b w) v = and-commit e a b v

module _ (n : ℕ) where
  -- The commits of all events but the first are within the same bounds.
  within-tail : (x : Event) (h : List Event) → Within n (commits_in (x ∷ h)) → Within n (commits_in h)
  within-tail x h w = by-test (is_commit x) (λ t. within-rest (rw t at w)) (λ t. rw t at w)

  -- So are those of the events after the first that passes a test,
  within-after : (f : Event → Bool) (h : List Event) → Within n (commits_in h) → Within n (commits_in (after_first f h))
  within-after f [] w = w
  within-after f (x ∷ h) w =
      by-test (f x) (λ t. rw t (within-tail x h w)) (λ t. rw t (within-after f h (within-tail x h w)))

  -- and of those before it.
  within-before : (f : Event → Bool) (h : List Event) → Within n (commits_in h)
      → Within n (commits_in (before_first f h))
  within-before f [] w = w
  within-before f (x ∷ h) w =
      by-test (f x) (λ t. rw t no-commit)
      (λ t.
      rw t
      (by-test (is_commit x) (λ q. rw q (within-with (rw q at w) (within-before f h (within-tail x h w))))
      (λ q. rw q (within-before f h (within-tail x h w)))))

  module _ (plan : Plan) (es : List Entry) (e : Entry) (short : n ≤ length es) where
    -- The card of a call that was there is the same after one more entry.
    pub card-before : (c : ℕ) → 1 ≤ c → c ≤ n → card_of plan (es ++ (e ∷ [])) c ≡ card_of plan es c
    card-before c l b = ap (λ (k : ℕ). (job_in plan k).card) (job-before es e c l (omega arith))

    -- The commits of calls of card r are the same ones,
    cards-before :
        (r : ℕ) (h : List Event) → Within n (commits_in h)
        → select (passes plan (es ++ (e ∷ [])) r) h ≡ select (passes plan es r) h
    cards-before r [] w = refl
    cards-before r (x ∷ h) w =
        by-test (is_commit x)
        (λ t.
        let b : (1 ≤ x.helped) × (x.helped ≤ n) = within_first (rw t at w) in
        rw (card-before x.helped b.0 b.1, cards-before r h (within-tail x h w)))
        (λ t. rw t (cards-before r h (rw t at w)))

    -- and so are those that pass a call.
    pub passing-before :
        (h : List Event) → Within n (commits_in h) → (c r : ℕ)
        → passing plan (es ++ (e ∷ [])) h c r ≡ passing plan es h c r
    passing-before h w c r =
        cards-before r (before_first (commits c) (after_first (announces c) h))
        (within-before (commits c) (after_first (announces c) h) (within-after (announces c) h w))

-- An announcement is no commit.
pub announces-only : (c d : ℕ) (e : Event) → announces c e ≡ true → commits d e ≡ false
announces-only c d e y =
    let l : label e.item ≡ 14 = eqb-true (label e.item) 14 (and_l (did 14 e) (eqb e.call c) y) in rw l
