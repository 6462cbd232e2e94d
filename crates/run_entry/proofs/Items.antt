-- Which items return and which commit, told by their stores; and what that makes of the book. Assumes nothing.
use Rattle.std.proofs.Common.{◌≡◌, refl, ℕ, ◌<◌, arith, Bool, true, false, not, cond, eqb, eq-eqb, ne_eqb}
use Rattle.std.proofs.Common.{List, [], ◌∷◌, pos, Option, Some, None}
use Rattle.spec_format.specs.declared.Move.{Move}
use Rattle.spec_format.specs.Plan.{Plan}
use Rattle.spec_machine.specs.declared.Stage.{Stage}
use Rattle.spec_machine.specs.declared.Place.{Place}
use Rattle.spec_machine.specs.declared.Working.{Working}
use Rattle.spec_machine.specs.declared.Store.{Store}
use Rattle.spec_machine.specs.declared.Out.{Out}
use Rattle.spec_machine.specs.Status.{same_status}
use Rattle.spec_machine.specs.Places.{is_active}
use Rattle.spec_machine.specs.Moves.{begin, onward}
use Rattle.spec_machine.specs.Steps.{Shared, after_store, stage, item}
use Rattle.spec_machine.proofs.Tests.{shut, shut-test, either}
use Rattle.step_cells.specs.declared.Change.{Change}
use Rattle.step_cells.specs.declared.Book.{Book}
use Rattle.step_cells.specs.declared.Tables.{Tables}
use Rattle.step_cells.specs.Tables.{own_of}
use Rattle.step_cells.specs.Effects.{store_of}
use Rattle.step_cells.specs.Book.{with_active, committing, book_after}
use Rattle.run_entry.specs.Acting.{commits_at}

-- Whether a store is that of a return, in a plan of so many jobs: Ann[r] becomes N.
abbrev pub returns_in : ℕ → Store → Bool
returns_in jobs Store.Nothing = false
returns_in jobs (Store.Version n f) = false
returns_in jobs (Store.Ann r k) = eqb k jobs
returns_in jobs (Store.Stat k x) = false
returns_in jobs (Store.Trans k u) = false
returns_in jobs (Store.Listed i a b) = false
returns_in jobs (Store.Block b c) = false
returns_in jobs (Store.Word b i x) = false
returns_in jobs Store.Published = false
returns_in jobs (Store.Bank b n) = false

-- The job whose call a store commits: its status becomes N.
abbrev pub commit_in : ℕ → Store → Option ℕ
commit_in jobs Store.Nothing = None
commit_in jobs (Store.Version n f) = None
commit_in jobs (Store.Ann r k) = None
commit_in jobs (Store.Stat k x) = cond (same_status x (pos jobs)) (Some k) None
commit_in jobs (Store.Trans k u) = None
commit_in jobs (Store.Listed i a b) = None
commit_in jobs (Store.Block b c) = None
commit_in jobs (Store.Word b i x) = None
commit_in jobs Store.Published = None
commit_in jobs (Store.Bank b n) = None

-- The book of tables where the call of a job is committed, or none.
abbrev pub committed_by : Tables → Option ℕ → Book
committed_by x None = x.book
committed_by x (Some h) = committing h (own_of x h).update x.book

-- The book where job p has returned, or not.
abbrev pub returned_by : Plan → ℕ → Bool → Book → Book
returned_by plan p true b = with_active plan p false b
returned_by plan p false b = b

-- What a change makes of the book, told by its store: whether it returns, and whose call it commits.
pub book-told :
    (plan : Plan) (x : Tables) (p : ℕ) (s : Change) → p < plan.sizes.jobs
    → book_after plan x p s
    ≡ returned_by plan p (returns_in plan.sizes.jobs (store_of plan.sizes.jobs p (own_of x p) s))
    (committed_by x (commit_in plan.sizes.jobs (store_of plan.sizes.jobs p (own_of x p) s)))
book-told plan x p Change.Nothing few = refl
book-told plan x p (Change.Version n f) few = refl
book-told plan x p (Change.Announced r) few = rw (ne_eqb p plan.sizes.jobs (λ e. omega arith))
book-told plan x p (Change.Returned r) few = rw (eq-eqb plan.sizes.jobs plan.sizes.jobs refl)
book-told plan x p Change.Pending few = refl
book-told plan x p Change.Trans few = refl
book-told plan x p (Change.Listed i a b) few = refl
book-told plan x p (Change.Block a from to) few = refl
book-told plan x p (Change.Word b i w) few = refl
book-told plan x p (Change.Published n) few = refl
book-told plan x p (Change.Bank b n) few = refl
book-told plan x p Change.Cleared few = refl
book-told plan x p (Change.Decided h n) few = rw (ne_eqb p plan.sizes.jobs (λ e. omega arith))
book-told plan x p (Change.Commit h) few = rw (eq-eqb plan.sizes.jobs plan.sizes.jobs refl)

-- The first stage of an update's moves is a place of an active job.
begin-active : (ms : List Move) → is_active (begin ms) ≡ true
begin-active [] = refl
begin-active (m ∷ ms) = refl

module _ (plan : Plan) (s : Shared) (p : ℕ) (few : p < plan.sizes.jobs) where
  -- An answer returns exactly where the job is no longer active.
  abbrev Returning : Out → Type 0
  Returning o = returns_in plan.sizes.jobs o.store ≡ not (is_active o.work.place)

  -- Places after a read or write are those of an active job.
  onward-active : (w : Working) → is_active (onward plan w).place ≡ true
  onward-active w =
      rw shut-test (either (λ (k : Working). is_active k.place ≡ true) (shut _) _ _ refl
      (rw shut-test (either (λ (k : Place). is_active k ≡ true) (shut _) _ _ refl refl)))

  -- So are the places after H41.
  stored-active : (w : Working) → is_active (after_store plan s p w).place ≡ true
  stored-active w = rw shut-test (either (λ (k : Place). is_active k ≡ true) (shut _) _ _ refl refl)

  -- A stage does,
  stage-returns : (st : Stage) (w : Working) → Returning (stage plan s p st w)
  unfolding stage
  stage-returns Stage.Check w = rw shut-test (either Returning (shut _) _ _ refl refl)
  stage-returns Stage.List w = rw shut-test (either Returning (shut _) _ _ refl refl)
  stage-returns Stage.Copy w = rw shut-test (either Returning (shut _) _ _ refl refl)
  stage-returns Stage.Take w = rw (onward-active _)
  stage-returns Stage.Write w = rw (onward-active w)

  -- So does the item of an active job.
  pub item-returns : (place : Place) (w : Working) → is_active place ≡ true → Returning (item plan s p place w)
  unfolding item
  item-returns Place.Idle w a = cc
  item-returns Place.A1 w a = refl
  item-returns Place.A2 w a = refl
  item-returns Place.A4 w a = rw shut-test (either Returning (shut _) _ _ refl refl)
  item-returns Place.A7 w a =
      rw shut-test (either Returning (shut _) _ _ refl (rw shut-test (either Returning (shut _) _ _ refl refl)))
  item-returns Place.A10 w a = refl
  item-returns Place.A12 w a = rw shut-test (either Returning (shut _) _ _ refl refl)
  item-returns Place.A14 w a =
      let other : eqb p plan.sizes.jobs ≡ false = ne_eqb p plan.sizes.jobs (λ e. omega (arith, e)) in
      rw shut-test (either Returning (shut _) _ _ other other)
  item-returns Place.A15 w a = eq-eqb plan.sizes.jobs plan.sizes.jobs refl
  item-returns Place.H16 w a = refl
  item-returns Place.H17 w a =
      rw shut-test (either Returning (shut _) _ _ refl (rw shut-test (either Returning (shut _) _ _ refl refl)))
  item-returns Place.H21 w a = rw (begin-active _)
  item-returns (Place.Move st) w a = stage-returns st w
  item-returns Place.H22 w a = refl
  item-returns Place.H25 w a = rw shut-test (either Returning (shut _) _ _ refl refl)
  item-returns Place.H32 w a = rw shut-test (either Returning (shut _) _ _ refl refl)
  item-returns Place.H34 w a = rw shut-test (either Returning (shut _) _ _ refl refl)
  item-returns Place.H36 w a = rw shut-test (either Returning (shut _) _ _ refl refl)
  item-returns Place.H37 w a = rw shut-test (either Returning (shut _) _ _ refl refl)
  item-returns Place.H38 w a = refl
  item-returns Place.H41 w a =
      rw shut-test (either Returning (shut _) _ _ (rw (stored-active w)) (rw (stored-active w)))
  item-returns Place.H42 w a = rw shut-test (either Returning (shut _) _ _ refl refl)

  -- An item commits the call of job hid exactly where it is H42 done, of an active job.
  abbrev Committing : Place → ℕ → Out → Type 0
  Committing place hid o = commit_in plan.sizes.jobs o.store ≡ cond (commits_at place o.done) (Some hid) None

  -- A stage does,
  stage-commits : (st : Stage) (w : Working) → Committing (Place.Move st) w.hid (stage plan s p st w)
  unfolding stage
  stage-commits Stage.Check w =
      rw shut-test (either (Committing (Place.Move Stage.Check) w.hid) (shut _) _ _ refl refl)
  stage-commits Stage.List w =
      rw shut-test (either (Committing (Place.Move Stage.List) w.hid) (shut _) _ _ refl refl)
  stage-commits Stage.Copy w =
      rw shut-test (either (Committing (Place.Move Stage.Copy) w.hid) (shut _) _ _ refl refl)
  stage-commits Stage.Take w = refl
  stage-commits Stage.Write w = refl

  -- and so does every item.
  pub item-commits : (place : Place) (w : Working) → Committing place w.hid (item plan s p place w)
  unfolding item
  item-commits Place.Idle w = refl
  item-commits Place.A1 w = refl
  item-commits Place.A2 w = refl
  item-commits Place.A4 w = rw shut-test (either (Committing Place.A4 w.hid) (shut _) _ _ refl refl)
  item-commits Place.A7 w =
      rw shut-test
      (either (Committing Place.A7 w.hid) (shut _) _ _ refl
      (rw shut-test (either (Committing Place.A7 w.hid) (shut _) _ _ refl refl)))
  item-commits Place.A10 w = refl
  item-commits Place.A12 w = rw shut-test (either (Committing Place.A12 w.hid) (shut _) _ _ refl refl)
  item-commits Place.A14 w = rw shut-test (either (Committing Place.A14 w.hid) (shut _) _ _ refl refl)
  item-commits Place.A15 w = refl
  item-commits Place.H16 w = refl
  item-commits Place.H17 w =
      rw shut-test
      (either (Committing Place.H17 w.hid) (shut _) _ _ refl
      (rw shut-test (either (Committing Place.H17 w.hid) (shut _) _ _ refl refl)))
  item-commits Place.H21 w = refl
  item-commits (Place.Move st) w = stage-commits st w
  item-commits Place.H22 w = refl
  item-commits Place.H25 w =
      let other : eqb p plan.sizes.jobs ≡ false = ne_eqb p plan.sizes.jobs (λ e. omega (arith, e)) in
      rw shut-test (either (Committing Place.H25 w.hid) (shut _) _ _ (rw other) refl)
  item-commits Place.H32 w = rw shut-test (either (Committing Place.H32 w.hid) (shut _) _ _ refl refl)
  item-commits Place.H34 w = rw shut-test (either (Committing Place.H34 w.hid) (shut _) _ _ refl refl)
  item-commits Place.H36 w = rw shut-test (either (Committing Place.H36 w.hid) (shut _) _ _ refl refl)
  item-commits Place.H37 w = rw shut-test (either (Committing Place.H37 w.hid) (shut _) _ _ refl refl)
  item-commits Place.H38 w = refl
  item-commits Place.H41 w = rw shut-test (either (Committing Place.H41 w.hid) (shut _) _ _ refl refl)
  item-commits Place.H42 w =
      let finished = eq-eqb plan.sizes.jobs plan.sizes.jobs refl in
      rw shut-test (either (Committing Place.H42 w.hid) (shut _) _ _ (rw finished) refl)
