-- What is kept beside the machine, and what an entry makes of it: who is active and who runs on each card, counts, what
-- has stopped the run, and the commits. Book and Commit are declared in src/lib.rt. Assumes nothing.
use Rattle.std.specs.Prelude.{ℕ, zero, suc, ◌+◌, Bool, false, cond, ◌&&◌, List, [], ◌∷◌, ◌++◌, eqb, ltb}
use Rattle.std.specs.Prelude.{get_or, set, Option, Some, None}
use Rattle.spec_format.specs.Plan.{Plan, job_in}
use Rattle.spec_machine.specs.declared.Refusal.{Refusal}
use Rattle.step_cells.specs.declared.Change.{Change}
use Rattle.step_cells.specs.declared.Book.{Book}
use Rattle.step_cells.specs.declared.Tables.{Tables}
use Rattle.step_cells.specs.Tables.{own_of}

-- Of the best job so far, where there is one, and job k: the one of higher priority.
abbrev pub higher_of : Plan → Option ℕ → ℕ → Option ℕ
higher_of plan None k = Some k
higher_of plan (Some best) k =
    cond (ltb (job_in plan best).priority (job_in plan k).priority) (Some k) (Some best)

-- The active job of highest priority on a card among the first n jobs, where there is one.
abbrev pub first_on : Plan → List Bool → ℕ → ℕ → Option ℕ
first_on plan active card zero = None
first_on plan active card (suc n) =
    cond (get_or active n false && eqb (job_in plan n).card card) (higher_of plan (first_on plan active card n) n)
    (first_on plan active card n)

-- The book where job p is now active or no longer: another job may then run on its card.
abbrev pub with_active : Plan → ℕ → Bool → Book → Book
with_active plan p up b =
    record {
      entries = b.entries;
      halt = b.halt;
      other = b.other;
      running =
          set b.running (job_in plan p).card
          (first_on plan (set b.active p up) (job_in plan p).card plan.sizes.jobs);
      active = set b.active p up;
      commits = b.commits;
    }

-- The book where the next entry commits the call of job h with this update.
abbrev pub committing : ℕ → ℕ → Book → Book
committing h update b =
    record {
      entries = b.entries;
      halt = b.halt;
      other = b.other;
      running = b.running;
      active = b.active;
      commits =
          record { items = b.commits.items ++ record { entry = b.entries + 1; job = h; update = update } ∷ [] };
    }

-- The book with one more accepted entry.
abbrev pub counted : Book → Book
counted b =
    record {
      entries = b.entries + 1;
      halt = b.halt;
      other = b.other;
      running = b.running;
      active = b.active;
      commits = b.commits;
    }

-- The book stopped by a refusal.
abbrev pub halted : Refusal → Book → Book
halted r b =
    record {
      entries = b.entries;
      halt = Some r;
      other = b.other;
      running = b.running;
      active = b.active;
      commits = b.commits;
    }

-- The book with this place for the first record of another kind.
abbrev pub noting : Option ℕ → Book → Book
noting place b =
    record {
      entries = b.entries;
      halt = b.halt;
      other = place;
      running = b.running;
      active = b.active;
      commits = b.commits;
    }

-- What a change of job p makes of the book in tables.
abbrev pub book_after : Plan → Tables → ℕ → Change → Book
book_after plan x p Change.Nothing = x.book
book_after plan x p (Change.Version n f) = x.book
book_after plan x p (Change.Announced r) = x.book
book_after plan x p (Change.Returned r) = with_active plan p false x.book
book_after plan x p Change.Pending = x.book
book_after plan x p Change.Trans = x.book
book_after plan x p (Change.Listed i a b) = x.book
book_after plan x p (Change.Block a from to) = x.book
book_after plan x p (Change.Word b i w) = x.book
book_after plan x p (Change.Published n) = x.book
book_after plan x p (Change.Bank b n) = x.book
book_after plan x p Change.Cleared = x.book
book_after plan x p (Change.Decided h n) = x.book
book_after plan x p (Change.Commit h) = committing h (own_of x h).update x.book
