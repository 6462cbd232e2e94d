-- What a call and an item make of the tables. Assumes nothing.
use Rattle.std.specs.Prelude.{ℕ, ◌≤◌, ◌<◌, ◌≡◌, true, List, length, get_or, set}
use Rattle.spec_format.specs.Plan.{Plan}
use Rattle.spec_machine.specs.Steps.{item}
use Rattle.spec_machine.specs.Machine.{carried_out, item_of}
use Rattle.step_cells.specs.declared.Registers.{Registers}
use Rattle.step_cells.specs.declared.Change.{Change}
use Rattle.step_cells.specs.declared.Own.{Own}
use Rattle.step_cells.specs.declared.Tables.{Tables}
use Rattle.step_cells.specs.Tables.{Whole, own_of, work_with, idle, machine_of, shared_of}
use Rattle.step_cells.specs.Changed.{with_book, with_own_of}
use Rattle.step_cells.specs.Effects.{store_of}
use Rattle.step_cells.specs.Book.{with_active, counted, book_after}
use Rattle.step_list.specs.Ready.{Ready}

-- A job's own part, called with an update.
abbrev pub called_with : ℕ → Own → Own
called_with u o = record { update = u; dirty = o.dirty; curr = o.curr; copy = o.copy }

-- From tables x to tables y a call of a job with an update was put in: its update, that it is active, and the entry.
abbrev pub Called : Plan → ℕ → ℕ → Tables → Tables → Type 0
Called plan job u x y =
    y ≡ with_book (counted (with_active plan job true x.book)) (with_own_of job (called_with u) x)

-- What an item of job p, whose registers are w, asks.
pub record Steps (plan : Plan) (p : ℕ) (w : Registers) (x : Tables) : Type 0 where
  pub ready : Ready plan p w x
  pub whole : Whole x
  pub few : x.book.entries < 4000
  pub committed : length x.book.commits.items ≤ x.book.entries

-- From tables x to tables y, job p's registers w becoming r, its item was done and counted: the machine is the one that
-- the definitions give, and the book is what some change, whose store is the item's, makes of it.
pub record Stepped (plan : Plan) (p : ℕ) (w : Registers) (x : Tables) (r : Registers) (y : Tables) : Type 0 where
  pub machine_is :
      (ws : List Registers) → length ws ≡ 16 → get_or ws p idle ≡ w
      → machine_of y (set ws p r)
      ≡ carried_out plan p (item_of plan (machine_of x ws) p) (machine_of x ws)
  pub change : Change
  pub store_is :
      store_of plan.sizes.jobs p (own_of x p) change
      ≡ (item plan (shared_of plan x) p w.place (work_with (own_of x p) w)).store
  pub book_is : y.book ≡ counted (book_after plan x p change)
  pub whole : Whole y
