-- What acting on a judged entry promises: the tables are then the machine that the definitions give, and the book is
-- kept up with it; and what it asks. Assumes nothing.
use Rattle.std.specs.Prelude.{ℕ, ◌+◌, ◌≤◌, ◌<◌, ◌≡◌, Bool, true, cond, ◌&&◌, List, [], ◌∷◌, ◌++◌, eqb, length, get_or}
use Rattle.std.specs.Prelude.{set, Option, Some}
use Rattle.spec_format.specs.Plan.{Plan}
use Rattle.spec_format.specs.Sound.{Sound}
use Rattle.spec_machine.specs.declared.Place.{Place}
use Rattle.spec_machine.specs.declared.Judgement.{Judgement}
use Rattle.spec_machine.specs.declared.Refusal.{Refusal}
use Rattle.spec_machine.specs.Places.{label, is_active}
use Rattle.spec_machine.specs.Machine.{Machine, work_of, item_of}
use Rattle.spec_machine.specs.Entries.{acted}
use Rattle.spec_machine.specs.Ranges.{Ranges}
use Rattle.step_cells.specs.declared.Registers.{Registers}
use Rattle.step_cells.specs.declared.Commit.{Commit}
use Rattle.step_cells.specs.declared.Tables.{Tables}
use Rattle.step_cells.specs.Tables.{Whole, idle, machine_of}
use Rattle.run_judge.specs.declared.Ruling.{Ruling}
use Rattle.run_judge.specs.WhoRuns.{WhoRuns}
use Rattle.run_judge.specs.Rulings.{changed_by}

-- The item at a place commits a call where it is H42 done.
abbrev pub commits_at : Place → Bool → Bool
commits_at place done = eqb (label place) 42 && done

-- The row of entry n + 1, where it commits the call of job hid with this update, and none where it does not.
abbrev pub row_of : Bool → ℕ → ℕ → ℕ → List Commit
row_of commits n hid update = cond commits (record { entry = n + 1; job = hid; update = update } ∷ []) []

-- The row of an entry that is judged so, after n entries: where it commits, with the update of job hid's record.
abbrev pub rows_by : Plan → Machine → Judgement → ℕ → List Commit
rows_by plan m (Judgement.Calls job u) n = []
rows_by plan m (Judgement.Runs p) n =
    row_of (commits_at (work_of m p).place (item_of plan m p).done) n (work_of m p).hid
    (work_of m (work_of m p).hid).update
rows_by plan m (Judgement.Refused r) n = []

-- How many entries were accepted, after n of them, with one that is judged so.
abbrev pub entries_by : Judgement → ℕ → ℕ
entries_by (Judgement.Calls job u) n = n + 1
entries_by (Judgement.Runs p) n = n + 1
entries_by (Judgement.Refused r) n = n

-- The refusal that has stopped the run, with an entry that is judged so.
abbrev pub halt_by : Judgement → Option Refusal → Option Refusal
halt_by (Judgement.Calls job u) halt = halt
halt_by (Judgement.Runs p) halt = halt
halt_by (Judgement.Refused r) halt = Some r

-- A judgement that an entry of this plan can meet after n entries: a called job is there and so is the update; a job
-- that runs is there and active; and where the entry is accepted there is room for it.
abbrev pub Judged : Plan → Machine → ℕ → Judgement → Type 0
Judged plan m n (Judgement.Calls job u) = (job < plan.sizes.jobs) × ((u < length plan.updates) × (n < 4000))
Judged plan m n (Judgement.Runs p) =
    (p < plan.sizes.jobs) × ((is_active (work_of m p).place ≡ true) × (n < 4000))
Judged plan m n (Judgement.Refused r) = Unit {0}

-- The tables and the jobs' registers that the code is given: all that an entry reads.
pub record Kept (plan : Plan) (ws : List Registers) (x : Tables) : Type 0 where
  pub sound : Sound plan
  pub ranges : Ranges plan x.book.entries (machine_of x ws)
  pub whole : Whole x
  pub all_registers : length ws ≡ 16
  pub who_runs : WhoRuns plan (machine_of x ws) x.book
  pub few_commits : length x.book.commits.items ≤ x.book.entries
  pub few_entries : x.book.entries ≤ 4000

-- From tables x to tables y, the registers ws becoming ws', an entry was acted on that is judged so; `other` is the
-- place of the first record of another kind.
pub record Acts (plan : Plan) (j : Judgement) (other : Option ℕ) (ws : List Registers) (x : Tables) (ws' : List Registers)
    (y : Tables) : Type 0 where
  pub machine_is : machine_of y ws' ≡ acted plan (machine_of x ws) j
  pub who_runs : WhoRuns plan (machine_of y ws') y.book
  pub entries_are : y.book.entries ≡ entries_by j x.book.entries
  pub halt_is : y.book.halt ≡ halt_by j x.book.halt
  pub other_is : y.book.other ≡ other
  pub few_commits : length y.book.commits.items ≤ y.book.entries
  pub rows_are :
      y.book.commits.items
      ≡ x.book.commits.items ++ rows_by plan (machine_of x ws) j x.book.entries
  pub whole : Whole y

-- What acting on a judged entry asks: w are the registers of the job that the entry changes.
abbrev pub Asked : Plan → Ruling → Registers → Tables → Type 0
Asked plan ruling w x =
    (ws : List Registers)
    × (Kept plan ws x
    × (Judged plan (machine_of x ws) x.book.entries ruling.judgement
    × (get_or ws (changed_by ruling.judgement) idle ≡ w)))

-- What it gives: w' are those registers after it.
abbrev pub Gives : Plan → Ruling → Registers → Tables → Registers → Tables → Type 0
Gives plan ruling w x w' y =
    (ws : List Registers) → Kept plan ws x
    → Judged plan (machine_of x ws) x.book.entries ruling.judgement
    → get_or ws (changed_by ruling.judgement) idle ≡ w
    → Acts plan ruling.judgement ruling.other ws x (set ws (changed_by ruling.judgement) w') y
