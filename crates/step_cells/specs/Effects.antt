-- Which answer of the step list an item's effect stands for, and what carrying it out promises. Change and Effect are
-- declared in src/lib.rt. Assumes nothing.
use Rattle.std.specs.Prelude.{ℕ, ◌≤◌, ◌<◌, Bool, true, ◌&&◌, ◌≡◌, List, pos, length, get_or, set, replicate}
use Rattle.spec_text.specs.FirstPlaces.{in_first_places}
use Rattle.spec_format.specs.Plan.{Plan}
use Rattle.spec_machine.specs.declared.Place.{Place}
use Rattle.spec_machine.specs.declared.Store.{Store}
use Rattle.spec_machine.specs.declared.Out.{Out}
use Rattle.spec_machine.specs.Status.{same_status, undecided}
use Rattle.spec_machine.specs.Steps.{item, same_version, replaced}
use Rattle.spec_machine.specs.Machine.{in_row, carried_out}
use Rattle.spec_machine.specs.Ranges.{most_numbers}
use Rattle.step_cells.specs.declared.Registers.{Registers}
use Rattle.step_cells.specs.declared.Change.{Change}
use Rattle.step_cells.specs.declared.Effect.{Effect}
use Rattle.step_cells.specs.declared.Own.{Own}
use Rattle.step_cells.specs.declared.Tables.{Tables}
use Rattle.step_cells.specs.Tables.{own_of, work_with, machine_of, shared_of}

-- A job's own part with a block marked, and that block's number of this run.
abbrev pub marking : ℕ → ℕ → ℕ → Own → Own
marking b mark number o =
    record { update = o.update; dirty = set o.dirty b mark; curr = set o.curr b number; copy = o.copy }

-- With no mark.
abbrev pub unmarked : Own → Own
unmarked o = record { update = o.update; dirty = replicate 16 0; curr = o.curr; copy = o.copy }

-- With the replaced numbers in the first places of the copy list: of the first n listed blocks of a row of these
-- addresses and old numbers.
abbrev pub reclaiming : (ℕ → ℕ) → (ℕ → ℕ) → ℕ → Own → Own
reclaiming addr old n o =
    record {
      update = o.update;
      dirty = o.dirty;
      curr = o.curr;
      copy = in_first_places (replaced addr old o.dirty n) o.copy;
    }

-- What a change makes of the running job's own part, with the addresses and the old numbers of its row.
abbrev pub own_after : (ℕ → ℕ) → (ℕ → ℕ) → Change → Own → Own
own_after addr old Change.Nothing o = o
own_after addr old (Change.Version n f) o = o
own_after addr old (Change.Announced r) o = o
own_after addr old (Change.Returned r) o = o
own_after addr old Change.Pending o = o
own_after addr old Change.Trans o = o
own_after addr old (Change.Listed i a b) o = marking a 1 b o
own_after addr old (Change.Block a from to) o = marking a 2 to o
own_after addr old (Change.Word b i x) o = o
own_after addr old (Change.Published n) o = o
own_after addr old (Change.Bank b n) o = o
own_after addr old Change.Cleared o = unmarked o
own_after addr old (Change.Decided h n) o = unmarked (reclaiming addr old n o)
own_after addr old (Change.Commit h) o = o

-- The store that a change is, of job p whose own part is o, in a plan of so many jobs.
abbrev pub store_of : ℕ → ℕ → Own → Change → Store
store_of jobs p o Change.Nothing = Store.Nothing
store_of jobs p o (Change.Version n f) = Store.Version n f
store_of jobs p o (Change.Announced r) = Store.Ann r p
store_of jobs p o (Change.Returned r) = Store.Ann r jobs
store_of jobs p o Change.Pending = Store.Stat p undecided
store_of jobs p o Change.Trans = Store.Trans p o.update
store_of jobs p o (Change.Listed i a b) = Store.Listed i a b
store_of jobs p o (Change.Block a from to) = Store.Block from to
store_of jobs p o (Change.Word b i x) = Store.Word b i x
store_of jobs p o (Change.Published n) = Store.Published
store_of jobs p o (Change.Bank b n) = Store.Bank b n
store_of jobs p o Change.Cleared = Store.Nothing
store_of jobs p o (Change.Decided h n) = Store.Stat h (pos p)
store_of jobs p o (Change.Commit h) = Store.Stat h (pos jobs)

-- The answer of the step list that an effect of job p stands for.
abbrev pub out_of : Plan → Tables → ℕ → Effect → Out
out_of plan x p r =
    record {
      work =
          work_with (own_after (in_row x.rows.addr p) (in_row x.rows.old p) r.change (own_of x p)) r.registers;
      store = store_of plan.sizes.jobs p (own_of x p) r.change;
      done = r.done;
    }

-- An effect of job p, whose registers are w, is the item at this place, in a plan and tables.
unfoldable pub Does : Place → Plan → Tables → ℕ → Registers → Effect → Type 0
Does place plan x p w r =
    out_of plan x p r
    ≡ item plan (shared_of plan x) p place (work_with (own_of x p) w)

-- A change, with the job's next registers, stays inside the tables. H22 publishes the count in those registers.
abbrev pub ChangeInside : Registers → Change → Type 0
ChangeInside w Change.Nothing = Unit {0}
ChangeInside w (Change.Version n f) = Unit {0}
ChangeInside w (Change.Announced r) = r < 8
ChangeInside w (Change.Returned r) = r < 8
ChangeInside w Change.Pending = Unit {0}
ChangeInside w Change.Trans = Unit {0}
ChangeInside w (Change.Listed i a b) = (i < 16) × (a < 16)
ChangeInside w (Change.Block a from to) = (a < 16) × ((from < most_numbers) × (to < most_numbers))
ChangeInside w (Change.Word b i x) = (b < most_numbers) × (i < 16)
ChangeInside w (Change.Published n) = (n ≤ 16) × (n ≡ w.numblks)
ChangeInside w (Change.Bank b n) = b < 16
ChangeInside w Change.Cleared = Unit {0}
ChangeInside w (Change.Decided h n) = (h < 17) × (n ≤ 16)
ChangeInside w (Change.Commit h) = h < 16

-- The copy list of job p has room for the numbers that a change replaces.
abbrev pub Room : Tables → ℕ → Change → Type 0
Room x p Change.Nothing = Unit {0}
Room x p (Change.Version n f) = Unit {0}
Room x p (Change.Announced r) = Unit {0}
Room x p (Change.Returned r) = Unit {0}
Room x p Change.Pending = Unit {0}
Room x p Change.Trans = Unit {0}
Room x p (Change.Listed i a b) = Unit {0}
Room x p (Change.Block a from to) = Unit {0}
Room x p (Change.Word b i w) = Unit {0}
Room x p (Change.Published n) = Unit {0}
Room x p (Change.Bank b n) = Unit {0}
Room x p Change.Cleared = Unit {0}
Room x p (Change.Decided h n) =
    length (replaced (in_row x.rows.addr p) (in_row x.rows.old p) (own_of x p).dirty n) ≤ 8
Room x p (Change.Commit h) = Unit {0}

-- The condition of a check and of H25, of registers w: V = ver and Stat[hid] = −1.
abbrev pub may_decide : Tables → Registers → Bool
may_decide x w =
    same_version (x.v) w.ver && same_status (get_or x.stat w.hid (pos 0)) undecided

-- Where H25 is about to decide, the replaced numbers have room in job p's copy list.
abbrev pub Reclaims : Tables → ℕ → Registers → Type 0
Reclaims x p w =
    may_decide x w ≡ true
    → length (replaced (in_row x.rows.addr p) (in_row x.rows.old p) (own_of x p).dirty w.numblks) ≤ 8

-- An effect stays inside, whatever the tables hold.
abbrev pub StaysInside : Effect → Type 0
StaysInside r = ChangeInside r.registers r.change × ((x : Tables) (p : ℕ) → Room x p r.change)

-- From tables x to tables y a change of job p was carried out: with next registers that it fits in the job's place, the
-- tables are the machine that the definitions give.
unfoldable pub Carried : Plan → ℕ → Change → Tables → Tables → Type 0
Carried plan p s x y =
    (ws : List Registers) (w : Registers) (done : Bool) → length ws ≡ 16
    → ChangeInside w s
    → machine_of y (set ws p w)
    ≡ carried_out plan p (out_of plan x p (record { registers = w; change = s; done = done }))
    (machine_of x ws)
