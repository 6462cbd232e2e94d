-- The book says which jobs are active and which one runs on each card, so that an entry is judged without looking
-- through the records. Assumes nothing.
use Rattle.std.specs.Prelude.{ℕ, ◌<◌, ◌≡◌, Bool, false, List, None, get_or}
use Rattle.spec_format.specs.Plan.{Plan}
use Rattle.spec_machine.specs.Places.{is_active}
use Rattle.spec_machine.specs.Machine.{Machine, work_of}
use Rattle.spec_machine.specs.Entries.{runs_on}
use Rattle.step_cells.specs.declared.Book.{Book}

-- These truths say which jobs are active.
abbrev pub ActiveAre : Machine → List Bool → Type 0
ActiveAre m active = (k : ℕ) → k < 16 → get_or active k false ≡ is_active (work_of m k).place

-- The book says of a state of a plan who is active, and who runs on each card.
pub record WhoRuns (plan : Plan) (m : Machine) (b : Book) : Type 0 where
  pub active_are : ActiveAre m b.active
  pub running_are :
      (card : ℕ) → card < plan.sizes.cards → get_or b.running card None ≡ runs_on plan m card plan.sizes.jobs
