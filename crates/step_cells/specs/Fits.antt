-- What the items ask: the numbers that they read are such that every place is there and every number fits. The ranges
-- of the machine (crate `spec_ranges`) give all of it. Assumes nothing.
use Rattle.std.specs.Prelude.{ℕ, ◌/◌, ◌≤◌, ◌<◌, ◌≡◌, ◌≢◌, [], length, get_or}
use Rattle.spec_format.specs.declared.Move.{Move}
use Rattle.spec_format.specs.Plan.{Plan, job_in}
use Rattle.spec_machine.specs.declared.Stage.{Stage}
use Rattle.spec_machine.specs.Moves.{Access, read, accesses, word_of}
use Rattle.spec_machine.specs.Ranges.{most_numbers}
use Rattle.step_cells.specs.declared.Registers.{Registers}
use Rattle.step_cells.specs.declared.Tables.{Tables}
use Rattle.step_cells.specs.Tables.{own_of}

-- Job p is in the plan, all of whose jobs are there, and the sizes are in their ranges.
pub record PlanFits (plan : Plan) (p : ℕ) : Type 0 where
  pub job : p < plan.sizes.jobs
  pub all_jobs : length plan.jobs ≡ plan.sizes.jobs
  pub jobs : plan.sizes.jobs ≤ 16
  pub some_card : 0 < plan.sizes.cards
  pub cards : plan.sizes.cards ≤ 8
  pub card : (job_in plan p).card < plan.sizes.cards
  pub some_word : 0 < plan.sizes.words
  pub words : plan.sizes.words ≤ 16

-- The numbers in the tables that job p reads are jobs, blocks and block numbers.
pub record CellsFit (x : Tables) (p : ℕ) : Type 0 where
  pub ann : (r : ℕ) → get_or x.ann r 0 ≤ 16
  pub bank : (b : ℕ) → get_or x.bank b 0 < most_numbers
  pub numblks : (k : ℕ) → get_or x.numblks k 0 ≤ 16
  pub curr : (b : ℕ) → get_or (own_of x p).curr b 0 < most_numbers
  pub copy : (i : ℕ) → get_or (own_of x p).copy i 0 < most_numbers

-- And so are those in its registers.
pub record RegistersFit (w : Registers) : Type 0 where
  pub lid : w.lid ≤ 16
  pub hid : w.hid ≤ 16
  pub count : w.ver.count ≤ 4000
  pub numblks : w.numblks ≤ 16
  pub addr : w.addr < 16
  pub new : w.new < most_numbers

-- The move that a job is at, inside an update.
abbrev pub move_for : Plan → Registers → Move
move_for plan w = get_or (get_or plan.updates w.tr []) w.index (Move.Copy 0 0)

-- The read or write that it is at.
abbrev pub access_for : Plan → Registers → Access
access_for plan w = get_or (accesses (move_for plan w)) w.access (read 0)

-- The block of the word that is read or written.
abbrev pub block_for : Plan → Registers → ℕ
block_for plan w = word_of (access_for plan w) / plan.sizes.words

-- A job inside an update: the update, the move, the read or write and its block are there.
pub record InMove (plan : Plan) (w : Registers) : Type 0 where
  pub updates : length plan.updates ≤ 32
  pub update : w.tr < length plan.updates
  pub moves : length (get_or plan.updates w.tr []) ≤ 16
  pub in_moves : w.index < length (get_or plan.updates w.tr [])
  pub in_move : w.access < length (accesses (move_for plan w))
  pub in_blocks : block_for plan w < 16

-- There is a place in job p's row for a block that is not listed.
abbrev pub RoomToList : Plan → Tables → ℕ → Registers → Type 0
RoomToList plan x p w = get_or (own_of x p).dirty (block_for plan w) 0 ≡ 0 → w.numblks < 16

-- There is a copy block for a block that is not written.
abbrev pub RoomToCopy : Plan → Tables → ℕ → Registers → Type 0
RoomToCopy plan x p w = get_or (own_of x p).dirty (block_for plan w) 0 ≢ 2 → w.dirtycnt < 8

-- There is room for what a stage adds.
abbrev pub RoomAt : Stage → Plan → Tables → ℕ → Registers → Type 0
RoomAt Stage.Check plan x p w = Unit {0}
RoomAt Stage.List plan x p w = RoomToList plan x p w
RoomAt Stage.Copy plan x p w = RoomToCopy plan x p w
RoomAt Stage.Take plan x p w = Unit {0}
RoomAt Stage.Write plan x p w = Unit {0}
