-- The ranges of the machine's numbers: what it takes for them to fit the arrays and the small integers that a program
-- keeps them in, and for every place that an item reads to be there. The crate spec_ranges shows them of every run.
-- Assumes nothing.
use Rattle.std.specs.Prelude.{ℕ, ◌≤◌, ◌<◌, ◌≡◌, ◌≢◌, true, ℤ, pos, negsuc, length, get_or}
use Rattle.spec_format.specs.Plan.{Plan}
use Rattle.spec_machine.specs.declared.Stage.{Stage}
use Rattle.spec_machine.specs.declared.Place.{Place}
use Rattle.spec_machine.specs.declared.Working.{Working}
use Rattle.spec_machine.specs.declared.Cells.{Cells}
use Rattle.spec_machine.specs.Places.{is_active}
use Rattle.spec_machine.specs.Moves.{Access, read, write, accesses, moves, move, access, block}
use Rattle.spec_machine.specs.Steps.{may_decide, replaced}
use Rattle.spec_machine.specs.Machine.{Machine, in_row, shared_in, work_of}

-- A status is −1 or at most n.
abbrev pub StatusIn : ℕ → ℤ → Type 0
StatusIn n (pos w) = w ≤ n
StatusIn n (negsuc a) = a ≡ 0

-- A status is the number of one of sixteen jobs.
abbrev pub Names : ℤ → Type 0
Names (pos w) = w < 16
Names (negsuc a) = ⊥

-- The most block numbers that a plan can have: B + NC is at most 16 + 16 times 8.
abbrev pub most_numbers : ℕ
most_numbers = 144

-- The shared cells after at most n entries. Where there is an update, Trans names one.
pub record CellRanges (plan : Plan) (n : ℕ) (c : Cells) : Type 0 where
  pub count : c.v.count ≤ n
  pub ann : (r : ℕ) → get_or c.ann r 0 ≤ plan.sizes.jobs
  pub stat : (k : ℕ) → StatusIn plan.sizes.jobs (get_or c.stat k (pos 0))
  pub trans : (k : ℕ) → 1 ≤ length plan.updates → get_or c.trans k 0 < length plan.updates
  pub bank : (b : ℕ) → get_or c.bank b 0 < most_numbers
  pub numblks : (k : ℕ) → get_or c.numblks k 0 ≤ 16

-- The rows: addresses are blocks, old and new numbers are block numbers.
pub record RowRanges (m : Machine) : Type 0 where
  pub addr : (k i : ℕ) → in_row m.addrlist k i < 16
  pub old : (k i : ℕ) → in_row m.oldlist k i < most_numbers
  pub new : (k i : ℕ) → in_row m.newlist k i < most_numbers

-- A stage fits a read or a write.
abbrev pub StageOf : Stage → Access → Type 0
StageOf Stage.Check a = Unit {0}
StageOf Stage.List a = Unit {0}
StageOf Stage.Copy (read a) = ⊥
StageOf Stage.Copy (write d) = Unit {0}
StageOf Stage.Take (read a) = Unit {0}
StageOf Stage.Take (write d) = ⊥
StageOf Stage.Write (read a) = ⊥
StageOf Stage.Write (write d) = Unit {0}

-- A job inside a move: the move and the read or write are there, and the stage fits.
pub record MoveInside (plan : Plan) (st : Stage) (w : Working) : Type 0 where
  pub in_moves : w.index < length (moves plan w)
  pub in_move : w.access < length (accesses (move plan w))
  pub stage_of : StageOf st (access plan w)

-- There is room for what a stage adds: a place in the row for a block to list, a copy block for a first write.
abbrev pub RoomFor : Plan → Stage → Working → Type 0
RoomFor plan Stage.Check w = Unit {0}
RoomFor plan Stage.List w = get_or w.dirty (block plan w) 0 ≡ 0 → w.numblks < 16
RoomFor plan Stage.Copy w = get_or w.dirty (block plan w) 0 ≢ 2 → w.dirtycnt < 8
RoomFor plan Stage.Take w = Unit {0}
RoomFor plan Stage.Write w = Unit {0}

-- What the place of a job says of its numbers: from H21 on hid is a job, from H34 on wid names one, and from H36 to H41
-- the line j is one of those counted.
abbrev pub AtPlace : Plan → Working → Place → Type 0
AtPlace plan w Place.Idle = Unit {0}
AtPlace plan w Place.A1 = Unit {0}
AtPlace plan w Place.A2 = Unit {0}
AtPlace plan w Place.A4 = Unit {0}
AtPlace plan w Place.A7 = Unit {0}
AtPlace plan w Place.A10 = Unit {0}
AtPlace plan w Place.A12 = Unit {0}
AtPlace plan w Place.A14 = Unit {0}
AtPlace plan w Place.A15 = Unit {0}
AtPlace plan w Place.H16 = Unit {0}
AtPlace plan w Place.H17 = Unit {0}
AtPlace plan w Place.H21 = w.hid < plan.sizes.jobs
AtPlace plan w (Place.Move st) = (w.hid < plan.sizes.jobs) × (MoveInside plan st w × RoomFor plan st w)
AtPlace plan w Place.H22 = w.hid < plan.sizes.jobs
AtPlace plan w Place.H25 = w.hid < plan.sizes.jobs
AtPlace plan w Place.H32 = w.hid < plan.sizes.jobs
AtPlace plan w Place.H34 = (w.hid < plan.sizes.jobs) × Names w.wid
AtPlace plan w Place.H36 = (w.hid < plan.sizes.jobs) × (Names w.wid × (w.j < w.numblks))
AtPlace plan w Place.H37 = (w.hid < plan.sizes.jobs) × (Names w.wid × (w.j < w.numblks))
AtPlace plan w Place.H38 = (w.hid < plan.sizes.jobs) × (Names w.wid × (w.j < w.numblks))
AtPlace plan w Place.H41 = (w.hid < plan.sizes.jobs) × (w.j < w.numblks)
AtPlace plan w Place.H42 = w.hid < plan.sizes.jobs

-- A working record after at most n entries.
pub record WorkRanges (plan : Plan) (n : ℕ) (w : Working) : Type 0 where
  pub update : is_active w.place ≡ true → w.update < length plan.updates
  pub lid : w.lid ≤ plan.sizes.jobs
  pub hid : w.hid ≤ plan.sizes.jobs
  pub ver : w.ver.count ≤ n
  pub numblks : w.numblks ≤ 16
  pub curr : (b : ℕ) → get_or w.curr b 0 < most_numbers
  pub copy : (i : ℕ) → get_or w.copy i 0 < most_numbers
  pub addr : w.addr < 16
  pub new : w.new < most_numbers
  pub at_place : AtPlace plan w w.place

-- A machine after at most n entries. Where H25 is about to decide, the replaced numbers have room in the copy list.
pub record Ranges (plan : Plan) (n : ℕ) (m : Machine) : Type 0 where
  pub cells : CellRanges plan n m.cells
  pub rows : RowRanges m
  pub works : (k : ℕ) → WorkRanges plan n (work_of m k)
  pub reclaims :
      (p : ℕ) → p < plan.sizes.jobs → (work_of m p).place ≡ Place.H25
      → may_decide plan (shared_in plan m) p (work_of m p) ≡ true
      → length
      (replaced (in_row m.addrlist p) (in_row m.oldlist p) (work_of m p).dirty (work_of m p).numblks)
      ≤ 8
