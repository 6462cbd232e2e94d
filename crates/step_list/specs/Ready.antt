-- What an item of job p asks of a plan, the tables and the job's registers, by the place that it stands at. Assumes
-- nothing.
use Rattle.std.specs.Prelude.{ℕ, ◌≤◌, ◌<◌, length, get_or}
use Rattle.spec_format.specs.Plan.{Plan}
use Rattle.spec_machine.specs.declared.Place.{Place}
use Rattle.spec_machine.specs.Machine.{in_row}
use Rattle.spec_machine.specs.Ranges.{Names, most_numbers}
use Rattle.step_cells.specs.declared.Registers.{Registers}
use Rattle.step_cells.specs.declared.Tables.{Tables}
use Rattle.step_cells.specs.Effects.{Reclaims}
use Rattle.step_cells.specs.Fits.{PlanFits, CellsFit, RegistersFit, InMove, RoomAt}

-- What a place asks besides.
abbrev pub ReadyAt : Plan → ℕ → Registers → Tables → Place → Type 0
ReadyAt plan p w x Place.Idle = Unit {0}
ReadyAt plan p w x Place.A1 = Unit {0}
ReadyAt plan p w x Place.A2 = Unit {0}
ReadyAt plan p w x Place.A4 = Unit {0}
ReadyAt plan p w x Place.A7 = Unit {0}
ReadyAt plan p w x Place.A10 = Unit {0}
ReadyAt plan p w x Place.A12 = Unit {0}
ReadyAt plan p w x Place.A14 = Unit {0}
ReadyAt plan p w x Place.A15 = Unit {0}
ReadyAt plan p w x Place.H16 = Unit {0}
ReadyAt plan p w x Place.H17 = Unit {0}
ReadyAt plan p w x Place.H21 =
    (w.hid < 16) × ((length plan.updates ≤ 32) × (get_or x.trans w.hid 0 < length plan.updates))
ReadyAt plan p w x (Place.Move st) = InMove plan w × RoomAt st plan x p w
ReadyAt plan p w x Place.H22 = Unit {0}
ReadyAt plan p w x Place.H25 = Reclaims x p w
ReadyAt plan p w x Place.H32 = Unit {0}
ReadyAt plan p w x Place.H34 = Names w.wid
ReadyAt plan p w x Place.H36 = Unit {0}
ReadyAt plan p w x Place.H37 = Unit {0}
ReadyAt plan p w x Place.H38 = Names w.wid × (w.j < 16)
ReadyAt plan p w x Place.H41 = w.j < w.numblks
ReadyAt plan p w x Place.H42 = w.hid < 16

-- The rows hold blocks and block numbers.
abbrev pub RowsFit : Tables → Type 0
RowsFit x =
    (k i : ℕ)
    → (in_row x.rows.addr k i < 16)
    × ((in_row x.rows.old k i < most_numbers) × (in_row x.rows.new k i < most_numbers))

-- What every place asks, and this one.
pub record Ready (plan : Plan) (p : ℕ) (w : Registers) (x : Tables) : Type 0 where
  pub fits : PlanFits plan p
  pub cells : CellsFit x p
  pub registers : RegistersFit w
  pub rows : RowsFit x
  pub at_place : ReadyAt plan p w x w.place
