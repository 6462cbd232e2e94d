-- The places of the step list by the numbers of their labels, which are lines of the source. Assumes nothing.
use Rattle.std.specs.Prelude.{ℕ, Bool, not, eqb}
use Rattle.spec_machine.specs.declared.Place.{Place}

-- The number of a place's label: 1 for A1, 42 for H42. The stages of a move have 43, where the source's Read begins; 0
-- is for a job that is not active.
abbrev pub label : Place → ℕ
label Place.Idle = 0
label Place.A1 = 1
label Place.A2 = 2
label Place.A4 = 4
label Place.A7 = 7
label Place.A10 = 10
label Place.A12 = 12
label Place.A14 = 14
label Place.A15 = 15
label Place.H16 = 16
label Place.H17 = 17
label Place.H21 = 21
label (Place.Move stage) = 43
label Place.H22 = 22
label Place.H25 = 25
label Place.H32 = 32
label Place.H34 = 34
label Place.H36 = 36
label Place.H37 = 37
label Place.H38 = 38
label Place.H41 = 41
label Place.H42 = 42

-- A job that stands at a place of the step list is active.
abbrev pub is_active : Place → Bool
is_active place = not (eqb (label place) 0)
