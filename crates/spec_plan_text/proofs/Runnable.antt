-- Single entries whose numbers a plan has: what is known of entries that a run accepts. Assumes nothing.
use Prim.Native.Nat.{◌<◌}
use mathlib.Core.Path.{◌≡◌}
use mathlib.Core.Logic.{◌⊎◌}
use mathlib.Core.List.{List, [], ◌∷◌}
use lib.ListN.{length}
use Rattle.spec_format.specs.declared.Entry.{Entry}
use Rattle.spec_format.specs.Plan.{Plan}

-- An entry is a call of a job and an update that the plan has, or a step of a card that it has.
abbrev pub Runnable : Plan → Entry → Type 0
Runnable plan e =
    ((e.kind ≡ 0) × (e.first < plan.sizes.jobs) × (e.second < length plan.updates))
    ⊎ ((e.kind ≡ 1) × (e.first < plan.sizes.cards))

-- All entries are so.
abbrev pub AllRunnable : Plan → List Entry → Type 0
AllRunnable plan [] = Unit {0}
AllRunnable plan (e ∷ es) = Runnable plan e × AllRunnable plan es
