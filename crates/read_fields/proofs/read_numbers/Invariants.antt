use Prim.Native.Nat.{◌-◌}
use mathlib.Core.List.{◌++◌}
use mathlib.Core.Path.{◌≡◌}
use Rattle.std.specs.Prelude.{option_map}
use lib.ListN.{length, take}
use Rattle.spec_text.specs.Lines.{numbers}
use Rattle.read_fields.specs.FieldPlaces.{fields_at}
use Rattle.read_fields.proofs.read_numbers.Given as goal

abbrev pub invariant-loop-place : goal.invariant-loop-place
invariant-loop-place l =
    numbers (length l.initial.out) (fields_at l.line l.from)
    ≡ option_map (λ ns. take l.place-index l.out ++ ns)
    (numbers (length l.initial.out - l.place-index) (fields_at l.line l.at))
