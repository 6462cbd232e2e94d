use Prim.Native.Nat.{◌≤◌}
use mathlib.Core.Path.{◌≡◌}
use lib.ListN.{drop}
use Rattle.spec_text.specs.Numbers.{largest, number}
use Rattle.read_fields.proofs.Scanned.{judged}
use Rattle.read_fields.proofs.number_of.Given as goal

abbrev pub invariant-loop-b : goal.invariant-loop-b
invariant-loop-b l = (l.n ≤ largest) × (number l.field ≡ judged l.n (drop l.b-index l.field))
