use Prim.Native.Nat.{◌+◌, ◌*◌, ◌≤◌}
use mathlib.Core.Path.{◌≡◌}
use lib.ListN.{length, take}
use Rattle.text_lines.proofs.FieldsWritten.{tabbed}
use Rattle.text_lines.proofs.fields_length.Given as goal

abbrev pub invariant-loop-n : goal.invariant-loop-n
invariant-loop-n l =
    (l.length ≡ length (tabbed (take l.n-index l.numbers)) + 1)
    × (l.length ≤ 11 * l.n-index + 1)
