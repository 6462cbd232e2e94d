use Prim.Native.Nat.{◌*◌}
use lib.ListN.{take}
use Rattle.text_lines.proofs.FieldsWritten.{tabbed}
use Rattle.report_bytes.specs.Writes.{Writes}
use Rattle.report_bytes.proofs.put_fields.Given as goal

abbrev pub invariant-loop-n : goal.invariant-loop-n
invariant-loop-n l =
    Writes (tabbed (take l.n-index l.numbers)) (11 * l.n-index) l.at l.initial.buffer l.next l.buffer
