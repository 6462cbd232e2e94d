use lib.ListN.{take}
use Rattle.report_bytes.specs.Writes.{Writes}
use Rattle.report_bytes.proofs.put_bytes.Given as goal

abbrev pub invariant-loop-byte : goal.invariant-loop-byte
invariant-loop-byte l =
    Writes (take l.byte-index l.bytes) l.byte-index l.at l.initial.buffer l.next l.buffer
