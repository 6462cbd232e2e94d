-- `put_bytes` writes byte after byte. Assumes nothing.
use mathlib.Core.Path.{sym}
use native.Mathlib.Omega.{arith}
use lib.Seq.{take_all}
use Rattle.std.proofs.lemmas.List.{take_more}
use Rattle.report_bytes.proofs.Writes.{nothing, then, widen, renamed}
use Rattle.report_bytes.proofs.put_bytes.Goals as goal

pub loop-byte-init : goal.loop-byte-init
loop-byte-init c = nothing _ _

pub loop-byte-preserved : goal.loop-byte-preserved
loop-byte-preserved c =
    renamed _ (sym (take_more c.args.bytes.now c.loop-byte.byte-index 0 (omega arith)))
    (then c.loop-byte.invariant c.put_byte-next.ensures)

pub returns : goal.returns
returns c =
    renamed _ (take_all c.loop-byte.byte-index c.args.bytes.now (omega arith)) (widen _ (omega arith) c.loop-byte.invariant)
