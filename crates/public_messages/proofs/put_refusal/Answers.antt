-- `put_refusal` writes its parts one behind the other. Assumes nothing.
use mathlib.Core.Path.{ap}
use lib.ListN.{length}
use native.Mathlib.Omega.{arith}
use Rattle.report_bytes.proofs.Writes.{then}
use Rattle.public_messages.proofs.Sentences.{meaning-short, said}
use Rattle.public_messages.proofs.put_refusal.Goals as goal

pub put_bytes-end-requires : goal.put_bytes-end-requires
put_bytes-end-requires c = omega (arith, ap length c.requires, meaning-short c.args.number)

pub put_byte-requires : goal.put_byte-requires
put_byte-requires c = omega (arith, (said c.args.number c.requires c.put_bytes-end.ensures).at_most)

pub returns : goal.returns
returns c =
    then c.put_where_met-start.ensures
    (then c.put_bytes-with.ensures
    (then c.put_decimal-colon.ensures
    (then c.put_bytes-meaning.ensures
    (then (said c.args.number c.requires c.put_bytes-end.ensures) c.put_byte.ensures))))
