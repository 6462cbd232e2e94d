-- `put_where_met` writes its parts one behind the other. Assumes nothing.
use borrow.Author.Tests.{ne_eqb}
use Rattle.report_bytes.proofs.Writes.{then}
use Rattle.public_messages.proofs.put_where_met.Goals as goal

pub returns : goal.returns
returns c =
    rw (ne_eqb _ 0 c.if-line-eq0.false)
    (then c.put_bytes-start.ensures
    (then c.put_decimal-behind.ensures (then c.put_entry-end.ensures c.put_bytes.ensures)))
