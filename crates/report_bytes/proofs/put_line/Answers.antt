-- `put_line` writes a first field and the numbers behind it. Assumes nothing.
use Rattle.report_bytes.proofs.Writes.{then}
use Rattle.report_bytes.proofs.put_line.Goals as goal

pub returns : goal.returns
returns c = then c.put_bytes-next.ensures c.put_fields.ensures
