-- `put_report` writes its four parts one behind the other. Assumes nothing.
use Rattle.std.proofs.Common.{arith, ap}
use Rattle.report_bytes.proofs.Writes.{then, widen, renamed}
use Rattle.report_lines.specs.ReportLines.{row_lines}
use Rattle.report_writer.proofs.put_report.Goals as goal

pub returns : goal.returns
returns c =
    widen 200000 (omega arith)
    (then (renamed _ (ap row_lines c.as_slice.ensures.value) c.put_commits-blocks.ensures)
    (then c.put_blocks-opens.ensures (then c.put_opens-end.ensures c.put_end.ensures)))
