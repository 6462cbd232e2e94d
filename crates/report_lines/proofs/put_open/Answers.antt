-- `put_open` writes its fields one behind the other. Assumes nothing.
use Rattle.std.proofs.Common.{ap, arith}
use Rattle.spec_report.specs.Report.{status_bytes}
use mir.Syntax.{w32}
use mir.ValLaws.{to_z-of_z}
use Rattle.report_bytes.proofs.Writes.{then, widen, renamed}
use Rattle.report_lines.proofs.put_open.Goals as goal

pub returns : goal.returns
returns c =
    -- A signed number goes through a call as its bits.
    let e = ap status_bytes (to_z-of_z w32 c.args.status c.ranges.status) in
    widen 40 (omega arith)
    (then c.put_bytes-job.ensures
    (then c.put_decimal-second.ensures
    (then c.put_byte-value.ensures
    (then (renamed (status_bytes c.args.status) e c.put_job_status-end.ensures) c.put_byte.ensures))))
