use Rattle.std.proofs.Common.{◌*◌, take}
use Rattle.report_bytes.specs.Writes.{Writes}
use Rattle.report_lines.specs.ReportLines.{row_lines}
use Rattle.report_lines.proofs.put_commits.Given as goal

abbrev pub invariant-loop-row : goal.invariant-loop-row
invariant-loop-row l =
    Writes (row_lines (take l.row-index l.commits)) (40 * l.row-index) l.at l.initial.buffer l.next l.buffer
