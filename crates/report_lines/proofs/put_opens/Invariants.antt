use Rattle.std.proofs.Common.{ℕ, ◌*◌, Bool, false, cond, List, [], get_or}
use lib.IntN.{ℤ, pos}
use Rattle.spec_report.specs.Report.{joined}
use Rattle.report_bytes.specs.Writes.{Writes}
use Rattle.report_lines.specs.ReportLines.{open_bytes}
use Rattle.report_lines.proofs.put_opens.Given as goal

-- The line of a job that is active.
abbrev pub one : List ℤ → List Bool → ℕ → List ℕ
one stat active k = cond (get_or active k false) (open_bytes k (get_or stat k (pos 0))) []

abbrev pub invariant-loop-k : goal.invariant-loop-k
invariant-loop-k l =
    Writes (joined l.k (one l.tables.stat l.tables.book.active)) (40 * l.k) l.at l.initial.buffer l.next l.buffer
