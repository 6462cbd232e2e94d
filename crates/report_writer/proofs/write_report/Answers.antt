-- `write_report` measures a report before it writes it. Assumes nothing.
use Rattle.std.proofs.Common.{◌≡◌, ◌∙◌, ◌≤◌, ℕ, List, length, arith}
use Rattle.std.specs.Prelude.{Some}
use borrow.Author.Tests.{le-leb}
use Rattle.report_bytes.specs.Writes.{Writes}
use Rattle.report_bytes.proofs.Writes.{put_whole}
use Rattle.report_writer.specs.Writing.{IsWritten}
use Rattle.report_writer.proofs.write_report.Goals as goal

-- Bytes that are measured by writing them elsewhere are written where there is room.
all-written : {whole scratch scratch' before after : List ℕ} {most measured next : ℕ}
    → Writes whole most 0 scratch measured scratch' → Writes whole most 0 before next after → measured ≤ length before
    → IsWritten whole before (Some measured) after
all-written {whole = whole} {before = before} {measured = measured} m w h =
    let fits : length whole ≤ length before = omega (arith, m.next_is) in
    let e = le-leb (length whole) (length before) fits in
    let k : measured ≡ length whole = omega (arith, m.next_is) in
    record { answer_is = rw (e, k); after_is = rw e (w.after_is ∙ put_whole before whole fits) }

pub returns : goal.returns
returns c = all-written c.put_report-length.ensures c.put_report.ensures (omega arith)
