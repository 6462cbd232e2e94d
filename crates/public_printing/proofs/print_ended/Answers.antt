-- `print_ended` prints the bytes that were written, and else the last line. Assumes nothing.
use Rattle.std.proofs.Common.{◌≡◌, ◌∙◌, arith}
use Rattle.spec_report.specs.Report.{report_end}
use Rattle.report_bytes.proofs.Writes.{renamed}
use Rattle.report_lines.specs.ReportLines.{end_bytes}
use Rattle.public_printing.proofs.PrintedWhole.{bytes-printed, last-printed}
use Rattle.public_printing.proofs.print_ended.Goals as goal

pub returns-then-printed-gt0 : goal.returns-then-printed-gt0
returns-then-printed-gt0 c o before f =
    let done = bytes-printed o f c.if-printed-gt0.true in
    let is =
    (λ i.
    record {
      number = c.end_number-number.ensures.0 i;
      line = c.end_line-line.ensures i;
      entry = c.end_entry-entry.ensures i;
      length = f.out.length_is i;
    })
    ∙ done.0
    in
    (is, done.1)

pub returns : goal.returns
returns c o before f =
    let same : end_bytes c.end_number-number.result c.end_line-line.result
    ≡ report_end c.args.finished.end =
    λ i. end_bytes (c.end_number-number.ensures.0 i) (c.end_line-line.ensures i)
    in
    let done = last-printed o f (omega arith) (renamed _ same c.put_end-length.ensures) in
    let is =
    (λ i.
    record {
      number = c.end_number-number.ensures.0 i;
      line = c.end_line-line.ensures i;
      entry = c.end_entry-entry.ensures i;
      length = done.1.0 i;
    })
    ∙ done.0
    in
    (is, done.1.1)
