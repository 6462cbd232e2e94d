-- `print_check` prints what the check of its text comes to. Assumes nothing.
use Rattle.std.proofs.Common.{◌≡◌, refl, ap, ◌∙◌, ℕ, List, length, ◌≤◌, arith}
use Rattle.spec_format.specs.declared.Form.{Form}
use Rattle.spec_format.specs.Reading.{reading, verdict_of}
use Rattle.spec_report.specs.Outcomes.{refused, printed}
use Rattle.report_ending.specs.declared.WrittenEnd.{WrittenEnd}
use Rattle.report_ending.specs.Finishing.{nothing_written}
use Rattle.report_ending.proofs.WrittenOut.{refused-out}
use Rattle.spec_report_length.specs.Longest.{longest_end}
use Rattle.public_printing.specs.Printing.{end_of_check, Finished}
use Rattle.public_printing.proofs.PrintableTexts.{check-printable}
use Rattle.public_printing.proofs.print_check.Goals as goal

-- A check of a text has nothing written, and can be printed.
finished : (text : List ℕ) {before : List ℕ} {r : WrittenEnd} → longest_end ≤ length before
    → r ≡ nothing_written (end_of_check (verdict_of (reading Form.Schedule text)))
    → Finished (refused (end_of_check (verdict_of (reading Form.Schedule text)))) before r before
finished text {before} long is =
    rw is (record { can = check-printable text long; out = refused-out _ before refl })

pub print_ended-requires : goal.print_ended-requires
print_ended-requires c =
    let is = c.ended_check-finished.ensures ∙ ap (λ v. nothing_written (end_of_check v)) c.check.ensures in
    (_, (_, finished c.args.text.now (omega arith) is))

pub returns : goal.returns
unfolding printed
returns c =
    let is = c.ended_check-finished.ensures ∙ ap (λ v. nothing_written (end_of_check v)) c.check.ensures in
    let e = c.print_ended.ensures _ _ (finished c.args.text.now (omega arith) is) in
    record { value = e.0; prefix_len = e.1.0; buffer_after = e.1.1 }
