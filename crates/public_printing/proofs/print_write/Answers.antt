-- `print_write` prints what the writing of its text comes to. Assumes nothing.
use native.Mathlib.Omega.{arith}
use Rattle.spec_plan_text.specs.Writing.{write_text}
use Rattle.public_printing.proofs.PrintableTexts.{write-printable}
use Rattle.public_printing.proofs.print_write.Goals as goal

pub print_ended-requires : goal.print_ended-requires
print_ended-requires c =
    (_, (_, record { can = write-printable c.args.text.now (omega arith); out = c.write_text-finished.ensures }))

pub returns : goal.returns
returns c =
    let e =
    c.print_ended.ensures (write_text c.args.text.now) c.args.buffer.now
    (record { can = write-printable c.args.text.now (omega arith); out = c.write_text-finished.ensures })
    in
    record { value = e.0; prefix_len = e.1.0; buffer_after = e.1.1 }
