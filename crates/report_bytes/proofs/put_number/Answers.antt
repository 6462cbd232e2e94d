-- `put_number` writes a number, or counts its digits. Assumes nothing.
use native.Mathlib.Omega.{arith}
use Rattle.spec_text.specs.Decimal.{decimal}
use Rattle.spec_text.proofs.Digits.{decimal-most}
use Rattle.report_bytes.proofs.Writes.{counted}
use Rattle.report_bytes.proofs.put_number.Goals as goal

pub overflow_add-result : goal.overflow_add-result
overflow_add-result c = omega (arith, c.width.ensures, decimal-most c.args.n, c.requires)

pub returns-then-buffer-at : goal.returns-then-buffer-at
returns-then-buffer-at c =
    rw c.width.ensures
    (counted (decimal c.args.n) 10 c.args.at c.args.buffer.now (decimal-most c.args.n) c.if-buffer-at.true)
