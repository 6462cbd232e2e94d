-- `put_decimal` calls itself for all digits but the last, with a number that is less. Assumes nothing.
use mathlib.Core.Path.{sym}
use native.Mathlib.Omega.{arith}
use Rattle.spec_text.specs.Decimal.{decimal}
use Rattle.spec_text.proofs.Digits.{decimal-small, decimal-large, decimal-short, decimal-most}
use Rattle.report_bytes.proofs.Writes.{then, widen, within, renamed}
use Rattle.report_bytes.proofs.+put_decimal.Goals as goal

pub returns-then-n-lt10 : goal.returns-then-n-lt10
returns-then-n-lt10 t c =
    renamed (decimal c.args.n) (sym (decimal-small c.args.n c.if-n-lt10.true))
    (widen 10 (omega arith) c.put_byte.ensures)

-- The digits before the last are at most nine.
pub put_byte-requires-2 : goal.put_byte-requires-2
put_byte-requires-2 t c = omega (arith, c.put_decimal-next.ensures.next_is, decimal-short c.args.n (omega arith))

pub returns : goal.returns
returns t c =
    let n = c.args.n in
    let w = then c.put_decimal-next.ensures c.put_byte-2.ensures in
    within 10 (decimal-most n) (renamed (decimal n) (sym (decimal-large n c.if-n-lt10.false (omega arith))) w)
