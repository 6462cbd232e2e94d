-- `width` is the length of the decimal. Assumes nothing.
use mathlib.Core.Path.{sym, ap}
use native.Mathlib.Omega.{arith}
use lib.ListN.{length}
use Rattle.spec_text.proofs.Digits.{decimal-small, length-decimal}
use Rattle.text_lines.proofs.width.Goals as goal

pub returns-then-n-lt10 : goal.returns-then-n-lt10
returns-then-n-lt10 c = sym (ap length (decimal-small c.args.n (omega arith)))

pub returns-in-Some : goal.returns-in-Some
returns-in-Some c =
    let e = c.in-Some.ensures in
    omega (arith, length-decimal c.in-Some.k c.args.n e.power_le (omega (arith, e.next_power_gt)) (omega arith))

pub returns-in-None : goal.returns-in-None
returns-in-None c = sym (ap length (decimal-small c.args.n (omega (arith, c.in-None.ensures.none))))
