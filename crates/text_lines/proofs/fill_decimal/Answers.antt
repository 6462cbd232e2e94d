-- `fill_decimal` writes the digits of a number, the last first. Assumes nothing.
use mathlib.Core.Path.{refl, ap}
use mathlib.Core.List.{[]}
use lib.ListN.{length}
use native.Mathlib.Omega.{arith}
use Rattle.text_lines.proofs.Backwards.{begun, room, more, done-is}
use Rattle.spec_text.proofs.Digits.{decimal-small, decimal-large}
use Rattle.text_lines.proofs.FieldsWritten.{some-digit}
use Rattle.text_lines.proofs.fill_decimal.Goals as goal

pub loop-at-init : goal.loop-at-init
loop-at-init c = begun _ _

pub loop-at-preserved : goal.loop-at-preserved
loop-at-preserved c =
    more c.loop-at.invariant _ _ _ (decimal-large c.loop-at.rest (omega arith) (omega arith)) (omega arith)

pub returns-then-rest-lt10-clause-place : goal.returns-then-rest-lt10-clause-place
returns-then-rest-lt10-clause-place c =
    omega (arith, room c.loop-at.invariant (omega arith), ap length (decimal-small c.loop-at.rest (omega arith)))

pub returns-then-rest-lt10-clause-part_after : goal.returns-then-rest-lt10-clause-part_after
returns-then-rest-lt10-clause-part_after c =
    done-is (more c.loop-at.invariant [] _ _ (decimal-small c.loop-at.rest (omega arith)) (omega arith)) refl

pub unreachable-requires : goal.unreachable-requires
unreachable-requires c =
    omega (arith, some-digit c.loop-at.rest (omega arith), room c.loop-at.invariant (omega arith))
