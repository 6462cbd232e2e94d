-- `fill_fields` writes the line feed, and the fields before it, the last first. Assumes nothing.
use mathlib.Core.Path.{◌≡◌}
use Rattle.std.proofs.Common.{arith, rules}
use Rattle.std.proofs.lemmas.Grind.{common_steps}
use Rattle.text_lines.proofs.Backwards.{begun, room, more}
use Rattle.text_lines.proofs.FieldsWritten.{length-fields, tabbed-snoc, fields-tabbed, field-moved, no-field}
use Rattle.text_lines.proofs.fill_fields.Goals as goal

pub overflow_sub-at : goal.overflow_sub-at
overflow_sub-at c = omega (arith, length-fields c.args.numbers.now)

pub bounds-part-at : goal.bounds-part-at
bounds-part-at c = omega (arith, length-fields c.args.numbers.now)

pub loop-n-init : goal.loop-n-init
loop-n-init c =
    let all : c.into_iter-n-iterator.result.iter.rest.now ≡ c.args.numbers.now = search rules in
    rw all (more (begun _ _) _ _ _ (fields-tabbed c.args.numbers.now) (omega (arith, length-fields c.args.numbers.now)))

pub fill_field-at-requires : goal.fill_field-at-requires
fill_field-at-requires c = grind (arith, common_steps, room c.loop-n.invariant, tabbed-snoc)

pub loop-n-preserved : goal.loop-n-preserved
loop-n-preserved c =
    let e = c.fill_field-at.ensures in
    field-moved _ _ c.loop-n.invariant c.in-Some.ensures.steps e.place e.part_after

pub returns : goal.returns
returns c = no-field _ c.loop-n.invariant c.in-None.ensures.steps.0 (grind (arith, common_steps)) (search rules)
