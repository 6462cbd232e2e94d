-- `read_numbers` meets its contract. Assumes nothing.
use mathlib.Core.Path.{◌≡◌, sym, ◌∙◌}
use native.Mathlib.Omega.{arith}
use Rattle.std.proofs.lemmas.Grind.{common_steps}
use Rattle.std.specs.Prelude.{Some}
use Rattle.read_fields.specs.FieldPlaces.{field_at}
use Rattle.read_fields.proofs.NumbersRead.{numbers-next, read-next, read-end}
use Rattle.read_fields.proofs.read_numbers.Goals as goal

pub returns-in_default-clause-out_after : goal.returns-in_default-clause-out_after
returns-in_default-clause-out_after c = grind (arith, common_steps, numbers-next)

pub loop-place-preserved : goal.loop-place-preserved
loop-place-preserved c =
    let l = c.loop-place in
    let e : field_at c.args.line.now l.at ≡ Some (c.in-Some.n, c.in-Some.next) = cc in
    l.invariant ∙ read-next _ l.out l.at l.place-index _ _ _ (omega arith) (omega arith) e

pub returns-clause-out_after : goal.returns-clause-out_after
returns-clause-out_after c =
    let l = c.loop-place in
    read-end _ l.out l.at l.place-index _ _ (omega arith) (omega arith) c.then_some.ensures ∙ sym l.invariant
