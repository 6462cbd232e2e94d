-- `plan_line` keeps what always holds: at the first line nothing has been read, so that the sizes are free. Assumes
-- nothing.
use Rattle.std.proofs.Common.{◌≡◌, refl, sym, ◌∙◌, ℕ, ◌*◌, true, List, [], ◌∷◌, length, arith, rules}
use Rattle.std.proofs.Math.Nat.{zero-mul}
use Rattle.spec_format.specs.declared.Sizes.{Sizes}
use Rattle.spec_format.specs.declared.Move.{Move}
use Rattle.spec_format.specs.Plan.{Plan, blocks_written}
use Rattle.spec_format.specs.Faults.{in_range, last_of}
use Rattle.read_tables.specs.declared.Note.{Note}
use Rattle.read_tables.specs.Plans.{with_sizes}
use Rattle.read_line_promises.specs.Consistent.{Consistent}
use Rattle.read_plan_lines.proofs.plan_line.Goals as goal

-- Where there is no update, the last one writes no block.
none_written : (s : ℕ) (us : List (List Move)) → length us ≡ 0 → length (blocks_written s (last_of us)) ≡ 0
unfolding blocks_written
none_written s [] e = refl
none_written s (u ∷ us) e = absurd (omega arith)

-- What always holds, with the sizes of the first line.
sized : (z : Sizes) (plan : Plan) (notes : List Note) (blocks written entries : ℕ) → in_range z ≡ true
    → Consistent plan notes (record { lines = 0; blocks = blocks; written = written; entries = entries })
    → Consistent (with_sizes z plan) notes
    (record { lines = 1; blocks = blocks; written = written; entries = entries })
sized z plan notes blocks written entries good h =
    let no_block : blocks ≡ 0 = omega (arith, h.in_lines) in
    let no_update : length plan.updates ≡ 0 = omega (arith, h.in_lines) in
    let no_words : blocks * plan.sizes.words ≡ blocks * z.words
    = rw (no_block, zero-mul plan.sizes.words, zero-mul z.words) in
    let written_none = none_written plan.sizes.words plan.updates no_update in
    let none = none_written z.words plan.updates no_update in
    search rules

pub invariant_of-part : goal.invariant_of-part
invariant_of-part c =
    let before = rw c.requires at c.args.part.now.consistent in
    let good = sym c.in_range.ensures ∙ c.if-not-in_range.false in
    record { consistent = rw (c.set_sizes.ensures, c.requires) (sized _ _ _ _ _ _ good before) }
