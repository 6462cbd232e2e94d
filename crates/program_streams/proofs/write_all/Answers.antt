-- What one more write took stands behind what was written before.
use Rattle.std.proofs.Common.{arith, sym, ap, ◌∙◌, subst, take, ◌++◌}
use Rattle.std.proofs.Math.Seq.{take-add}
use Rattle.std.proofs.lemmas.List.{take_rest}
use Rattle.std.specs.Io.KnownBytes.{Appends}
use Rattle.std.proofs.KnownBytes.{Appends-trans}
use Rattle.program_streams.proofs.write_all.Goals as goal

pub loop-done-preserved : goal.loop-done-preserved
loop-done-preserved g c =
    let start = c.loop-done.invariant in
    let next = c.in-Ok.ensures in
    let bytes = c.args.bytes.now in
    let at = c.loop-done.done in
    let joined = ap (λ l. take at bytes ++ take c.in-Ok.n l) (take_rest bytes at) ∙ sym (take-add at _ bytes) in
    record {
      in_range = omega (arith, next.bound);
      written = subst (Appends _ _) joined (Appends-trans _ _ _ _ _ start.written next.bytes);
    }
