-- What one more read gave stands behind what was read before, and the input had it next.
use Rattle.std.proofs.Common.{◌≡◌, ℕ, ◌+◌, ◌≤◌, List, length, rules, sym, ap, ◌∙◌, subst, take, ◌++◌}
use Rattle.std.proofs.Math.Seq.{take-append-add}
use Rattle.std.proofs.lemmas.List.{take-append-le, length-take-le}
use Rattle.std.specs.Io.KnownBytes.{Consumes}
use Rattle.std.proofs.KnownBytes.{Consumes-trans}
use Rattle.program_streams.proofs.read_all.Goals as goal

-- Bytes that were put behind the first of some, as far as they are read.
first_placed : (at n : ℕ) (before room rest : List ℕ) → at ≤ length before → n ≤ length room
    → take at before ++ take n room ≡ take (at + n) (take at before ++ (room ++ rest))
first_placed at n before room rest p q =
    let front = take at before in
    sym (ap (λ k. take (k + n) (front ++ (room ++ rest))) (sym (length-take-le at before p))
    ∙ take-append-add front (room ++ rest) n ∙ ap (λ l. front ++ l) (take-append-le n room rest q))

pub loop-done-preserved : goal.loop-done-preserved
loop-done-preserved g c =
    let start = c.loop-done.invariant in
    let next = c.in-Ok.ensures in
    let placed = first_placed _ _ _ _ _ start.in_range next.bound.0 in
    record {
      in_range = search rules;
      read = subst (Consumes _ _) placed (Consumes-trans _ _ _ _ _ start.read next.bytes.0);
    }
