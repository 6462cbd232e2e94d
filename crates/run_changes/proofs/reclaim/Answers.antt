-- `reclaim` goes through the row: the numbers replaced so far stand in the copy list. Assumes nothing.
use Rattle.std.proofs.Common.{ℕ, [], ◌∷◌, arith, ◌<◌, ◌∙◌, sym, ap, get_or, length}
use Rattle.std.proofs.Math.ListN.{length-append}
use Rattle.spec_machine.specs.Steps.{replaced}
use Rattle.step_cells.specs.declared.Own.{Own}
use Rattle.run_changes.proofs.PutOneByOne.{one_more, replaced-written, replaced-unwritten, has-place}
use Rattle.run_changes.proofs.reclaim.Goals as goal
use Rattle.run_changes.proofs.reclaim.Goals.{then-own-addr-eq2, else-own-addr-eq2}

pub bounds-own-used : goal.bounds-own-used
bounds-own-used c =
    let same = ap (λ (o : Own). get_or o.dirty (get_or c.args.addr c.loop-i.i 0) 0) c.loop-i.invariant.own in
    omega (
      arith,
      has-place (λ k. get_or c.args.addr k 0) (λ k. get_or c.args.old k 0) c.args.own.now.dirty c.loop-i.i c.args.n
          c.loop-i-test.true (sym same ∙ c.if-own-addr-eq2.true),
    )

pub loop-i-preserved : goal.loop-i-preserved
loop-i-preserved c =
    let addr : ℕ → ℕ = λ k. get_or c.args.addr k 0 in
    let old : ℕ → ℕ = λ k. get_or c.args.old k 0 in
    let own = c.args.own.now in
    let i = c.loop-i.i in
    let same = ap (λ (o : Own). get_or o.dirty (addr i) 0) c.loop-i.invariant.own in
    elim c.if-own-addr-eq2.branch [
      | then-own-addr-eq2 w ↦
          let written = sym same ∙ w.if-own-addr-eq2.true in
          let more = replaced-written addr old own.dirty i written in
          let ns = replaced addr old own.dirty i in
          let room : length ns < length own.copy
          = omega (arith, has-place addr old own.dirty i c.args.n c.loop-i-test.true written) in
          record {
            room = c.loop-i.invariant.room;
            used = omega (arith, ap length more, length-append ns (old i ∷ []));
            own =
                rw (w.own-is, c.loop-i.invariant.own, c.loop-i.invariant.used, more, one_more ns own.copy (old i) room);
          }
      | else-own-addr-eq2 w ↦
          let same = replaced-unwritten addr old own.dirty i (λ e. w.if-own-addr-eq2.false (same ∙ e)) in
          record {
            room = c.loop-i.invariant.room;
            used = rw (w.used-is, same) c.loop-i.invariant.used;
            own = rw (w.own-is, same) c.loop-i.invariant.own;
          }
    ]
