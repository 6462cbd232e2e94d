-- `step` meets its contract. Assumes nothing.
use Rattle.std.proofs.Common.{arith}
use Rattle.run_entry.proofs.Stepping.{stepped}
use Rattle.run_entry.proofs.step.Goals as goal

pub returns : goal.returns
returns c =
    let a = c.args in
    let asks = c.requires in
    let effect = c.«item-effect» in
    let carried = c.carry_out.ensures in
    stepped a.plan.now a.p a.w effect.result a.tables.now c.carry_out.new.tables (omega arith) asks.whole
    effect.ensures.does effect.ensures.change_inside carried.carried carried.book carried.whole
