-- `push_move` meets its contract: the last update has one more move, and the other parts stay. Assumes nothing.
use Rattle.std.proofs.Common.{◌<◌, ap, arith, length, List}
use Rattle.std.proofs.lemmas.List.{length-map}
use Rattle.spec_format.specs.declared.Move.{Move}
use Rattle.spec_format.specs.Plan.{Plan}
use Rattle.read_tables.proofs.LastUpdate.{pushed_last}
use Rattle.read_tables.proofs.Plan.push_move.Goals as goal

pub returns : goal.returns
returns c =
    let inside = c.self.inside in
    let us = inside.updates.items in
    let with : List (List Move) → Plan
    = λ updates.
    record { sizes = inside.sizes; jobs = inside.jobs.items; words = inside.words.items; updates = updates } in
    let some : 0 < length us
    = omega (arith, c.requires.some, ap (λ (p : Plan). length p.updates) c.self.view_is, length-map us (λ update. update.items)) in
    rw (← c.self.view_is, c.deref_mut.ensures.value, c.len-last.ensures.value)
    (ap with
    (pushed_last c.args.x us c.push.new.self c.index-deref_mut-last.result some
    (rw (c.deref_mut.ensures.value, c.len-last.ensures.value) at c.push.ensures.items)))
