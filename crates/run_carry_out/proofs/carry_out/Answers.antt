-- `carry_out` has one arm for each kind of change; here are those that the search does not find. Assumes nothing.
use Rattle.std.proofs.Common.{w32, arith, rules}
use Rattle.std.proofs.lemmas.List.{set-get_or}
use Rattle.std.proofs.lemmas.Int.{to_z_pos}
use Rattle.spec_machine.specs.Machine.{in_row, stored, carried_out}
use Rattle.step_cells.specs.Effects.{Carried}
use Rattle.step_cells.proofs.Whole.{marking_whole, unmarked_whole, reclaiming_whole}
use Rattle.run_carry_out.proofs.Carrying.{low, own_read, own_stays, own_becomes, owns_whole}
use Rattle.run_carry_out.proofs.carry_out.Goals as goal

pub returns-in-Published-clause-carried : goal.returns-in-Published-clause-carried
unfolding Carried carried_out stored
returns-in-Published-clause-carried c =
    rw (c.in-Published.is, set-get_or, c.published.ensures, own_read _ c.requires)
    (λ ws w done long fits. rw (own_stays c.requires ws w long, fits.1))

pub returns-in-Decided-clause-carried : goal.returns-in-Decided-clause-carried
unfolding Carried carried_out stored
returns-in-Decided-clause-carried c =
    let status = to_z_pos w32 c.args.p (omega (arith, low c.requires)) in
    rw (c.in-Decided.is, c.decide.ensures, own_read _ c.requires, status)
    (λ ws w done long fits. rw (own_becomes _ c.requires ws w long))

pub returns-in-Listed-clause-whole : goal.returns-in-Listed-clause-whole
returns-in-Listed-clause-whole c =
    let owns =
    owns_whole c.mark.new.own c.requires
    (rw (c.mark.ensures, own_read _ c.requires) (marking_whole _ _ _ (c.requires.whole.owns c.args.p))) in
    search rules

pub returns-in-Block-clause-whole : goal.returns-in-Block-clause-whole
returns-in-Block-clause-whole c =
    let owns =
    owns_whole c.mark-in-Block.new.own c.requires
    (rw (c.mark-in-Block.ensures, own_read _ c.requires) (marking_whole _ _ _ (c.requires.whole.owns c.args.p))) in
    search rules

pub returns-in-Published-clause-whole : goal.returns-in-Published-clause-whole
returns-in-Published-clause-whole c = rw set-get_or (search rules)

pub returns-in-Cleared-clause-whole : goal.returns-in-Cleared-clause-whole
returns-in-Cleared-clause-whole c =
    let owns =
    owns_whole c.clear.new.own c.requires
    (rw (c.clear.ensures, own_read _ c.requires) (unmarked_whole (c.requires.whole.owns c.args.p))) in
    search rules

pub returns-in-Decided-clause-whole : goal.returns-in-Decided-clause-whole
returns-in-Decided-clause-whole c =
    let addr = in_row c.args.tables.now.rows.addr c.args.p in
    let old = in_row c.args.tables.now.rows.old c.args.p in
    let room = rw c.in-Decided.is at c.requires.room in
    let reclaimed = reclaiming_whole addr old c.in-Decided.n room (c.requires.whole.owns c.args.p) in
    let owns =
    owns_whole c.decide.new.own c.requires
    (rw (c.decide.ensures, own_read _ c.requires) (unmarked_whole reclaimed)) in
    search rules
