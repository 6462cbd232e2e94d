-- `item` is the item of a job by its place: an effect that stays inside has room in any tables. Assumes nothing.
use Rattle.step_list.proofs.item.Goals as goal

pub returns-in-A1-clause-room : goal.returns-in-A1-clause-room
returns-in-A1-clause-room c = c.a1.ensures.stays_inside.1 c.args.tables.now c.args.p

pub returns-in-A2-clause-room : goal.returns-in-A2-clause-room
returns-in-A2-clause-room c = c.a2.ensures.stays_inside.1 c.args.tables.now c.args.p

pub returns-in-A12-clause-room : goal.returns-in-A12-clause-room
returns-in-A12-clause-room c = c.a12.ensures.stays_inside.1 c.args.tables.now c.args.p

pub returns-in-Move-clause-room : goal.returns-in-Move-clause-room
returns-in-Move-clause-room c = c.stage.ensures.stays_inside.1 c.args.tables.now c.args.p

pub returns-in-H22-clause-room : goal.returns-in-H22-clause-room
returns-in-H22-clause-room c = c.h22.ensures.stays_inside.1 c.args.tables.now c.args.p

pub returns-in-H25-clause-room : goal.returns-in-H25-clause-room
returns-in-H25-clause-room c = c.h25.ensures.room c.args.p (rw c.in-H25.is at c.requires.at_place)

pub returns-in-H34-clause-room : goal.returns-in-H34-clause-room
returns-in-H34-clause-room c = c.h34.ensures.stays_inside.1 c.args.tables.now c.args.p

pub returns-in-H36-clause-room : goal.returns-in-H36-clause-room
returns-in-H36-clause-room c = c.h36.ensures.stays_inside.1 c.args.tables.now c.args.p

pub returns-in-H38-clause-room : goal.returns-in-H38-clause-room
returns-in-H38-clause-room c = c.h38.ensures.stays_inside.1 c.args.tables.now c.args.p

pub returns-in-H41-clause-room : goal.returns-in-H41-clause-room
returns-in-H41-clause-room c = c.h41.ensures.stays_inside.1 c.args.tables.now c.args.p

pub returns-in-H42-clause-room : goal.returns-in-H42-clause-room
returns-in-H42-clause-room c = c.h42.ensures.stays_inside.1 c.args.tables.now c.args.p
