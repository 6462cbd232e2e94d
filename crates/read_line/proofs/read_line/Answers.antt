-- `read_line` meets its contract: a line is known by its first field, and stands or not. Assumes nothing.
use Rattle.std.proofs.Common.{rules}
use Rattle.read_line.proofs.Arms.{unknown-is, done-unknown, done-misplaced, done-read}
use Rattle.read_line.proofs.read_line.Goals as goal

pub returns-then-eq : goal.returns-then-eq
returns-then-eq c =
    done-unknown _ _ c.args.part.now _ c.find-end.result c.find-end.ensures.0
    (rw (← c.kind_of-kind.ensures, ← unknown-is) (search rules))

pub returns-then-not-can_stand : goal.returns-then-not-can_stand
returns-then-not-can_stand c =
    done-misplaced _ _ c.args.part.now _ c.find-end.result c.find-end.ensures.0
    (rw (← c.kind_of-kind.ensures, ← unknown-is) (search rules))
    (rw (← c.kind_of-kind.ensures) (search rules))

pub returns : goal.returns
returns c =
    done-read _ _ _ _ c.find-end.result c.find-end.ensures.0
    (rw (← c.kind_of-kind.ensures, ← unknown-is) (search rules))
    _
    (rw (← c.kind_of-kind.ensures) (search rules))
    (rw (← c.kind_of-kind.ensures) c.read_kind.ensures)
