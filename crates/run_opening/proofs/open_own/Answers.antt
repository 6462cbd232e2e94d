-- `open_own` meets its contract: every place is filled. Assumes nothing.
use Rattle.std.proofs.Common.{◌*◌, arith}
use Rattle.step_cells.specs.Tables.{no_own}
use Rattle.run_opening.specs.Opened.{own_opened}
use Rattle.run_opening.proofs.Filled.{filled}
use Rattle.run_opening.proofs.open_own.Goals as goal

pub returns : goal.returns
returns c =
    filled 16 (λ p. own_opened (p * c.args.copies)) no_own c.loop-p.own (omega arith)
    (λ q h. c.loop-p.invariant.filled q (omega arith))
