-- `open_bank` meets its contract: every place is filled. Assumes nothing.
use Rattle.std.proofs.Common.{◌+◌, arith}
use Rattle.run_opening.proofs.Filled.{filled}
use Rattle.run_opening.proofs.open_bank.Goals as goal

pub returns : goal.returns
returns c =
    filled 16 (λ k. c.args.copies + k) 0 c.loop-k.bank (omega arith) (λ k h. c.loop-k.invariant.filled k (omega arith))
