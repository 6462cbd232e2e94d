-- `published` puts one number after the other into the row. Assumes nothing.
use Rattle.std.proofs.Common.{arith, get_or}
use Rattle.run_changes.proofs.PutOneByOne.{one-more-of}
use Rattle.run_changes.proofs.published.Goals as goal

pub loop-i-preserved : goal.loop-i-preserved
loop-i-preserved c =
    record {
      room = c.loop-i.invariant.room;
      put =
          rw c.loop-i.invariant.put
          (one-more-of c.args.row (λ k. get_or c.args.own.now.curr (get_or c.args.addr k 0) 0) c.loop-i.i
          (omega arith));
    }
