-- `put_blocks` writes a line for each block, with the words that the bank leads to. Assumes nothing.
use Rattle.report_bytes.proofs.Writes.{nothing, once_more}
use Rattle.report_lines.proofs.put_blocks.Goals as goal
use Rattle.report_lines.proofs.put_blocks.Invariants.{one}

pub loop-b-init : goal.loop-b-init
loop-b-init c = nothing _ _

pub loop-b-preserved : goal.loop-b-preserved
loop-b-preserved c =
    once_more c.loop-b.b (one c.sizes-sizes.result c.args.tables.now.bank c.args.tables.now.store)
    c.loop-b.invariant c.put_block-next.ensures
