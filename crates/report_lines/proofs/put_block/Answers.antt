-- `put_block` writes a part of the store. Assumes nothing.
use Rattle.std.proofs.Common.{ap, arith}
use Rattle.spec_text.specs.Bytes.{bytes}
use Rattle.spec_text.specs.WrittenLines.{line_of}
use Rattle.report_bytes.proofs.Writes.{widen, renamed}
use Rattle.step_cells.proofs.StoreRoom.{block_inside}
use Rattle.report_lines.proofs.BlockWords.{block-part}
use Rattle.report_lines.proofs.put_block.Goals as goal

pub returns : goal.returns
returns c =
    let inside = block_inside c.args.words c.args.number (omega arith) (omega arith) in
    let e = block-part c.args.words c.args.number c.args.store.now (omega (arith, inside)) in
    renamed _ (ap (line_of (bytes "block")) e) (widen 200 (omega arith) c.put_line.ensures)
