-- `write` counts the text, and writes it where there is room. Assumes nothing.
use Rattle.std.proofs.Common.{arith}
use Rattle.whole_written_end.specs.TextIn.{text_in}
use Rattle.whole_written_end.proofs.TextParts.{fits_out, short_out}
use Rattle.whole_written_end.proofs.write.Goals as goal

pub returns-then-buffer-length : goal.returns-then-buffer-length
returns-then-buffer-length c =
    rw c.nothing.ensures
    (short_out c.args.end (text_in c.args.plan.now c.args.notes.now) c.args.buffer.now
    (omega (arith, c.text_length-length.ensures, c.if-buffer-length.true)))

pub returns : goal.returns
returns c =
    fits_out c.args.end (text_in c.args.plan.now c.args.notes.now) c.args.buffer.now c.fill.new.buffer
    c.text_length-length.result (omega (arith, c.text_length-length.ensures, c.if-buffer-length.false))
    c.if-buffer-length.false c.fill.ensures
