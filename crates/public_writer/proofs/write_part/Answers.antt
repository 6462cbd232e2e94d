-- `write_part` cuts the buffer behind what `write` has written. Assumes nothing.
use Rattle.spec_plan_text.specs.Writing.{write_text}
use Rattle.spec_report.proofs.Buffers.{handed-first}
use Rattle.public_writer.proofs.write_part.Goals as goal

pub returns-clause-result_value : goal.returns-clause-result_value
returns-clause-result_value c =
    rw (c.write-ended.ensures.value, c.write-ended.ensures.buffer_after)
    (handed-first (write_text c.args.text.now) c.args.buffer.now)
