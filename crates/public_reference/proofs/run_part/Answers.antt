-- `run_part` cuts the buffer behind the report that `run` has written. Assumes nothing.
use Rattle.spec_report.specs.Outcomes.{run_text}
use Rattle.spec_report.proofs.Buffers.{handed-first}
use Rattle.public_reference.proofs.run_part.Goals as goal

pub returns-clause-result_value : goal.returns-clause-result_value
returns-clause-result_value c =
    rw (c.run-ended.ensures.value, c.run-ended.ensures.buffer_after)
    (handed-first (run_text c.args.text.now) c.args.buffer.now)
