-- `fields_length` adds up the lengths of the fields. Assumes nothing.
use native.Mathlib.Omega.{arith}
use Rattle.std.proofs.lemmas.Grind.{common_steps}
use Rattle.text_lines.proofs.FieldsWritten.{length-fields}
use Rattle.text_lines.proofs.fields_length.Goals as goal

pub returns-clause-value : goal.returns-clause-value
returns-clause-value c = grind (arith, common_steps, length-fields)
