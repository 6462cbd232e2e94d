use Rattle.text_lines.proofs.Backwards.{Filling}
use Rattle.text_lines.proofs.FieldsWritten.{fields_of, tabbed}
use Rattle.text_lines.proofs.fill_fields.Given as goal

abbrev pub invariant-loop-n : goal.invariant-loop-n
invariant-loop-n l =
    Filling (fields_of l.numbers) (tabbed l.n-iterator.iter.rest.now) l.fn.part l.at l.part
