use Rattle.spec_text.specs.Decimal.{decimal}
use Rattle.text_lines.proofs.Backwards.{Filling}
use Rattle.text_lines.proofs.fill_decimal.Given as goal

abbrev pub invariant-loop-at : goal.invariant-loop-at
invariant-loop-at l = Filling (decimal l.n) (decimal l.rest) l.initial.part l.at l.part
