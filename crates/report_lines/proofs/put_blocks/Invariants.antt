use Rattle.std.proofs.Common.{ℕ, ◌*◌, List, get_or}
use Rattle.spec_text.specs.Bytes.{bytes}
use Rattle.spec_format.specs.declared.Sizes.{Sizes}
use Rattle.spec_machine.specs.Machine.{block_in}
use Rattle.spec_text.specs.WrittenLines.{line_of}
use Rattle.spec_report.specs.Report.{joined}
use Rattle.report_bytes.specs.Writes.{Writes}
use Rattle.report_lines.proofs.put_blocks.Given as goal

-- The line of a block.
abbrev pub one : Sizes → List ℕ → List ℕ → ℕ → List ℕ
one sizes bank store b = line_of (bytes "block") (block_in sizes.words store (get_or bank b 0))

abbrev pub invariant-loop-b : goal.invariant-loop-b
invariant-loop-b l =
    Writes (joined l.b (one l.sizes l.tables.bank l.tables.store)) (200 * l.b) l.at l.initial.buffer l.next l.buffer
