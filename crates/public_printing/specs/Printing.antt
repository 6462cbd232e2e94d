-- What the programs print of a text, and the answer that goes with it. Printed is declared in src/lib.rt. Assumes
-- nothing.
use Rattle.std.specs.Prelude.{ℕ, ◌≤◌, ◌<◌, List, length, Result, Ok, Err}
use Rattle.spec_format.specs.declared.LineFault.{LineFault}
use Rattle.spec_report.specs.declared.End.{End}
use Rattle.spec_report.specs.Report.{end_number, end_line, end_entry, report_end}
use Rattle.spec_report.specs.Outcomes.{Outcome, refused, written, printed}
use Rattle.report_ending.specs.declared.WrittenEnd.{WrittenEnd}
use Rattle.report_ending.specs.Finishing.{WrittenOut}
use Rattle.public_printing.specs.declared.Printed.{Printed}

-- The answer beside printed bytes: the number, the line and the refused entry of an end, and how many bytes there are.
abbrev pub answered : End → List ℕ → Printed
answered e bytes = record { number = end_number e; line = end_line e; entry = end_entry e; length = length bytes }

-- How a call ends, with room for all that it writes.
abbrev pub end_of_outcome : Outcome → End
end_of_outcome (refused e) = e
end_of_outcome (written e bytes) = e

-- The answer beside what is printed of an outcome.
abbrev pub outcome_answer : Outcome → Printed
outcome_answer o = answered (end_of_outcome o) (printed o)

-- An outcome can be printed into a buffer that holds `before`: what is printed is something and has room there, and the
-- line and the entry of its end are small.
pub record Printable (o : Outcome) (before : List ℕ) : Type 0 where
  pub short : length (printed o) ≤ length before
  pub some : 0 < length (printed o)
  pub line : end_line (end_of_outcome o) ≤ 65537
  pub entry : end_entry (end_of_outcome o) ≤ 4001

-- Such an outcome was written out into that buffer.
pub record Finished (o : Outcome) (before : List ℕ) (r : WrittenEnd) (after : List ℕ) : Type 0 where
  pub can : Printable o before
  pub out : WrittenOut o before r after

-- How a check ends.
abbrev pub end_of_check : Result ℕ LineFault → End
end_of_check (Ok n) = End.Accepted n
end_of_check (Err e) = End.Faulty e.fault e.line

-- What is printed of a check: `end number line`.
abbrev pub check_printed : Result ℕ LineFault → List ℕ
check_printed v = report_end (end_of_check v)

-- The answer beside it.
abbrev pub check_answer : Result ℕ LineFault → Printed
check_answer v = answered (end_of_check v) (check_printed v)
