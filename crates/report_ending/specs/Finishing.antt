-- What an outcome is written out to, with a buffer lent, and its number and line. WrittenEnd and Ended are declared in
-- src/lib.rt. Assumes nothing.
use Rattle.std.specs.Prelude.{ℕ, ◌≡◌, List, length, Result, Ok, Err}
use Rattle.spec_format.specs.declared.LineFault.{LineFault}
use Rattle.spec_report.specs.declared.End.{End}
use Rattle.spec_report.specs.Outcomes.{Outcome, end_with, handed, left}
use Rattle.spec_report.specs.Report.{end_number, end_line}
use Rattle.report_ending.specs.declared.WrittenEnd.{WrittenEnd}
use Rattle.report_ending.specs.declared.Ended.{Ended}

-- An outcome was written out: how it ended, how many bytes are written, and what the buffer then holds.
pub record WrittenOut (o : Outcome) (before : List ℕ) (r : WrittenEnd) (after : List ℕ) : Type 0 where
  pub end_is : r.end ≡ end_with o before
  pub length_is : r.length ≡ length (handed o before)
  pub left_is : after ≡ left o before

-- A call ended so, and nothing is written.
abbrev pub nothing_written : End → WrittenEnd
nothing_written e = record { end = e; length = 0 }

-- How a call ended that was refused where it has no end of its own: with a refusal nothing is written.
abbrev pub finished : Result WrittenEnd LineFault → WrittenEnd
finished (Ok w) = w
finished (Err r) = nothing_written (End.Faulty r.fault r.line)

-- How a run ended, by its number and line.
abbrev pub ended_by : WrittenEnd → Ended
ended_by f = record { number = end_number f.end; line = end_line f.end; length = f.length }

-- The number and the line of an outcome, and how many bytes are written, with a buffer lent.
abbrev pub ended_of : Outcome → List ℕ → Ended
ended_of o buffer =
    record {
      number = end_number (end_with o buffer);
      line = end_line (end_with o buffer);
      length = length (handed o buffer);
    }
