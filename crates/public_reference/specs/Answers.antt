-- The number and line that an answer has in the table: "Acceptance is 0", with the count of all lines. Answer is
-- declared in src/lib.rt. Assumes nothing.
use Rattle.std.specs.Prelude.{ℕ, Result, Ok, Err}
use Rattle.spec_format.specs.declared.LineFault.{LineFault}
use Rattle.spec_format.specs.Faults.{number_of}
use Rattle.public_reference.specs.declared.Answer.{Answer}

-- The number and line of a verdict on a text.
abbrev pub answer_of : Result ℕ LineFault → Answer
answer_of (Ok n) = record { number = 0; line = n }
answer_of (Err e) = record { number = number_of e.fault; line = e.line }
