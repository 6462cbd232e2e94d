-- How a schedule of records ends, when its records have run. Assumes nothing.
use Rattle.std.specs.Prelude.{ℕ, Option, Some, None, Result, Ok, Err}
use Rattle.spec_format.specs.declared.Fault.{Fault}
use Rattle.spec_format.specs.declared.LineFault.{LineFault}
use Rattle.spec_machine.specs.declared.Refusal.{Refusal}
use Rattle.spec_report.specs.declared.End.{End}
use Rattle.spec_report.specs.Outcomes.{end_of}

-- By the first record of another kind, where there is one, and else as the run of so many records ended.
abbrev pub end_of_records : Option Refusal → ℕ → Option ℕ → ℕ → Result End LineFault
end_of_records halt place None count = Ok (end_of halt place place count)
end_of_records halt place (Some other) count = Err (record { fault = Fault.Misplaced; line = other })
