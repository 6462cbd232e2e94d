-- Where a run ends: its line is low where the line of the refused entry and the count of acceptance are. Assumes
-- nothing.
use Prim.Native.Nat.{ℕ, ◌≤◌, zero-le}
use Rattle.std.specs.Prelude.{Option, Some, None}
use Rattle.spec_machine.specs.declared.Refusal.{Refusal}
use Rattle.spec_report.specs.Report.{end_line, end_entry}
use Rattle.spec_report.specs.Outcomes.{end_of}

-- The line is one of the two.
pub end_low : (f : Option Refusal) (entry line count most : ℕ) → line ≤ most → count ≤ most
    → end_line (end_of f entry line count) ≤ most
end_low None entry line count most l c = c
end_low (Some x) entry line count most l c = l

-- The entry is the refused one, or 0.
pub entry-low : (f : Option Refusal) (entry line count most : ℕ) → entry ≤ most
    → end_entry (end_of f entry line count) ≤ most
entry-low None entry line count most h = zero-le
entry-low (Some x) entry line count most h = h
