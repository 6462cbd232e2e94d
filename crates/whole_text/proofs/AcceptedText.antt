-- What running an accepted text asks and gives. Assumes nothing.
use Rattle.std.proofs.Common.{◌≡◌, refl, ap, ℕ, ◌+◌, ◌≤◌, List, length, arith}
use Rattle.std.specs.Prelude.{Option, Some, None, MatchOption}
use Rattle.spec_format.specs.declared.Entry.{Entry}
use Rattle.spec_format.specs.declared.Form.{Form}
use Rattle.spec_format.specs.Plan.{Plan, Listed, entries_in}
use Rattle.spec_format.specs.Sound.{Sound}
use Rattle.spec_format.proofs.Sound.{accepted-sound, accepted-few, entries-many}
use Rattle.spec_format.proofs.LineCounts.{low_count, low-lines}
use Rattle.spec_machine.specs.declared.Refusal.{Refusal}
use Rattle.spec_report.specs.declared.End.{End}
use Rattle.spec_report.specs.Report.{end_number, end_line}
use Rattle.spec_report.specs.Outcomes.{written, end_of, line_in, run_outcome}
use Rattle.spec_report.proofs.Ends.{end_low}
use Rattle.step_cells.specs.declared.Tables.{Tables}
use Rattle.run_opening.specs.Opened.{Opened}
use Rattle.run_loop.specs.RunReached.{Starts, Ran}
use Rattle.run_loop.proofs.Starting.{opened-starts}
use Rattle.report_writer.specs.Writing.{Reportable, report_bytes}
use Rattle.report_ending.proofs.ReportOfTables.{reportable, end_is, the-outcome}
use Rattle.whole_text.specs.Reads.{Reads}

-- The line of an end is told only where an entry is refused.
pub line_told : (halt : Option Refusal) (entry told line count : ℕ)
    → MatchOption halt (told ≡ 0) (λ r. told ≡ line)
    → end_of halt entry told count ≡ end_of halt entry line count
line_told None entry told line count h = refl
line_told (Some r) entry told line count h = ap (λ n. end_of (Some r) entry n count) h

module _ {plan : Plan} {ls : List Listed} {lines : ℕ} (reads : Reads plan ls lines) where
  -- The single entries without their lines.
  abbrev es : List Entry
  es = entries_in ls

  -- The plan is sound,
  pub sound-plan : Sound plan
  sound-plan = accepted-sound Form.Schedule reads.text plan ls lines reads.gives

  -- and there are few entries,
  pub few-listed : length ls ≤ 4000
  few-listed = accepted-few Form.Schedule reads.text plan ls lines reads.gives

  -- with their lines or without.
  few-es : length es ≤ 4000
  few-es = omega (arith, few-listed, entries-many ls)

  -- The entries can start, as records, where the tables are opened.
  pub starts : {x : Tables} → Opened plan x → Starts plan es x
  starts o = opened-starts sound-plan o es few-es

  -- The line of every end is small.
  pub low-line : (halt : Option Refusal) (entry i : ℕ) → end_line (end_of halt entry (line_in ls i) lines) ≤ 65536
  low-line halt entry i =
      end_low halt entry (line_in ls i) lines 65536
      (low-lines Form.Schedule reads.text plan ls lines reads.gives i)
      (low_count Form.Schedule reads.text plan ls lines reads.gives)

  -- The entries have run.
  module _ {x : Tables} (ran : Ran plan es es x) where
    -- How the run ends.
    abbrev end : End
    end = end_of x.book.halt (x.book.entries + 1) (line_in ls x.book.entries) lines

    -- The report can be written,
    pub to-report : Reportable plan x
    to-report = reportable sound-plan few-es ran.1

    -- and it is that of the run.
    pub the-run : written end (report_bytes plan x (end_number end) (end_line end))
        ≡ run_outcome plan es (line_in ls) lines
    the-run =
        the-outcome sound-plan few-es ran.1 (line_in ls) lines end (end_is sound-plan few-es ran.1 (line_in ls) lines)
