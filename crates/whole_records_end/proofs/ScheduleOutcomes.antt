-- What a plan's text with a schedule of records comes to, by how the run of the records ended. Assumes nothing.
use Rattle.std.proofs.Common.{◌≡◌, sym, ◌∙◌, ap, ℕ, ◌+◌, ◌≤◌, List, length, arith}
use Rattle.std.specs.Prelude.{Option, Some, None, Ok, Err}
use borrow.Author.Tests.{le-ltb}
use Rattle.spec_format.specs.declared.Entry.{Entry}
use Rattle.spec_format.specs.declared.Fault.{Fault}
use Rattle.spec_format.specs.declared.Form.{Form}
use Rattle.spec_format.specs.declared.LineFault.{LineFault}
use Rattle.spec_format.specs.Plan.{Plan}
use Rattle.spec_format.specs.Sound.{Sound}
use Rattle.spec_format.specs.Faults.{most_entries}
use Rattle.spec_format.proofs.Sound.{accepted-sound}
use Rattle.spec_machine.specs.declared.Refusal.{Refusal}
use Rattle.spec_report.specs.declared.End.{End}
use Rattle.spec_report.specs.Report.{end_number, end_line}
use Rattle.spec_report.specs.Outcomes.{refused, written, end_of, run_outcome, other_from, unless_other, of_records}
use Rattle.spec_report.specs.Outcomes.{run_schedule}
use Rattle.spec_report.proofs.Ends.{end_low}
use Rattle.step_cells.specs.declared.Tables.{Tables}
use Rattle.run_opening.specs.Opened.{Opened}
use Rattle.run_loop.specs.RunReached.{Starts, Ran}
use Rattle.run_loop.proofs.Starting.{opened-starts}
use Rattle.report_writer.specs.Writing.{Reportable, report_bytes}
use Rattle.report_ending.proofs.ReportOfTables.{reportable, end_is, the-outcome}
use Rattle.whole_records_start.specs.Begun.{Begun}
use Rattle.whole_records_end.specs.Ending.{end_of_records}

module _ {text : List ℕ} {es : List Entry} {plan : Plan} (b : Begun text es plan) where
  -- The plan is sound.
  pub sound : Sound plan
  sound = accepted-sound Form.PlanAlone text plan b.listed b.lines b.gives

  -- What the records come to, by the first one of another kind.
  by-other : run_schedule text es ≡ unless_other (other_from 1 es) (run_outcome plan es (λ i. i + 1) (length es))
  unfolding run_schedule
  by-other = ap (λ x. of_records x es) b.gives ∙ rw (le-ltb most_entries (length es) b.few)

  -- There is one.
  pub misplaced : (halt : Option Refusal) (place count : ℕ) (other : Option ℕ) (r : LineFault)
      → other ≡ other_from 1 es → Err r ≡ end_of_records halt place other count
      → run_schedule text es ≡ refused (End.Faulty r.fault r.line)
  misplaced halt place count None r is e = cc
  misplaced halt place count (Some q) r is e =
      let f : r ≡ record { fault = Fault.Misplaced; line = q } = cc in
      by-other ∙ ap (λ o. unless_other o (run_outcome plan es (λ i. i + 1) (length es))) (sym is) ∙ rw f

  -- There is none.
  pub runs : (halt : Option Refusal) (place count : ℕ) (other : Option ℕ) (end : End)
      → other ≡ other_from 1 es → Ok end ≡ end_of_records halt place other count
      → (end ≡ end_of halt place place count)
      × (run_outcome plan es (λ i. i + 1) (length es) ≡ run_schedule text es)
  runs halt place count None end is e = (
    cc,
    sym (by-other ∙ ap (λ o. unless_other o (run_outcome plan es (λ i. i + 1) (length es))) (sym is)),
  )
  runs halt place count (Some q) end is e = cc

  -- The records can start where the tables are opened.
  pub starts : {x : Tables} → Opened plan x → Starts plan es x
  starts o = opened-starts sound o es b.few

  -- The records have run, and the schedule ends so.
  module _ {x : Tables} (ran : Ran plan es es x) {end : End}
      (so : Ok end ≡ end_of_records x.book.halt (x.book.entries + 1) x.book.other (length es)) where
    -- The report can be written,
    pub to-report : Reportable plan x
    to-report = reportable sound b.few ran.1

    -- the place of the end is small,
    pub low-place : end_line end ≤ 65536
    low-place =
        rw (runs _ _ _ _ end ran.1.other_is so).0
        (end_low x.book.halt _ _ (length es) 65536 (omega (arith, ran.1.few_done, b.few)) (omega (arith, b.few)))

    -- and what is written is the report.
    pub report_is : written end (report_bytes plan x (end_number end) (end_line end)) ≡ run_schedule text es
    report_is =
        let r = runs _ _ _ _ end ran.1.other_is so in
        the-outcome sound b.few ran.1 (λ i. i + 1) (length es) end
        (r.0 ∙ end_is sound b.few ran.1 (λ i. i + 1) (length es))
        ∙ r.1
