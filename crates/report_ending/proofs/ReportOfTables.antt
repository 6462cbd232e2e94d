-- What is written from the tables of a run is the report of the definitions. Assumes a sound plan and at most 4,000
-- entries.
use Rattle.std.proofs.Common.{◌≡◌, refl, sym, ◌∙◌, ap, subst, ℕ, zero, suc, ◌+◌, ◌≤◌, ◌<◌, arith, cond}
use Rattle.std.proofs.Common.{Bool, List, [], ◌∷◌, ◌++◌, length, get_or}
use lib.IntN.{pos}
use Rattle.spec_format.specs.declared.Entry.{Entry}
use Rattle.spec_format.specs.Plan.{Plan}
use Rattle.spec_format.specs.Sound.{Sound}
use Rattle.spec_machine.specs.Memory.{Commit}
use Rattle.spec_machine.specs.Places.{is_active}
use Rattle.spec_machine.specs.Machine.{Machine, work_of}
use Rattle.spec_machine.specs.History.{commits_in, run_of}
use Rattle.spec_machine.specs.Ranges.{Ranges}
use Rattle.spec_machine.proofs.ListsByPlace.{get_d_any}
use Rattle.spec_ranges.proofs.Ranges.{in-range}
use Rattle.spec_report.specs.declared.End.{End}
use Rattle.spec_report.specs.Report.{joined, commit_lines, block_lines, open_lines, report, end_number, end_line}
use Rattle.spec_report.specs.Outcomes.{written, end_of, end_of_run, run_outcome}
use Rattle.step_cells.specs.declared.Registers.{Registers}
use Rattle.step_cells.specs.declared.Tables.{Tables}
use Rattle.step_cells.specs.Tables.{machine_of}
use Rattle.run_judge.specs.WhoRuns.{ActiveAre}
use Rattle.run_loop.specs.CommitRows.{row_in, rows_in}
use Rattle.run_loop.specs.RunReached.{Reached}
use Rattle.report_lines.specs.ReportLines.{row_line, row_lines, open_bytes, opens_bytes}
use Rattle.report_writer.specs.Writing.{Reportable, report_bytes}

-- The report's commit lines are those of the rows.
commit-lines : (es : List Entry) (cs : List Commit) → row_lines (rows_in es cs) ≡ commit_lines es cs
commit-lines es [] = refl
commit-lines es (c ∷ cs) = ap (λ l. row_line (row_in es c) ++ l) (commit-lines es cs)

-- Lines joined are the same where each is.
joined_same : (n : ℕ) (f g : ℕ → List ℕ) → ((k : ℕ) → k < n → f k ≡ g k) → joined n f ≡ joined n g
joined_same zero f g h = refl
joined_same (suc n) f g h = rw (joined_same n f g (λ k l. h k (omega arith)), h n (omega arith))

-- The lines of the active jobs are those of the state.
open-lines : (plan : Plan) (m : Machine) (active : List Bool) → plan.sizes.jobs ≤ 16 → length m.cells.stat ≡ 17
    → ActiveAre m active
    → opens_bytes plan.sizes.jobs m.cells.stat active ≡ open_lines plan m
open-lines plan m active few all are =
    joined_same plan.sizes.jobs _ _
    (λ k h.
    ap (λ b. cond b (open_bytes k (get_or m.cells.stat k (pos 0))) []) (are k (omega arith))
    ∙ ap (λ z. cond (is_active (work_of m k).place) (open_bytes k z) [])
    (get_d_any m.cells.stat k (pos 0) (pos plan.sizes.jobs) (omega (arith, all))))

-- A run that has come through its entries.
module _ {plan : Plan} {es : List Entry} {ws : List Registers} {x : Tables} (ok : Sound plan)
    (few : length es ≤ 4000) (g : Reached plan es es ws x) where
  -- The report can be written.
  pub reportable : Reportable plan x
  reportable =
      let ranged : Ranges plan (length es) (machine_of x ws) =
      subst (Ranges plan (length es)) (sym g.machine_is) (in-range plan ok es)
      in
      record { blocks = ok.blocks; words = ok.words; jobs = ok.jobs; bank = ranged.cells.bank }

  -- How the run ends.
  pub end_is : (line : ℕ → ℕ) (count : ℕ)
      → end_of x.book.halt (x.book.entries + 1) (line x.book.entries) count
      ≡ end_of_run (run_of plan es) line count
  end_is line count = rw (g.stopped_by, g.counted)

  -- What is written is the report, with any end.
  bytes_are : (end : End)
      → report_bytes plan x (end_number end) (end_line end) ≡ report plan es (run_of plan es) end
  unfolding report
  bytes_are end =
      let rows : row_lines x.book.commits.items ≡ commit_lines es (commits_in (run_of plan es).history) =
      ap row_lines g.rows_are ∙ commit-lines es (commits_in (run_of plan es).history)
      in
      let blocks : block_lines plan (machine_of x ws) ≡ block_lines plan (run_of plan es).machine =
      ap (block_lines plan) g.machine_is
      in
      let opens : opens_bytes plan.sizes.jobs x.stat x.book.active ≡ open_lines plan (run_of plan es).machine =
      open-lines plan (machine_of x ws) x.book.active ok.jobs g.whole.stat g.who_runs.active_are
      ∙ ap (open_lines plan) g.machine_is
      in
      rw (rows, blocks, opens)

  -- What the run comes to.
  pub the-outcome : (line : ℕ → ℕ) (count : ℕ) (end : End)
      → end ≡ end_of_run (run_of plan es) line count
      → written end (report_bytes plan x (end_number end) (end_line end)) ≡ run_outcome plan es line count
  the-outcome line count end e =
      ap (written end) (bytes_are end)
      ∙ ap (λ y. written y (report plan es (run_of plan es) y)) e
