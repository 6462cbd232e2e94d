-- Two outcomes of one run: its state, its history and its commits are those of both, and their reports differ at most
-- in the line of `end`. proofs/RunReports.antt shows it of a text with a run of steps and of the text with the steps in
-- its place. Assumes nothing.
use Rattle.std.specs.Prelude.{ℕ, ◌≤◌, ◌≡◌, List, ◌++◌, length}
use Rattle.spec_format.specs.declared.Entry.{Entry}
use Rattle.spec_format.specs.declared.Form.{Form}
use Rattle.spec_format.specs.Plan.{Plan, Listed, entries_in}
use Rattle.spec_format.specs.Reading.{accepted, longest, reading}
use Rattle.spec_machine.specs.History.{run_of}
use Rattle.spec_report.specs.declared.End.{End}
use Rattle.spec_report.specs.Report.{end_number, end_line, end_entry, report_end, report}
use Rattle.spec_report.specs.Outcomes.{Outcome, written, run_text}

-- Both are reports of the one run of these entries for this plan. They end alike, but for the line: the one's is `line`
-- of the other's. Before `end` they have the same bytes.
pub record RunsAlike (line : ℕ → ℕ) (plan : Plan) (es : List Entry) (one other : Outcome) : Type 0 where
  pub end : End
  pub other_end : End
  pub one_is : one ≡ written end (report plan es (run_of plan es) end)
  pub other_is : other ≡ written other_end (report plan es (run_of plan es) other_end)
  pub number_is : end_number end ≡ end_number other_end
  pub entry_is : end_entry end ≡ end_entry other_end
  pub line_is : end_line end ≡ line (end_line other_end)
  pub front : List ℕ
  pub bytes_are : report plan es (run_of plan es) end ≡ front ++ report_end end
  pub other_bytes : report plan es (run_of plan es) other_end ≡ front ++ report_end other_end

-- Two texts run alike, where either is accepted and the other is not too long: the run is that of the plan and the
-- single entries that either gives.
pub record TextsAlike (line : ℕ → ℕ) (one other : List ℕ) : Type 0 where
  pub there :
      (p : Plan) (es : List Listed) (k : ℕ) → reading Form.Schedule one ≡ accepted p es k → length other ≤ longest
      → RunsAlike line p (entries_in es) (run_text one) (run_text other)
  pub back :
      (p : Plan) (es : List Listed) (k : ℕ) → reading Form.Schedule other ≡ accepted p es k → length one ≤ longest
      → RunsAlike line p (entries_in es) (run_text one) (run_text other)
