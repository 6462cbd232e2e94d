-- The text of a plan and the entry lines that notes stand for. Assumes nothing.
use Rattle.std.specs.Prelude.{ℕ, List, ◌++◌}
use Rattle.spec_format.specs.Plan.{Plan}
use Rattle.spec_plan_text.specs.EntryLines.{entry_line_bytes}
use Rattle.spec_plan_text.specs.PlanText.{plan_text}
use Rattle.read_tables.specs.declared.Note.{Note}
use Rattle.text_entry_runs.specs.Joined.{lines_noted}

-- The text of a plan, with the entry lines of notes.
abbrev pub text_in : Plan → List Note → List ℕ
text_in plan notes = plan_text plan ++ entry_line_bytes (lines_noted notes)
