-- The report from the parts that the code is given, written whole into a lent buffer or not at all. Assumes nothing.
use Rattle.std.specs.Prelude.{ℕ, ◌≤◌, ◌<◌, ◌≡◌, cond, List, ◌++◌, leb, length, get_or, Option, Some, None}
use Rattle.spec_text.specs.FirstPlaces.{in_first_places}
use Rattle.spec_format.specs.Plan.{Plan}
use Rattle.spec_machine.specs.Ranges.{most_numbers}
use Rattle.step_cells.specs.declared.Tables.{Tables}
use Rattle.report_lines.specs.ReportLines.{row_lines, blocks_bytes, opens_bytes, end_bytes}

-- What a report is written from: the sizes and the block numbers are in their ranges.
pub record Reportable (plan : Plan) (x : Tables) : Type 0 where
  pub blocks : plan.sizes.blocks ≤ 16
  pub words : plan.sizes.words ≤ 16
  pub jobs : plan.sizes.jobs ≤ 16
  pub bank : (b : ℕ) → get_or x.bank b 0 < most_numbers

-- A whole report of a plan and tables, with the number and the line of its end.
abbrev pub report_bytes : Plan → Tables → ℕ → ℕ → List ℕ
report_bytes plan x number line =
    row_lines x.book.commits.items
    ++ (blocks_bytes plan.sizes x.bank x.store
    ++ (opens_bytes plan.sizes.jobs x.stat x.book.active
    ++ end_bytes number line))

-- The length of bytes that fit a buffer.
abbrev pub fitting : List ℕ → List ℕ → Option ℕ
fitting whole buffer = cond (leb (length whole) (length buffer)) (Some (length whole)) None

-- A buffer with bytes in its first places where they fit, as it was where they do not.
abbrev pub filled : List ℕ → List ℕ → List ℕ
filled whole buffer = cond (leb (length whole) (length buffer)) (in_first_places whole buffer) buffer

-- Bytes were written whole where they fit, and else not at all.
pub record IsWritten (whole : List ℕ) (before : List ℕ) (answer : Option ℕ) (after : List ℕ) : Type 0 where
  pub answer_is : answer ≡ fitting whole before
  pub after_is : after ≡ filled whole before
