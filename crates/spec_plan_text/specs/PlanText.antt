-- The one text of a plan and a list of single entries, line by line: "In this order: `plan P N B S C`; N lines
-- `job card priority`; B lines `block` with S opening words; any updates, each a line `update` followed by moves
-- `copy d a`, `set d k`, `add d a k`; then any entries", where "The line becomes `update n`". Assumes nothing.
use Rattle.std.specs.Prelude.{ℕ, ◌*◌, List, [], ◌∷◌, ◌++◌, length, get_or, take, drop}
use Rattle.spec_text.specs.Bytes.{bytes}
use Rattle.spec_text.specs.WrittenLines.{line_of}
use Rattle.spec_format.specs.declared.Sizes.{Sizes}
use Rattle.spec_format.specs.declared.Job.{Job}
use Rattle.spec_format.specs.declared.Move.{Move}
use Rattle.spec_format.specs.declared.Entry.{Entry}
use Rattle.spec_format.specs.Plan.{Plan, job_in}
use Rattle.spec_report.specs.Report.{joined}
use Rattle.spec_plan_text.specs.EntryLines.{longest_runs, entry_line_bytes}

-- `plan P N B S C`.
abbrev pub plan_line : Sizes → List ℕ
plan_line s = line_of (bytes "plan") (s.cards ∷ s.jobs ∷ s.blocks ∷ s.words ∷ s.copies ∷ [])

-- `job card priority`.
abbrev pub job_line : Job → List ℕ
job_line j = line_of (bytes "job") (j.card ∷ j.priority ∷ [])

-- The opening words of block b.
abbrev pub block_words : Plan → ℕ → List ℕ
block_words plan b = take plan.sizes.words (drop (b * plan.sizes.words) plan.words)

-- `block` with S opening words.
abbrev pub block_line : Plan → ℕ → List ℕ
block_line plan b = line_of (bytes "block") (block_words plan b)

-- `copy d a`, `set d k`, `add d a k`.
abbrev pub move_line : Move → List ℕ
move_line (Move.Copy d a) = line_of (bytes "copy") (d ∷ a ∷ [])
move_line (Move.Set d k) = line_of (bytes "set") (d ∷ k ∷ [])
move_line (Move.Add d a k) = line_of (bytes "add") (d ∷ a ∷ k ∷ [])

-- Move i of an update.
abbrev pub move_in : List Move → ℕ → Move
move_in ms i = get_or ms i (Move.Copy 0 0)

-- `update n` with the number of the update, followed by its moves.
abbrev pub update_lines : ℕ → List Move → List ℕ
update_lines n ms = line_of (bytes "update") (n ∷ []) ++ joined (length ms) (λ i. move_line (move_in ms i))

-- The N job lines.
abbrev pub job_lines : Plan → List ℕ
job_lines plan = joined plan.sizes.jobs (λ k. job_line (job_in plan k))

-- The B block lines.
abbrev pub opening_block_lines : Plan → List ℕ
opening_block_lines plan = joined plan.sizes.blocks (block_line plan)

-- The updates with their moves.
abbrev pub all_update_lines : Plan → List ℕ
all_update_lines plan = joined (length plan.updates) (λ u. update_lines u (get_or plan.updates u []))

-- The text of a plan alone.
unfoldable pub plan_text : Plan → List ℕ
plan_text plan = plan_line plan.sizes ++ (job_lines plan ++ (opening_block_lines plan ++ all_update_lines plan))

-- The one text of a plan and single entries.
unfoldable pub text_of : Plan → List Entry → List ℕ
text_of plan es = plan_text plan ++ entry_line_bytes (longest_runs es)
