-- The length in bytes that no written text exceeds, as a sum over the parts of the text, in their order: so many lines
-- of a kind, each as long as its fields can be. It is a bound, and no text need be as long. proofs/Length.antt shows it
-- of every text that is written. Assumes nothing.
use Rattle.std.specs.Prelude.{ℕ, ◌+◌, ◌*◌}
use Rattle.spec_format.specs.Faults.{most_entries}

-- The longest plan line, `plan 8 16 16 16 8`.
abbrev pub longest_plan_line : ℕ
longest_plan_line = 18

-- The longest job line, as `job 7 255`.
abbrev pub longest_job_line : ℕ
longest_job_line = 10

-- The longest block line: `block` and 16 words of ten digits, each behind a tab, and the line feed.
abbrev pub longest_block_line : ℕ
longest_block_line = 182

-- The longest update line, as `update 31`.
abbrev pub longest_update_line : ℕ
longest_update_line = 10

-- The longest move line, as `add 255 255 4294967295`.
abbrev pub longest_move_line : ℕ
longest_move_line = 23

-- The longest line of a single entry, as `call 15 31`. A run is not longer than so many bytes for each of its steps.
abbrev pub longest_entry_line : ℕ
longest_entry_line = 11

-- An update and its at most 16 moves.
abbrev pub longest_update : ℕ
longest_update = longest_update_line + 16 * longest_move_line

-- The plan: at most 16 jobs, 16 blocks and 32 updates. 18 + (16 * 10 + (16 * 182 + 32 * (10 + 16 * 23))), which is
-- 15,186.
abbrev pub longest_plan_text : ℕ
longest_plan_text = longest_plan_line + (16 * longest_job_line + (16 * longest_block_line + 32 * longest_update))

-- The whole text, with at most 4,000 single entries: 59,186, below the 65,536 that a text may have.
abbrev pub longest_text : ℕ
longest_text = longest_plan_text + most_entries * longest_entry_line
