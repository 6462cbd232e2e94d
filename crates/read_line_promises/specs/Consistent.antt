-- What always holds of what has been read of a text. Assumes nothing.
use Rattle.std.specs.Prelude.{◌+◌, ◌*◌, ◌≤◌, ◌≡◌, List, length}
use Rattle.spec_format.specs.Plan.{Plan, blocks_written}
use Rattle.spec_format.specs.Faults.{last_of}
use Rattle.read_tables.specs.declared.Note.{Note}
use Rattle.read_tables.specs.Notes.{listed_in}
use Rattle.read_line_promises.specs.declared.Progress.{Progress}

-- A plan and notes that were read with this progress.
pub record Consistent (plan : Plan) (notes : List Note) (p : Progress) : Type 0 where
  -- The sizes are 0 before the plan line, and then in their ranges.
  pub cards_fit : plan.sizes.cards ≤ 8
  pub jobs_fit : plan.sizes.jobs ≤ 16
  pub blocks_fit : plan.sizes.blocks ≤ 16
  pub words_fit : plan.sizes.words ≤ 16
  pub copies_fit : plan.sizes.copies ≤ 8
  -- What has been read is no more than the sizes say, and fits.
  pub jobs_read : length plan.jobs ≤ plan.sizes.jobs
  pub blocks_read : p.blocks ≤ plan.sizes.blocks
  pub words_read : length plan.words ≡ p.blocks * plan.sizes.words
  pub updates_read : length plan.updates ≤ 32
  pub entries_read : p.entries ≤ 4000
  pub lines_read : p.lines ≤ 65536
  pub written_read : p.written ≤ 8
  -- Jobs, blocks, updates and notes are lines, so before the first line there are none.
  pub in_lines : length plan.jobs + p.blocks + length plan.updates + length notes ≤ p.lines
  -- A note has an entry or more, so that there are at most 4,000. A run is one note, whatever its n.
  pub notes_read : length notes ≤ p.entries
  pub counted : p.entries ≡ length (listed_in notes)
  pub last_written : p.written ≡ length (blocks_written plan.sizes.words (last_of plan.updates))
