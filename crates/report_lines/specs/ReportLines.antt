-- The report's lines from the parts that the code is given. Commit is declared in step_cells. Assumes nothing.
use Rattle.std.specs.Prelude.{ℕ, Bool, false, cond, List, [], ◌∷◌, ◌++◌, ℤ, pos, get_or}
use Rattle.std.specs.List.{flat_map}
use Rattle.spec_text.specs.Bytes.{bytes}
use Rattle.spec_text.specs.Decimal.{decimal}
use Rattle.spec_format.specs.declared.Sizes.{Sizes}
use Rattle.spec_machine.specs.Machine.{block_in}
use Rattle.spec_text.specs.WrittenLines.{fields_behind, line_of}
use Rattle.spec_report.specs.Report.{status_bytes, joined}
use Rattle.step_cells.specs.declared.Commit.{Commit}

-- The line of a commit.
abbrev pub row_line : Commit → List ℕ
row_line row = line_of (bytes "commit") (row.entry ∷ row.job ∷ row.update ∷ [])

-- The commit lines of rows of an entry, a job and an update.
abbrev pub row_lines : List Commit → List ℕ
row_lines rows = flat_map row_line rows

-- The block lines, by the bank and the store.
abbrev pub blocks_bytes : Sizes → List ℕ → List ℕ → List ℕ
blocks_bytes sizes bank store =
    joined sizes.blocks (λ b. line_of (bytes "block") (block_in sizes.words store (get_or bank b 0)))

-- The line of job k with this status.
abbrev pub open_bytes : ℕ → ℤ → List ℕ
open_bytes k status = bytes "open" ++ fields_behind (decimal k ∷ status_bytes status ∷ [])

-- The lines of the active jobs, by the statuses and by which jobs are active.
abbrev pub opens_bytes : ℕ → List ℤ → List Bool → List ℕ
opens_bytes jobs stat active =
    joined jobs (λ k. cond (get_or active k false) (open_bytes k (get_or stat k (pos 0))) [])

-- The last line.
abbrev pub end_bytes : ℕ → ℕ → List ℕ
end_bytes number line = line_of (bytes "end") (number ∷ line ∷ [])
