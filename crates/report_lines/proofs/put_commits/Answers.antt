-- `put_commits` writes a line for each commit. Assumes nothing.
use Rattle.std.proofs.Common.{◌≡◌, ◌<◌, ◌+◌, ◌∙◌, ap, sym, ℕ, List, [], ◌++◌, length, get_or, take, arith}
use Rattle.std.proofs.lemmas.List.{take_more, flat_map_more}
use Rattle.step_cells.specs.declared.Commit.{Commit}
use Rattle.report_bytes.proofs.Writes.{nothing, then, widen, renamed}
use Rattle.report_lines.specs.ReportLines.{row_line, row_lines}
use Rattle.report_lines.proofs.put_commits.Goals as goal

-- One commit more is one line more.
lines_more : (rows : List Commit) (i : ℕ) (d : Commit) → i < length rows
    → row_lines (take i rows) ++ row_line (get_or rows i d) ≡ row_lines (take (i + 1) rows)
lines_more rows i d h =
    flat_map_more row_line [] (take i rows) (get_or rows i d) ∙ sym (ap row_lines (take_more rows i d h))

pub loop-row-init : goal.loop-row-init
loop-row-init c = nothing _ _

pub loop-row-preserved : goal.loop-row-preserved
loop-row-preserved c =
    let none : Commit = record { entry = 0; job = 0; update = 0 } in
    renamed _ (lines_more c.args.commits.now c.loop-row.row-index none (omega arith))
    (widen _ (omega arith) (then c.loop-row.invariant c.put_commit-next.ensures))
