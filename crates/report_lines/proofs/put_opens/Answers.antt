-- `put_opens` writes a line for each active job. Assumes nothing.
use Rattle.std.proofs.Common.{ap, arith, get_or}
use Rattle.std.proofs.lemmas.Int.{to_z-of_z}
use lib.IntN.{pos}
use mir.Syntax.{w32}
use borrow.Author.Rules.{rules}
use Rattle.report_lines.specs.ReportLines.{open_bytes}
use Rattle.report_bytes.proofs.Writes.{nothing, widen, renamed, once_more}
use Rattle.report_lines.proofs.put_opens.Goals.{then-tables-k, else-tables-k}
use Rattle.report_lines.proofs.put_opens.Invariants.{one}
use Rattle.report_lines.proofs.put_opens.Goals as goal

pub loop-k-init : goal.loop-k-init
loop-k-init c = nothing _ _

pub loop-k-preserved : goal.loop-k-preserved
loop-k-preserved c =
    let k = c.loop-k.k in
    let stat = c.args.tables.now.stat in
    elim c.if-tables-k.branch [
      | then-tables-k w ↦
          -- A status goes through a call as its bits, and comes out as it was.
          let e = ap (open_bytes k) (to_z-of_z w32 (get_or stat k (pos 0)) (record { sfits = search rules })) in
          rw (w.next-is, w.buffer-is)
          (once_more k (one stat c.args.tables.now.book.active) c.loop-k.invariant
          (rw w.if-tables-k.true (renamed _ e w.put_open-next.ensures)))
      | else-tables-k w ↦
          rw (w.next-is, w.buffer-is)
          (once_more k (one stat c.args.tables.now.book.active) c.loop-k.invariant
          (rw w.if-tables-k.false (widen 40 (omega arith) (nothing _ _))))
    ]
