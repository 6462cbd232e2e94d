-- `put_fields` writes a tab and a number for each number, and a line feed. Assumes nothing.
use mathlib.Core.Path.{sym, ap, ◌∙◌}
use native.Mathlib.Omega.{arith}
use lib.Seq.{take_all}
use Rattle.std.proofs.lemmas.List.{take_more}
use Rattle.text_lines.proofs.FieldsWritten.{tabbed, tabbed-snoc, fields-tabbed}
use Rattle.report_bytes.proofs.Writes.{nothing, then, widen, renamed}
use Rattle.report_bytes.proofs.put_fields.Goals as goal

pub loop-n-init : goal.loop-n-init
loop-n-init c = nothing _ _

pub loop-n-preserved : goal.loop-n-preserved
loop-n-preserved c =
    let i = c.loop-n.n-index in
    let ns = c.args.numbers.now in
    renamed _ (sym (ap tabbed (take_more ns i 0 (omega arith)) ∙ tabbed-snoc _ _))
    (widen _ (omega arith) (then c.loop-n.invariant (then c.put_byte-tab.ensures c.put_number-next.ensures)))

pub returns : goal.returns
returns c =
    let ns = c.args.numbers.now in
    let w = renamed _ (ap tabbed (take_all c.loop-n.n-index ns (omega arith))) c.loop-n.invariant in
    renamed _ (sym (fields-tabbed ns)) (widen _ (omega arith) (then w c.put_byte.ensures))
