-- `put_job_status` writes a sign where there is one, and the number behind it. Assumes nothing.
use Rattle.std.proofs.Common.{◌≡◌, ap, ◌∙◌, true, ◌∷◌, arith}
use Rattle.std.proofs.lemmas.Int.{to_z-of_z}
use borrow.Author.Tests.{ltb-true}
use lib.IntN.{ℤ, pos, negsuc, nat_abs}
use lib.Signed.{lt_z}
use mir.Syntax.{w32}
use native.Mathlib.Numerals.{add-one}
use Rattle.spec_text.specs.Decimal.{decimal}
use Rattle.spec_report.specs.Report.{status_bytes}
use Rattle.report_bytes.proofs.Writes.{then, renamed}
use Rattle.report_lines.proofs.put_job_status.Goals as goal

-- A status below 0, as it is written.
negative : (z : ℤ) → lt_z z (pos 0) ≡ true → 45 ∷ decimal (nat_abs z) ≡ status_bytes z
negative (pos n) h = absurd (omega (arith, ltb-true n 0 h))
negative (negsuc a) h = rw (add-one a)

pub returns-then-status-lt0 : goal.returns-then-status-lt0
returns-then-status-lt0 c =
    -- A signed number goes through a call as its bits.
    let e = to_z-of_z w32 c.args.status c.ranges.status in
    let n = c.unsigned_abs.ensures.value ∙ ap nat_abs e in
    renamed _ (negative c.args.status (rw e at c.if-status-lt0.true))
    (then c.put_byte-digits.ensures (rw n at c.put_decimal.ensures))
