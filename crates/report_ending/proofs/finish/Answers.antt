-- `finish` meets its contract. Assumes nothing.
use Rattle.report_ending.proofs.WrittenOut.{written-whole, written_none}
use Rattle.report_ending.proofs.finish.Goals as goal

pub returns-in-Some : goal.returns-in-Some
returns-in-Some c =
    rw (← c.end_number-number.ensures.0, ← c.end_line-line.ensures)
    (written-whole _ _ _ _ _ c.in-Some.ensures)

pub returns-in-None : goal.returns-in-None
returns-in-None c =
    rw (← c.end_number-number.ensures.0, ← c.end_line-line.ensures, c.nothing.ensures)
    (written_none _ _ _ _ c.in-None.ensures)
