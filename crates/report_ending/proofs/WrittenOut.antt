-- A report is written out whole where it fits, and else not at all; its number and line. Assumes nothing.
use Rattle.std.proofs.Common.{◌≡◌, refl, sym, ◌∙◌, subst, ℕ, Bool, true, false, List, length}
use Rattle.std.specs.Prelude.{Some, None, leb}
use Rattle.spec_report.specs.declared.End.{End}
use Rattle.spec_report.specs.Report.{end_number, end_line}
use Rattle.spec_report.specs.Outcomes.{Outcome, refused, written, left}
use Rattle.report_writer.specs.Writing.{IsWritten}
use Rattle.report_ending.specs.declared.WrittenEnd.{WrittenEnd}
use Rattle.report_ending.specs.Finishing.{WrittenOut, nothing_written, ended_by, ended_of}

-- The same outcome is written out alike.
pub same_outcome : {o o' : Outcome} {before after : List ℕ} {r : WrittenEnd} → o ≡ o' → WrittenOut o before r after
    → WrittenOut o' before r after
same_outcome {before = before} {after = after} {r = r} e w = subst (λ x. WrittenOut x before r after) e w

-- What is refused leaves the buffer as it was.
pub refused-out : {o : Outcome} (end : End) (before : List ℕ) → o ≡ refused end
    → WrittenOut o before (nothing_written end) before
unfolding left
refused-out end before e = same_outcome (sym e) (record { end_is = refl; length_is = refl; left_is = refl })

-- A report that fits is written whole, and no other is written.
module _ (e : End) (whole before after : List ℕ) where
  -- It was written.
  pub written-whole : (n : ℕ) → IsWritten whole before (Some n) after
      → WrittenOut (written e whole) before (record { end = e; length = n }) after
  unfolding left
  written-whole n is = go (leb (length whole) (length before)) refl
    where
      go : (b : Bool) → leb (length whole) (length before) ≡ b
          → WrittenOut (written e whole) before (record { end = e; length = n }) after
      go true t = record { end_is = rw t; length_is = cc; left_is = is.after_is ∙ rw t }
      go false t = cc

  -- It was not.
  pub written_none : IsWritten whole before None after
      → WrittenOut (written e whole) before (nothing_written End.NoRoom) after
  unfolding left
  written_none is = go (leb (length whole) (length before)) refl
    where
      go : (b : Bool) → leb (length whole) (length before) ≡ b
          → WrittenOut (written e whole) before (nothing_written End.NoRoom) after
      go true t = cc
      go false t = record { end_is = rw t; length_is = rw t; left_is = is.after_is ∙ rw t }

-- An outcome that was written out has ended with the number, the line and the length of the definitions.
pub ended-as : {o : Outcome} {before after : List ℕ} {r : WrittenEnd} → WrittenOut o before r after
    → ended_by r ≡ ended_of o before
ended-as w =
    λ i.
    record {
      number = end_number (w.end_is i);
      line = end_line (w.end_is i);
      length = w.length_is i;
    }
