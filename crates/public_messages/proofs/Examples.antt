-- What is said of ends, computed on the definitions: a row for each shape of the line. Assumes nothing.
use Prim.Native.Nat.{ℕ}
use Prim.Native.String.{String}
use mathlib.Core.Path.{◌≡◌, refl}
use mathlib.Core.List.{List, [], ◌∷◌, map}
use Rattle.spec_text.specs.Bytes.{bytes}
use Rattle.spec_text.specs.Decimal.{decimal}
use Rattle.public_messages.specs.Messages.{message}

-- The number, the line and the entry of an end, and what must be said of it.
pub record Row : Type 0 where
  pub number : ℕ
  pub line : ℕ
  pub entry : ℕ
  pub said : String

-- The rows: the text as a whole, a line, an entry; and nothing of acceptance and past the table.
abbrev pub rows : List Row
rows =
    record { number = 1; line = 0; entry = 0; said = "refused with 1: the text has more than 65,536 bytes\n" }
    ∷ record {
      number = 8;
      line = 3;
      entry = 0;
      said = "line 3: refused with 8: an earlier job has the same card and priority\n";
    }
    ∷ record {
      number = 14;
      line = 40;
      entry = 35;
      said = "line 40, entry 35: refused with 14: no job is active on the card\n";
    }
    ∷ record {
      number = 15;
      line = 0;
      entry = 0;
      said = "refused with 15: the buffer is too short for what is to be written\n";
    }
    ∷ record {
      number = 16;
      line = 7;
      entry = 0;
      said = "line 7: refused with 16: a run has from 1 to 4,000 steps\n";
    }
    ∷ record {
      number = 17;
      line = 4;
      entry = 0;
      said = "line 4: refused with 17: the update's number is not the next one, counted from 0\n";
    }
    ∷ record { number = 0; line = 39; entry = 0; said = "" }
    ∷ record { number = 18; line = 1; entry = 0; said = "" }
    ∷ []

-- Every row is said so.
pub all_said :
    map (λ (r : Row). message r.number r.line r.entry) rows ≡ map (λ (r : Row). bytes r.said) rows
unfolding decimal
all_said = refl
