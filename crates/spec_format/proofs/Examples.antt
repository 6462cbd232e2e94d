-- Texts with their verdicts, computed on the definitions: accepted and refused ones exist, and a line with several
-- faults, and a text with faults in several lines, are answered as the table says; the single entries of a run; and
-- what is found by an update's number. Assumes nothing.
use Prim.Native.Nat.{ℕ}
use Prim.Native.String.{String}
use mathlib.Core.Path.{◌≡◌, refl}
use mathlib.Core.Bool.{false}
use mathlib.Core.List.{List, [], ◌∷◌, ◌++◌, map}
use Rattle.spec_text.specs.Bytes.{bytes}
use Rattle.spec_text.specs.Decimal.{decimal}
use Rattle.spec_text.specs.Lines.{lines, fields}
use Rattle.spec_text.specs.Numbers.{number}
use Rattle.spec_format.specs.declared.Fault.{Fault}
use Rattle.spec_format.specs.declared.Form.{Form}
use Rattle.std.specs.Prelude.{Result, Ok, Err}
use Rattle.spec_format.specs.declared.LineFault.{LineFault}
use Rattle.spec_format.specs.declared.Move.{Move}
use Rattle.spec_format.specs.Plan.{Listed, blocks_written}
use Rattle.spec_format.specs.Kinds.{kind_of}
use Rattle.spec_format.specs.ParsedLines.{parsed_of}
use Rattle.spec_format.specs.Reading.{Reading, refusal, accepted, reading, verdict_of}
use Rattle.spec_format.specs.UpdateNumbers.{update_lines, directives, update_numbers, moves_behind}

-- A refusal by a fault, in a line.
abbrev pub refused_at : Fault → ℕ → Result ℕ LineFault
refused_at f n = Err (record { fault = f; line = n })

-- A text with the verdict that it must be given.
pub record Row : Type 0 where
  pub text : List ℕ
  pub verdict : Result ℕ LineFault

-- A plan with one job and one block in three lines, with more lines behind.
abbrev pub small : String → List ℕ
small more = bytes "plan\t1\t1\t1\t1\t1\njob\t0\t0\nblock\t5\n" ++ bytes more

-- A text with three updates, of which only the second has a move.
abbrev pub three_updates : List ℕ
three_updates = small "update\t0\nupdate\t1\nset\t0\t7\nupdate\t2\n"

-- The same plan with 32 updates, and more lines behind.
abbrev pub full : String → List ℕ
full more = small "" ++ (update_lines 32 ++ bytes more)

-- The rows.
abbrev pub rows : List Row
rows =
    -- a plan with one job and one block, an update and two entries
    record { text = small "update\t0\nadd\t0\t0\t2\ncall\t0\t0\nstep\t0\n"; verdict = Ok 7 }
    -- three cards
    ∷ record {
      text = bytes "plan\t3\t3\t1\t2\t1\njob\t0\t1\njob\t1\t1\njob\t2\t0\nblock\t0\t4294967295\n";
      verdict = Ok 5;
    }
    -- nothing at all ends too early
    ∷ record { text = bytes ""; verdict = refused_at Fault.Misplaced 1 }
    -- P is 9
    ∷ record { text = bytes "plan\t9\t1\t1\t1\t1\n"; verdict = refused_at Fault.BadSize 1 }
    -- P is 8; then the text ends too early
    ∷ record { text = bytes "plan\t8\t1\t1\t1\t1\n"; verdict = refused_at Fault.Misplaced 2 }
    -- one line that cannot stand there, has a bad number and a wrong count of fields
    ∷ record { text = bytes "job\t0x\t1\t2\n"; verdict = refused_at Fault.Misplaced 1 }
    -- a bad number in a line that is out of range too, and faults in later lines
    ∷ record { text = bytes "plan\t1\t1\t1\t1\t1\njob\t1\t00\nblok\nstep"; verdict = refused_at Fault.Malformed 2 }
    -- a last line without its line feed, behind good ones
    ∷ record { text = bytes "plan\t1\t1\t1\t1\t1\njob\t0\t255"; verdict = refused_at Fault.Unknown 2 }
    -- a schedule of 4,000 steps of one card
    ∷ record { text = small "step\t0\t4000\n"; verdict = Ok 4 }
    -- a run of none, of one too many, which is 16 before it is 5, and of a step, behind a full schedule
    ∷ record { text = small "step\t0\t4000\nstep\t0\t0\n"; verdict = refused_at Fault.BadRun 5 }
    ∷ record { text = small "step\t0\t4000\nstep\t0\t4001\n"; verdict = refused_at Fault.BadRun 5 }
    ∷ record { text = small "step\t0\t4000\nstep\t0\t1\n"; verdict = refused_at Fault.TooMany 5 }
    -- a run that passes 4,000 behind a call
    ∷ record { text = small "update\t0\ncall\t0\t0\nstep\t0\t4000\n"; verdict = refused_at Fault.TooMany 6 }
    -- a run with an empty field for its n, with a bad number, and with a field too many
    ∷ record { text = small "step\t0\t\n"; verdict = refused_at Fault.Malformed 4 }
    ∷ record { text = small "step\t0\t00\n"; verdict = refused_at Fault.Malformed 4 }
    ∷ record { text = small "step\t0\t1\t1\n"; verdict = refused_at Fault.Malformed 4 }
    -- updates with their numbers, from 0
    ∷ record { text = three_updates; verdict = Ok 7 }
    -- an update from 1 on, a number left out, and one that was there
    ∷ record { text = small "update\t1\n"; verdict = refused_at Fault.Misnumbered 4 }
    ∷ record { text = small "update\t0\nupdate\t2\n"; verdict = refused_at Fault.Misnumbered 5 }
    ∷ record { text = small "update\t0\nupdate\t0\n"; verdict = refused_at Fault.Misnumbered 5 }
    -- an update without its number, with a leading zero, and with a field too many
    ∷ record { text = small "update\n"; verdict = refused_at Fault.Malformed 4 }
    ∷ record { text = small "update\t00\n"; verdict = refused_at Fault.Malformed 4 }
    ∷ record { text = small "update\t0\t0\n"; verdict = refused_at Fault.Malformed 4 }
    -- the 33rd update: 4, which is judged before 5; 5, which is judged before 17; 5 with the next number too
    ∷ record { text = full "update\t032\n"; verdict = refused_at Fault.Malformed 36 }
    ∷ record { text = full "update\t0\n"; verdict = refused_at Fault.TooMany 36 }
    ∷ record { text = full "update\t32\n"; verdict = refused_at Fault.TooMany 36 }
    -- 32 updates pass
    ∷ record { text = full ""; verdict = Ok 35 }
    -- an update with a wrong number behind an entry is 3
    ∷ record { text = small "step\t0\nupdate\t1\n"; verdict = refused_at Fault.Misplaced 5 }
    ∷ []

-- The verdicts are those of the rows.
pub all-judged :
    map (λ (r : Row). verdict_of (reading Form.Schedule r.text)) rows ≡ map (λ (r : Row). r.verdict) rows
unfolding reading lines fields number kind_of parsed_of blocks_written decimal
all-judged = refl

-- The lines of the single entries of a text.
abbrev pub entry_lines : Reading → List ℕ
entry_lines (refusal f n) = []
entry_lines (accepted plan es n) = map (λ (l : Listed). l.line) es

-- A run has as many single entries as steps, each in the run's line; the next line is one more.
pub run-listed :
    entry_lines (reading Form.Schedule (small "step\t0\t3\nstep\t0\n")) ≡ 4 ∷ 4 ∷ 4 ∷ 5 ∷ []
unfolding reading lines fields number kind_of parsed_of
run-listed = refl

-- The numbers of the three updates,
pub numbers-found : update_numbers (directives 1 (lines three_updates)) ≡ 0 ∷ 1 ∷ 2 ∷ []
unfolding lines fields number kind_of parsed_of
numbers-found = refl

-- and the moves behind each number; 3 is no update's.
pub moves-found :
    map (λ u. moves_behind u false (directives 1 (lines three_updates))) (0 ∷ 1 ∷ 2 ∷ 3 ∷ [])
    ≡ [] ∷ (Move.Set 0 7 ∷ []) ∷ [] ∷ [] ∷ []
unfolding lines fields number kind_of parsed_of
moves-found = refl
