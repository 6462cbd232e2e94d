-- Schedules of records beside a plan's text, as rows of one table, and the theorem that each gives what its row says,
-- by computation on the definitions: what document 01 says of them, each at its smallest case. Assumes nothing.
use Prim.Native.Nat.{ℕ}
use Prim.Native.String.{String}
use mathlib.Core.Path.{◌≡◌, refl}
use mathlib.Core.List.{List, [], ◌∷◌, map}
use lib.ListN.{replicate}
use Rattle.spec_text.specs.Bytes.{bytes}
use Rattle.spec_text.specs.Decimal.{decimal}
use Rattle.spec_text.specs.Lines.{lines, fields}
use Rattle.spec_text.specs.Numbers.{number}
use Rattle.spec_format.specs.declared.Entry.{Entry}
use Rattle.spec_format.specs.Plan.{blocks_written}
use Rattle.spec_format.specs.Kinds.{kind_of}
use Rattle.spec_format.specs.ParsedLines.{parsed_of}
use Rattle.spec_format.specs.Reading.{reading}
use Rattle.spec_machine.specs.Steps.{same_version, stage, item}
use Rattle.spec_machine.specs.Machine.{opening_of, stored, carried_out, item_of}
use Rattle.spec_machine.specs.Entries.{judge, acted}
use Rattle.spec_machine.specs.History.{begun, entered, run_of}
use Rattle.spec_report.specs.Report.{report}
use Rattle.spec_report.specs.Outcomes.{run_schedule, printed}
use Rattle.spec_report.proofs.Texts.{run, up_to_update, T}

-- The plan of T, without its entries.
abbrev plan_of_t : List ℕ
plan_of_t = up_to_update []

-- "A record has a kind (0 call, 1 step) and two numbers, a step's second unused."
abbrev call_record : Entry
call_record = record { kind = 0; first = 0; second = 0 }

-- A step of card 0, with any second number.
abbrev step_record : ℕ → Entry
step_record unused = record { kind = 1; first = 0; second = unused }

-- A record of this kind, which is another where it is over 1.
abbrev other_record : ℕ → Entry
other_record kind = record { kind = kind; first = 0; second = 0 }

-- A plan's text, records, and what must be printed.
pub record Row : Type 0 where
  pub text : List ℕ
  pub records : List Entry
  pub printed : String

-- The rows.
abbrev pub rows : List Row
rows =
    -- T's schedule: "acceptance gives their count"
    record {
      text = plan_of_t;
      records = call_record ∷ replicate 33 (step_record 7);
      printed = "commit\t29\t0\t0\nblock\t7\nend\t0\t34\n";
    }
    -- "these and 11 to 14 give the record's place from 1 as their line"
    ∷ record {
      text = plan_of_t;
      records = call_record ∷ replicate 34 (step_record 0);
      printed = "commit\t29\t0\t0\nblock\t7\nend\t14\t35\n";
    }
    -- "before any runs, .. the first record of another kind gives 3": the record before it would be refused
    ∷ record {
      text = plan_of_t;
      records = step_record 0 ∷ other_record 2 ∷ other_record 3 ∷ [];
      printed = "end\t3\t2\n";
    }
    -- "of another kind": 3 as well as 2, and the largest
    ∷ record { text = plan_of_t; records = call_record ∷ other_record 3 ∷ []; printed = "end\t3\t2\n" }
    ∷ record { text = plan_of_t; records = other_record 4294967295 ∷ []; printed = "end\t3\t1\n" }
    -- "beside a plan's text, in which an entry line is 3"; "After the text's check"
    ∷ record { text = T 33; records = other_record 2 ∷ []; printed = "end\t3\t6\n" }
    -- a run of steps too, whatever its fields
    ∷ record { text = up_to_update (run 0); records = []; printed = "end\t3\t6\n" }
    -- no records
    ∷ record { text = plan_of_t; records = []; printed = "block\t5\nend\t0\t0\n" }
    ∷ []

-- Every schedule prints what its row says.
pub all-run :
    map (λ (r : Row). printed (run_schedule r.text r.records)) rows ≡ map (λ (r : Row). bytes r.printed) rows
unfolding reading lines fields number kind_of parsed_of blocks_written decimal
    same_version stage item opening_of stored carried_out item_of
    judge acted begun entered run_of report run_schedule printed
all-run = refl
