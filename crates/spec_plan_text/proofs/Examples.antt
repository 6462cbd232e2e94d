-- The entry lines of some entries and their bytes, some texts that are fully joined and some that are not, the longest
-- lines of each kind, and what the writer comes to for some texts and records and in some lent buffers, computed.
-- Assumes nothing.
use Prim.Native.Nat.{ℕ, ◌≤◌}
use mathlib.Core.Path.{◌≡◌, refl}
use mathlib.Core.Bool.{true, false}
use mathlib.Core.List.{List, [], ◌∷◌, ◌++◌, map}
use native.Mathlib.Omega.{arith}
use lib.ListN.{length, replicate}
use Rattle.spec_text.specs.Bytes.{bytes}
use Rattle.spec_text.specs.Decimal.{decimal}
use Rattle.spec_text.specs.Lines.{lines, fields}
use Rattle.spec_text.specs.Numbers.{number}
use Rattle.spec_format.specs.declared.Sizes.{Sizes}
use Rattle.spec_format.specs.declared.Move.{Move}
use Rattle.spec_format.specs.declared.Entry.{Entry}
use Rattle.spec_format.specs.declared.Fault.{Fault}
use Rattle.spec_format.specs.Plan.{Plan, blocks_written}
use Rattle.spec_format.specs.Kinds.{kind_of}
use Rattle.spec_format.specs.ParsedLines.{parsed_of}
use Rattle.spec_format.specs.Reading.{longest, reading}
use Rattle.spec_machine.specs.declared.Refusal.{Refusal}
use Rattle.spec_machine.specs.Steps.{same_version, stage, item}
use Rattle.spec_machine.specs.Machine.{opening_of, stored, carried_out, item_of}
use Rattle.spec_machine.specs.Entries.{judge, acted}
use Rattle.spec_machine.specs.History.{begun, entered, run_of}
use Rattle.spec_report.specs.declared.End.{End}
use Rattle.spec_report.specs.Outcomes.{Outcome, refused, written, run_text, run_schedule, end_with, handed, left}
use Rattle.spec_report.proofs.Texts.{up_to_update, call_and_steps, call_and_run, T}
use Rattle.spec_report.proofs.Texts as Texts
use Rattle.spec_plan_text.specs.EntryLines.{call, run, Longest, longest_runs, entry_bytes, entry_line_bytes}
use Rattle.spec_plan_text.specs.PlanText.{plan_line, job_line, block_line, move_line, update_lines, plan_text, text_of}
use Rattle.spec_plan_text.specs.Writing.{write_text, write_schedule}
use Rattle.spec_plan_text.specs.WrittenTexts.{fields_in, fully_joined}
use Rattle.spec_plan_text.specs.LongestText.{longest_plan_line, longest_job_line, longest_block_line}
use Rattle.spec_plan_text.specs.LongestText.{longest_update_line, longest_move_line, longest_entry_line}
use Rattle.spec_plan_text.specs.LongestText.{longest_plan_text, longest_text}

-- A call of a job.
abbrev call_of : ℕ → Entry
call_of job = record { kind = 0; first = job; second = 0 }

-- A step of a card.
abbrev step_of : ℕ → Entry
step_of card = record { kind = 1; first = card; second = 0 }

-- A step of card 0 with an unused number.
abbrev unused_step : ℕ → Entry
unused_step unused = record { kind = 1; first = 0; second = unused }

-- Steps are joined up to a call or another card.
joins : longest_runs (step_of 0 ∷ step_of 0 ∷ call_of 1 ∷ step_of 0 ∷ step_of 1 ∷ step_of 1 ∷ step_of 1 ∷ [])
    ≡ run 0 2 ∷ call 1 0 ∷ run 0 1 ∷ run 1 3 ∷ []
unfolding longest_runs
joins = refl

-- A run of one has no count.
no-count : entry_line_bytes (run 0 2 ∷ call 1 0 ∷ run 0 1 ∷ [])
    ≡ bytes "step\t0\t2\ncall\t1\t0\nstep\t0\n"
unfolding decimal
no-count = refl

-- Two runs of one card that follow each other are not the longest,
not-parted : Longest (run 0 30 ∷ run 0 3 ∷ []) → ⊥
not-parted h = h.1.0 refl

-- nor is an empty run,
not-empty : Longest (run 0 0 ∷ []) → ⊥
not-empty h = omega arith

-- but a call or another card parts two runs.
parted : Longest (run 0 30 ∷ call 0 0 ∷ run 0 3 ∷ run 1 1 ∷ run 0 1 ∷ [])
parted = (
  omega arith,
  (λ q. q, (tt, (λ q. q, (omega arith, (λ q. omega (arith, q), (omega arith, (λ q. omega (arith, q), omega arith))))))),
)

-- A text with a step that counts 1 is not fully joined,
not-counted : fully_joined (fields_in (bytes "call\t0\t0\nstep\t0\t1\ncall\t0\t0\n")) ≡ false
unfolding lines fields
not-counted = refl

-- nor is one with two steps of a card that follow each other,
not-joined : fully_joined (fields_in (bytes "call\t0\t0\nstep\t0\nstep\t0\n")) ≡ false
unfolding lines fields
not-joined = refl

-- with or without a count,
not-added : fully_joined (fields_in (bytes "step\t0\t30\nstep\t0\t3\ncall\t0\t0\n")) ≡ false
unfolding lines fields
not-added = refl

-- but a call or another card parts two runs.
all-joined : fully_joined (fields_in (bytes "step\t0\t30\ncall\t0\t0\nstep\t0\t3\nstep\t1\nstep\t0\n")) ≡ true
unfolding lines fields
all-joined = refl

-- The largest sizes.
abbrev most_sizes : Sizes
most_sizes = record { cards = 8; jobs = 16; blocks = 16; words = 16; copies = 8 }

-- A plan of them with the largest words in its first block.
abbrev long_words : Plan
long_words = record { sizes = most_sizes; jobs = []; words = replicate 16 4294967295; updates = [] }

-- Each bound of a line is reached: that of the plan line,
plan-reached : length (plan_line most_sizes) ≡ longest_plan_line
unfolding decimal
plan-reached = refl

-- of a job line,
job-reached : length (job_line (record { card = 7; priority = 255 })) ≡ longest_job_line
unfolding decimal
job-reached = refl

-- of a block line,
block-reached : length (block_line long_words 0) ≡ longest_block_line
unfolding decimal
block-reached = refl

-- of an update line,
update-reached : length (update_lines 31 []) ≡ longest_update_line
unfolding decimal
update-reached = refl

-- of a move line,
move-reached : length (move_line (Move.Add 255 255 4294967295)) ≡ longest_move_line
unfolding decimal
move-reached = refl

-- and of the line of a single entry.
entry-reached : length (entry_bytes (call 15 31)) ≡ longest_entry_line
unfolding decimal
entry-reached = refl

-- The sum for the plan,
plan-sum : longest_plan_text ≡ 15186
plan-sum = refl

-- and for the whole text.
text-sum : longest_text ≡ 59186
text-sum = refl

-- A written text is not too long to be read.
readable : longest_text ≤ longest
readable = omega arith

-- The one text of document 01's run T: its 33 steps are one run.
abbrev text_of_t : List ℕ
text_of_t =
    bytes
    "plan\t1\t1\t1\t1\t1\njob\t0\t0\nblock\t5\nupdate\t0\nadd\t0\t0\t2\ncall\t0\t0\nstep\t0\t33\n"

-- A plan with more of each kind: two updates, the first without moves, and every kind of move; then more lines.
abbrev rich_plan : List ℕ → List ℕ
rich_plan more =
    bytes "plan\t2\t2\t2\t2\t2\njob\t0\t0\njob\t1\t255\nblock\t1\t2\nblock\t3\t4294967295\n"
    ++ (bytes "update\t0\nupdate\t1\ncopy\t0\t1\nset\t2\t4294967295\nadd\t3\t0\t7\n" ++ more)

-- A text, and what writing it must come to.
record TextRow : Type 0 where
  text : List ℕ
  comes-to : Outcome

-- The rows.
abbrev text_rows : List TextRow
text_rows =
    -- T with single steps
    record { text = T 33; comes-to = written (End.Accepted 39) text_of_t }
    -- "two texts with the same meaning are written alike": T with two runs of 30 and 3 steps
    ∷ record { text = up_to_update (call_and_run 30 ++ Texts.run 3); comes-to = written (End.Accepted 8) text_of_t }
    -- the text itself
    ∷ record { text = text_of_t; comes-to = written (End.Accepted 7) text_of_t }
    -- no entries
    ∷ record { text = up_to_update []; comes-to = written (End.Accepted 5) (up_to_update []) }
    -- "the longest runs, and a run of one has no count": a call and another card part them
    ∷ record {
      text = rich_plan (bytes "call\t1\t1\nstep\t1\nstep\t1\t1\ncall\t0\t0\nstep\t1\t1\nstep\t0\n");
      comes-to =
          written (End.Accepted 16)
          (rich_plan (bytes "call\t1\t1\nstep\t1\t2\ncall\t0\t0\nstep\t1\nstep\t0\n"));
    }
    -- "A refused text or schedule gives the refusal that its run gives": 14 at line 40
    ∷ record { text = T 34; comes-to = refused (End.Refused Refusal.NoneActive 35 40) }
    -- 12, a call at once repeated
    ∷ record {
      text = up_to_update (bytes "call\t0\t0\n" ++ call_and_steps 33);
      comes-to = refused (End.Refused Refusal.Active 2 7);
    }
    -- 3, an empty text
    ∷ record { text = []; comes-to = refused (End.Faulty Fault.Misplaced 1) }
    ∷ []

-- Each text comes to what its row says.
texts-come : map (λ (r : TextRow). write_text r.text) text_rows ≡ map (λ (r : TextRow). r.comes-to) text_rows
unfolding reading lines fields number kind_of parsed_of blocks_written decimal
    same_version stage item opening_of stored carried_out item_of
    judge acted begun entered run_of run_text
    longest_runs plan_text text_of write_text
texts-come = refl

-- A plan's text, records, and what writing them must come to.
record ScheduleRow : Type 0 where
  text : List ℕ
  records : List Entry
  comes-to : Outcome

-- The rows.
abbrev schedule_rows : List ScheduleRow
schedule_rows =
    -- T's schedule: a step's unused number is not written, and "acceptance gives their count"
    record {
      text = up_to_update [];
      records = call_of 0 ∷ replicate 33 (unused_step 7);
      comes-to = written (End.Accepted 34) text_of_t;
    }
    -- no records
    ∷ record { text = up_to_update []; records = []; comes-to = written (End.Accepted 0) (up_to_update []) }
    -- "the refusal that its run gives": 14 at the record's place
    ∷ record {
      text = up_to_update [];
      records = call_of 0 ∷ replicate 34 (step_of 0);
      comes-to = refused (End.Refused Refusal.NoneActive 35 35);
    }
    -- 3, a record of another kind at its place, and an entry line beside records
    ∷ record {
      text = up_to_update [];
      records = call_of 0 ∷ record { kind = 2; first = 0; second = 0 } ∷ [];
      comes-to = refused (End.Faulty Fault.Misplaced 2);
    }
    ∷ record { text = T 33; records = []; comes-to = refused (End.Faulty Fault.Misplaced 6) }
    ∷ []

-- Each schedule comes to what its row says.
schedules-come :
    map (λ (r : ScheduleRow). write_schedule r.text r.records) schedule_rows
    ≡ map (λ (r : ScheduleRow). r.comes-to) schedule_rows
unfolding reading lines fields number kind_of parsed_of blocks_written decimal
    same_version stage item opening_of stored carried_out item_of
    judge acted begun entered run_of run_schedule
    longest_runs plan_text text_of write_schedule
schedules-come = refl

-- What a caller finds: the end, the part of the buffer that is handed back, and what the buffer holds.
record Found : Type 0 where
  end : End
  back : List ℕ
  holds : List ℕ

-- A text that is to be written into a lent buffer, and what the caller must find.
record LentRow : Type 0 where
  text : List ℕ
  buffer : List ℕ
  finds : Found

-- The rows. T's text has 69 bytes.
abbrev lent_rows : List LentRow
lent_rows =
    -- "a lent buffer that is too short gives 15; .. the buffer stays untouched"
    record {
      text = T 33;
      buffer = replicate 68 7;
      finds = record { end = End.NoRoom; back = []; holds = replicate 68 7 };
    }
    -- just long enough, and longer: "bytes past the report keep what they held"
    ∷ record {
      text = T 33;
      buffer = replicate 69 7;
      finds = record { end = End.Accepted 39; back = text_of_t; holds = text_of_t };
    }
    ∷ record {
      text = T 33;
      buffer = replicate 71 7;
      finds = record { end = End.Accepted 39; back = text_of_t; holds = text_of_t ++ (7 ∷ 7 ∷ []) };
    }
    -- a refused run is refused in any buffer, which stays untouched
    ∷ record {
      text = T 34;
      buffer = [];
      finds = record { end = End.Refused Refusal.NoneActive 35 40; back = []; holds = [] };
    }
    ∷ record {
      text = T 34;
      buffer = replicate 80 7;
      finds = record { end = End.Refused Refusal.NoneActive 35 40; back = []; holds = replicate 80 7 };
    }
    ∷ []

-- What the caller of the writer finds of an outcome in a buffer.
abbrev found : Outcome → List ℕ → Found
found o buffer = record { end = end_with o buffer; back = handed o buffer; holds = left o buffer }

-- Each caller finds what its row says.
all-lent :
    map (λ (r : LentRow). found (write_text r.text) r.buffer) lent_rows ≡ map (λ (r : LentRow). r.finds) lent_rows
unfolding reading lines fields number kind_of parsed_of blocks_written decimal
    same_version stage item opening_of stored carried_out item_of
    judge acted begun entered run_of run_text left
    longest_runs plan_text text_of write_text
all-lent = refl
