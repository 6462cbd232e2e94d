-- What is answered, handed back and left in the lent buffer: laws for every outcome and every buffer, and a row for
-- each number of the table, computed on the definitions. Assumes nothing.
use Prim.Native.Nat.{ℕ, ◌+◌, ◌≤◌}
use Prim.Native.String.{String}
use mathlib.Core.Path.{◌≡◌, refl, ◌∙◌, ap}
use mathlib.Core.Bool.{Bool, true, false, cond}
use mathlib.Core.List.{List, [], ◌∷◌, map}
use native.Mathlib.Omega.{arith}
use borrow.Author.Tests.{leb-true}
use lib.ListN.{length, take, drop, replicate, length-append, length-drop}
use lib.Seq.{take-append_seam, drop-append_seam}
use Rattle.spec_text.specs.Bytes.{bytes}
use Rattle.spec_text.specs.Decimal.{decimal}
use Rattle.spec_text.specs.Lines.{lines, fields}
use Rattle.spec_text.specs.Numbers.{number}
use Rattle.spec_format.specs.declared.Entry.{Entry}
use Rattle.spec_format.specs.Plan.{blocks_written}
use Rattle.spec_format.specs.Kinds.{kind_of}
use Rattle.spec_format.specs.ParsedLines.{parsed_of}
use Rattle.spec_format.specs.Reading.{reading}
use Rattle.spec_format.specs.UpdateNumbers.{update_lines}
use Rattle.spec_machine.specs.Steps.{same_version, stage, item}
use Rattle.spec_machine.specs.Machine.{opening_of, stored, carried_out, item_of}
use Rattle.spec_machine.specs.Entries.{judge, acted}
use Rattle.spec_machine.specs.History.{begun, entered, run_of}
use Rattle.spec_report.specs.declared.End.{End}
use Rattle.spec_report.specs.Report.{end_number, end_line, end_entry, report}
use Rattle.spec_report.specs.Outcomes.{
  Outcome,
  refused,
  written,
  run_text,
  run_schedule,
  fits,
  end_with,
  handed,
  left,
}
use Rattle.spec_report.proofs.Texts.{run, call_and_run, one_job, update, two_blocks}

-- A report that is handed back fits, by a test on its length.
within : (b : Bool) (report buffer : List ℕ) → fits report buffer ≡ b → length (cond b report []) ≤ length buffer
within true report buffer e = leb-true _ _ e
within false report buffer e = omega arith

-- What is handed back is not longer than the buffer.
pub handed-fits : (o : Outcome) (buffer : List ℕ) → length (handed o buffer) ≤ length buffer
handed-fits (refused e) buffer = omega arith
handed-fits (written e report) buffer = within (fits report buffer) report buffer refl

-- The buffer keeps its length.
pub left-length : (o : Outcome) (buffer : List ℕ) → length (left o buffer) ≡ length buffer
unfolding left
left-length o buffer =
    let h : length (handed o buffer) ≤ length buffer = handed-fits o buffer in
    length-append (handed o buffer) (drop (length (handed o buffer)) buffer)
    ∙ ap (λ n. length (handed o buffer) + n) (length-drop (length (handed o buffer)) buffer)
    ∙ omega (arith, h)

-- What is handed back is the buffer's first part.
pub handed-first : (o : Outcome) (buffer : List ℕ)
    → take (length (handed o buffer)) (left o buffer) ≡ handed o buffer
unfolding left
handed-first o buffer = take-append_seam (handed o buffer) (drop (length (handed o buffer)) buffer)

-- The bytes past it keep what they held; so where nothing is handed back, the buffer is untouched.
pub rest-kept :
    (o : Outcome) (buffer : List ℕ) →
    drop (length (handed o buffer)) (left o buffer) ≡ drop (length (handed o buffer)) buffer
unfolding left
rest-kept o buffer = drop-append_seam (handed o buffer) (drop (length (handed o buffer)) buffer)

-- A record of a schedule.
abbrev pub entry : ℕ → ℕ → ℕ → Entry
entry kind first second = record { kind = kind; first = first; second = second }

-- An outcome, how many bytes `x` are lent, and what must come of it: number, line, the refused entry, the part handed
-- back, the buffer.
pub record Row : Type 0 where
  pub outcome : Outcome
  pub room : ℕ
  pub number : ℕ
  pub line : ℕ
  pub entry : ℕ
  pub handed : String
  pub left : String

-- A row whose answer leaves a buffer of four bytes untouched.
abbrev pub untouched : Outcome → ℕ → ℕ → Row
untouched o number line =
    record { outcome = o; room = 4; number = number; line = line; entry = 0; handed = ""; left = "xxxx" }

-- The rows.
abbrev pub rows : List Row
rows =
    -- 0, with room for two bytes more, and with just enough room
    record {
      outcome = run_text (one_job 1 5 []);
      room = 18;
      number = 0;
      line = 3;
      entry = 0;
      handed = "block\t5\nend\t0\t3\n";
      left = "block\t5\nend\t0\t3\nxx";
    }
    ∷ record {
      outcome = run_text (one_job 1 5 []);
      room = 16;
      number = 0;
      line = 3;
      entry = 0;
      handed = "block\t5\nend\t0\t3\n";
      left = "block\t5\nend\t0\t3\n";
    }
    -- 1 to 10, 16 and 17: no report
    ∷ untouched (run_text (replicate 65537 120)) 1 0
    ∷ untouched (run_text (one_job 1 5 (bytes "x\n"))) 2 4
    ∷ untouched (run_text []) 3 1
    ∷ untouched (run_text (one_job 1 5 (bytes "call\t0\n"))) 4 4
    ∷ untouched (run_text (one_job 1 5 (update_lines 33))) 5 36
    ∷ untouched (run_text (one_job 9 5 [])) 6 1
    ∷ untouched (run_text (bytes "plan\t1\t1\t1\t1\t1\njob\t1\t0\n")) 7 2
    ∷ untouched (run_text (bytes "plan\t1\t2\t1\t1\t1\njob\t0\t0\njob\t0\t0\n")) 8 3
    ∷ untouched (run_text (one_job 1 5 (update "set\t1\t0\n" []))) 9 5
    ∷ untouched (run_text (two_blocks (update "set\t0\t1\nset\t1\t1\n" []))) 10 7
    ∷ untouched (run_text (one_job 1 5 (run 0))) 16 4
    ∷ untouched (run_text (one_job 1 5 (bytes "update\t1\n"))) 17 4
    -- 11 to 14: the report of the state before the entry
    ∷ record {
      outcome = run_text (one_job 1 5 (bytes "call\t1\t0\n"));
      room = 18;
      number = 11;
      line = 4;
      entry = 1;
      handed = "block\t5\nend\t11\t4\n";
      left = "block\t5\nend\t11\t4\nx";
    }
    ∷ record {
      outcome = run_text (one_job 1 5 (update "call\t0\t0\ncall\t0\t0\n" []));
      room = 28;
      number = 12;
      line = 6;
      entry = 2;
      handed = "block\t5\nopen\t0\t1\nend\t12\t6\n";
      left = "block\t5\nopen\t0\t1\nend\t12\t6\nxx";
    }
    ∷ record {
      outcome = run_text (one_job 1 5 (bytes "step\t1\n"));
      room = 18;
      number = 13;
      line = 4;
      entry = 1;
      handed = "block\t5\nend\t13\t4\n";
      left = "block\t5\nend\t13\t4\nx";
    }
    ∷ record {
      outcome = run_text (one_job 1 5 (bytes "step\t0\n"));
      room = 18;
      number = 14;
      line = 4;
      entry = 1;
      handed = "block\t5\nend\t14\t4\n";
      left = "block\t5\nend\t14\t4\nx";
    }
    -- a refusal inside a run: its line is the run's, and the entry is told by its own number
    ∷ record {
      outcome = run_text (one_job 1 5 (update "" (call_and_run 40)));
      room = 34;
      number = 14;
      line = 6;
      entry = 24;
      handed = "commit\t18\t0\t0\nblock\t5\nend\t14\t6\n";
      left = "commit\t18\t0\t0\nblock\t5\nend\t14\t6\nxxx";
    }
    -- 15 in the place of 0 and of 11 to 14; the others stay, also with no buffer at all
    ∷ untouched (run_text (one_job 1 5 [])) 15 0
    ∷ untouched (run_text (one_job 1 5 (bytes "call\t1\t0\n"))) 15 0
    ∷ untouched (run_text (one_job 1 5 (update "call\t0\t0\ncall\t0\t0\n" []))) 15 0
    ∷ untouched (run_text (one_job 1 5 (bytes "step\t1\n"))) 15 0
    ∷ untouched (run_text (one_job 1 5 (bytes "step\t0\n"))) 15 0
    ∷ record { outcome = run_text []; room = 0; number = 3; line = 1; entry = 0; handed = ""; left = "" }
    ∷ record {
      outcome = run_text (one_job 1 5 (run 0));
      room = 0;
      number = 16;
      line = 4;
      entry = 0;
      handed = "";
      left = "";
    }
    ∷ record {
      outcome = run_text (one_job 1 5 (bytes "update\t1\n"));
      room = 0;
      number = 17;
      line = 4;
      entry = 0;
      handed = "";
      left = "";
    }
    -- records: 5 and 3 by place, an entry line in the plan's text, a refused entry by place, acceptance by their count
    ∷ untouched (run_schedule (one_job 1 5 []) (replicate 4001 (entry 2 0 0))) 5 4001
    ∷ untouched (run_schedule (one_job 1 5 []) (entry 1 0 0 ∷ entry 2 0 0 ∷ [])) 3 2
    ∷ untouched (run_schedule (one_job 1 5 (bytes "step\t0\n")) (entry 2 0 0 ∷ [])) 3 4
    ∷ untouched (run_schedule (one_job 1 5 (run 0)) (entry 2 0 0 ∷ [])) 3 4
    -- a wrong update number in the plan's text, before the records are looked at
    ∷ untouched (run_schedule (one_job 1 5 (bytes "update\t1\n")) (entry 2 0 0 ∷ [])) 17 4
    ∷ record {
      outcome = run_schedule (one_job 1 5 (update "" [])) (entry 0 0 0 ∷ entry 1 0 7 ∷ entry 1 1 7 ∷ []);
      room = 27;
      number = 13;
      line = 3;
      entry = 3;
      handed = "block\t5\nopen\t0\t1\nend\t13\t3\n";
      left = "block\t5\nopen\t0\t1\nend\t13\t3\nx";
    }
    ∷ record {
      outcome = run_schedule (one_job 1 5 (update "" [])) (entry 0 0 0 ∷ entry 1 0 7 ∷ entry 1 0 7 ∷ []);
      room = 27;
      number = 0;
      line = 3;
      entry = 0;
      handed = "block\t5\nopen\t0\t-1\nend\t0\t3\n";
      left = "block\t5\nopen\t0\t-1\nend\t0\t3\nx";
    }
    ∷ []

-- The buffer of a row.
abbrev pub lent : Row → List ℕ
lent r = replicate r.room 120

-- An end by its number, its line and its entry.
abbrev pub numbers : End → List ℕ
numbers e = end_number e ∷ end_line e ∷ end_entry e ∷ []

-- Number, line and entry of every row.
pub all-answered :
    map (λ (r : Row). numbers (end_with r.outcome (lent r))) rows
    ≡ map (λ (r : Row). r.number ∷ r.line ∷ r.entry ∷ []) rows
unfolding reading lines fields number kind_of parsed_of blocks_written decimal
    same_version stage item opening_of stored carried_out item_of
    judge acted begun entered run_of report run_text run_schedule
all-answered = refl

-- What every row hands back, and leaves in the buffer.
pub all_left :
    map (λ (r : Row). handed r.outcome (lent r) ∷ left r.outcome (lent r) ∷ []) rows
    ≡ map (λ (r : Row). bytes r.handed ∷ bytes r.left ∷ []) rows
unfolding reading lines fields number kind_of parsed_of blocks_written decimal
    same_version stage item opening_of stored carried_out item_of
    judge acted begun entered run_of report run_text run_schedule left
all_left = refl
