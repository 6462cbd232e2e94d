-- The runs that document 01 lists, as document 02 has them, those of them with joined steps, and a few that pin what
-- these do not show, as rows of one table, and the theorem that each text gives what its row says, by computation on
-- the definitions. Assumes nothing.
use Prim.Native.Nat.{ℕ}
use Prim.Native.String.{String}
use mathlib.Core.Path.{◌≡◌, refl}
use mathlib.Core.List.{List, [], ◌∷◌, ◌++◌, map}
use Rattle.spec_text.specs.Bytes.{bytes}
use Rattle.spec_text.specs.Decimal.{decimal}
use Rattle.spec_text.specs.Lines.{lines, fields}
use Rattle.spec_text.specs.Numbers.{number}
use Rattle.spec_format.specs.Plan.{blocks_written}
use Rattle.spec_format.specs.Kinds.{kind_of}
use Rattle.spec_format.specs.ParsedLines.{parsed_of}
use Rattle.spec_format.specs.Reading.{reading}
use Rattle.spec_format.specs.UpdateNumbers.{update_lines}
use Rattle.spec_machine.specs.Steps.{same_version, stage, item}
use Rattle.spec_machine.specs.Machine.{opening_of, stored, carried_out, item_of}
use Rattle.spec_machine.specs.Entries.{judge, acted}
use Rattle.spec_machine.specs.History.{begun, entered, run_of}
use Rattle.spec_report.specs.Report.{report}
use Rattle.spec_report.specs.Outcomes.{run_text, printed}
use Rattle.spec_report.proofs.Texts.{steps, run, call_and_steps, call_and_run, one_job, update}
use Rattle.spec_report.proofs.Texts.{up_to_update, T, T-run, two_blocks, two_jobs}

-- A text, and what it must print: its report, or the last line alone.
pub record Row : Type 0 where
  pub text : List ℕ
  pub printed : String

-- The rows.
abbrev pub rows : List Row
rows =
    -- "T is ..", "Its whole report"
    record { text = T 33; printed = "commit\t29\t0\t0\nblock\t7\nend\t0\t39\n" }
    -- "T with 27 steps"
    ∷ record { text = T 27; printed = "block\t7\nopen\t0\t0\nend\t0\t33\n" }
    -- "With 26"
    ∷ record { text = T 26; printed = "block\t5\nopen\t0\t0\nend\t0\t32\n" }
    -- "With 34: T's report, ending `end 14 40`."
    ∷ record { text = T 34; printed = "commit\t29\t0\t0\nblock\t7\nend\t14\t40\n" }
    -- "T without its move returns after 22 steps, commit at entry 18": one more step finds no job active
    ∷ record {
      text = one_job 1 5 (update "" (call_and_steps 22));
      printed = "commit\t18\t0\t0\nblock\t5\nend\t0\t27\n";
    }
    ∷ record {
      text = one_job 1 5 (update "" (call_and_steps 23));
      printed = "commit\t18\t0\t0\nblock\t5\nend\t14\t28\n";
    }
    -- "With `set 0 9`: 30 steps, commit at 26."
    ∷ record {
      text = one_job 1 5 (update "set\t0\t9\n" (call_and_steps 30));
      printed = "commit\t26\t0\t0\nblock\t9\nend\t0\t36\n";
    }
    ∷ record {
      text = one_job 1 5 (update "set\t0\t9\n" (call_and_steps 31));
      printed = "commit\t26\t0\t0\nblock\t9\nend\t14\t37\n";
    }
    -- "Empty text: 3, line 1."
    ∷ record { text = []; printed = "end\t3\t1\n" }
    -- "P = 9: 6, line 1; P = 8 passes."
    ∷ record { text = one_job 9 5 (update "add\t0\t0\t2\n" (call_and_steps 33)); printed = "end\t6\t1\n" }
    ∷ record {
      text = one_job 8 5 (update "add\t0\t0\t2\n" (call_and_steps 33));
      printed = "block\t5\nopen\t0\t-1\nend\t0\t39\n";
    }
    -- "T, call at once repeated: 12, line 7."
    ∷ record {
      text = up_to_update (bytes "call\t0\t0\n" ++ call_and_steps 33);
      printed = "block\t5\nopen\t0\t1\nend\t12\t7\n";
    }
    -- "Step before call: 14, line 6."
    ∷ record {
      text = up_to_update (steps 1 ++ call_and_steps 33);
      printed = "block\t5\nend\t14\t6\n";
    }
    -- "B = 2, S = 1, C = 1, sets of words 0 and 1: 10 at the second; word 0 twice passes."
    ∷ record { text = two_blocks (update "set\t0\t1\nset\t1\t1\n" []); printed = "end\t10\t7\n" }
    ∷ record { text = two_blocks (update "set\t0\t1\nset\t0\t2\n" []); printed = "block\t5\nblock\t6\nend\t0\t7\n" }
    -- "Document 01's run with 1 added to the largest word now gives 4,294,967,295."
    ∷ record {
      text = one_job 1 4294967295 (update "add\t0\t0\t1\n" (call_and_steps 33));
      printed = "commit\t29\t0\t0\nblock\t4294967295\nend\t0\t39\n";
    }
    -- "Job 0 commits at entry 21, job 1 at 38; all returned after entry 46."
    ∷ record {
      text = two_jobs (update "" (call_and_steps 4 ++ (bytes "call\t1\t0\n" ++ steps 40)));
      printed = "commit\t21\t0\t0\ncommit\t38\t1\t0\nblock\t5\nend\t0\t51\n";
    }
    -- the same with joined steps: T, with 27, with 26 and with 34, where "the refusal's line is the line of the run"
    ∷ record { text = T-run 33; printed = "commit\t29\t0\t0\nblock\t7\nend\t0\t7\n" }
    ∷ record { text = T-run 27; printed = "block\t7\nopen\t0\t0\nend\t0\t7\n" }
    ∷ record { text = T-run 26; printed = "block\t5\nopen\t0\t0\nend\t0\t7\n" }
    ∷ record { text = T-run 34; printed = "commit\t29\t0\t0\nblock\t7\nend\t14\t7\n" }
    ∷ record {
      text = two_jobs (update "" (call_and_run 4 ++ (bytes "call\t1\t0\n" ++ run 40)));
      printed = "commit\t21\t0\t0\ncommit\t38\t1\t0\nblock\t5\nend\t0\t9\n";
    }
    -- a run of one, and one parted by a step
    ∷ record {
      text = up_to_update (call_and_run 1 ++ (steps 1 ++ run 31));
      printed = "commit\t29\t0\t0\nblock\t7\nend\t0\t9\n";
    }
    -- "16 when n is outside its range": a run of none, also behind a full schedule
    ∷ record { text = T-run 0; printed = "end\t16\t7\n" }
    ∷ record { text = up_to_update (call_and_run 3999 ++ run 0); printed = "end\t16\t8\n" }
    -- "judged after 4 and before 5": of a bad number, and of a run that is too long and passes 4,000 entries
    ∷ record { text = up_to_update (bytes "step\t0\t00\n"); printed = "end\t4\t6\n" }
    ∷ record { text = T-run 4001; printed = "end\t16\t7\n" }
    -- "The n steps count as n entries for the 4,000": a run that passes it, and nothing runs
    ∷ record { text = T-run 4000; printed = "end\t5\t7\n" }
    -- "The line becomes `update n`": a second update, which the call names
    ∷ record {
      text = up_to_update (bytes "update\t1\nset\t0\t9\ncall\t0\t1\n" ++ run 30);
      printed = "commit\t26\t0\t1\nblock\t9\nend\t0\t9\n";
    }
    -- "A bare `update` is a wrong count of fields."
    ∷ record { text = one_job 1 5 (bytes "update\nadd\t0\t0\t2\n" ++ call_and_steps 33); printed = "end\t4\t4\n" }
    -- "17 when n is not the next number from 0": numbers from 1, one left out, one that was there
    ∷ record { text = one_job 1 5 (bytes "update\t1\n"); printed = "end\t17\t4\n" }
    ∷ record { text = up_to_update (bytes "update\t2\n"); printed = "end\t17\t6\n" }
    ∷ record { text = up_to_update (bytes "update\t0\n"); printed = "end\t17\t6\n" }
    -- "judged after 5": a 33rd update with a wrong number
    ∷ record { text = one_job 1 5 (update_lines 32 ++ bytes "update\t0\n"); printed = "end\t5\t36\n" }
    -- and what no listed run shows: "add (word d becomes word a plus k ..)" where d is not a;
    ∷ record {
      text = two_blocks (update "add\t1\t0\t2\n" (call_and_steps 37));
      printed = "commit\t33\t0\t0\nblock\t5\nblock\t7\nend\t0\t44\n";
    }
    -- "event counters stand at the top": one that stops at its second call, and stands at its third;
    ∷ record {
      text = one_job 1 4294967290
          (update "add\t0\t0\t4\n" (call_and_steps 33 ++ (call_and_steps 33 ++ call_and_steps 33)));
      printed = "commit\t29\t0\t0\ncommit\t63\t0\t0\ncommit\t97\t0\t0\nblock\t4294967295\nend\t0\t107\n";
    }
    -- "`open job status` for each active job, by job number", of job 1 alone and of both
    ∷ record {
      text = two_jobs (update "" (bytes "call\t1\t0\n" ++ steps 2));
      printed = "block\t5\nopen\t1\t-1\nend\t0\t8\n";
    }
    ∷ record {
      text = two_jobs (update "" (call_and_steps 2 ++ bytes "call\t1\t0\n"));
      printed = "block\t5\nopen\t0\t-1\nopen\t1\t2\nend\t0\t9\n";
    }
    ∷ []

-- Every text prints what its row says.
pub all-run :
    map (λ (r : Row). printed (run_text r.text)) rows ≡ map (λ (r : Row). bytes r.printed) rows
unfolding reading lines fields number kind_of parsed_of blocks_written decimal
    same_version stage item opening_of stored carried_out item_of
    judge acted begun entered run_of report run_text printed
all-run = refl
