-- Texts of plans and schedules with their sizes as parameters, for the computed runs. Assumes nothing.
use Prim.Native.Nat.{ℕ}
use Prim.Native.String.{String}
use mathlib.Core.List.{List, ◌++◌}
use Rattle.spec_text.specs.Bytes.{bytes}
use Rattle.spec_text.specs.Decimal.{decimal}
use Rattle.spec_format.specs.RunIsSteps.{run_line, step_lines}

-- n times `step 0`.
abbrev pub steps : ℕ → List ℕ
steps n = step_lines 0 n

-- `step 0 n`.
abbrev pub run : ℕ → List ℕ
run n = run_line 0 n

-- `call 0 0`, then n times `step 0`.
abbrev pub call_and_steps : ℕ → List ℕ
call_and_steps n = bytes "call\t0\t0\n" ++ steps n

-- `call 0 0`, then `step 0 n`.
abbrev pub call_and_run : ℕ → List ℕ
call_and_run n = bytes "call\t0\t0\n" ++ run n

-- A plan with so many cards, one job, and one block of one word; then more lines.
abbrev pub one_job : ℕ → ℕ → List ℕ → List ℕ
one_job cards word more =
    bytes "plan\t"
    ++ (decimal cards
    ++ (bytes "\t1\t1\t1\t1\njob\t0\t0\nblock\t" ++ (decimal word ++ (bytes "\n" ++ more))))

-- Update 0 with these moves; then more lines.
abbrev pub update : String → List ℕ → List ℕ
update moves more = bytes "update\t0\n" ++ (bytes moves ++ more)

-- The lines of T up to its update; then more lines.
abbrev pub up_to_update : List ℕ → List ℕ
up_to_update more = one_job 1 5 (update "add\t0\t0\t2\n" more)

-- T with n steps; T itself has 33.
abbrev pub T : ℕ → List ℕ
T n = up_to_update (call_and_steps n)

-- T with a run of n steps.
abbrev pub T-run : ℕ → List ℕ
T-run n = up_to_update (call_and_run n)

-- Two blocks of one word, one of which an update may write; then more lines.
abbrev pub two_blocks : List ℕ → List ℕ
two_blocks more = bytes "plan\t1\t1\t2\t1\t1\njob\t0\t0\nblock\t5\nblock\t6\n" ++ more

-- Two jobs of one card, of priority 0 and 1, and one block of one word; then more lines.
abbrev pub two_jobs : List ℕ → List ℕ
two_jobs more = bytes "plan\t1\t2\t1\t1\t1\njob\t0\t0\njob\t0\t1\nblock\t5\n" ++ more
