-- What run-is-steps asks for is met by a real text: T of document 01 with its 33 steps as one line `step 0 33` is
-- accepted, by computation, and the theorem then gives the acceptance of T itself, whose 33 lines `step 0` are lines 7
-- to 39. Assumes nothing.
use Prim.Native.Nat.{ℕ, ◌+◌}
use native.Mathlib.Omega.{arith}
use mathlib.Core.Path.{◌≡◌, refl}
use mathlib.Core.List.{List, [], ◌∷◌, ◌++◌, map}
use lib.ListN.{replicate}
use Rattle.spec_text.specs.Bytes.{bytes}
use Rattle.spec_text.specs.Decimal.{decimal}
use Rattle.spec_text.specs.Lines.{lines, fields}
use Rattle.spec_text.specs.Numbers.{number}
use Rattle.spec_format.specs.declared.Form.{Form}
use Rattle.spec_format.specs.declared.Move.{Move}
use Rattle.spec_format.specs.Plan.{Plan, Listed, blocks_written}
use Rattle.spec_format.specs.Kinds.{kind_of}
use Rattle.spec_format.specs.ParsedLines.{parsed_of}
use Rattle.spec_format.specs.Reading.{accepted, reading}
use Rattle.spec_format.specs.RunIsSteps.{run_line, step_lines, joined_line, in_joined}
use Rattle.spec_format.proofs.RunIsSteps.{run-is-steps}

-- T up to its call.
abbrev up_to_call : List ℕ
up_to_call = bytes "plan\t1\t1\t1\t1\t1\njob\t0\t0\nblock\t5\nupdate\t0\nadd\t0\t0\t2\ncall\t0\t0\n"

-- The plan of T.
abbrev plan_of_t : Plan
plan_of_t =
    record {
      sizes = record { cards = 1; jobs = 1; blocks = 1; words = 1; copies = 1 };
      jobs = record { card = 0; priority = 0 } ∷ [];
      words = 5 ∷ [];
      updates = (Move.Add 0 0 2 ∷ []) ∷ [];
    }

-- Its entries, where the steps are a run in line 7.
abbrev entries_of_t : List Listed
entries_of_t =
    record { entry = record { kind = 0; first = 0; second = 0 }; line = 6 }
    ∷ replicate 33 (record { entry = record { kind = 1; first = 0; second = 0 }; line = 7 })

-- The run is written as document 01 writes it.
pub run-written : run_line 0 33 ≡ bytes "step\t0\t33\n"
unfolding decimal
run-written = refl

-- So are steps, of which two show how more are.
pub steps-written : step_lines 0 2 ≡ bytes "step\t0\nstep\t0\n"
unfolding decimal
steps-written = refl

-- T with a run is accepted.
pub run-accepted : reading Form.Schedule (up_to_call ++ (run_line 0 33 ++ [])) ≡ accepted plan_of_t entries_of_t 7
unfolding reading lines fields number kind_of parsed_of blocks_written decimal
run-accepted = refl

-- So T with its steps is, with the same plan and the same entries.
pub steps-accepted :
    (fs : List Listed) × (m : ℕ)
    × (reading Form.Schedule (up_to_call ++ (step_lines 0 33 ++ [])) ≡ accepted plan_of_t fs m)
    × (entries_of_t ≡ map (in_joined 7 33) fs)
    × (7 ≡ joined_line 7 33 m)
    × (7 + 33 ≡ m + 1)
unfolding lines decimal
steps-accepted =
    (run-is-steps Form.Schedule up_to_call [] 0 33 refl (omega arith) (omega arith)).there
    plan_of_t entries_of_t 7 run-accepted (omega arith)
