-- The theorems are about something: two plans that are accepted, so that demand 3 holds of each with every list of
-- entries, one of them with words that are counters and words that are not; a state that a schedule reaches in which
-- both cases of the memory clause are met; and one in which the bound on the calls that pass another is reached.
-- Assumes nothing.
use Prim.Native.Nat.{ℕ}
use mathlib.Core.Path.{◌≡◌, refl}
use mathlib.Core.Bool.{Bool, true, false}
use mathlib.Core.List.{List, [], ◌∷◌, ◌++◌, map}
use lib.Dec.{lit≤}
use lib.ListN.{length, replicate}
use Rattle.spec_text.specs.Bytes.{bytes}
use Rattle.spec_text.specs.Lines.{lines, fields}
use Rattle.spec_text.specs.Numbers.{number}
use Rattle.spec_format.specs.declared.Form.{Form}
use Rattle.spec_format.specs.declared.Entry.{Entry}
use Rattle.spec_format.specs.declared.Move.{Move}
use Rattle.spec_format.specs.Plan.{Plan, blocks_written}
use Rattle.spec_format.specs.Kinds.{kind_of}
use Rattle.spec_format.specs.ParsedLines.{parsed_of}
use Rattle.spec_format.specs.Reading.{reading, accepted}
use Rattle.spec_machine.specs.Memory.{after_update, memory, moves_of}
use Rattle.spec_machine.specs.Steps.{same_version, stage, item}
use Rattle.spec_machine.specs.Machine.{opening_of, stored, carried_out, item_of, seen}
use Rattle.spec_machine.specs.Entries.{judge, acted}
use Rattle.spec_machine.specs.History.{Run, begun, entered, run_of}
use Rattle.spec_machine.specs.Demand3.{is_decided_uncommitted, is_stored, passing, memory_after, Demand3}
use Rattle.spec_machine.specs.Counters.{is_counter, CounterSeen}
use Rattle.spec_machine.proofs.Demand3.{demand3}
use Rattle.spec_machine.proofs.Counters.{counter-seen}

-- The plan of document 01's run T.
abbrev pub plan_t : Plan
plan_t =
    record {
      sizes = record { cards = 1; jobs = 1; blocks = 1; words = 1; copies = 1 };
      jobs = record { card = 0; priority = 0 } ∷ [];
      words = 5 ∷ [];
      updates = (Move.Add 0 0 2 ∷ []) ∷ [];
    }

-- It is accepted.
pub accepted-T :
    reading Form.PlanAlone (bytes "plan\t1\t1\t1\t1\t1\njob\t0\t0\nblock\t5\nupdate\t0\nadd\t0\t0\t2\n")
    ≡ accepted plan_t [] 5
unfolding reading lines fields number kind_of parsed_of blocks_written
accepted-T = refl

-- So demand 3 holds of it, whatever the entries.
pub demand3-T : (es : List Entry) → Demand3 plan_t es
demand3-T = demand3 Form.PlanAlone _ plan_t [] 5 accepted-T

-- A plan with three cards, one of which has two jobs, and two blocks of two words.
abbrev pub three_cards : Plan
three_cards =
    record {
      sizes = record { cards = 3; jobs = 4; blocks = 2; words = 2; copies = 2 };
      jobs =
          record { card = 0; priority = 1 }
          ∷ record { card = 1; priority = 1 }
          ∷ record { card = 2; priority = 0 }
          ∷ record { card = 2; priority = 255 }
          ∷ [];
      words = 5 ∷ 6 ∷ 7 ∷ 8 ∷ [];
      updates = (Move.Copy 0 3 ∷ Move.Set 2 9 ∷ []) ∷ (Move.Add 1 1 4 ∷ []) ∷ [];
    }

-- It is accepted.
pub accepted-three :
    reading Form.PlanAlone
    (bytes "plan\t3\t4\t2\t2\t2\njob\t0\t1\njob\t1\t1\njob\t2\t0\njob\t2\t255\nblock\t5\t6\nblock\t7\t8\n"
    ++ bytes "update\t0\ncopy\t0\t3\nset\t2\t9\nupdate\t1\nadd\t1\t1\t4\n")
    ≡ accepted three_cards [] 12
unfolding reading lines fields number kind_of parsed_of blocks_written
accepted-three = refl

-- So demand 3 holds of it, whatever the entries.
pub demand3-three : (es : List Entry) → Demand3 three_cards es
demand3-three = demand3 Form.PlanAlone _ three_cards [] 12 accepted-three

-- Of its four words two are counters: word 1, which is only added to, and word 3, which nothing writes.
pub counters-three : map (is_counter three_cards.updates) (0 ∷ 1 ∷ 2 ∷ 3 ∷ []) ≡ false ∷ true ∷ false ∷ true ∷ []
counters-three = refl

-- So it is known what word 1 shows, whatever the entries.
pub counter-three : (es : List Entry) → CounterSeen three_cards es (run_of three_cards es) 1
counter-three es = counter-seen Form.PlanAlone _ three_cards [] 12 accepted-three es 1 (lit≤ tt) refl

-- `call job update`.
abbrev call : ℕ → ℕ → Entry
call job update = record { kind = 0; first = job; second = update }

-- `step card`.
abbrev step : ℕ → Entry
step card = record { kind = 1; first = card; second = 0 }

-- What demand 3 speaks of in a state: whether the update of call 1 is decided and uncommitted, whether blocks 0 and 1
-- are stored since, how they are seen through the bank, and the one-after-another memory without and with the update.
pub record Shown : Type 0 where
  pub is_decided : Bool
  pub is_stored₀ : Bool
  pub is_stored₁ : Bool
  pub seen₀ : List ℕ
  pub seen₁ : List ℕ
  pub memory : List ℕ
  pub with-update : List ℕ

-- A call of job 0 with update 0, then n steps of its card.
abbrev entries : ℕ → List Entry
entries n = call 0 0 ∷ replicate n (step 0)

-- What is shown after them.
abbrev shown : ℕ → Run → Shown
shown n r =
    record {
      is_decided = is_decided_uncommitted r.history 1;
      is_stored₀ = is_stored r.history 1 0;
      is_stored₁ = is_stored r.history 1 1;
      seen₀ = seen three_cards r.machine 0;
      seen₁ = seen three_cards r.machine 1;
      memory = memory_after three_cards (entries n) r.history;
      with-update =
          after_update (memory_after three_cards (entries n) r.history) (moves_of three_cards.updates (entries n) 1);
    }

-- After 37 steps the update is decided and has written both blocks: H41 has stored block 1, which is seen with the
-- update run, and not block 0, which is seen as it was.
pub half-way :
    shown 37 (run_of three_cards (entries 37))
    ≡ record {
      is_decided = true;
      is_stored₀ = false;
      is_stored₁ = true;
      seen₀ = 5 ∷ 6 ∷ [];
      seen₁ = 9 ∷ 8 ∷ [];
      memory = 5 ∷ 6 ∷ 7 ∷ 8 ∷ [];
      with-update = 8 ∷ 6 ∷ 9 ∷ 8 ∷ [];
    }
unfolding run_of begun entered judge acted opening_of carried_out item_of stored item stage same_version
    memory after_update
half-way = refl

-- Job 0 is called and announced; then job 1, of another card, is called and runs on to its commit.
abbrev overtaking : List Entry
overtaking = call 0 1 ∷ replicate 4 (step 0) ++ (call 1 1 ∷ replicate 28 (step 1))

-- The bound on those that pass a call is reached: card 1 has passed the pending call 1 once.
pub passed-once : length (passing three_cards overtaking (run_of three_cards overtaking).history 1 1) ≡ 1
unfolding run_of begun entered judge acted opening_of carried_out item_of stored item stage same_version
passed-once = refl
