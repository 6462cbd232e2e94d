-- Demand 3 as a statement. Every clause speaks of the history, of the one-after-another memory, and of the words seen
-- through the bank. Assumes nothing.
use Rattle.std.specs.Prelude.{ℕ, ◌≤◌, ◌<◌, ◌≡◌, ◌≢◌, Bool, true, false, not, ◌&&◌, List, eqb, length, take}
use Rattle.spec_format.specs.declared.Entry.{Entry}
use Rattle.spec_format.specs.Plan.{Plan, any, job_in}
use Rattle.spec_machine.specs.Selected.{select, before_first, after_first}
use Rattle.spec_machine.specs.Memory.{job_of, moves_of, after_update, memory}
use Rattle.spec_machine.specs.Machine.{block_in, seen}
use Rattle.spec_machine.specs.History.{
  Event,
  announces,
  decides,
  stores,
  commits,
  is_commit,
  returns,
  commits_in,
  Run,
  run_of,
}

-- "A call's update is decided and uncommitted from that H25 until the H42 that commits the call."
abbrev pub is_decided_uncommitted : List Event → ℕ → Bool
is_decided_uncommitted h c = any (decides c) h && not (any (commits c) h)

-- H41 has stored block b since the deciding of call c.
abbrev pub is_stored : List Event → ℕ → ℕ → Bool
is_stored h c b = any (stores b) (after_first (decides c) h)

-- "its card is the job's": the card of a call.
abbrev pub card_of : Plan → List Entry → ℕ → ℕ
card_of plan es c = (job_in plan (job_of es c)).card

-- The commits of calls of card r "between a call's announcement and its commit": "those at entries after the one and
-- before the other; without a commit yet, up to the entry reached."
abbrev pub passing : Plan → List Entry → List Event → ℕ → ℕ → List Event
passing plan es h c r =
    select (λ (e : Event). is_commit e && eqb (card_of plan es e.helped) r)
    (before_first (commits c) (after_first (announces c) h))

-- The one-after-another memory after the entries.
abbrev pub memory_after : Plan → List Entry → List Event → List ℕ
memory_after plan es h = memory plan.words plan.updates es (commits_in h) (length es)

-- What demand 3 says of a plan, some entries, and the run that they gave.
pub record Holds (plan : Plan) (es : List Entry) (r : Run) : Type 0 where
  -- "each call has committed at most once,"
  pub once : (c : ℕ) → length (select (commits c) r.history) ≤ 1
  -- "never before its announcement,"
  pub announced : (c : ℕ) → any (commits c) (before_first (announces c) r.history) ≡ false
  -- "and exactly once if it has returned;"
  pub returned : (c : ℕ) → any (returns c) r.history ≡ true → length (select (commits c) r.history) ≡ 1
  -- "at most one call's update is decided and uncommitted;"
  pub single :
      (c d : ℕ) →
      is_decided_uncommitted r.history c ≡ true →
      is_decided_uncommitted r.history d ≡ true →
      c ≡ d
  -- "each block seen through the bank equals its content in document 01's one-after-another memory after the commits so
  -- far," where no update is decided and uncommitted,
  pub settled :
      ((c : ℕ) → is_decided_uncommitted r.history c ≡ false) →
      (b : ℕ) →
      b < plan.sizes.blocks →
      seen plan r.machine b ≡ block_in plan.sizes.words (memory_after plan es r.history) b
  -- and where one is and H41 has not stored that block since the deciding;
  pub kept :
      (c b : ℕ) →
      is_decided_uncommitted r.history c ≡ true →
      b < plan.sizes.blocks →
      is_stored r.history c b ≡ false →
      seen plan r.machine b ≡ block_in plan.sizes.words (memory_after plan es r.history) b
  -- "with the decided update run too exactly when H41 has stored that block since the deciding;"
  pub stored :
      (c b : ℕ) →
      is_decided_uncommitted r.history c ≡ true →
      b < plan.sizes.blocks →
      is_stored r.history c b ≡ true →
      seen plan r.machine b
      ≡ block_in plan.sizes.words
      (after_update (memory_after plan es r.history) (moves_of plan.updates es c))
      b
  -- "and between a call's announcement and its commit, or so far where it has none, at most one call of each other card
  -- has committed."
  pub passed : (c card : ℕ) → card ≢ card_of plan es c → length (passing plan es r.history c card) ≤ 1

-- Demand 3 of a plan and a whole list of entries: at the start, after each entry up to the first refused one, and after
-- that one. The run stops there, so the entries behind it say nothing more.
pub record Demand3 (plan : Plan) (es : List Entry) : Type 0 where
  pub always : (n : ℕ) → Holds plan (take n es) (run_of plan (take n es))
