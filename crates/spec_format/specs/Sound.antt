-- What acceptance says of a plan: the ranges of its numbers and the lengths of its lists. proofs/Sound.antt shows it of
-- every plan that is accepted. Assumes nothing.
use Rattle.std.specs.Prelude.{ℕ, ◌*◌, ◌≤◌, ◌<◌, ◌≡◌, false, [], length, get_or}
use Rattle.spec_format.specs.declared.Move.{Move}
use Rattle.spec_format.specs.Plan.{Plan, job_in, named, blocks_written}
use Rattle.spec_format.specs.Faults.{some_from}

-- What acceptance says of a plan: every number is in its range, every list has its exact length.
pub record Sound (plan : Plan) : Type 0 where
  pub some_card : 1 ≤ plan.sizes.cards
  pub cards : plan.sizes.cards ≤ 8
  pub some_job : 1 ≤ plan.sizes.jobs
  pub jobs : plan.sizes.jobs ≤ 16
  pub some_block : 1 ≤ plan.sizes.blocks
  pub blocks : plan.sizes.blocks ≤ 16
  pub some_word : 1 ≤ plan.sizes.words
  pub words : plan.sizes.words ≤ 16
  pub some_copy : 1 ≤ plan.sizes.copies
  pub copies : plan.sizes.copies ≤ 8
  -- N jobs, each on a card, no two of a card with one priority (7 and 8)
  pub all_jobs : length plan.jobs ≡ plan.sizes.jobs
  pub on_card : (k : ℕ) → k < plan.sizes.jobs → (job_in plan k).card < plan.sizes.cards
  pub low_priority : (k : ℕ) → k < plan.sizes.jobs → (job_in plan k).priority ≤ 255
  pub apart :
      (a b : ℕ) → a < plan.sizes.jobs → b < plan.sizes.jobs → (job_in plan a).card ≡ (job_in plan b).card
      → (job_in plan a).priority ≡ (job_in plan b).priority → a ≡ b
  -- B blocks of S words
  pub all_words : length plan.words ≡ plan.sizes.blocks * plan.sizes.words
  -- at most 32 updates of at most 16 moves (5), whose words are below B times S (9), each writing at most C blocks (10)
  pub few_updates : length plan.updates ≤ 32
  pub few_moves : (u : ℕ) → length (get_or plan.updates u []) ≤ 16
  pub in_memory :
      (u i : ℕ) → i < length (get_or plan.updates u [])
      → some_from (plan.sizes.blocks * plan.sizes.words) (named (get_or (get_or plan.updates u []) i (Move.Copy 0 0)))
      ≡ false
  pub few_blocks : (u : ℕ)
      → length (blocks_written plan.sizes.words (get_or plan.updates u [])) ≤ plan.sizes.copies
