-- The stock rule: every block number below B + NC stands exactly once, in the bank or in a copy list. It holds wherever
-- no call's update is decided and uncommitted (proofs/StockRule.antt); from a deciding until its commit the bank can
-- still name replaced numbers, which the deciding job's copy list has already. Assumes nothing.
use Rattle.std.specs.Prelude.{ℕ, ◌+◌, ◌<◌, ◌≡◌, ◌≢◌, ◌⊎◌, get_or}
use Rattle.spec_format.specs.Plan.{Plan}
use Rattle.spec_machine.specs.Machine.{Machine, work_of, copy_blocks}

-- How many block numbers there are: B + NC.
abbrev pub block_numbers : Plan → ℕ
block_numbers plan = copy_blocks plan + plan.sizes.blocks

-- Bank[k], the block number that the bank has for block k. Where there is no such place, no block number stands there.
abbrev pub bank_number : Plan → Machine → ℕ → ℕ
bank_number plan m k = get_or m.cells.bank k (block_numbers plan)

-- The block number at place i of job q's copy list, likewise.
abbrev pub copy_number : Plan → Machine → ℕ → ℕ → ℕ
copy_number plan m q i = get_or (work_of m q).copy i (block_numbers plan)

-- The stock rule of a plan and a machine.
pub record StockRule (plan : Plan) (m : Machine) : Type 0 where
  -- no number stands twice in the bank,
  pub bank_bank :
      (k l : ℕ) → k < plan.sizes.blocks → l < plan.sizes.blocks → bank_number plan m k ≡ bank_number plan m l
      → k ≡ l
  -- none in the bank and in a copy list,
  pub bank_copy :
      (k q i : ℕ) → k < plan.sizes.blocks → q < plan.sizes.jobs → i < plan.sizes.copies
      → bank_number plan m k ≢ copy_number plan m q i
  -- and none twice in the copy lists;
  pub copy_copy :
      (q r i j : ℕ) → q < plan.sizes.jobs → r < plan.sizes.jobs → i < plan.sizes.copies
      → j < plan.sizes.copies → copy_number plan m q i ≡ copy_number plan m r j → (q ≡ r) × (i ≡ j)
  -- all of them are below B + NC, and so each place is there,
  pub bank_in : (k : ℕ) → k < plan.sizes.blocks → bank_number plan m k < block_numbers plan
  pub copy_in :
      (q i : ℕ) → q < plan.sizes.jobs → i < plan.sizes.copies → copy_number plan m q i < block_numbers plan
  -- and every number below B + NC stands in the bank or in a copy list.
  pub none_missing :
      (y : ℕ) → y < block_numbers plan
      → ((k : ℕ) × (k < plan.sizes.blocks) × (bank_number plan m k ≡ y))
      ⊎ ((q : ℕ) × (i : ℕ) × (q < plan.sizes.jobs) × (i < plan.sizes.copies) × (copy_number plan m q i ≡ y))
