-- The plan: "P cards (1 to 8), N jobs (1 to 16), B blocks (1 to 16) of S words (1 to 16), and C (1 to 8), the most
-- blocks one update may write." A plan is lists of exact length, so that equal plans are equal values.
-- Sizes (P N B S C), Job, Move and Entry are declared in src/lib.rt. Assumes nothing.
use Rattle.std.specs.Prelude.{ℕ, zero, suc, ◌/◌, Bool, false, cond, ◌||◌, List, [], ◌∷◌, ◌++◌, map, eqb, get_or}
use Rattle.spec_format.specs.declared.Sizes.{Sizes}
use Rattle.spec_format.specs.declared.Job.{Job}
use Rattle.spec_format.specs.declared.Move.{Move}
use Rattle.spec_format.specs.declared.Entry.{Entry}

-- A plan. Jobs, blocks and updates are numbered from 0 as they come; words has the opening words of block after block.
pub record Plan : Type 0 where
  pub sizes : Sizes
  pub jobs : List Job
  pub words : List ℕ
  pub updates : List (List Move)

-- Job k's card and priority.
abbrev pub job_in : Plan → ℕ → Job
job_in plan k = get_or plan.jobs k (record { card = 0; priority = 0 })

-- A single entry of a schedule with the line that it stands in; its number is its place in the list, from 1. The steps
-- of a run all have the run's line.
pub record Listed : Type 0 where
  pub entry : Entry
  pub line : ℕ

-- Single entries without their lines.
abbrev pub entries_in : List Listed → List Entry
entries_in ls = map (λ (l : Listed). l.entry) ls

-- What f gives at 0, 1, .., n − 1.
abbrev pub tabulate : {A : Type 0} → ℕ → (ℕ → A) → List A
tabulate zero f = []
tabulate (suc n) f = tabulate n f ++ (f n ∷ [])

-- "Word w is in block w div S."
abbrev pub block_of : ℕ → ℕ → ℕ
block_of s w = w / s

-- The word that a move writes.
abbrev pub target : Move → ℕ
target (Move.Copy d a) = d
target (Move.Set d k) = d
target (Move.Add d a k) = d

-- The words that a move names: d, and a where it has one.
abbrev pub named : Move → List ℕ
named (Move.Copy d a) = d ∷ a ∷ []
named (Move.Set d k) = d ∷ []
named (Move.Add d a k) = d ∷ a ∷ []

-- Whether some element of a list passes a test.
abbrev pub any : {A : Type 0} → (A → Bool) → List A → Bool
any f [] = false
any f (x ∷ xs) = f x || any f xs

-- Whether a number is in a list.
abbrev pub is_in : ℕ → List ℕ → Bool
is_in n ms = any (λ m. eqb m n) ms

-- One more number, unless the list has it.
abbrev pub including : List ℕ → ℕ → List ℕ
including ns n = cond (is_in n ns) ns (ns ++ (n ∷ []))

-- The different blocks that moves write after the blocks bs, in the order of their first writing.
abbrev pub blocks_written_after : ℕ → List ℕ → List Move → List ℕ
blocks_written_after s bs [] = bs
blocks_written_after s bs (m ∷ ms) = blocks_written_after s (including bs (block_of s (target m))) ms

-- The different blocks that an update writes. Blocks only read do not count.
unfoldable pub blocks_written : ℕ → List Move → List ℕ
blocks_written s ms = blocks_written_after s [] ms
