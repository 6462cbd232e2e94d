-- The small steps of an update's moves as a list, an update run whole on a memory by blocks, and a run in progress as
-- functions. What a job inside a move still has to do is read off its place and its record. Assumes nothing.
use Prim.Native.Nat.{ℕ, ◌+◌, ◌/◌, ◌%◌}
use mathlib.Core.Bool.{Bool, not}
use mathlib.Core.List.{List, [], ◌∷◌, ◌++◌}
use lib.Dec.{eqb}
use lib.ListN.{get_or, drop}
use Rattle.spec_format.specs.declared.Move.{Move}
use Rattle.spec_format.specs.Plan.{Plan, job_in, tabulate}
use Rattle.spec_machine.specs.declared.Stage.{Stage}
use Rattle.spec_machine.specs.declared.Working.{Working}
use Rattle.spec_machine.specs.Moves.{Access, read, write, accesses, word_written, moves, move, access}
use Rattle.spec_machine.proofs.ChangedAt.{upd}

-- Words by block and place in the block: the memory, or the store by block numbers.
abbrev pub Blocks : Type 0
Blocks = ℕ → ℕ → ℕ

-- One word of a block changed.
unfoldable pub put : Blocks → ℕ → ℕ → ℕ → Blocks
put m b i x = upd m b (upd (m b) i x)

-- A small step: the check, listing a block, copying it on its first write, taking a word, writing what a move writes.
pub data Op : Type 0 where
  check : Op
  list copy : ℕ → Op
  take : ℕ → ℕ → Op
  put_word : ℕ → ℕ → Move → Op

-- Small steps done whole on a memory by blocks, t the word last taken.
unfoldable pub exec : List Op → Blocks → ℕ → Blocks
exec [] m t = m
exec (check ∷ r) m t = exec r m t
exec (list k ∷ r) m t = exec r m t
exec (copy k ∷ r) m t = exec r m t
exec (take k i ∷ r) m t = exec r m (m k i)
exec (put_word k i x ∷ r) m t = exec r (put m k i (word_written x t)) t

-- The small steps of a read or a write of a move, from a stage on, where blocks have s words. A read is at no time in
-- the stages of a write, nor the other way round.
abbrev pub of_stage : ℕ → Move → Stage → Access → List Op
of_stage s m Stage.Check (read a) = check ∷ list (a / s) ∷ take (a / s) (a % s) ∷ []
of_stage s m Stage.List (read a) = list (a / s) ∷ take (a / s) (a % s) ∷ []
of_stage s m Stage.Take (read a) = take (a / s) (a % s) ∷ []
of_stage s m Stage.Copy (read a) = []
of_stage s m Stage.Write (read a) = []
of_stage s m Stage.Check (write d) = check ∷ list (d / s) ∷ copy (d / s) ∷ put_word (d / s) (d % s) m ∷ []
of_stage s m Stage.List (write d) = list (d / s) ∷ copy (d / s) ∷ put_word (d / s) (d % s) m ∷ []
of_stage s m Stage.Copy (write d) = copy (d / s) ∷ put_word (d / s) (d % s) m ∷ []
of_stage s m Stage.Write (write d) = put_word (d / s) (d % s) m ∷ []
of_stage s m Stage.Take (write d) = []

-- The small steps of some reads and writes of a move.
unfoldable pub of_accesses : ℕ → Move → List Access → List Op
of_accesses s m [] = []
of_accesses s m (a ∷ more) = of_stage s m Stage.Check a ++ of_accesses s m more

-- The small steps of moves.
unfoldable pub of_moves : ℕ → List Move → List Op
of_moves s [] = []
of_moves s (m ∷ ms) = of_accesses s m (accesses m) ++ of_moves s ms

-- What a job that is inside a move at this stage still has to do.
unfoldable pub ahead : Plan → Stage → Working → List Op
ahead plan st w =
    of_stage plan.sizes.words (move plan w) st (access plan w)
    ++ (of_accesses plan.sizes.words (move plan w) (drop (w.access + 1) (accesses (move plan w)))
    ++ of_moves plan.sizes.words (drop (w.index + 1) (moves plan w)))

-- A run in progress: what is still to do, the word last taken, which blocks are listed and which are written, their
-- numbers in this run, the listed blocks in listing order, and how many copy blocks are used.
pub record Attempt : Type 0 where
  pub todo : List Op
  pub word : ℕ
  pub listed : ℕ → Bool
  pub wrote : ℕ → Bool
  pub curr : ℕ → ℕ
  pub order : List ℕ
  pub used : ℕ

-- The run of a job, read off its record, the addresses of its row, and what it still has to do.
abbrev pub attempt : List Op → (ℕ → ℕ) → Working → Attempt
attempt os addr w =
    record {
      todo = os;
      word = w.word;
      listed = λ b. not (eqb (get_or w.dirty b 0) 0);
      wrote = λ b. eqb (get_or w.dirty b 0) 2;
      curr = λ b. get_or w.curr b 0;
      order = tabulate w.numblks addr;
      used = w.dirtycnt;
    }

-- A job's copy list by place.
abbrev pub copy_of : Working → ℕ → ℕ
copy_of w i = get_or w.copy i 0

-- The plan as the invariant reads it: cards, jobs, each job's card and priority, blocks, copies, and the small steps
-- of each update.
pub record Layout : Type 0 where
  pub cards : ℕ
  pub jobs : ℕ
  pub card : ℕ → ℕ
  pub prio : ℕ → ℕ
  pub blocks : ℕ
  pub copies : ℕ
  pub ops : ℕ → List Op

-- The layout of a plan.
abbrev pub layout : Plan → Layout
layout plan =
    record {
      cards = plan.sizes.cards;
      jobs = plan.sizes.jobs;
      card = λ k. (job_in plan k).card;
      prio = λ k. (job_in plan k).priority;
      blocks = plan.sizes.blocks;
      copies = plan.sizes.copies;
      ops = λ u. of_moves plan.sizes.words (get_or plan.updates u []);
    }
