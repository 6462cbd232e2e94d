-- The reads and writes of a move, in order, and where a job is in the update that it runs: "A set is one write; copy
-- and add are a read, then a write." Assumes nothing.
use Rattle.std.specs.Prelude.{ℕ, ◌+◌, ◌%◌, cond, List, [], ◌∷◌, ltb, length, get_or}
use Rattle.spec_format.specs.declared.Move.{Move}
use Rattle.spec_format.specs.Plan.{Plan, block_of}
use Rattle.spec_machine.specs.declared.Stage.{Stage}
use Rattle.spec_machine.specs.declared.Place.{Place}
use Rattle.spec_machine.specs.declared.Working.{Working}
use Rattle.spec_machine.specs.Memory.{sum}
use Rattle.spec_machine.specs.Working.{goto, with_access}

-- A read or a write of a word.
pub data Access : Type 0 where
  read : ℕ → Access
  write : ℕ → Access

-- The reads and writes of a move.
abbrev pub accesses : Move → List Access
accesses (Move.Copy d a) = read a ∷ write d ∷ []
accesses (Move.Set d k) = write d ∷ []
accesses (Move.Add d a k) = read a ∷ write d ∷ []

-- What a move writes, from the word that its read took.
abbrev pub word_written : Move → ℕ → ℕ
word_written (Move.Copy d a) word = word
word_written (Move.Set d k) word = k
word_written (Move.Add d a k) word = sum word k

-- The word that is read or written.
abbrev pub word_of : Access → ℕ
word_of (read w) = w
word_of (write w) = w

-- "Reading a word, three steps: check; list ..; take the word". "Writing, four: check; list likewise; .. copy ..; write
-- the word": the stage after the list stage.
abbrev pub after_list : Access → Stage
after_list (read w) = Stage.Take
after_list (write w) = Stage.Copy

-- The first stage of an update's moves, or H22 where it has none.
abbrev pub begin : List Move → Place
begin [] = Place.H22
begin (m ∷ ms) = Place.Move Stage.Check

module _ (plan : Plan) where
  -- The moves of the update that a job runs.
  abbrev pub moves : Working → List Move
  moves w = get_or plan.updates w.tr []

  -- The move that it is at.
  abbrev pub move : Working → Move
  move w = get_or (moves w) w.index (Move.Copy 0 0)

  -- The read or write that it is at.
  abbrev pub access : Working → Access
  access w = get_or (accesses (move w)) w.access (read 0)

  -- The block of the word that is read or written.
  abbrev pub block : Working → ℕ
  block w = block_of plan.sizes.words (word_of (access w))

  -- The word's place in that block.
  abbrev pub offset : Working → ℕ
  offset w = word_of (access w) % plan.sizes.words

  -- After a read or write: to the next one of the move, else to the next move, else to H22.
  abbrev pub onward : Working → Working
  onward w =
      cond (ltb (w.access + 1) (length (accesses (move w))))
      (goto (Place.Move Stage.Check) (with_access w.index (w.access + 1) w))
      (goto (cond (ltb (w.index + 1) (length (moves w))) (Place.Move Stage.Check) Place.H22)
      (with_access (w.index + 1) 0 w))
