-- Event counters: words that the updates only add to. "The panel standard .. now has event counters stand at the top
-- instead of starting again": what such a word shows in every state (proofs/Counters.antt). Assumes nothing.
use Rattle.std.specs.Prelude.{ℕ, zero, suc, ◌+◌, ◌%◌, min, ◌≡◌, Bool, true, false, cond, not, ◌&&◌, List, [], ◌∷◌, map}
use Rattle.std.specs.Prelude.{eqb, length, get_or}
use Rattle.spec_text.specs.Numbers.{largest}
use Rattle.spec_format.specs.declared.Entry.{Entry}
use Rattle.spec_format.specs.declared.Move.{Move}
use Rattle.spec_format.specs.Plan.{Plan, any, block_of}
use Rattle.spec_machine.specs.Memory.{Commit, moves_of, committed_by}
use Rattle.spec_machine.specs.Machine.{Machine, seen}
use Rattle.spec_machine.specs.History.{commits_in, Run}
use Rattle.spec_machine.specs.Demand3.{is_decided_uncommitted, is_stored}

-- A move that writes word d, and not by adding to it.
abbrev pub replaces : ℕ → Move → Bool
replaces d (Move.Copy e a) = eqb e d
replaces d (Move.Set e k) = eqb e d
replaces d (Move.Add e a k) = eqb e d && not (eqb a d)

-- Word d is a counter of the updates: none of their moves replaces it.
abbrev pub is_counter : List (List Move) → ℕ → Bool
is_counter updates d = not (any (any (replaces d)) updates)

-- What a move adds to a counter d.
abbrev pub added_by : ℕ → Move → ℕ
added_by d (Move.Copy e a) = 0
added_by d (Move.Set e k) = 0
added_by d (Move.Add e a k) = cond (eqb e d) k 0

-- The total of some numbers.
abbrev pub total : List ℕ → ℕ
total [] = 0
total (n ∷ ns) = n + total ns

-- What the moves of an update add to a counter d.
abbrev pub added_in : ℕ → List Move → ℕ
added_in d moves = total (map (added_by d) moves)

-- What the calls that the first n entries commit add to a counter d: the exact number.
abbrev pub added_after : ℕ → List (List Move) → List Entry → List Commit → ℕ → ℕ
added_after d updates entries commits zero = 0
added_after d updates entries commits (suc n) =
    added_after d updates entries commits n
    + total (map (λ call. added_in d (moves_of updates entries call)) (committed_by commits (suc n)))

-- The opening word of a counter d and what the calls committed so far have added to it.
abbrev pub counted : Plan → List Entry → Run → ℕ → ℕ
counted plan es r d = get_or plan.words d 0 + added_after d plan.updates es (commits_in r.history) (length es)

-- "Word w seen through the bank is word w mod S of block number Bank[w div S]."
abbrev pub word_seen : Plan → Machine → ℕ → ℕ
word_seen plan m w = get_or (seen plan m (block_of plan.sizes.words w)) (w % plan.sizes.words) 0

-- What a counter d shows after some entries and the run that they gave: all that was counted, or the largest word
-- where that is more.
pub record CounterSeen (plan : Plan) (es : List Entry) (r : Run) (d : ℕ) : Type 0 where
  -- Where no update is decided and uncommitted, what is counted is the opening word and what the committed calls have
  -- added;
  pub settled :
      ((c : ℕ) → is_decided_uncommitted r.history c ≡ false) →
      word_seen plan r.machine d ≡ min (counted plan es r d) largest
  -- so it is where one is and H41 has not stored the counter's block since the deciding;
  pub kept :
      (c : ℕ) →
      is_decided_uncommitted r.history c ≡ true →
      is_stored r.history c (block_of plan.sizes.words d) ≡ false →
      word_seen plan r.machine d ≡ min (counted plan es r d) largest
  -- and where it has, what the decided call adds is counted too.
  pub stored :
      (c : ℕ) →
      is_decided_uncommitted r.history c ≡ true →
      is_stored r.history c (block_of plan.sizes.words d) ≡ true →
      word_seen plan r.machine d
      ≡ min (counted plan es r d + added_in d (moves_of plan.updates es c)) largest
