-- The one-after-another memory: "It has no bank, copies or statuses." It is fed the opening words, the updates, the
-- entries, and the list that says which entry commits which call. Assumes nothing.
use Rattle.std.specs.Prelude.{ℕ, zero, suc, ◌+◌, ◌-◌, min, eqb, get_or, set}
use mathlib.Core.List.{List, [], foldl, map}
use Rattle.spec_text.specs.Numbers.{largest}
use Rattle.spec_format.specs.declared.Entry.{Entry}
use Rattle.spec_format.specs.declared.Move.{Move}
use Rattle.spec_machine.specs.Selected.{select}

-- The sum of "add (word d becomes word a plus k ..)": "Add gives 4,294,967,295 where the sum would be more."
abbrev pub sum : ℕ → ℕ → ℕ
sum word k = min (word + k) largest

-- The words after one move: "copy (word d becomes word a), set (word d becomes k), add".
abbrev pub after_move : List ℕ → Move → List ℕ
after_move words (Move.Copy d a) = set words d (get_or words a 0)
after_move words (Move.Set d k) = set words d k
after_move words (Move.Add d a k) = set words d (sum (get_or words a 0) k)

-- "runs that call's update whole: its moves in order, as under "Plan", each on the words the move before left."
unfoldable pub after_update : List ℕ → List Move → List ℕ
after_update words moves = foldl after_move words moves

-- An entry that commits a call. Entries are numbered from 1; a call is known by the number of its own entry.
pub record Commit : Type 0 where
  pub entry : ℕ
  pub call : ℕ

-- The entry of a number, from 1.
abbrev pub entry_at : List Entry → ℕ → Entry
entry_at entries n = get_or entries (n - 1) (record { kind = 0; first = 0; second = 0 })

-- "its job and update are those the entry names": the job of a call.
abbrev pub job_of : List Entry → ℕ → ℕ
job_of entries call = (entry_at entries call).first

-- The number of a call's update.
abbrev pub update_of : List Entry → ℕ → ℕ
update_of entries call = (entry_at entries call).second

-- The moves of a call's update.
abbrev pub moves_of : List (List Move) → List Entry → ℕ → List Move
moves_of updates entries call = get_or updates (update_of entries call) []

-- The calls that an entry commits: one or none.
abbrev pub committed_by : List Commit → ℕ → List ℕ
committed_by commits n = map (λ (c : Commit). c.call) (select (λ (c : Commit). eqb c.entry n) commits)

-- The words after the first n entries: at first those of the block lines; an entry that commits a call runs that
-- call's update whole; "Every other entry, a refused one too, changes nothing."
unfoldable pub memory : List ℕ → List (List Move) → List Entry → List Commit → ℕ → List ℕ
memory opening updates entries commits zero = opening
memory opening updates entries commits (suc n) =
    foldl (λ words call. after_update words (moves_of updates entries call))
    (memory opening updates entries commits n)
    (committed_by commits (suc n))
