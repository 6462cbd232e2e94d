-- What holds of a run in progress, of the stock of block numbers, and of a decided update, apart from the machine: the
-- control facts that a step needs are hypotheses of the laws in AttemptSteps.antt and Settling.antt. Assumes nothing.
--
-- A run stores to its own copy blocks alone, also where it has been overtaken (Own). While its version is V and its
-- update undecided, what it still has to do leads, from what it sees, to the update run whole on the memory (Live). A
-- block number stands at one place: in the bank, or in one copy list (Stock). From its deciding until its commit an
-- update's row tells for each listed block the number that is to stand in the bank; where H41 has stored the block it
-- does, elsewhere the old number still does (Settling).
use Prim.Native.Nat.{ℕ, ◌+◌, ◌*◌, ◌≤◌, ◌<◌}
use mathlib.Core.Path.{◌≡◌}
use mathlib.Core.Logic.{◌≢◌, ◌⊎◌}
use mathlib.Core.Bool.{Bool, true, false, cond}
use mathlib.Core.List.{List, [], ◌∷◌, ◌++◌}
use lib.Dec.{ltb}
use lib.ListN.{length}
use Rattle.spec_format.specs.Plan.{is_in}
use Rattle.spec_machine.specs.Selected.{select}
use Rattle.spec_machine.proofs.ChangedAt.{upd}
use Rattle.spec_machine.proofs.SmallSteps.{
  Blocks,
  exec,
  Op,
  Op.check,
  Op.list,
  Op.copy,
  Op.take,
  Op.put_word,
  Attempt,
  Layout,
}

-- No number stands twice in a list.
pub data NoDup : List ℕ → Type 0 where
  nil : NoDup []
  cons : {x : ℕ} {xs : List ℕ} → is_in x xs ≡ false → NoDup xs → NoDup (x ∷ xs)

-- A run's view of the bank: a listed block's number in this run, else the bank's.
abbrev pub current : (ℕ → ℕ) → Attempt → ℕ → ℕ
current bank r k = cond (r.listed k) (r.curr k) (bank k)

-- The attempt after a small step that changes nothing but what is still to do.
abbrev pub passed : List Op → Attempt → Attempt
passed os r =
    record {
      todo = os;
      word = r.word;
      listed = r.listed;
      wrote = r.wrote;
      curr = r.curr;
      order = r.order;
      used = r.used;
    }

-- After taking a word.
abbrev pub took : List Op → ℕ → Attempt → Attempt
took os x r =
    record {
      todo = os;
      word = x;
      listed = r.listed;
      wrote = r.wrote;
      curr = r.curr;
      order = r.order;
      used = r.used;
    }

-- After listing block k with its number b.
abbrev pub lists : List Op → ℕ → ℕ → Attempt → Attempt
lists os k b r =
    record {
      todo = os;
      word = r.word;
      listed = upd r.listed k true;
      wrote = r.wrote;
      curr = upd r.curr k b;
      order = r.order ++ (k ∷ []);
      used = r.used;
    }

-- After copying block k into the block of number b.
abbrev pub copies : List Op → ℕ → ℕ → Attempt → Attempt
copies os k b r =
    record {
      todo = os;
      word = r.word;
      listed = r.listed;
      wrote = upd r.wrote k true;
      curr = upd r.curr k b;
      order = r.order;
      used = r.used + 1;
    }

module _ (P : Layout) where
  -- What is seen through a table of block numbers, cut off behind the last block, so that two memories that agree are
  -- equal as functions.
  unfoldable pub seen : (ℕ → ℕ) → Blocks → Blocks
  seen t m k = cond (ltb k P.blocks) (m (t k)) (λ _. 0)

  -- How many block numbers there are: B + NC.
  abbrev pub stock : ℕ
  stock = P.jobs * P.copies + P.blocks

  -- No block number stands twice, in the bank (as it is, or is to be) and in the copy lists, and all are below B + NC.
  pub record Stock (bank : ℕ → ℕ) (copy : ℕ → ℕ → ℕ) : Type 0 where
    pub bank_bank : (k l : ℕ) → k < P.blocks → l < P.blocks → bank k ≡ bank l → k ≡ l
    pub bank_copy : (k q i : ℕ) → k < P.blocks → i < P.copies → bank k ≢ copy q i
    pub copy_copy :
        (q r i j : ℕ) → i < P.copies → j < P.copies → copy q i ≡ copy r j → (q ≡ r) × (i ≡ j)
    pub bank_in : (k : ℕ) → k < P.blocks → bank k < stock
    pub copy_in : (q i : ℕ) → q < P.jobs → i < P.copies → copy q i < stock

  -- What is still to do can be done: a block is listed before it is read, and copied before it is written.
  abbrev pub Shape : List Op → (ℕ → Bool) → (ℕ → Bool) → Type 0
  Shape [] L W = Unit {0}
  Shape (check ∷ r) L W = Shape r L W
  Shape (list k ∷ r) L W = (k < P.blocks) × Shape r (upd L k true) W
  Shape (copy k ∷ r) L W = (k < P.blocks) × (L k ≡ true) × Shape r L (upd W k true)
  Shape (take k i ∷ r) L W = (k < P.blocks) × (L k ≡ true) × Shape r L W
  Shape (put_word k i x ∷ r) L W = (k < P.blocks) × (L k ≡ true) × (W k ≡ true) × Shape r L W

  -- The first writes that are still to come.
  abbrev pub new_copies : List Op → (ℕ → Bool) → ℕ
  new_copies [] W = 0
  new_copies (check ∷ r) W = new_copies r W
  new_copies (list k ∷ r) W = new_copies r W
  new_copies (take k i ∷ r) W = new_copies r W
  new_copies (put_word k i x ∷ r) W = new_copies r W
  new_copies (copy k ∷ r) W = cond (W k) 0 1 + new_copies r (upd W k true)

  -- What holds of any run, also of one that has been overtaken.
  pub record Own (cp : ℕ → ℕ) (r : Attempt) : Type 0 where
    pub shape : Shape r.todo r.listed r.wrote
    pub wrote-listed : (k : ℕ) → r.wrote k ≡ true → r.listed k ≡ true
    -- a written block's number is one of the copy blocks used
    pub mine : (k : ℕ) → r.wrote k ≡ true → (i : ℕ) × (i < r.used) × (r.curr k ≡ cp i)
    -- there is room for the first writes to come
    pub room : r.used + new_copies r.todo r.wrote ≤ P.copies
    -- the listed blocks, each once, are blocks, and their numbers are block numbers
    pub order_is : (k : ℕ) → is_in k r.order ≡ r.listed k
    pub distinct : NoDup r.order
    pub in_blocks : (k : ℕ) → r.listed k ≡ true → k < P.blocks
    pub in-stock : (k : ℕ) → r.listed k ≡ true → r.curr k < stock

  -- A run under the present version of an undecided update.
  pub record Live (ops : List Op) (mem : Blocks) (bank : ℕ → ℕ) (blk : Blocks) (cp : ℕ → ℕ) (r : Attempt) : Type 0 where
    pub own : Own cp r
    -- what is still to do, done on what it sees, is the update done whole on the memory
    pub ahead : exec r.todo (seen (current bank r) blk) r.word ≡ exec ops mem 0
    -- a block that is listed and not written has its bank number
    pub read : (k : ℕ) → r.listed k ≡ true → r.wrote k ≡ false → r.curr k ≡ bank k
    -- two written blocks have two numbers
    pub one : (k l : ℕ) → r.wrote k ≡ true → r.wrote l ≡ true → r.curr k ≡ r.curr l → k ≡ l
    pub count : length (select r.wrote r.order) ≡ r.used

  -- The bank as it is to be when all of a row is stored: the row lists the blocks ks with the new numbers.
  abbrev pub settled_bank : (ℕ → ℕ) → List ℕ → (ℕ → ℕ) → ℕ → ℕ
  settled_bank new ks bank k = cond (is_in k ks) (new k) (bank k)

  -- An update is decided by job w and not committed: goal is the memory with the update run, done tells the blocks
  -- stored since the deciding.
  pub record Settling
      (mem goal : Blocks) (old new : ℕ → ℕ) (ks : List ℕ) (bank : ℕ → ℕ) (blk : Blocks) (copy : ℕ → ℕ → ℕ) (w : ℕ)
      (done : ℕ → Bool) : Type 0 where
    -- when all is stored, the goal is seen
    pub goal-seen : seen (settled_bank new ks bank) blk ≡ goal
    -- a block not stored has the memory's content, and its bank entry is old
    pub unstored : (k : ℕ) → k < P.blocks → done k ≡ false → blk (bank k) ≡ mem k
    pub olds : (k : ℕ) → is_in k ks ≡ true → done k ≡ false → bank k ≡ old k
    -- a block stored is listed, and its bank entry is new
    pub stored : (k : ℕ) → done k ≡ true → (is_in k ks ≡ true) × (bank k ≡ new k)
    -- what the bank names is to stay there, or is one of w's reclaimed copies
    pub held :
        (k : ℕ) → k < P.blocks
        → (bank k ≡ settled_bank new ks bank k) ⊎ ((i : ℕ) × (i < P.copies) × (bank k ≡ copy w i))
    pub in_blocks : (k : ℕ) → is_in k ks ≡ true → k < P.blocks
