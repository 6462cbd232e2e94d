-- Deciding, storing and committing: H25, H41 and H42 on the record Settling of Attempts.antt, and the stock of block
-- numbers at H25. Assumes what each law names.
--
-- A run at its end sees the update run whole. At H25 its listed blocks with their numbers become what the bank is to
-- name, and the bank numbers of the blocks that it wrote take the first places of the decider's copy list, in place of
-- the copy blocks that it used. So the bank as it is to be and the copy lists hold each number once: a number of the
-- new copy lists is another job's, or a bank number that is to be replaced, or a copy block that the run left unused.
--
-- H41 stores a listed block's new number. The bank as it is to be stays the same, and so do the stock and what is to be
-- seen. A block whose bank number is no longer the old one was stored before. When all listed blocks are stored, the
-- bank is as it was to be, and the memory seen is the goal. Stores of other jobs go to their copy blocks. None of these
-- is in the bank, neither as it is nor as it is to be: a bank number yet to be replaced is on the decider's copy list.
use Prim.Native.Nat.{ℕ, zero, suc, ◌≤◌, ◌<◌}
use native.Mathlib.Omega.{arith}
use native.Mathlib.Decide.{ℕ_discrete, dec_lt}
use mathlib.Core.Path.{◌≡◌, refl, sym, ◌∙◌, ap, fun_ext}
use mathlib.Core.Logic.{◌≢◌, ◌⊎◌, inl, inr}
use mathlib.Core.Bool.{Bool, true, false, cond, ◌||◌, true≢false, false≢true}
use mathlib.Core.List.{List, [], ◌∷◌, map}
use lib.Dec.{eqb}
use lib.ListN.{length, get_or, get_or-eq_default, length-map}
use borrow.Author.Tests.{eqb-true, eq-eqb}
use Rattle.spec_format.specs.Plan.{is_in}
use Rattle.spec_machine.specs.Selected.{select}
use Rattle.spec_machine.proofs.Tests.{or_r}
use Rattle.spec_machine.proofs.ChangedAt.{upd, upd_same, upd-at, upd_other, upd-elim}
use Rattle.spec_machine.proofs.SmallSteps.{Blocks, exec, Op, Attempt, Layout}
use Rattle.spec_machine.proofs.Attempts.{
  NoDup,
  NoDup.nil,
  NoDup.cons,
  current,
  seen,
  stock,
  Stock,
  Live,
  settled_bank,
  Settling,
}
use Rattle.spec_machine.proofs.AttemptSteps.{
  seen-in,
  seen-ext,
  Through,
  Through.by-bank,
  Through.by_copy,
  through,
}

-- A disjunction holds by its left half.
or_left : (a b : Bool) → a ≡ true → (a || b) ≡ true
or_left true b e = refl
or_left false b e = absurd (false≢true e)

-- A disjunction holds by its right half.
or_right : (a b : Bool) → b ≡ true → (a || b) ≡ true
or_right true b e = refl
or_right false b e = e

-- What stands at a place of a list is in the list.
pub listed_at : (ks : List ℕ) (i : ℕ) → i < length ks → is_in (get_or ks i 0) ks ≡ true
listed_at [] i h = absurd (omega arith)
listed_at (x ∷ xs) zero h = or_left (eqb x x) (is_in x xs) (eq-eqb x x refl)
listed_at (x ∷ xs) (suc i) h = or_right (eqb x (get_or xs i 0)) _ (listed_at xs i (omega arith))

-- What is in a list stands at a place of it.
pub listed-place :
    (ks : List ℕ) (k : ℕ) → is_in k ks ≡ true → (i : ℕ) × (i < length ks) × (get_or ks i 0 ≡ k)
listed-place [] k h = absurd (false≢true h)
listed-place (x ∷ xs) k h = go (eqb x k) refl h (listed-place xs k)
  where
    go : (b : Bool) → eqb x k ≡ b → (b || is_in k xs) ≡ true
        → (is_in k xs ≡ true → (i : ℕ) × (i < length xs) × (get_or xs i 0 ≡ k))
        → (i : ℕ) × (i < length (x ∷ xs)) × (get_or (x ∷ xs) i 0 ≡ k)
    go true e h ih = (zero, omega arith, eqb-true x k e)
    go false e h ih = let r = ih h in let l = r.1 in (suc r.0, omega arith, r.2)

-- Where no number stands twice, a place is told by what stands there.
pub nodup-at :
    (ks : List ℕ) (i j : ℕ) → NoDup ks → i < length ks → j < length ks → get_or ks i 0 ≡ get_or ks j 0 → i ≡ j
nodup-at [] i j n hi hj q = absurd (omega arith)
nodup-at (x ∷ xs) zero zero (cons m n) hi hj q = refl
nodup-at (x ∷ xs) zero (suc j) (cons m n) hi hj q =
    absurd (true≢false (sym (listed_at xs j (omega arith)) ∙ rw q at m))
nodup-at (x ∷ xs) (suc i) zero (cons m n) hi hj q =
    absurd (true≢false (sym (listed_at xs i (omega arith)) ∙ rw (← q) at m))
nodup-at (x ∷ xs) (suc i) (suc j) (cons m n) hi hj q =
    ap suc (nodup-at xs i j n (omega arith) (omega arith) q)

-- What is selected passes the test, and is in the list.
pub selected-at :
    (w : ℕ → Bool) (ks : List ℕ) (i : ℕ) → i < length (select w ks)
    → (w (get_or (select w ks) i 0) ≡ true) × (is_in (get_or (select w ks) i 0) ks ≡ true)
selected-at w [] i h = absurd (omega arith)
selected-at w (x ∷ xs) i h = go (w x) refl i h (selected-at w xs)
  where
    go : (b : Bool) → w x ≡ b → (i : ℕ) → i < length (cond b (x ∷ select w xs) (select w xs))
        → ((j : ℕ) → j < length (select w xs)
        → (w (get_or (select w xs) j 0) ≡ true) × (is_in (get_or (select w xs) j 0) xs ≡ true))
        → (w (get_or (cond b (x ∷ select w xs) (select w xs)) i 0) ≡ true)
        × (is_in (get_or (cond b (x ∷ select w xs) (select w xs)) i 0) (x ∷ xs) ≡ true)
    go true e zero h ih = (e, or_left (eqb x x) (is_in x xs) (eq-eqb x x refl))
    go true e (suc i) h ih =
        let r = ih i (omega arith) in (r.0, or_right (eqb x (get_or (select w xs) i 0)) _ r.1)
    go false e i h ih = let r = ih i h in (r.0, or_right (eqb x (get_or (select w xs) i 0)) _ r.1)

-- What is not in a list is not selected from it.
pub not_selected : (w : ℕ → Bool) (ks : List ℕ) (k : ℕ) → is_in k ks ≡ false → is_in k (select w ks) ≡ false
not_selected w [] k e = refl
not_selected w (x ∷ xs) k e = go (w x) (eqb x k) refl (not_selected w xs k (or_r (eqb x k) (is_in k xs) e))
  where
    go : (b c : Bool) → eqb x k ≡ c → is_in k (select w xs) ≡ false
        → is_in k (cond b (x ∷ select w xs) (select w xs)) ≡ false
    go true true q ih = absurd (true≢false (sym (rw q) ∙ e))
    go true false q ih = rw q ih
    go false c q ih = ih

-- No number stands twice in what is selected.
pub nodup-select : (w : ℕ → Bool) (ks : List ℕ) → NoDup ks → NoDup (select w ks)
nodup-select w [] nil = nil
nodup-select w (x ∷ xs) (cons m n) = go (w x) (nodup-select w xs n)
  where
    go : (b : Bool) → NoDup (select w xs) → NoDup (cond b (x ∷ select w xs) (select w xs))
    go true ih = cons (not_selected w xs x m) ih
    go false ih = ih

-- What is in a list and passes the test is selected.
pub is_in-select : (w : ℕ → Bool) (ks : List ℕ) (k : ℕ) → is_in k ks ≡ true → w k ≡ true → is_in k (select w ks) ≡ true
is_in-select w [] k h e = h
is_in-select w (x ∷ xs) k h e = go (eqb x k) refl (w x) refl h (λ m. is_in-select w xs k m e)
  where
    go : (a : Bool) → eqb x k ≡ a → (b : Bool) → w x ≡ b → (a || is_in k xs) ≡ true
        → (is_in k xs ≡ true → is_in k (select w xs) ≡ true)
        → is_in k (cond b (x ∷ select w xs) (select w xs)) ≡ true
    go true p true q h ih = rw p
    go true p false q h ih = absurd (true≢false (sym (rw (← eqb-true x k p) at e) ∙ q))
    go false p true q h ih = rw p (ih h)
    go false p false q h ih = ih h

-- A place of a list with a function applied; what stands for places past the end does not matter.
get_d_map : (f : ℕ → ℕ) (l : List ℕ) (i d : ℕ) → i < length l → get_or (map f l) i d ≡ f (get_or l i 0)
get_d_map f [] i d h = absurd (omega arith)
get_d_map f (x ∷ xs) zero d h = refl
get_d_map f (x ∷ xs) (suc i) d h = get_d_map f xs i d (omega arith)

-- The copy list after H25: the bank numbers of the blocks written take the first places, in listing order.
unfoldable pub reclaim : (ℕ → ℕ) → Attempt → (ℕ → ℕ) → ℕ → ℕ
reclaim bank r cp i = get_or (map bank (select r.wrote r.order)) i (cp i)

module _ (P : Layout) where
  module _ (new : ℕ → ℕ) (ks : List ℕ) (bank : ℕ → ℕ) (a : ℕ) (ma : is_in a ks ≡ true) where
    -- A store of a listed block's new number leaves the bank as it is to be.
    same-settled : settled_bank P new ks (upd bank a (new a)) ≡ settled_bank P new ks bank
    same-settled =
        fun_ext
        (λ k.
        upd-elim (λ y. cond (is_in k ks) (new k) y ≡ cond (is_in k ks) (new k) (bank k)) bank a (new a) k
        (λ e. rw (e, ma))
        (λ _. refl))

    -- The stock is kept by H41.
    pub stock-stored :
        {copy : ℕ → ℕ → ℕ} → Stock P (settled_bank P new ks bank) copy
        → Stock P (settled_bank P new ks (upd bank a (new a))) copy
    stock-stored St = rw same-settled St

  module _
      {mem goal : Blocks} {old new : ℕ → ℕ} {ks : List ℕ} {bank : ℕ → ℕ} {blk : Blocks} {copy : ℕ → ℕ → ℕ} {w : ℕ}
      {done : ℕ → Bool} (Z : Settling P mem goal old new ks bank blk copy w done) where
    -- H41 done: block a is stored.
    pub stores :
        (a : ℕ) → is_in a ks ≡ true
        → Settling P mem goal old new ks (upd bank a (new a)) blk copy w (upd done a true)
    stores a ma =
        record {
          goal-seen = ap (λ t. seen P t blk) (same-settled new ks bank a ma) ∙ Z.goal-seen;
          unstored = unstored;
          olds = olds;
          stored = stored;
          held = held;
          in_blocks = Z.in_blocks;
        }
      where
        -- a block that is not stored is another one
        unstored : (k : ℕ) → k < P.blocks → upd done a true k ≡ false → blk (upd bank a (new a) k) ≡ mem k
        unstored k hk =
            upd-elim (λ b. b ≡ false → blk (upd bank a (new a) k) ≡ mem k) done a true k
            (λ _ e. absurd (true≢false e))
            (λ n e. rw (upd_other bank a (new a) k n) (Z.unstored k hk e))

        -- so its bank entry is old
        olds : (k : ℕ) → is_in k ks ≡ true → upd done a true k ≡ false → upd bank a (new a) k ≡ old k
        olds k m =
            upd-elim (λ b. b ≡ false → upd bank a (new a) k ≡ old k) done a true k
            (λ _ e. absurd (true≢false e))
            (λ n e. upd_other bank a (new a) k n ∙ Z.olds k m e)

        -- the block has its new number
        stored : (k : ℕ) → upd done a true k ≡ true → (is_in k ks ≡ true) × (upd bank a (new a) k ≡ new k)
        stored k =
            upd-elim (λ b. b ≡ true → (is_in k ks ≡ true) × (upd bank a (new a) k ≡ new k)) done a true k
            (λ e _. (rw e ma, upd-at bank a (new a) k e ∙ ap new (sym e)))
            (λ n e. ((Z.stored k e).0, upd_other bank a (new a) k n ∙ (Z.stored k e).1))

        -- the new number is to stay
        held : (k : ℕ) → k < P.blocks
            → (upd bank a (new a) k ≡ settled_bank P new ks (upd bank a (new a)) k)
            ⊎ ((i : ℕ) × (i < P.copies) × (upd bank a (new a) k ≡ copy w i))
        held k hk =
            upd-elim
            (λ y. (y ≡ cond (is_in k ks) (new k) y) ⊎ ((i : ℕ) × (i < P.copies) × (y ≡ copy w i))) bank a (new a) k
            (λ e. inl (rw (e, ma)))
            (λ _. Z.held k hk)

    -- H41 not done at a block of the row, under the same V: the block was stored before.
    pub skipped : (a : ℕ) → is_in a ks ≡ true → bank a ≢ old a → done a ≡ true
    skipped a m n = go (done a) refl
      where
        go : (b : Bool) → done a ≡ b → done a ≡ true
        go true e = e
        go false e = absurd (n (Z.olds a m e))

    -- H42 done: all is stored, and what is seen through the bank is the goal.
    pub commits : ((k : ℕ) → is_in k ks ≡ true → done k ≡ true) → seen P bank blk ≡ goal
    commits all = ap (λ t. seen P t blk) (fun_ext (λ k. go k (is_in k ks) refl)) ∙ Z.goal-seen
      where
        go : (k : ℕ) (b : Bool) → is_in k ks ≡ b → bank k ≡ cond b (new k) (bank k)
        go k true e = (Z.stored k (all k e)).1
        go k false e = refl

    -- Another job stores to one of its copy blocks.
    pub settling-other :
        (x j : ℕ) (y : ℕ → ℕ) → x ≢ w → j < P.copies → Stock P (settled_bank P new ks bank) copy
        → Settling P mem goal old new ks bank (upd blk (copy x j) y) copy w done
    settling-other x j y x≢w hj St =
        record {
          goal-seen =
              seen-ext P _ _ _ blk (λ k hk. upd_other blk (copy x j) y _ (St.bank_copy k x j hk hj)) ∙ Z.goal-seen;
          unstored = λ k hk e. upd_other blk (copy x j) y (bank k) (not-x k hk) ∙ Z.unstored k hk e;
          olds = Z.olds;
          stored = Z.stored;
          held = Z.held;
          in_blocks = Z.in_blocks;
        }
      where
        -- what the bank names is no copy block of x
        not-x : (k : ℕ) → k < P.blocks → bank k ≢ copy x j
        not-x k hk e = go (Z.held k hk)
          where
            go : (bank k ≡ settled_bank P new ks bank k) ⊎ ((i : ℕ) × (i < P.copies) × (bank k ≡ copy w i)) → ⊥
            go (inl q) = St.bank_copy k x j hk hj (sym q ∙ e)
            go (inr q) = x≢w (St.copy_copy x w j q.0 hj q.1 (sym e ∙ q.2)).0

    -- What the bank names meanwhile are block numbers.
    pub bank-known :
        Stock P (settled_bank P new ks bank) copy → w < P.jobs → (k : ℕ) → k < P.blocks → bank k < stock P
    bank-known St hw k hk = go (Z.held k hk)
      where
        go : (bank k ≡ settled_bank P new ks bank k) ⊎ ((i : ℕ) × (i < P.copies) × (bank k ≡ copy w i))
            → bank k < stock P
        go (inl q) = rw q (St.bank_in k hk)
        go (inr q) = rw q.2 (St.copy_in w q.0 hw q.1)

  -- H25: the run r of job w is at its end, and decides.
  module _
      {ops : List Op} {mem : Blocks} {bank : ℕ → ℕ} {blk : Blocks} {copy : ℕ → ℕ → ℕ} (St : Stock P bank copy) (w : ℕ)
      {r : Attempt} (R : Live P ops mem bank blk (copy w) r) where
    -- The blocks that the run wrote, in listing order.
    abbrev replaced : List ℕ
    replaced = select r.wrote r.order

    -- The decider's copy list after H25.
    abbrev reclaimed : ℕ → ℕ
    reclaimed = reclaim bank r (copy w)

    -- The copy lists after H25.
    abbrev copies_after : ℕ → ℕ → ℕ
    copies_after = upd copy w reclaimed

    -- The bank as it is to be is the run's view of the bank.
    settled-current : settled_bank P r.curr r.order bank ≡ current bank r
    settled-current = fun_ext (λ k. rw (R.own.order_is k))

    -- The first places of the decider's copy list.
    low : (i : ℕ) → i < r.used → reclaimed i ≡ bank (get_or replaced i 0)
    unfolding reclaim
    low i h = get_d_map bank replaced i (copy w i) (rw R.count h)

    -- The other places.
    high : (i : ℕ) → r.used ≤ i → reclaimed i ≡ copy w i
    unfolding reclaim
    high i h = get_or-eq_default (map bank replaced) (copy w i) (rw (length-map replaced bank, R.count) h)

    -- A block replaced was written, and is a block.
    replaced-at : (i : ℕ) → i < r.used → (r.wrote (get_or replaced i 0) ≡ true) × (get_or replaced i 0 < P.blocks)
    replaced-at i h =
        let a = selected-at r.wrote r.order i (rw R.count h) in
        (a.0, R.own.in_blocks (get_or replaced i 0) (R.own.wrote-listed (get_or replaced i 0) a.0))

    -- A used copy block is a copy block.
    used-copy : (i : ℕ) → i < r.used → i < P.copies
    used-copy i h = omega (arith, R.own.room)

    -- A number of the new copy lists: another job's, a replaced bank number, or a copy block left unused.
    data Copied (q i : ℕ) : ℕ → Type 0 where
      theirs : q ≢ w → Copied q i (copy q i)
      reused : q ≡ w → i < r.used → Copied q i (bank (get_or replaced i 0))
      unused : q ≡ w → r.used ≤ i → Copied q i (copy w i)

    -- There is no fourth kind.
    copied : (q i : ℕ) → Copied q i (copies_after q i)
    copied q i = go (ℕ_discrete q w) (dec_lt i r.used)
      where
        go : Dec (q ≡ w) → Dec (i < r.used) → Copied q i (copies_after q i)
        go (no n) d = rw (upd_other copy w reclaimed q n) (theirs n)
        go (yes e) (yes h) = rw (upd-at copy w reclaimed q e, low i h) (reused e h)
        go (yes e) (no n) =
            let h : r.used ≤ i = omega arith in rw (upd-at copy w reclaimed q e, high i h) (unused e h)

    -- Two blocks are to have two numbers.
    bank-apart : (k l : ℕ) → k < P.blocks → l < P.blocks → current bank r k ≡ current bank r l → k ≡ l
    bank-apart k l hk hl e = go (through P R k) (through P R l)
      where
        -- a written block is listed, so it is seen through its number in the run
        curr-is : (m : ℕ) → r.wrote m ≡ true → r.curr m ≡ current bank r m
        curr-is m f = rw (R.own.wrote-listed m f)

        go : Through bank (copy w) r k → Through bank (copy w) r l → k ≡ l
        go (by-bank f a) (by-bank g b) = St.bank_bank k l hk hl (sym a ∙ e ∙ b)
        go (by-bank f a) (by_copy g j h b) = absurd (St.bank_copy k w j hk (used-copy j h) (sym a ∙ e ∙ b))
        go (by_copy f i h a) (by-bank g b) = absurd (St.bank_copy l w i hl (used-copy i h) (sym b ∙ sym e ∙ a))
        go (by_copy f i h a) (by_copy g j h' b) = R.one k l f g (curr-is k f ∙ e ∙ sym (curr-is l g))

    -- A number that is to stand in the bank is in no copy list.
    bank-not-copied : (k q i : ℕ) → k < P.blocks → i < P.copies → current bank r k ≢ copies_after q i
    bank-not-copied k q i hk hi e = go (copied q i) e (through P R k)
      where
        go : {c : ℕ} → Copied q i c → current bank r k ≡ c → Through bank (copy w) r k → ⊥
        go (theirs n) e (by-bank f a) = St.bank_copy k q i hk hi (sym a ∙ e)
        go (theirs n) e (by_copy f j h a) = n (St.copy_copy q w i j hi (used-copy j h) (sym e ∙ a)).0
        go (reused z h) e (by-bank f a) =
            let same : k ≡ get_or replaced i 0 = St.bank_bank k _ hk (replaced-at i h).1 (sym a ∙ e) in
            true≢false (sym (replaced-at i h).0 ∙ rw same at f)
        go (reused z h) e (by_copy f j h' a) =
            St.bank_copy (get_or replaced i 0) w j (replaced-at i h).1 (used-copy j h') (sym e ∙ a)
        go (unused z h) e (by-bank f a) = St.bank_copy k w i hk hi (sym a ∙ e)
        go (unused z h) e (by_copy f j h' a) =
            let y = (St.copy_copy w w i j hi (used-copy j h') (sym e ∙ a)).1 in omega arith

    -- A number stands at one place of the copy lists.
    copies_apart :
        (q s i j : ℕ) → i < P.copies → j < P.copies → copies_after q i ≡ copies_after s j → (q ≡ s) × (i ≡ j)
    copies_apart q s i j hi hj e = go (copied q i) (copied s j) e
      where
        go : {c d : ℕ} → Copied q i c → Copied s j d → c ≡ d → (q ≡ s) × (i ≡ j)
        go (theirs n) (theirs m) e = St.copy_copy q s i j hi hj e
        go (theirs n) (reused z h) e = absurd (St.bank_copy (get_or replaced j 0) q i (replaced-at j h).1 hi (sym e))
        go (theirs n) (unused z h) e = absurd (n (St.copy_copy q w i j hi hj e).0)
        go (reused z h) (theirs n) e = absurd (St.bank_copy (get_or replaced i 0) s j (replaced-at i h).1 hj e)
        go (reused z h) (reused y g) e = (
          z ∙ sym y,
          nodup-at replaced i j (nodup-select r.wrote r.order R.own.distinct) (rw R.count h)
              (rw R.count g)
              (St.bank_bank _ _ (replaced-at i h).1 (replaced-at j g).1 e),
        )
        go (reused z h) (unused y g) e = absurd (St.bank_copy (get_or replaced i 0) w j (replaced-at i h).1 hj e)
        go (unused z h) (theirs n) e = absurd (n (sym (St.copy_copy w s i j hi hj e).0))
        go (unused z h) (reused y g) e = absurd (St.bank_copy (get_or replaced j 0) w i (replaced-at j g).1 hi (sym e))
        go (unused z h) (unused y g) e = (z ∙ sym y, (St.copy_copy w w i j hi hj e).1)

    -- H25 done: no block number stands twice, in the bank as it is to be and in the copy lists.
    pub reclaims :
        w < P.jobs → Stock P (settled_bank P r.curr r.order bank) (upd copy w (reclaim bank r (copy w)))
    reclaims hw =
        rw settled-current
        (record {
          bank_bank = bank-apart;
          bank_copy = bank-not-copied;
          copy_copy = copies_apart;
          bank_in = bank_in;
          copy_in = copy_in;
        })
      where
        -- the bank as it is to be holds block numbers
        bank_in : (k : ℕ) → k < P.blocks → current bank r k < stock P
        bank_in k hk = go (through P R k)
          where
            go : Through bank (copy w) r k → current bank r k < stock P
            go (by-bank f a) = rw a (St.bank_in k hk)
            go (by_copy f i h a) = rw a (St.copy_in w i hw (used-copy i h))

        -- and so do the copy lists
        copy_in : (q i : ℕ) → q < P.jobs → i < P.copies → copies_after q i < stock P
        copy_in q i hq hi = go (copied q i)
          where
            go : {c : ℕ} → Copied q i c → c < stock P
            go (theirs n) = St.copy_in q i hq hi
            go (reused z h) = St.bank_in (get_or replaced i 0) (replaced-at i h).1
            go (unused z h) = St.copy_in w i hw hi

    -- H25 done: the update is decided, and nothing of it is stored. The old numbers are the bank's.
    pub decides :
        {goal : Blocks} → mem ≡ seen P bank blk → r.todo ≡ [] → exec ops mem 0 ≡ goal
        → Settling P mem goal bank r.curr r.order bank blk (upd copy w (reclaim bank r (copy w))) w (λ _. false)
    unfolding exec
    decides calm e g =
        record {
          goal-seen = ap (λ t. seen P t blk) settled-current ∙ rw e at R.ahead ∙ g;
          unstored = λ k hk _. sym (ap (λ m. m k) calm ∙ seen-in P bank blk k hk);
          olds = λ k m _. refl;
          stored = λ k h. absurd (false≢true h);
          held = held;
          in_blocks = λ k m. R.own.in_blocks k (sym (R.own.order_is k) ∙ m);
        }
      where
        -- a bank number that is not to stay is that of a block written, so it is on the decider's copy list
        held : (k : ℕ) → k < P.blocks
            → (bank k ≡ settled_bank P r.curr r.order bank k)
            ⊎ ((i : ℕ) × (i < P.copies) × (bank k ≡ copies_after w i))
        held k hk = go (through P R k)
          where
            go : Through bank (copy w) r k
                → (bank k ≡ settled_bank P r.curr r.order bank k)
                ⊎ ((i : ℕ) × (i < P.copies) × (bank k ≡ copies_after w i))
            go (by-bank f a) = inl (sym (ap (λ t. t k) settled-current ∙ a))
            go (by_copy f i h a) =
                let x =
                listed-place replaced k
                (is_in-select r.wrote r.order k (R.own.order_is k ∙ R.own.wrote-listed k f) f) in
                let lt : x.0 < r.used = rw R.count at x.1 in
                inr (
                  x.0,
                  used-copy x.0 lt,
                  sym (ap (λ c. c x.0) (upd_same copy w reclaimed) ∙ low x.0 lt ∙ ap bank x.2),
                )
