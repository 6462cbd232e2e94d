-- What each small step does to what holds of a run in progress (Own and Live of Attempts.antt). Assumes what each law
-- names: where a step takes a block number, that it is one; for Live, that no block number stands twice (Stock).
--
-- Own is about the run's record alone. A step takes the first of what is still to do; the shape of the rest, and the
-- room for first writes, are read off the shape before. The new number of a first write is the next unused copy block,
-- so written blocks have numbers of the run's own copy list.
--
-- Live says besides that what is still to do, done on what the run sees, gives the update run whole. The run sees a
-- block through its own number, where the block is listed, and else through the bank. A number that it sees through is
-- a bank number, or one of its own used copy blocks. Hence a store of another job, which goes to a copy block of that
-- job, changes nothing seen. A list step notes the bank's number: nothing seen changes. A copy step fills a block that
-- the run does not see yet with what is seen already. A write changes what is seen at one block alone, because no
-- other block is seen through that number.
use Prim.Native.Nat.{ℕ, suc, ◌+◌, ◌≤◌, ◌<◌}
use native.Mathlib.Omega.{arith}
use native.Mathlib.Decide.{ℕ_discrete}
use mathlib.Core.Path.{◌≡◌, refl, sym, ◌∙◌, ap, fun_ext}
use mathlib.Core.Logic.{◌≢◌}
use mathlib.Core.Bool.{Bool, true, false, cond, ◌||◌, true≢false, false≢true}
use mathlib.Core.List.{List, [], ◌∷◌, ◌++◌}
use lib.Dec.{eqb, ltb}
use lib.ListN.{length}
use borrow.Author.Tests.{eqb-true, eqb-false, ltb-true, ltb-false, lt-ltb, eq-eqb, ne_eqb}
use Rattle.spec_format.specs.declared.Move.{Move}
use Rattle.spec_format.specs.Plan.{is_in}
use Rattle.spec_machine.specs.Selected.{select}
use Rattle.spec_machine.specs.Moves.{word_written}
use Rattle.spec_machine.proofs.ChangedAt.{upd, upd_same, upd-at, upd_other, upd-elim, upd-id}
use Rattle.spec_machine.proofs.SmallSteps.{
  Blocks,
  put,
  exec,
  Op,
  Op.check,
  Op.list,
  Op.take,
  Op.put_word,
  Attempt,
  Layout,
}
use Rattle.spec_machine.proofs.Attempts.{
  NoDup,
  NoDup.nil,
  NoDup.cons,
  current,
  passed,
  took,
  lists,
  copies,
  seen,
  stock,
  Stock,
  Shape,
  new_copies,
  Own,
  Live,
}

-- What is last in a list is in it.
is_in-last : (xs : List ℕ) (k : ℕ) → is_in k (xs ++ (k ∷ [])) ≡ true
is_in-last [] k = rw (eq-eqb k k refl)
is_in-last (x ∷ xs) k = go (eqb x k) (is_in-last xs k)
  where
    go : (b : Bool) → is_in k (xs ++ (k ∷ [])) ≡ true → (b || is_in k (xs ++ (k ∷ []))) ≡ true
    go true e = refl
    go false e = e

-- Another number is in the list as before.
is_in-before : (xs : List ℕ) (k l : ℕ) → l ≢ k → is_in l (xs ++ (k ∷ [])) ≡ is_in l xs
is_in-before [] k l n = rw (ne_eqb k l (λ z. n (sym z)))
is_in-before (x ∷ xs) k l n = ap (λ b. eqb x l || b) (is_in-before xs k l n)

-- One more number at the end of a list that does not have it.
nodup-last : (xs : List ℕ) (k : ℕ) → NoDup xs → is_in k xs ≡ false → NoDup (xs ++ (k ∷ []))
nodup-last [] k n f = cons refl nil
nodup-last (x ∷ xs) k (cons m n) f = go (eqb x k) refl f (nodup-last xs k n)
  where
    go : (b : Bool) → eqb x k ≡ b → (b || is_in k xs) ≡ false
        → (is_in k xs ≡ false → NoDup (xs ++ (k ∷ []))) → NoDup (x ∷ xs ++ (k ∷ []))
    go true e g ih = absurd (true≢false g)
    go false e g ih = cons (is_in-before xs k x (eqb-false x k e) ∙ m) (ih g)

-- A last number that does not pass the test is not selected.
select-last : (w : ℕ → Bool) (xs : List ℕ) (k : ℕ) → w k ≡ false → select w (xs ++ (k ∷ [])) ≡ select w xs
select-last w [] k f = rw f
select-last w (x ∷ xs) k f = ap (λ l. cond (w x) (x ∷ l) l) (select-last w xs k f)

-- A number that is not in the list may pass the test or not.
select-same : (w : ℕ → Bool) (xs : List ℕ) (k : ℕ) → is_in k xs ≡ false → select (upd w k true) xs ≡ select w xs
select-same w [] k f = refl
select-same w (x ∷ xs) k f = go (eqb x k) refl f (select-same w xs k)
  where
    go : (b : Bool) → eqb x k ≡ b → (b || is_in k xs) ≡ false
        → (is_in k xs ≡ false → select (upd w k true) xs ≡ select w xs)
        → cond (upd w k true x) (x ∷ select (upd w k true) xs) (select (upd w k true) xs)
        ≡ cond (w x) (x ∷ select w xs) (select w xs)
    go true e g ih = absurd (true≢false g)
    go false e g ih = rw (upd_other w k true x (eqb-false x k e), ih g)

-- Where one more number of the list passes the test, one more is selected.
select-more :
    (w : ℕ → Bool) (xs : List ℕ) (k : ℕ) → is_in k xs ≡ true → w k ≡ false → NoDup xs
    → length (select (upd w k true) xs) ≡ suc (length (select w xs))
select-more w [] k m f n = absurd (false≢true m)
select-more w (x ∷ xs) k m f (cons o n) = go (eqb x k) refl m (λ q. select-more w xs k q f n)
  where
    go : (b : Bool) → eqb x k ≡ b → (b || is_in k xs) ≡ true
        → (is_in k xs ≡ true → length (select (upd w k true) xs) ≡ suc (length (select w xs)))
        → length (cond (upd w k true x) (x ∷ select (upd w k true) xs) (select (upd w k true) xs))
        ≡ suc (length (cond (w x) (x ∷ select w xs) (select w xs)))
    go true e g ih =
        let z : x ≡ k = eqb-true x k e in
        rw (upd-at w k true x z, z, f) (ap (λ l. suc (length l)) (select-same w xs k (rw (← z) o)))
    go false e g ih = rw (upd_other w k true x (eqb-false x k e)) (inner (w x))
      where
        inner : (b : Bool)
            → length (cond b (x ∷ select (upd w k true) xs) (select (upd w k true) xs))
            ≡ suc (length (cond b (x ∷ select w xs) (select w xs)))
        inner true = ap suc (ih g)
        inner false = ih g

-- The number that a run with the copy list cp sees block k through: the bank's, or a copy block that it has used.
pub data Through (bank cp : ℕ → ℕ) (r : Attempt) (k : ℕ) : Type 0 where
  by-bank : r.wrote k ≡ false → current bank r k ≡ bank k → Through bank cp r k
  by_copy : r.wrote k ≡ true → (i : ℕ) → i < r.used → current bank r k ≡ cp i → Through bank cp r k

module _ (P : Layout) where
  -- What is seen at a block.
  pub seen-in : (t : ℕ → ℕ) (m : Blocks) (k : ℕ) → k < P.blocks → seen P t m k ≡ m (t k)
  unfolding seen
  seen-in t m k h = rw (lt-ltb k P.blocks h)

  -- Two views that agree on the blocks are equal.
  pub seen-ext :
      (t t' : ℕ → ℕ) (m m' : Blocks) → ((k : ℕ) → k < P.blocks → m (t k) ≡ m' (t' k)) → seen P t m ≡ seen P t' m'
  unfolding seen
  seen-ext t t' m m' h = fun_ext (λ k. go k (ltb k P.blocks) refl)
    where
      go : (k : ℕ) (b : Bool) → ltb k P.blocks ≡ b → cond b (m (t k)) (λ _. 0) ≡ cond b (m' (t' k)) (λ _. 0)
      go k true e = h k (ltb-true _ _ e)
      go k false e = refl

  -- A word stored to a number that one block alone is seen through is a word changed in what is seen.
  pub seen-put :
      (t : ℕ → ℕ) (m : Blocks) (k i x : ℕ) → k < P.blocks → ((l : ℕ) → l < P.blocks → t l ≡ t k → l ≡ k)
      → seen P t (put m (t k) i x) ≡ put (seen P t m) k i x
  unfolding seen put
  seen-put t m k i x hk alone = fun_ext (λ l. go l (ltb l P.blocks) refl)
    where
      -- the block changed, as it is seen and as it is stored
      inner : upd (seen P t m k) i x ≡ upd (m (t k)) i x
      inner = ap (λ f. upd f i x) (seen-in t m k hk)

      go : (l : ℕ) (b : Bool) → ltb l P.blocks ≡ b
          → cond b (upd m (t k) (upd (m (t k)) i x) (t l)) (λ _. 0) ≡ upd (seen P t m) k (upd (seen P t m k) i x) l
      go l true e =
          upd-elim (λ y. y ≡ upd (seen P t m) k (upd (seen P t m k) i x) l) m (t k) (upd (m (t k)) i x) (t l)
          (λ z. sym (upd-at (seen P t m) k (upd (seen P t m k) i x) l (alone l (ltb-true _ _ e) z) ∙ inner))
          (λ n.
          sym
          (upd_other (seen P t m) k (upd (seen P t m k) i x) l (λ z. n (ap t z)) ∙ seen-in t m l (ltb-true _ _ e)))
      go l false e =
          let n : l ≢ k = λ z. let y : P.blocks ≤ l = ltb-false _ _ e in omega arith in
          sym (upd_other (seen P t m) k (upd (seen P t m k) i x) l n ∙ rw e)

  module _ {cp : ℕ → ℕ} {r : Attempt} (R : Own P cp r) {rest : List Op} where
    -- A step that changes nothing but what is still to do.
    own-passed :
        Shape P rest r.listed r.wrote → r.used + new_copies P rest r.wrote ≤ P.copies
        → Own P cp (passed rest r)
    own-passed sh room =
        record {
          shape = sh;
          wrote-listed = R.wrote-listed;
          mine = R.mine;
          room = room;
          order_is = R.order_is;
          distinct = R.distinct;
          in_blocks = R.in_blocks;
          in-stock = R.in-stock;
        }

    -- The check, passed.
    pub own-check : r.todo ≡ check ∷ rest → Own P cp (passed rest r)
    own-check e = own-passed (rw e at R.shape) (rw e at R.room)

  module _ {cp : ℕ → ℕ} {r : Attempt} (R : Own P cp r) {k : ℕ} {rest : List Op} where
    -- Listing a block that is listed.
    pub own-listed : r.todo ≡ list k ∷ rest → r.listed k ≡ true → Own P cp (passed rest r)
    own-listed e l =
        own-passed R (rw (upd-id r.listed k true l) at (rw e at R.shape).1) (rw e at R.room)

    -- Listing a block with a block number.
    pub own-list :
        (b : ℕ) → r.todo ≡ list k ∷ rest → r.listed k ≡ false → b < stock P → Own P cp (lists rest k b r)
    own-list b e f hb =
        record {
          shape = sh.1;
          wrote-listed = λ l w. upd-elim (λ c. c ≡ true) r.listed k true l (λ _. refl) (λ _. R.wrote-listed l w);
          mine = mine;
          room = rw e at R.room;
          order_is = order_is;
          distinct = nodup-last r.order k R.distinct (R.order_is k ∙ f);
          in_blocks =
              λ l.
              upd-elim (λ c. c ≡ true → l < P.blocks) r.listed k true l (λ z _. rw z sh.0) (λ _. R.in_blocks l);
          in-stock = in-stock;
        }
      where
        sh : Shape P (list k ∷ rest) r.listed r.wrote
        sh = rw e at R.shape

        -- a written block is listed, so it is another one
        mine : (l : ℕ) → r.wrote l ≡ true → (i : ℕ) × (i < r.used) × (upd r.curr k b l ≡ cp i)
        mine l w =
            let m = R.mine l w in
            let n : l ≢ k = λ z. true≢false (sym (rw z at (R.wrote-listed l w)) ∙ f) in
            (m.0, m.1, upd_other r.curr k b l n ∙ m.2)

        -- the listed blocks have one more at the end
        order_is : (l : ℕ) → is_in l (r.order ++ (k ∷ [])) ≡ upd r.listed k true l
        order_is l = go (ℕ_discrete l k)
          where
            go : Dec (l ≡ k) → is_in l (r.order ++ (k ∷ [])) ≡ upd r.listed k true l
            go (yes z) = rw (z, upd_same r.listed k true) (is_in-last r.order k)
            go (no n) = is_in-before r.order k l n ∙ R.order_is l ∙ sym (upd_other r.listed k true l n)

        -- the number noted is a block number
        in-stock : (l : ℕ) → upd r.listed k true l ≡ true → upd r.curr k b l < stock P
        in-stock l a =
            upd-elim (λ c. c < stock P) r.curr k b l (λ _. hb)
            (λ n. R.in-stock l (sym (upd_other r.listed k true l n) ∙ a))

    -- Taking a word.
    pub own-take : (i x : ℕ) → r.todo ≡ take k i ∷ rest → Own P cp (took rest x r)
    own-take i x e =
        record {
          shape = (rw e at R.shape).2;
          wrote-listed = R.wrote-listed;
          mine = R.mine;
          room = rw e at R.room;
          order_is = R.order_is;
          distinct = R.distinct;
          in_blocks = R.in_blocks;
          in-stock = R.in-stock;
        }

    -- Copying a block that was written before: nothing is copied.
    pub own-copied : r.todo ≡ Op.copy k ∷ rest → r.wrote k ≡ true → Own P cp (passed rest r)
    own-copied e w =
        own-passed R (rw (upd-id r.wrote k true w) at (rw e at R.shape).2)
        (let z : r.used + (0 + new_copies P rest r.wrote) ≤ P.copies =
        rw (w, upd-id r.wrote k true w) at (rw e at R.room) in
        omega arith)

    -- A first write has room, and leaves room for those to come.
    copy-room :
        r.todo ≡ Op.copy k ∷ rest → r.wrote k ≡ false
        → r.used + (1 + new_copies P rest (upd r.wrote k true)) ≤ P.copies
    copy-room e w = rw w at (rw e at R.room)

    -- At a first write a copy block is unused.
    pub copy-lt : r.todo ≡ Op.copy k ∷ rest → r.wrote k ≡ false → r.used < P.copies
    copy-lt e w = let z = copy-room e w in omega arith

    -- Copying a block on its first write, into the next copy block.
    pub own-copy :
        r.todo ≡ Op.copy k ∷ rest → r.wrote k ≡ false → cp r.used < stock P
        → Own P cp (copies rest k (cp r.used) r)
    own-copy e w hb =
        record {
          shape = sh.2;
          wrote-listed =
              λ l.
              upd-elim (λ c. c ≡ true → r.listed l ≡ true) r.wrote k true l (λ z _. rw z sh.1)
              (λ _. R.wrote-listed l);
          mine = mine;
          room = let z = copy-room e w in omega arith;
          order_is = R.order_is;
          distinct = R.distinct;
          in_blocks = R.in_blocks;
          in-stock = λ l a. upd-elim (λ c. c < stock P) r.curr k b l (λ _. hb) (λ _. R.in-stock l a);
        }
      where
        sh : Shape P (Op.copy k ∷ rest) r.listed r.wrote
        sh = rw e at R.shape

        -- the next copy block
        b : ℕ
        b = cp r.used

        -- the block copied has the number of the copy block used last
        mine : (l : ℕ) → upd r.wrote k true l ≡ true → (i : ℕ) × (i < r.used + 1) × (upd r.curr k b l ≡ cp i)
        mine l =
            upd-elim (λ c. c ≡ true → (i : ℕ) × (i < r.used + 1) × (upd r.curr k b l ≡ cp i)) r.wrote k true l
            (λ z _. (r.used, omega arith, upd-at r.curr k b l z))
            (λ n w.
            let m = R.mine l w in
            let h = m.1 in
            (m.0, omega arith, upd_other r.curr k b l n ∙ m.2))

    -- Writing a word.
    pub own-write : (i : ℕ) (m : Move) → r.todo ≡ put_word k i m ∷ rest → Own P cp (passed rest r)
    own-write i m e = own-passed R (rw e at R.shape).3 (rw e at R.room)

    -- The block that is written to is one of the run's own copy blocks.
    pub written-own :
        (i : ℕ) (m : Move) → r.todo ≡ put_word k i m ∷ rest → (j : ℕ) × (j < P.copies) × (r.curr k ≡ cp j)
    written-own i m e =
        let sh : Shape P (put_word k i m ∷ rest) r.listed r.wrote = rw e at R.shape in
        let own = R.mine k sh.2 in
        (own.0, omega (arith, own.1, R.room), own.2)

  -- A run at its start: all of os is still to do, and nothing is listed, written or used. The word last taken is
  -- whatever the job took last, in an earlier run.
  pub record Begun (os : List Op) (r : Attempt) : Type 0 where
    pub todo-is : r.todo ≡ os
    pub none-listed : r.listed ≡ (λ _. false)
    pub none_written : r.wrote ≡ (λ _. false)
    pub no-order : r.order ≡ []
    pub none-used : r.used ≡ 0
    -- os can be done, and the copy blocks are enough for it
    pub can-do : Shape P os (λ _. false) (λ _. false)
    pub enough : new_copies P os (λ _. false) ≤ P.copies

  module _ {os : List Op} {r : Attempt} (begun : Begun os r) where
    -- At the start nothing is listed.
    not_listed : (k : ℕ) → r.listed k ≡ false
    not_listed k = ap (λ f. f k) begun.none-listed

    -- At the start nothing is written.
    not_written : (k : ℕ) → r.wrote k ≡ false
    not_written k = ap (λ f. f k) begun.none_written

    -- The start of a run.
    pub own-begun : (cp : ℕ → ℕ) → Own P cp r
    own-begun cp =
        record {
          shape = rw (begun.todo-is, begun.none-listed, begun.none_written) begun.can-do;
          wrote-listed = λ k h. absurd (true≢false (sym h ∙ not_written k));
          mine = λ k h. absurd (true≢false (sym h ∙ not_written k));
          room = rw (begun.todo-is, begun.none_written, begun.none-used) (omega (arith, begun.enough));
          order_is = λ k. rw begun.no-order (sym (not_listed k));
          distinct = rw begun.no-order nil;
          in_blocks = λ k h. absurd (true≢false (sym h ∙ not_listed k));
          in-stock = λ k h. absurd (true≢false (sym h ∙ not_listed k));
        }

    -- The start of a run while nothing is decided, where the update does not depend on the word taken before it.
    pub live-begun :
        (mem : Blocks) (bank : ℕ → ℕ) (blk : Blocks) (cp : ℕ → ℕ) → mem ≡ seen P bank blk
        → exec os (seen P bank blk) r.word ≡ exec os (seen P bank blk) 0 → Live P os mem bank blk cp r
    live-begun mem bank blk cp calm any_word =
        record {
          own = own-begun cp;
          ahead = rw (begun.todo-is, view, calm) any_word;
          read = λ k h. absurd (true≢false (sym h ∙ not_listed k));
          one = λ k l h. absurd (true≢false (sym h ∙ not_written k));
          count = rw (begun.no-order, begun.none-used);
        }
      where
        -- what the run sees is what is seen through the bank
        view : seen P (current bank r) blk ≡ seen P bank blk
        view = seen-ext (current bank r) bank blk blk (λ k _. rw (not_listed k))

  -- A live run sees a block that it has not written through the bank's number, and a block that it has written through
  -- a copy block of its own.
  pub through :
      {ops : List Op} {mem : Blocks} {bank : ℕ → ℕ} {blk : Blocks} {cp : ℕ → ℕ} {r : Attempt}
      → Live P ops mem bank blk cp r → (k : ℕ) → Through bank cp r k
  through {bank} {cp} {r} R k = go (r.listed k) refl (r.wrote k) refl
    where
      go : (a : Bool) → r.listed k ≡ a → (b : Bool) → r.wrote k ≡ b → Through bank cp r k
      go false e false f = by-bank f (rw e)
      go false e true f = absurd (true≢false (sym (R.own.wrote-listed k f) ∙ e))
      go true e false f = by-bank f (rw e (R.read k e f))
      go true e true f = let m = R.own.mine k f in by_copy f m.0 m.1 (rw e m.2)

  module _
      {ops : List Op} {mem : Blocks} {bank : ℕ → ℕ} {blk : Blocks} {copy : ℕ → ℕ → ℕ} (St : Stock P bank copy) (x : ℕ)
      {r : Attempt} (R : Live P ops mem bank blk (copy x) r) where
    module _ (z : ℕ) (x≢z : x ≢ z) (j : ℕ) (hj : j < P.copies) (y : ℕ → ℕ) where
      -- No block is seen through a copy block of another job z.
      other-unseen : (k : ℕ) → k < P.blocks → current bank r k ≢ copy z j
      other-unseen k hk e = go (through R k)
        where
          go : Through bank (copy x) r k → ⊥
          go (by-bank w b) = St.bank_copy k z j hk hj (sym b ∙ e)
          go (by_copy w i l c) =
              let rm = R.own.room in x≢z (St.copy_copy x z i j (omega arith) hj (sym c ∙ e)).0

      -- Another job stores to one of its copy blocks.
      pub live-other : Live P ops mem bank (upd blk (copy z j) y) (copy x) r
      live-other =
          record {
            own = R.own;
            ahead = rw view R.ahead;
            read = R.read;
            one = R.one;
            count = R.count;
          }
        where
          -- the run sees what it saw
          view : seen P (current bank r) (upd blk (copy z j) y) ≡ seen P (current bank r) blk
          view =
              seen-ext (current bank r) (current bank r) (upd blk (copy z j) y) blk
              (λ k hk. upd_other blk (copy z j) y (current bank r k) (other-unseen k hk))

    module _ {rest : List Op} where
      -- A step that changes nothing but what is still to do, and nothing that comes of it.
      pub live-passed :
          Own P (copy x) (passed rest r)
          → exec r.todo (seen P (current bank r) blk) r.word ≡ exec rest (seen P (current bank r) blk) r.word
          → Live P ops mem bank blk (copy x) (passed rest r)
      live-passed o e =
          record {
            own = o;
            ahead = sym e ∙ R.ahead;
            read = R.read;
            one = R.one;
            count = R.count;
          }

    module _ {k : ℕ} {rest : List Op} where
      -- Taking a word.
      pub live-take :
          (i : ℕ) → r.todo ≡ take k i ∷ rest
          → Live P ops mem bank blk (copy x) (took rest (blk (current bank r k) i) r)
      unfolding exec
      live-take i e =
          record {
            own = own-take R.own i _ e;
            ahead =
                ap (λ f. exec rest (seen P (current bank r) blk) (f i)) (sym (seen-in (current bank r) blk k sh.0))
                ∙ rw e at R.ahead;
            read = R.read;
            one = R.one;
            count = R.count;
          }
        where
          sh : Shape P (take k i ∷ rest) r.listed r.wrote
          sh = rw e at R.own.shape

      -- Listing a block with the bank's number.
      pub live-list :
          r.todo ≡ list k ∷ rest → r.listed k ≡ false
          → Live P ops mem bank blk (copy x) (lists rest k (bank k) r)
      unfolding exec
      live-list e f =
          record {
            own = own-list R.own (bank k) e f (St.bank_in k sh.0);
            ahead =
                ap (λ m. exec rest m r.word) (seen-ext _ (current bank r) blk blk (λ l _. ap blk (view l)))
                ∙ rw e at R.ahead;
            read = read;
            one =
                λ l m a b.
                simp (upd_other r.curr k (bank k) l (not-k l a), upd_other r.curr k (bank k) m (not-k m b))
                (R.one l m a b);
            count = ap length (select-last r.wrote r.order k not-wrote) ∙ R.count;
          }
        where
          sh : Shape P (list k ∷ rest) r.listed r.wrote
          sh = rw e at R.own.shape

          -- a written block is listed, so it is another one
          not-k : (l : ℕ) → r.wrote l ≡ true → l ≢ k
          not-k l w z = true≢false (sym (rw z at (R.own.wrote-listed l w)) ∙ f)

          -- the block has not been written
          not-wrote : r.wrote k ≡ false
          not-wrote = go (r.wrote k) refl
            where
              go : (b : Bool) → r.wrote k ≡ b → r.wrote k ≡ false
              go true w = absurd (not-k k w refl)
              go false w = w

          -- the number seen through is the same
          view : (l : ℕ)
              → cond (upd r.listed k true l) (upd r.curr k (bank k) l) (bank l) ≡ current bank r l
          view l = go (ℕ_discrete l k)
            where
              go : Dec (l ≡ k)
                  → cond (upd r.listed k true l) (upd r.curr k (bank k) l) (bank l) ≡ current bank r l
              go (yes z) = rw (z, upd_same r.listed k true, upd_same r.curr k (bank k), f)
              go (no n) = rw (upd_other r.listed k true l n, upd_other r.curr k (bank k) l n)

          -- the number noted is the bank's
          read : (l : ℕ) → upd r.listed k true l ≡ true → r.wrote l ≡ false → upd r.curr k (bank k) l ≡ bank l
          read l a w =
              upd-elim (λ c. c ≡ bank l) r.curr k (bank k) l (λ z. rw z)
              (λ n. R.read l (rw (upd_other r.listed k true l n) at a) w)

      -- Copying a block on its first write.
      pub live-copy :
          r.todo ≡ Op.copy k ∷ rest → r.wrote k ≡ false → copy x r.used < stock P
          → Live P ops mem bank (upd blk (copy x r.used) (blk (r.curr k))) (copy x)
          (copies rest k (copy x r.used) r)
      unfolding exec
      live-copy e f hb =
          record {
            own = own-copy R.own e f hb;
            ahead = ap (λ m. exec rest m r.word) (seen-ext _ (current bank r) _ blk view) ∙ rw e at R.ahead;
            read = read;
            one = one;
            count =
                select-more r.wrote r.order k (R.own.order_is k ∙ sh.1) f R.own.distinct
                ∙ ap suc R.count ∙ omega arith;
          }
        where
          -- a copy block is unused
          lt : r.used < P.copies
          lt = copy-lt R.own e f

          -- its number
          b : ℕ
          b = copy x r.used

          sh : Shape P (Op.copy k ∷ rest) r.listed r.wrote
          sh = rw e at R.own.shape

          -- a copy block used so far is another one
          used-other : (i : ℕ) → i < r.used → copy x i ≢ b
          used-other i h z =
              let q = (St.copy_copy x x i r.used (omega (arith, lt)) lt z).1 in omega arith

          -- no block is seen through it so far
          fresh : (l : ℕ) → l < P.blocks → current bank r l ≢ b
          fresh l hl z = go (through R l)
            where
              go : Through bank (copy x) r l → ⊥
              go (by-bank w q) = St.bank_copy l x r.used hl lt (sym q ∙ z)
              go (by_copy w i h c) = used-other i h (sym c ∙ z)

          -- each block's content is as before
          view : (l : ℕ) → l < P.blocks
              → upd blk b (blk (r.curr k)) (cond (r.listed l) (upd r.curr k b l) (bank l)) ≡ blk (current bank r l)
          view l hl = go (ℕ_discrete l k)
            where
              go : Dec (l ≡ k)
                  → upd blk b (blk (r.curr k)) (cond (r.listed l) (upd r.curr k b l) (bank l))
                  ≡ blk (current bank r l)
              go (yes z) = rw (z, sh.1, upd_same r.curr k b) (upd_same blk b (blk (r.curr k)))
              go (no n) =
                  rw (upd_other r.curr k b l n)
                  (upd_other blk b (blk (r.curr k)) (current bank r l) (fresh l hl))

          -- a block not written is another one
          read : (l : ℕ) → r.listed l ≡ true → upd r.wrote k true l ≡ false → upd r.curr k b l ≡ bank l
          read l a =
              upd-elim (λ w. w ≡ false → upd r.curr k b l ≡ bank l) r.wrote k true l
              (λ _ w. absurd (true≢false w))
              (λ n w. upd_other r.curr k b l n ∙ R.read l a w)

          -- a block written before has another number
          not_new : (l : ℕ) → r.wrote l ≡ true → r.curr l ≢ b
          not_new l w z = let m = R.own.mine l w in used-other m.0 m.1 (sym m.2 ∙ z)

          -- two written blocks have two numbers
          one : (l m : ℕ) → upd r.wrote k true l ≡ true → upd r.wrote k true m ≡ true
              → upd r.curr k b l ≡ upd r.curr k b m → l ≡ m
          one l m wl wm c = go (ℕ_discrete l k) (ℕ_discrete m k)
            where
              -- written before
              before : (n : ℕ) → n ≢ k → upd r.wrote k true n ≡ true → r.wrote n ≡ true
              before n h w = sym (upd_other r.wrote k true n h) ∙ w

              go : Dec (l ≡ k) → Dec (m ≡ k) → l ≡ m
              go (yes p) (yes q) = p ∙ sym q
              go (yes p) (no q) =
                  absurd
                  (not_new m (before m q wm) (sym (upd_other r.curr k b m q) ∙ sym c ∙ upd-at r.curr k b l p))
              go (no p) (yes q) =
                  absurd (not_new l (before l p wl) (sym (upd_other r.curr k b l p) ∙ c ∙ upd-at r.curr k b m q))
              go (no p) (no q) =
                  R.one l m (before l p wl) (before m q wm)
                  (sym (upd_other r.curr k b l p) ∙ c ∙ upd_other r.curr k b m q)

      -- Writing a word.
      pub live-write :
          (i : ℕ) (m : Move) → r.todo ≡ put_word k i m ∷ rest
          → Live P ops mem bank (put blk (r.curr k) i (word_written m r.word)) (copy x) (passed rest r)
      unfolding exec
      live-write i m e =
          record {
            own = own-write R.own i m e;
            ahead =
                ap (λ b. exec rest b r.word)
                (rw (← here) at (seen-put (current bank r) blk k i (word_written m r.word) sh.0 alone))
                ∙ rw e at R.ahead;
            read = R.read;
            one = R.one;
            count = R.count;
          }
        where
          sh : Shape P (put_word k i m ∷ rest) r.listed r.wrote
          sh = rw e at R.own.shape

          -- the block is listed, so it is seen through this number
          here : r.curr k ≡ current bank r k
          here = rw sh.1

          -- no other block is seen through the number written to
          alone : (l : ℕ) → l < P.blocks → current bank r l ≡ current bank r k → l ≡ k
          alone l hl z = go (through R l)
            where
              -- the number written to is the run's own
              own : (j : ℕ) × (j < P.copies) × (r.curr k ≡ copy x j)
              own = written-own R.own i m e

              go : Through bank (copy x) r l → l ≡ k
              go (by-bank w q) = absurd (St.bank_copy l x own.0 hl own.1 (sym q ∙ z ∙ sym here ∙ own.2))
              go (by_copy w j h c) =
                  let t : r.curr l ≡ current bank r l = rw (R.own.wrote-listed l w) in
                  R.one l k w sh.2 (t ∙ z ∙ sym here)
