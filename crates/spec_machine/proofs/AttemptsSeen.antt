-- How the changes that the stages of a move make to a working record and to the job's row show as small steps of the
-- run that is read off them. Assumes nothing.
--
-- In plain words. What a job has ahead of it is the rest of the read or write that it is at, then the later reads and
-- writes of the move, then the later moves. A stage takes the first small step off. Behind the last stage of a read or
-- write stands what is ahead at the next one's check: the next of the same move, or the first of the next move, which
-- has one; behind the last of the last move stands nothing. A mark set in the record is the block listed or written in
-- the run, and an address put in the row behind the others is the block put behind the others in the listing order. The
-- old numbers of the written blocks, picked from the row line by line, are the bank's numbers of the written blocks in
-- listing order.
use Prim.Native.Nat.{ℕ, zero, suc, ◌+◌, ◌/◌, ◌%◌, ◌≤◌, ◌<◌}
use mathlib.Core.Path.{◌≡◌, refl, sym, ◌∙◌, ap, fun_ext}
use mathlib.Core.Bool.{Bool, false, cond, not}
use mathlib.Core.List.{List, [], ◌∷◌, ◌++◌, map, map-append, append_assoc}
use native.Mathlib.Omega.{arith}
use native.Mathlib.Numerals.{add-one}
use lib.Dec.{eqb}
use lib.ListN.{length, get_or, set, drop, length-set, drop_of_length-le, length-map}
use lib.Seq.{drop-cons}
use borrow.Author.Tests.{ltb-true, ltb-false}
use Rattle.spec_text.proofs.Cases.{by-test}
use Rattle.spec_text.specs.FirstPlaces.{in_first_places}
use Rattle.spec_format.specs.declared.Move.{Move}
use Rattle.spec_format.specs.Plan.{Plan, tabulate}
use Rattle.spec_format.proofs.Tabulated.{tabulate-more}
use Rattle.spec_machine.specs.declared.Stage.{Stage}
use Rattle.spec_machine.specs.declared.Place.{Place}
use Rattle.spec_machine.specs.declared.Working.{Working}
use Rattle.spec_machine.specs.Selected.{select}
use Rattle.spec_machine.specs.Moves.{
  Access,
  read,
  write,
  accesses,
  word_of,
  after_list,
  begin,
  moves,
  move,
  access,
  block,
  offset,
  onward,
}
use Rattle.spec_machine.specs.Working.{goto, taking, with_access, listing, copying, cleared}
use Rattle.spec_machine.specs.Steps.{replaced}
use Rattle.spec_machine.proofs.ChangedAt.{upd, upd_same, upd_other, upd-id, upd-ap}
use Rattle.spec_machine.proofs.ListsByPlace.{get_d_set, get_d-all, first-places-at}
use Rattle.spec_machine.proofs.Sizes.{Roomy}
use Rattle.spec_machine.proofs.SmallSteps.{
  Op,
  of_stage,
  of_accesses,
  of_moves,
  ahead,
  attempt,
  copy_of,
  Layout,
  layout,
}
use Rattle.spec_machine.proofs.Attempts.{lists, copies, Shape, new_copies}
use Rattle.spec_machine.proofs.AttemptSteps.{Begun}
use Rattle.spec_machine.specs.Ranges.{StageOf, MoveInside}
use Rattle.spec_machine.proofs.Contents.{Clear}
use Rattle.spec_machine.proofs.Tests.{shut-test, test}

-- What is left to do behind the read or write that a job is at.
unfoldable pub rest : Plan → Working → List Op
rest plan w =
    of_accesses plan.sizes.words (move plan w) (drop (w.access + 1) (accesses (move plan w)))
    ++ of_moves plan.sizes.words (drop (w.index + 1) (moves plan w))

-- The stage after the list stage fits.
pub after_list_lem : (a : Access) → StageOf (after_list a) a
after_list_lem (read a) = tt
after_list_lem (write d) = tt

-- Where the copy stage fits, the write stage does.
pub after-copy : (a : Access) → StageOf Stage.Copy a → StageOf Stage.Write a
after-copy (read a) h = h
after-copy (write d) h = h

-- The check, at a read or a write.
check-first : (s : ℕ) (m : Move) (a : Access) → of_stage s m Stage.Check a ≡ Op.check ∷ of_stage s m Stage.List a
check-first s m (read a) = refl
check-first s m (write d) = refl

-- The list stage, at a read or a write.
list-first :
    (s : ℕ) (m : Move) (a : Access)
    → of_stage s m Stage.List a ≡ Op.list (word_of a / s) ∷ of_stage s m (after_list a) a
list-first s m (read a) = refl
list-first s m (write d) = refl

-- The copy stage, at a write.
copy-first :
    (s : ℕ) (m : Move) (a : Access) → StageOf Stage.Copy a
    → of_stage s m Stage.Copy a ≡ Op.copy (word_of a / s) ∷ of_stage s m Stage.Write a
copy-first s m (read a) h = absurd h
copy-first s m (write d) h = refl

-- The take stage, at a read.
take-first :
    (s : ℕ) (m : Move) (a : Access) → StageOf Stage.Take a
    → of_stage s m Stage.Take a ≡ Op.take (word_of a / s) (word_of a % s) ∷ []
take-first s m (read a) h = refl
take-first s m (write d) h = absurd h

-- The write stage, at a write.
write-first :
    (s : ℕ) (m : Move) (a : Access) → StageOf Stage.Write a
    → of_stage s m Stage.Write a ≡ Op.put_word (word_of a / s) (word_of a % s) m ∷ []
write-first s m (read a) h = absurd h
write-first s m (write d) h = refl

-- The small steps of reads and writes from one on that is there.
accesses-from :
    (s : ℕ) (m : Move) (all : List Access) (i : ℕ) (more : List Op) → i < length all
    → of_stage s m Stage.Check (get_or all i (read 0)) ++ (of_accesses s m (drop (i + 1) all) ++ more)
    ≡ of_accesses s m (drop i all) ++ more
unfolding of_accesses
accesses-from s m all i more h =
    rw (drop-cons all i (read 0) h, add-one i)
    (sym (append_assoc (of_stage s m Stage.Check (get_or all i (read 0))) (of_accesses s m (drop (suc i) all)) more))

-- A move has a read or a write.
has_access : (m : Move) → 0 < length (accesses m)
has_access (Move.Copy d a) = omega arith
has_access (Move.Set d k) = omega arith
has_access (Move.Add d a k) = omega arith

-- The small steps of moves from one on that is there: from its first read or write on, then the later moves.
moves_from :
    (s : ℕ) (ms : List Move) (i : ℕ) (m : Move) → i < length ms → get_or ms i (Move.Copy 0 0) ≡ m
    → of_stage s m Stage.Check (get_or (accesses m) 0 (read 0))
    ++ (of_accesses s m (drop 1 (accesses m)) ++ of_moves s (drop (i + 1) ms))
    ≡ of_moves s (drop i ms)
unfolding of_moves
moves_from s ms i m h e =
    accesses-from s m (accesses m) 0 (of_moves s (drop (i + 1) ms)) (has_access m)
    ∙ rw (drop-cons ms i (Move.Copy 0 0) h, e, add-one i)

module _ (plan : Plan) (w : Working) where
  -- At the check: the check, then what is ahead at the list stage.
  pub ahead-check : ahead plan Stage.Check w ≡ Op.check ∷ ahead plan Stage.List w
  unfolding ahead rest
  ahead-check = ap (λ os. os ++ rest plan w) (check-first plan.sizes.words (move plan w) (access plan w))

  -- At the list stage: listing the block, then what is ahead at the stage after.
  pub ahead-list : ahead plan Stage.List w ≡ Op.list (block plan w) ∷ ahead plan (after_list (access plan w)) w
  unfolding ahead rest
  ahead-list = ap (λ os. os ++ rest plan w) (list-first plan.sizes.words (move plan w) (access plan w))

  -- At the copy stage: copying the block, then what is ahead at the write stage.
  pub ahead-copy :
      StageOf Stage.Copy (access plan w) → ahead plan Stage.Copy w ≡ Op.copy (block plan w) ∷ ahead plan Stage.Write w
  unfolding ahead rest
  ahead-copy h = ap (λ os. os ++ rest plan w) (copy-first plan.sizes.words (move plan w) (access plan w) h)

  -- At the take stage: taking the word, then the rest.
  pub ahead-take :
      StageOf Stage.Take (access plan w)
      → ahead plan Stage.Take w ≡ Op.take (block plan w) (offset plan w) ∷ rest plan w
  unfolding ahead rest
  ahead-take h = ap (λ os. os ++ rest plan w) (take-first plan.sizes.words (move plan w) (access plan w) h)

  -- At the write stage: writing what the move writes, then the rest.
  pub ahead-write :
      StageOf Stage.Write (access plan w)
      → ahead plan Stage.Write w ≡ Op.put_word (block plan w) (offset plan w) (move plan w) ∷ rest plan w
  unfolding ahead rest
  ahead-write h = ap (λ os. os ++ rest plan w) (write-first plan.sizes.words (move plan w) (access plan w) h)

-- Two records that are at one read or write of one update.
module _
    (plan : Plan) (w x : Working) (same_update : x.tr ≡ w.tr) (same_index : x.index ≡ w.index)
    (same-access : x.access ≡ w.access) where
  -- What is ahead of them is the same.
  pub ahead-same : (st : Stage) → ahead plan st x ≡ ahead plan st w
  unfolding ahead
  ahead-same st = λ i. ahead plan st (with_access (same_index i) (same-access i) (taking (same_update i) w))

  -- The rest is the same.
  pub rest-same : rest plan x ≡ rest plan w
  unfolding rest
  rest-same = λ i. rest plan (with_access (same_index i) (same-access i) (taking (same_update i) w))

  -- If one is inside a move, the other is, at any stage that fits.
  pub inside-same : (st next : Stage) → MoveInside plan st w → StageOf next (access plan w) → MoveInside plan next x
  inside-same st next I h =
      record {
        in_moves = rw (same_update, same_index) I.in_moves;
        in_move = rw (same_update, same_index, same-access) I.in_move;
        stage_of = rw (same_update, same_index, same-access) h;
      }

-- Behind the last read or write of a move stand the later moves.
rest-moves :
    (plan : Plan) (w : Working) → length (accesses (move plan w)) ≤ w.access + 1
    → rest plan w ≡ of_moves plan.sizes.words (drop (w.index + 1) (moves plan w))
unfolding rest of_accesses
rest-moves plan w h = rw (drop_of_length-le (accesses (move plan w)) {i = w.access + 1} h)

-- Behind the last read or write of the last move stands nothing.
rest-nothing :
    (plan : Plan) (w : Working) → length (accesses (move plan w)) ≤ w.access + 1
    → length (moves plan w) ≤ w.index + 1 → rest plan w ≡ []
unfolding of_moves
rest-nothing plan w h l = rest-moves plan w h ∙ rw (drop_of_length-le (moves plan w) {i = w.index + 1} l)

-- After a read or a write: at the check of the next one, with the rest ahead, or at H22, with nothing left.
pub onward-rest :
    (Q : Working → Type 0) (plan : Plan) (w : Working) → w.index < length (moves plan w)
    → w.access < length (accesses (move plan w))
    → ((m a : ℕ) → MoveInside plan Stage.Check (goto (Place.Move Stage.Check) (with_access m a w))
    → ahead plan Stage.Check (goto (Place.Move Stage.Check) (with_access m a w)) ≡ rest plan w
    → Q (goto (Place.Move Stage.Check) (with_access m a w)))
    → ((m a : ℕ) → rest plan w ≡ [] → Q (goto Place.H22 (with_access m a w))) → Q (onward plan w)
unfolding ahead rest
onward-rest Q plan w hm _ f g =
    rw shut-test (test Q _ _ _ (λ t. same_move (ltb-true _ _ t))
    (λ t.
    rw shut-test (test (λ a. Q (goto a (with_access (w.index + 1) 0 w))) _ _ _
    (λ u. next-move (ltb-false _ _ t) (ltb-true _ _ u))
    (λ u. g (w.index + 1) 0 (rest-nothing plan w (ltb-false _ _ t) (ltb-false _ _ u))))))
  where
    same_move : w.access + 1 < length (accesses (move plan w))
        → Q (goto (Place.Move Stage.Check) (with_access w.index (w.access + 1) w))
    same_move h =
        f w.index (w.access + 1) (record { in_moves = hm; in_move = h; stage_of = tt })
        (accesses-from plan.sizes.words (move plan w) (accesses (move plan w)) (w.access + 1)
        (of_moves plan.sizes.words (drop (w.index + 1) (moves plan w)))
        h)

    next-move : length (accesses (move plan w)) ≤ w.access + 1 → w.index + 1 < length (moves plan w)
        → Q (goto (Place.Move Stage.Check) (with_access (w.index + 1) 0 w))
    next-move h l =
        f (w.index + 1) 0
        (record {
          in_moves = l;
          in_move = has_access (get_or (moves plan w) (w.index + 1) (Move.Copy 0 0));
          stage_of = tt;
        })
        (moves_from plan.sizes.words (moves plan w) (w.index + 1) _ l refl ∙ sym (rest-moves plan w h))

-- The start of moves, by whether there are any.
begin-cases :
    (Q : Place → Type 0) (ms : List Move) → (0 < length ms → Q (Place.Move Stage.Check)) → (ms ≡ [] → Q Place.H22)
    → Q (begin ms)
begin-cases Q [] f g = g refl
begin-cases Q (m ∷ ms) f g = f (omega arith)

-- After H21: at the check of the first read or write, with the whole update ahead, or at H22, with nothing to do.
pub begin-ahead :
    (Q : Place → Type 0) (plan : Plan) (u : ℕ) (w : Working)
    → (MoveInside plan Stage.Check (goto (Place.Move Stage.Check) (taking u w))
    → ahead plan Stage.Check (goto (Place.Move Stage.Check) (taking u w)) ≡ (layout plan).ops u
    → Q (Place.Move Stage.Check))
    → ((layout plan).ops u ≡ [] → Q Place.H22) → Q (begin (get_or plan.updates u []))
unfolding ahead of_moves
begin-ahead Q plan u w f g =
    begin-cases Q (get_or plan.updates u [])
    (λ h.
    f
    (record {
      in_moves = h;
      in_move = has_access (get_or (get_or plan.updates u []) 0 (Move.Copy 0 0));
      stage_of = tt;
    })
    (moves_from plan.sizes.words (get_or plan.updates u []) 0 _ h refl))
    (λ e. g (ap (of_moves plan.sizes.words) e))

-- A list with an element stored, read through a function, is the function of its elements, changed at that place.
seen-set :
    {A : Type 0} (g : ℕ → A) (l : List ℕ) (k x : ℕ) → k < length l
    → ◌≡◌ {A = ℕ → A} (λ b. g (get_or (set l k x) b 0)) (upd (λ b. g (get_or l b 0)) k (g x))
seen-set {A} g l k x h =
    ap {B = ℕ → A} (λ (f : ℕ → ℕ) b. g (f b)) (get_d_set l k x 0 h) ∙ upd-ap g (λ b. get_or l b 0) k x

-- The same where the element has the value of the one before.
unseen-set :
    {A : Type 0} (g : ℕ → A) (l : List ℕ) (k x : ℕ) → k < length l → g (get_or l k 0) ≡ g x
    → ◌≡◌ {A = ℕ → A} (λ b. g (get_or (set l k x) b 0)) (λ b. g (get_or l b 0))
unseen-set g l k x h e = seen-set g l k x h ∙ upd-id (λ b. g (get_or l b 0)) k (g x) e

module _ (os before : List Op) (addr : ℕ → ℕ) (w : Working) where
  -- A block listed in the record and in the row is listed in the run.
  pub attempt-lists :
      (k b : ℕ) → Roomy w → k < 16 → get_or w.dirty k 0 ≡ 0
      → attempt os (upd addr w.numblks k) (listing k b w) ≡ lists os k b (attempt before addr w)
  attempt-lists k b R h e = λ i.
      record {
        todo = os;
        word = w.word;
        listed = seen-set (λ x. not (eqb x 0)) w.dirty k 1 (rw R.dirty h) i;
        wrote = unseen-set (λ x. eqb x 2) w.dirty k 1 (rw R.dirty h) (rw e) i;
        curr = seen-set (λ x. x) w.curr k b (rw R.curr h) i;
        order =
            tabulate-more w.numblks addr (upd addr w.numblks k) k
            (λ i h. sym (upd_other addr w.numblks k i (λ e. omega arith))) (upd_same addr w.numblks k) i;
        used = w.dirtycnt;
      }

  -- A listed block copied in the record is copied in the run.
  pub attempt-copies :
      (k b : ℕ) → Roomy w → k < 16 → eqb (get_or w.dirty k 0) 0 ≡ false
      → attempt os addr (copying k b w) ≡ copies os k b (attempt before addr w)
  attempt-copies k b R h e = λ i.
      record {
        todo = os;
        word = w.word;
        listed = unseen-set (λ x. not (eqb x 0)) w.dirty k 2 (rw R.dirty h) (rw e) i;
        wrote = seen-set (λ x. eqb x 2) w.dirty k 2 (rw R.dirty h) i;
        curr = seen-set (λ x. x) w.curr k b (rw R.curr h) i;
        order = tabulate w.numblks addr;
        used = w.dirtycnt + 1;
      }

-- With no block marked, the run of a job that takes an update is at its start.
pub attempt-begun :
    (P : Layout) (os : List Op) (addr : ℕ → ℕ) (u : ℕ) (w : Working) → Clear w → Shape P os (λ _. false) (λ _. false)
    → new_copies P os (λ _. false) ≤ P.copies → Begun P os (attempt os addr (taking u w))
attempt-begun P os addr u w c can enough =
    record {
      todo-is = refl;
      none-listed = fun_ext (λ b. ap (λ x. not (eqb x 0)) (c b));
      none_written = fun_ext (λ b. ap (λ x. eqb x 2) (c b));
      no-order = refl;
      none-used = refl;
      can-do = can;
      enough = enough;
    }

-- Where marks, numbers and the copy list are the same lists, the lengths are kept.
pub roomy-same :
    (w x : Working) → x.dirty ≡ w.dirty → x.curr ≡ w.curr → x.copy ≡ w.copy → Roomy w → Roomy x
roomy-same w x d c e R = record { dirty = rw d R.dirty; curr = rw c R.curr; copy = rw e R.copy }

-- Listing a block keeps the lengths.
pub roomy-listing : (k b : ℕ) (w : Working) → Roomy w → Roomy (listing k b w)
roomy-listing k b w R =
    record {
      dirty = length-set w.dirty k 1 ∙ R.dirty;
      curr = length-set w.curr k b ∙ R.curr;
      copy = R.copy;
    }

-- Copying a block keeps the lengths.
pub roomy-copying : (k b : ℕ) (w : Working) → Roomy w → Roomy (copying k b w)
roomy-copying k b w R =
    record {
      dirty = length-set w.dirty k 2 ∙ R.dirty;
      curr = length-set w.curr k b ∙ R.curr;
      copy = R.copy;
    }

-- Clearing the marks keeps the lengths.
pub roomy-cleared : (w : Working) → Roomy w → Roomy (cleared w)
roomy-cleared w R = record { dirty = refl; curr = R.curr; copy = R.copy }

-- When the marks are cleared, no block is marked.
pub clear-cleared : (w : Working) → Clear (cleared w)
clear-cleared w b = get_d-all 16 b 0

-- The elements of two lists in a row that pass a test.
select-append : {A : Type 0} (f : A → Bool) (xs ys : List A) → select f (xs ++ ys) ≡ select f xs ++ select f ys
select-append f [] ys = refl
select-append {A} f (x ∷ xs) ys =
    by-test (f x) (λ t. rw t (ap (λ (l : List A). x ∷ l) (select-append f xs ys))) (λ t. rw t (select-append f xs ys))

-- The replaced block numbers are the bank's numbers of the written blocks, in listing order.
replaced-is :
    (addr old bank : ℕ → ℕ) (dirty : List ℕ) (n : ℕ) → ((i : ℕ) → i < n → old i ≡ bank (addr i))
    → replaced addr old dirty n ≡ map bank (select (λ b. eqb (get_or dirty b 0) 2) (tabulate n addr))
replaced-is addr old bank dirty zero h = refl
replaced-is addr old bank dirty (suc n) h =
    ap (λ (l : List ℕ). l ++ cond (wrote (addr n)) (old n ∷ []) [])
    (replaced-is addr old bank dirty n (λ i l. h i (omega arith)))
    ∙ ap (λ (l : List ℕ). map bank (select wrote (tabulate n addr)) ++ l) last
    ∙ sym (map-append bank (select wrote (tabulate n addr)) (select wrote (addr n ∷ [])))
    ∙ ap (map bank) (sym (select-append wrote (tabulate n addr) (addr n ∷ [])))
  where
    wrote : ℕ → Bool
    wrote b = eqb (get_or dirty b 0) 2

    last : cond (wrote (addr n)) (old n ∷ []) [] ≡ map bank (select wrote (addr n ∷ []))
    last = by-test (wrote (addr n)) (λ t. rw t (ap (λ (x : ℕ). x ∷ []) (h n (omega arith)))) (λ t. rw t)

-- As many numbers are replaced as listed blocks are written.
pub length-replaced :
    (addr old : ℕ → ℕ) (bank : ℕ → ℕ) (w : Working) → ((i : ℕ) → i < w.numblks → old i ≡ bank (addr i))
    → length (replaced addr old w.dirty w.numblks)
    ≡ length (select (attempt [] addr w).wrote (attempt [] addr w).order)
length-replaced addr old bank w h =
    ap length (replaced-is addr old bank w.dirty w.numblks h)
    ∙ length-map (select (attempt [] addr w).wrote (attempt [] addr w).order) bank

-- The copy list of H25, where the row's old numbers are the bank's: in its first places the bank's numbers of the
-- written blocks, in listing order.
pub copy-reclaimed :
    (addr old : ℕ → ℕ) (bank : ℕ → ℕ) (w : Working) → ((i : ℕ) → i < w.numblks → old i ≡ bank (addr i)) → (i : ℕ)
    → get_or (in_first_places (replaced addr old w.dirty w.numblks) w.copy) i 0
    ≡ get_or (map bank (select (attempt [] addr w).wrote (attempt [] addr w).order)) i (copy_of w i)
copy-reclaimed addr old bank w h i =
    first-places-at (replaced addr old w.dirty w.numblks) w.copy i
    ∙ ap (λ (l : List ℕ). get_or l i (copy_of w i)) (replaced-is addr old bank w.dirty w.numblks h)
