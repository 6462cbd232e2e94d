-- A memory of words as blocks: an update's small steps, run whole on the blocks, do what its moves do to the words. And
-- what acceptance of a plan says of an update's small steps. Assumes a sound plan where a law names it.
--
-- Word w is word w mod S of block w div S. So a word written is one word changed of one block, and a word read is the
-- word of that block at that place. A move reads before it uses the word taken, so the word taken before an update says
-- nothing. Every word that a plan's moves name is below B times S, so its block is below B. A first write is one of a
-- block that is not among those written before, so there are as many as an update writes different blocks.
use Prim.Native.Nat.{ℕ, suc, ◌+◌, ◌*◌, ◌/◌, ◌%◌, ◌≤◌, ◌<◌}
use mathlib.Core.Path.{◌≡◌, refl, sym, ◌∙◌, fun_ext}
use mathlib.Core.Logic.{◌≢◌}
use mathlib.Core.Bool.{Bool, true, false, cond, ◌||◌, or-true, or-false, or_assoc}
use mathlib.Core.List.{List, [], ◌∷◌, ◌++◌}
use lib.Dec.{eqb, ltb, leb}
use lib.ListN.{length, get_or, set, length-set, length-append}
use lib.Seq.{get_or-set_same, get_or-set_other}
use native.Mathlib.Omega.{arith}
use native.Mathlib.Nat.{
  div-add-mod',
  mod-lt,
  mod-eq_of_lt,
  div-eq_of_lt,
  div-lt_iff_lt-mul,
  mul-add-div_right,
  mul-add-mod_self_right,
}
use borrow.Author.Tests.{ltb-true, lt-ltb, leb-false, eq-eqb, ne_eqb}
use Rattle.spec_text.proofs.Cases.{by-test, neither}
use Rattle.spec_format.specs.declared.Move.{Move}
use Rattle.spec_format.specs.Plan.{Plan, is_in, including, named, blocks_written, blocks_written_after, tabulate}
use Rattle.spec_format.specs.Faults.{some_from}
use Rattle.spec_format.proofs.Tabulated.{tabulate-same}
use Rattle.spec_format.specs.Sound.{Sound}
use Rattle.spec_machine.specs.declared.Stage.{Stage}
use Rattle.spec_machine.specs.Moves.{read, write}
use Rattle.spec_machine.specs.Memory.{sum, after_update}
use Rattle.spec_machine.specs.Machine.{block_in}
use Rattle.spec_machine.proofs.ChangedAt.{upd, upd_same, upd-elim}
use Rattle.spec_machine.proofs.SmallSteps.{Blocks, put, Op, exec, of_stage, of_accesses, of_moves, layout}
use Rattle.spec_machine.proofs.Attempts.{seen, Shape, new_copies}

-- A memory of words as blocks, cut off behind the last block and behind a block's last word.
unfoldable pub blocks_of : Plan → List ℕ → Blocks
blocks_of plan words k =
    cond (ltb k plan.sizes.blocks)
    (λ i. cond (ltb i plan.sizes.words) (get_or words (k * plan.sizes.words + i) 0) 0)
    (λ _. 0)

-- Blocks seen through a table of block numbers are a memory's, where the words up to each block's end are the memory's.
pub seen-blocks :
    (plan : Plan) (words : List ℕ) (t : ℕ → ℕ) (m : Blocks)
    → ((k i : ℕ) → k < plan.sizes.blocks
    → m (t k) i ≡ cond (ltb i plan.sizes.words) (get_or words (k * plan.sizes.words + i) 0) 0)
    → seen (layout plan) t m ≡ blocks_of plan words
unfolding seen blocks_of
seen-blocks plan words t m h =
    fun_ext
    (λ k.
    fun_ext
    (λ i. by-test (ltb k plan.sizes.blocks) (λ l. rw l (h k i (ltb-true k plan.sizes.blocks l))) (λ l. rw l)))

-- The words named by some moves are below n.
abbrev Named : ℕ → List Move → Type 0
Named n ms = (i : ℕ) → i < length ms → some_from n (named (get_or ms i (Move.Copy 0 0))) ≡ false

-- A word that is named alone is below n.
one_below : (n d : ℕ) → some_from n (d ∷ []) ≡ false → d < n
one_below n d e = leb-false n d (neither _ _ e).0

-- Both of two words named are below n.
two-below : (n d a : ℕ) → some_from n (d ∷ a ∷ []) ≡ false → (d < n) × (a < n)
two-below n d a e =
    let b = neither (leb n d) (some_from n (a ∷ [])) e in (leb-false n d b.0, one_below n a b.1)

-- The words named by the first move are below n.
first_below : (n : ℕ) (m : Move) (ms : List Move) → Named n (m ∷ ms) → some_from n (named m) ≡ false
first_below n m ms h = h 0 (omega arith)

-- So are those named by the others.
others_below : (n : ℕ) (m : Move) (ms : List Move) → Named n (m ∷ ms) → Named n ms
others_below n m ms h = λ i l. h (suc i) (omega arith)

-- An update keeps the number of words.
pub update-length : (words : List ℕ) (moves : List Move) → length (after_update words moves) ≡ length words
unfolding after_update
update-length words [] = refl
update-length words (Move.Copy d a ∷ ms) =
    update-length (set words d (get_or words a 0)) ms ∙ length-set words d (get_or words a 0)
update-length words (Move.Set d k ∷ ms) = update-length (set words d k) ms ∙ length-set words d k
update-length words (Move.Add d a k ∷ ms) =
    update-length (set words d (sum (get_or words a 0) k)) ms
    ∙ length-set words d (sum (get_or words a 0) k)

module _ (s : ℕ) where
  -- The word taken before them does not matter to the small steps of moves.
  free : (ms : List Move) (m : Blocks) (t t' : ℕ) → exec (of_moves s ms) m t ≡ exec (of_moves s ms) m t'
  unfolding exec of_moves of_accesses
  free [] m t t' = refl
  free (Move.Copy d a ∷ ms) m t t' = refl
  free (Move.Set d k ∷ ms) m t t' = free ms (put m (d / s) (d % s) k) t t'
  free (Move.Add d a k ∷ ms) m t t' = refl

module _ (plan : Plan) (ok : Sound plan) where
  -- A block has a word.
  positive : 0 < plan.sizes.words
  positive = let h : 1 ≤ plan.sizes.words = ok.some_word in omega arith

  -- The block of a word below B times S is below B.
  block-below : (w : ℕ) → w < plan.sizes.blocks * plan.sizes.words → w / plan.sizes.words < plan.sizes.blocks
  block-below w h = (div-lt_iff_lt-mul positive).1 h

  -- A word of the memory, as the word of its block at its place.
  at-word :
      (words : List ℕ) (w : ℕ) → w < plan.sizes.blocks * plan.sizes.words
      → blocks_of plan words (w / plan.sizes.words) (w % plan.sizes.words) ≡ get_or words w 0
  unfolding blocks_of
  at-word words w h =
      rw (
        lt-ltb (w / plan.sizes.words) plan.sizes.blocks (block-below w h),
        lt-ltb (w % plan.sizes.words) plan.sizes.words (mod-lt w positive),
        div-add-mod' w plan.sizes.words,
      )

  -- The place of a word tells its block and its place there.
  place :
      (k i w : ℕ) → i < plan.sizes.words → k * plan.sizes.words + i ≡ w
      → (k ≡ w / plan.sizes.words) × (i ≡ w % plan.sizes.words)
  place k i w h e = (
    rw (← e, mul-add-div_right positive k i, div-eq_of_lt h) (omega arith),
    rw (← e, mul-add-mod_self_right k plan.sizes.words i, mod-eq_of_lt h),
  )

  -- Words that agree at a place of a block give the same word there.
  agree :
      (words words' : List ℕ) (k i : ℕ)
      → (i < plan.sizes.words
      → get_or words (k * plan.sizes.words + i) 0 ≡ get_or words' (k * plan.sizes.words + i) 0)
      → blocks_of plan words k i ≡ blocks_of plan words' k i
  unfolding blocks_of
  agree words words' k i h =
      by-test (ltb k plan.sizes.blocks)
      (λ t. rw t
      (by-test (ltb i plan.sizes.words)
      (λ l. rw l (h (ltb-true i plan.sizes.words l)))
      (λ l. rw l)))
      (λ t. rw t)

  -- A word written is one word changed of one block.
  put-set :
      (words : List ℕ) (w x : ℕ) → w < plan.sizes.blocks * plan.sizes.words
      → length words ≡ plan.sizes.blocks * plan.sizes.words
      → put (blocks_of plan words) (w / plan.sizes.words) (w % plan.sizes.words) x ≡ blocks_of plan (set words w x)
  unfolding put
  put-set words w x h len = fun_ext (λ k. fun_ext (λ i. at k i))
    where
      away :
          (k i : ℕ) → (i < plan.sizes.words → k * plan.sizes.words + i ≢ w)
          → blocks_of plan words k i ≡ blocks_of plan (set words w x) k i
      away k i n =
          agree words (set words w x) k i (λ l. sym (get_or-set_other words w (k * plan.sizes.words + i) x 0 (n l)))

      there : x ≡ blocks_of plan (set words w x) (w / plan.sizes.words) (w % plan.sizes.words)
      there = sym (at-word (set words w x) w h ∙ get_or-set_same words w x 0 (rw len h))

      at :
          (k i : ℕ)
          → upd (blocks_of plan words) (w / plan.sizes.words)
          (upd (blocks_of plan words (w / plan.sizes.words)) (w % plan.sizes.words) x)
          k
          i
          ≡ blocks_of plan (set words w x) k i
      at k i =
          upd-elim (λ f. f i ≡ blocks_of plan (set words w x) k i) (blocks_of plan words) (w / plan.sizes.words)
          (upd (blocks_of plan words (w / plan.sizes.words)) (w % plan.sizes.words) x)
          k
          (λ e.
          rw e
          (upd-elim (λ y. y ≡ blocks_of plan (set words w x) (w / plan.sizes.words) i)
          (blocks_of plan words (w / plan.sizes.words)) (w % plan.sizes.words) x i
          (λ p. rw p there)
          (λ n. away (w / plan.sizes.words) i (λ l q. n (place (w / plan.sizes.words) i w l q).1))))
          (λ n. away k i (λ l q. n (place k i w l q).0))

  -- Moves whose words are below B times S, done by small steps on the blocks.
  whole :
      (ms : List Move) (words : List ℕ) (t : ℕ) → Named (plan.sizes.blocks * plan.sizes.words) ms
      → length words ≡ plan.sizes.blocks * plan.sizes.words
      → exec (of_moves plan.sizes.words ms) (blocks_of plan words) t ≡ blocks_of plan (after_update words ms)
  unfolding exec of_moves of_accesses after_update
  whole [] words t h len = refl
  whole (Move.Copy d a ∷ ms) words t h len =
      let b = two-below (plan.sizes.blocks * plan.sizes.words) d a (first_below _ (Move.Copy d a) ms h) in
      rw (at-word words a b.1, put-set words d (get_or words a 0) b.0 len)
      (whole ms (set words d (get_or words a 0)) (get_or words a 0) (others_below _ (Move.Copy d a) ms h)
      (length-set words d (get_or words a 0) ∙ len))
  whole (Move.Set d k ∷ ms) words t h len =
      rw
      (put-set words d k
      (one_below (plan.sizes.blocks * plan.sizes.words) d (first_below _ (Move.Set d k) ms h))
      len)
      (whole ms (set words d k) t (others_below _ (Move.Set d k) ms h) (length-set words d k ∙ len))
  whole (Move.Add d a k ∷ ms) words t h len =
      let b = two-below (plan.sizes.blocks * plan.sizes.words) d a (first_below _ (Move.Add d a k) ms h) in
      rw (at-word words a b.1, put-set words d (sum (get_or words a 0) k) b.0 len)
      (whole ms (set words d (sum (get_or words a 0) k)) (get_or words a 0) (others_below _ (Move.Add d a k) ms h)
      (length-set words d (sum (get_or words a 0) k) ∙ len))

  -- A block below B is listed and copied before a word of it is written.
  shape-write :
      (d : ℕ) (m : Move) (r : List Op) (L W : ℕ → Bool) → d < plan.sizes.blocks * plan.sizes.words
      → ((L W : ℕ → Bool) → Shape (layout plan) r L W)
      → Shape (layout plan) (of_stage plan.sizes.words m Stage.Check (write d) ++ r) L W
  shape-write d m r L W h k = (
    block-below d h,
    (
      block-below d h,
      upd_same L (d / plan.sizes.words) true,
      (block-below d h, upd_same L (d / plan.sizes.words) true, upd_same W (d / plan.sizes.words) true, k _ _),
    ),
  )

  -- A block below B is listed before a word of it is taken.
  shape-read :
      (a : ℕ) (m : Move) (r : List Op) (L W : ℕ → Bool) → a < plan.sizes.blocks * plan.sizes.words
      → ((L W : ℕ → Bool) → Shape (layout plan) r L W)
      → Shape (layout plan) (of_stage plan.sizes.words m Stage.Check (read a) ++ r) L W
  shape-read a m r L W h k =
      (block-below a h, (block-below a h, upd_same L (a / plan.sizes.words) true, k _ _))

  -- The small steps of moves whose words are below B times S can be done.
  shape :
      (ms : List Move) → Named (plan.sizes.blocks * plan.sizes.words) ms
      → (L W : ℕ → Bool) → Shape (layout plan) (of_moves plan.sizes.words ms) L W
  unfolding of_moves of_accesses
  shape [] h L W = tt
  shape (Move.Copy d a ∷ ms) h L W =
      let b = two-below (plan.sizes.blocks * plan.sizes.words) d a (first_below _ (Move.Copy d a) ms h) in
      shape-read a (Move.Copy d a)
      (of_stage plan.sizes.words (Move.Copy d a) Stage.Check (write d) ++ of_moves plan.sizes.words ms)
      L
      W
      b.1
      (λ L W.
      shape-write d (Move.Copy d a) (of_moves plan.sizes.words ms) L W b.0
      (shape ms (others_below _ (Move.Copy d a) ms h)))
  shape (Move.Set d k ∷ ms) h L W =
      shape-write d (Move.Set d k) (of_moves plan.sizes.words ms) L W
      (one_below (plan.sizes.blocks * plan.sizes.words) d (first_below _ (Move.Set d k) ms h))
      (shape ms (others_below _ (Move.Set d k) ms h))
  shape (Move.Add d a k ∷ ms) h L W =
      let b = two-below (plan.sizes.blocks * plan.sizes.words) d a (first_below _ (Move.Add d a k) ms h) in
      shape-read a (Move.Add d a k)
      (of_stage plan.sizes.words (Move.Add d a k) Stage.Check (write d) ++ of_moves plan.sizes.words ms)
      L
      W
      b.1
      (λ L W.
      shape-write d (Move.Add d a k) (of_moves plan.sizes.words ms) L W b.0
      (shape ms (others_below _ (Move.Add d a k) ms h)))

-- The small steps of an update, run whole on the blocks, do what its moves do to the words.
pub update-whole :
    {plan : Plan} → Sound plan → (u : ℕ) (words : List ℕ) → length words ≡ plan.sizes.blocks * plan.sizes.words
    → exec ((layout plan).ops u) (blocks_of plan words) 0
    ≡ blocks_of plan (after_update words (get_or plan.updates u []))
update-whole {plan} ok u words len = whole plan ok (get_or plan.updates u []) words 0 (ok.in_memory u) len

-- The word taken before an update does not matter to it.
pub word-free :
    (plan : Plan) (u : ℕ) (m : Blocks) (t t' : ℕ) → exec ((layout plan).ops u) m t ≡ exec ((layout plan).ops u) m t'
word-free plan u m t t' = free plan.sizes.words (get_or plan.updates u []) m t t'

-- The small steps of an update can be done.
pub shape-fits :
    {plan : Plan} → Sound plan → (u : ℕ) → Shape (layout plan) ((layout plan).ops u) (λ _. false) (λ _. false)
shape-fits {plan} ok u = shape plan ok (get_or plan.updates u []) (ok.in_memory u) (λ _. false) (λ _. false)

-- A number is in a list with one more where it was there, or is that one.
is_last : (n x : ℕ) (ns : List ℕ) → is_in n (ns ++ (x ∷ [])) ≡ (is_in n ns || eqb x n)
is_last n x [] = or-false (eqb x n)
is_last n x (m ∷ ns) = rw (is_last n x ns) (sym (or_assoc (eqb m n) (is_in n ns) (eqb x n)))

-- A test of a block that tells whether it is in a list, after one more block.
still-in :
    (test : ℕ → Bool) (bs : List ℕ) (b : ℕ) → ((k : ℕ) → test k ≡ is_in k bs)
    → (k : ℕ) → upd test b true k ≡ is_in k (including bs b)
still-in test bs b h k =
    by-test (is_in b bs)
    (λ t. rw t (upd-elim (λ y. y ≡ is_in k bs) test b true k (λ e. sym (rw e t)) (λ _. h k)))
    (λ t.
    rw (t, is_last k b bs)
    (upd-elim (λ y. y ≡ (is_in k bs || eqb b k)) test b true k
    (λ e. rw (eq-eqb b k (sym e)) (sym (or-true (is_in k bs))))
    (λ n. rw (ne_eqb b k (λ e. n (sym e)), or-false (is_in k bs)) (h k))))

-- One more block is one more, unless it was there.
one_more : (bs : List ℕ) (b : ℕ) → length (including bs b) ≡ cond (is_in b bs) 0 1 + length bs
one_more bs b =
    by-test (is_in b bs)
    (λ t. rw t (omega arith))
    (λ t. rw (t, length-append bs (b ∷ [])) (omega arith))

-- A write counts as a first one where its block is not among those written before.
count-write :
    (test : ℕ → Bool) (bs : List ℕ) (b rest total : ℕ) → ((k : ℕ) → test k ≡ is_in k bs)
    → rest + length (including bs b) ≡ total → cond (test b) 0 1 + rest + length bs ≡ total
count-write test bs b rest total h e = rw (h b) (omega (arith, one_more bs b, e))

module _ (plan : Plan) where
  -- The first writes of moves are as many as the blocks written that are not there before.
  first-writes :
      (ms : List Move) (bs : List ℕ) (W : ℕ → Bool) → ((k : ℕ) → W k ≡ is_in k bs)
      → new_copies (layout plan) (of_moves plan.sizes.words ms) W + length bs
      ≡ length (blocks_written_after plan.sizes.words bs ms)
  unfolding of_moves of_accesses
  first-writes [] bs W h = omega arith
  first-writes (Move.Copy d a ∷ ms) bs W h =
      count-write W bs (d / plan.sizes.words) _ _ h
      (first-writes ms (including bs (d / plan.sizes.words)) (upd W (d / plan.sizes.words) true)
      (still-in W bs (d / plan.sizes.words) h))
  first-writes (Move.Set d k ∷ ms) bs W h =
      count-write W bs (d / plan.sizes.words) _ _ h
      (first-writes ms (including bs (d / plan.sizes.words)) (upd W (d / plan.sizes.words) true)
      (still-in W bs (d / plan.sizes.words) h))
  first-writes (Move.Add d a k ∷ ms) bs W h =
      count-write W bs (d / plan.sizes.words) _ _ h
      (first-writes ms (including bs (d / plan.sizes.words)) (upd W (d / plan.sizes.words) true)
      (still-in W bs (d / plan.sizes.words) h))

-- An update has copy blocks enough for its first writes.
pub room_fits :
    {plan : Plan} → Sound plan → (u : ℕ)
    → new_copies (layout plan) ((layout plan).ops u) (λ _. false) ≤ plan.sizes.copies
unfolding blocks_written
room_fits {plan} ok u =
    omega (arith, ok.few_blocks u, first-writes plan (get_or plan.updates u []) [] (λ _. false) (λ _. refl))

-- A block whose words are those of the memory has the block's content there.
pub content-of :
    (plan : Plan) (words : List ℕ) (b : ℕ) → b < plan.sizes.blocks → (f : ℕ → ℕ)
    → ((i : ℕ) → i < plan.sizes.words → f i ≡ blocks_of plan words b i)
    → tabulate plan.sizes.words f ≡ block_in plan.sizes.words words b
unfolding blocks_of
content-of plan words b h f e =
    tabulate-same plan.sizes.words f (λ i. get_or words (b * plan.sizes.words + i) 0)
    (λ i l. e i l ∙ rw (lt-ltb b plan.sizes.blocks h, lt-ltb i plan.sizes.words l))
