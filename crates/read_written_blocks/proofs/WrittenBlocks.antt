-- The blocks that moves write, with one more move: one block more, unless an earlier move writes it. Assumes nothing.
use Rattle.std.proofs.Common.{◌≡◌, refl, sym, ◌∙◌, ℕ, ◌+◌, cond, Bool, true, false, ◌||◌, List, [], ◌∷◌, ◌++◌, ◌==◌}
use Rattle.std.proofs.Common.{length, length-append}
use mathlib.Core.Bool.{or-false, or_assoc}
use lib.Dec.{eqb}
use borrow.Author.Tests.{eqb-true}
use Rattle.std.specs.List.{list_any}
use Rattle.spec_format.specs.declared.Move.{Move}
use Rattle.spec_format.specs.Plan.{any, is_in, including, block_of, target, blocks_written_after, blocks_written}
use Rattle.spec_text.proofs.Cases.{by-test}

-- The last move is counted last.
after_last : (s : ℕ) (bs : List ℕ) (ms : List Move) (m : Move)
    → blocks_written_after s bs (ms ++ (m ∷ [])) ≡ including (blocks_written_after s bs ms) (block_of s (target m))
after_last s bs [] m = refl
after_last s bs (n ∷ ms) m = after_last s (including bs (block_of s (target n))) ms m

-- A test of a list with one more element.
any_last : {A : Type 0} (P : A → Bool) (xs : List A) (x : A) → any P (xs ++ (x ∷ [])) ≡ (any P xs || P x)
any_last P [] x = or-false (P x)
any_last P (y ∷ xs) x = rw (any_last P xs x) (sym (or_assoc (P y) (any P xs) (P x)))

-- A block is in a list that includes x if it was there, or is x.
in-including : (b x : ℕ) (bs : List ℕ) → is_in b (including bs x) ≡ (is_in b bs || eqb x b)
in-including b x bs = go (is_in x bs) refl
  where
    go : (t : Bool) → is_in x bs ≡ t → is_in b (including bs x) ≡ (is_in b bs || eqb x b)
    go true e =
        rw e
        (by-test (eqb x b)
        (λ t. let q : is_in b bs ≡ true = rw (eqb-true x b t) at e in rw q)
        (λ t. rw t (sym (or-false (is_in b bs)))))
    go false e = rw e (any_last (λ (m : ℕ). eqb m b) bs x)

-- A block is among those written if it was there before, or a move writes it.
in_after : (s b : ℕ) (bs : List ℕ) (ms : List Move)
    → is_in b (blocks_written_after s bs ms) ≡ (is_in b bs || list_any (λ m. block_of s (target m) == b) ms)
in_after s b bs [] = sym (or-false (is_in b bs))
in_after s b bs (m ∷ ms) =
    in_after s b (including bs (block_of s (target m))) ms
    ∙ rw (in-including b (block_of s (target m)) bs)
    (or_assoc (is_in b bs) (block_of s (target m) == b) (list_any (λ n. block_of s (target n) == b) ms))

-- How many blocks are written with one more move.
pub counted_more : (s : ℕ) (ms : List Move) (m : Move)
    → length (blocks_written s (ms ++ (m ∷ [])))
    ≡ cond (list_any (λ n. block_of s (target n) == block_of s (target m)) ms) (length (blocks_written s ms))
    (length (blocks_written s ms) + 1)
unfolding blocks_written
counted_more s ms m =
    rw (after_last s [] ms m, in_after s (block_of s (target m)) [] ms)
    (by-test (list_any (λ n. block_of s (target n) == block_of s (target m)) ms)
    (λ t. rw t)
    (λ t. rw (t, length-append (blocks_written_after s [] ms) (block_of s (target m) ∷ []))))
