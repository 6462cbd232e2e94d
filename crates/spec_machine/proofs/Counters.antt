-- A counter shows its opening word and all that was added to it, or the largest word where that is more: in the
-- one-after-another memory by induction over moves, calls and entries, and so, by demand 3, through the bank of every
-- run of an accepted plan. Assumes nothing.
use Prim.Native.Nat.{ℕ, zero, suc, ◌+◌, ◌*◌, ◌/◌, ◌%◌, ◌≤◌, ◌<◌, min}
use mathlib.Core.Path.{◌≡◌, refl, sym, ◌∙◌, ap}
use mathlib.Core.Bool.{Bool, true, false, not, ◌&&◌, true≢false, false≢true}
use mathlib.Core.List.{List, [], ◌∷◌, foldl, map}
use native.Mathlib.Omega.{arith}
use native.Mathlib.Nat.{div-add-mod', mod-lt, div-lt_iff_lt-mul}
use lib.Dec.{eqb}
use lib.ListN.{length, get_or, set, length-set}
use lib.Seq.{get_or-set_same, get_or-set_other}
use borrow.Author.Tests.{eqb-true, eqb-false, not-true}
use Rattle.spec_text.specs.Numbers.{largest}
use Rattle.spec_text.proofs.Cases.{neither}
use Rattle.spec_format.specs.declared.Form.{Form}
use Rattle.spec_format.specs.declared.Entry.{Entry}
use Rattle.spec_format.specs.declared.Move.{Move}
use Rattle.spec_format.specs.Plan.{Plan, Listed, any}
use Rattle.spec_format.specs.Reading.{reading, accepted}
use Rattle.spec_format.specs.Sound.{Sound}
use Rattle.spec_format.proofs.Sound.{accepted-sound}
use Rattle.spec_format.proofs.Tabulated.{get_d_tabulate}
use Rattle.spec_format.proofs.Fits.{accepted-fits, fit_at}
use Rattle.spec_machine.specs.Memory.{sum, after_move, after_update, Commit, moves_of, committed_by, memory}
use Rattle.spec_machine.specs.Machine.{block_in, seen}
use Rattle.spec_machine.specs.History.{commits_in, run_of}
use Rattle.spec_machine.specs.Demand3.{memory_after, Holds}
use Rattle.spec_machine.specs.Counters.{replaces, is_counter, added_by, total, added_in, added_after}
use Rattle.spec_machine.specs.Counters.{counted, word_seen, CounterSeen}
use Rattle.spec_machine.proofs.Sums.{sum-at-most}
use Rattle.spec_machine.proofs.Tests.{choice}
use Rattle.spec_machine.proofs.Demand3.{holds_after}

-- Where a test does not pass without another, and passes, so does the other.
implied : (a b : Bool) → (a && not b) ≡ false → a ≡ true → b ≡ true
implied true true e t = refl
implied true false e t = absurd (true≢false e)
implied false b e t = absurd (false≢true t)

module _ (d : ℕ) where
  -- Words that have a word d, which is at most the largest word.
  record Kept (words : List ℕ) : Type 0 where
    there : d < length words
    fits : get_or words d 0 ≤ largest

  -- Words, and what they become: as many, with k added to word d.
  record Adds (k : ℕ) (words next : List ℕ) : Type 0 where
    many : length next ≡ length words
    word : get_or next d 0 ≡ sum (get_or words d 0) k

  -- Word d is still there, and at most the largest word.
  kept : {k : ℕ} {words next : List ℕ} → Kept words → Adds k words next → Kept next
  kept {k} {words} w a =
      record {
        there = omega (arith, w.there, a.many);
        fits = rw a.word (sum-at-most (get_or words d 0) k);
      }

  -- One addition behind another.
  behind : {j k : ℕ} {words next last : List ℕ} → Adds j words next → Adds k next last → Adds (j + k) words last
  behind a b = record { many = b.many ∙ a.many; word = omega (arith, a.word, b.word) }

  -- Steps of which each adds to word d add the total.
  folded : {A : Type 0} (f : List ℕ → A → List ℕ) (g : A → ℕ) (bad : A → Bool)
      → ((words : List ℕ) (x : A) → bad x ≡ false → Kept words → Adds (g x) words (f words x))
      → (xs : List A) (words : List ℕ) → any bad xs ≡ false → Kept words
      → Adds (total (map g xs)) words (foldl f words xs)
  folded f g bad h [] words none w = record { many = refl; word = omega (arith, w.fits) }
  folded f g bad h (x ∷ xs) words none w =
      let n = neither (bad x) (any bad xs) none in
      let first = h words x n.0 w in
      behind first (folded f g bad h xs (f words x) n.1 (kept w first))

  -- Another word is written.
  elsewhere : (words : List ℕ) (e x : ℕ) → eqb e d ≡ false → Kept words → Adds 0 words (set words e x)
  elsewhere words e x t w =
      record {
        many = length-set words e x;
        word = omega (arith, get_or-set_other words e d x 0 (λ q. eqb-false e d t (sym q)), w.fits);
      }

  -- Word d is written, and added to.
  to-itself :
      (words : List ℕ) (e a k : ℕ) → e ≡ d → a ≡ d → Kept words → Adds k words (set words e (sum (get_or words a 0) k))
  to-itself words e a k p q w =
      record {
        many = length-set words e _;
        word = rw (p, q) (get_or-set_same words d (sum (get_or words d 0) k) 0 w.there);
      }

  -- A move.
  by_move :
      (words : List ℕ) (m : Move) → replaces d m ≡ false → Kept words
      → Adds (added_by d m) words (after_move words m)
  by_move words (Move.Copy e a) r w = elsewhere words e _ r w
  by_move words (Move.Set e k) r w = elsewhere words e k r w
  by_move words (Move.Add e a k) r w =
      choice (λ n. Adds n words (set words e (sum (get_or words a 0) k))) (eqb e d) k 0
      (λ t. to-itself words e a k (eqb-true e d t) (eqb-true a d (implied (eqb e d) (eqb a d) r t)) w)
      (λ t. elsewhere words e _ t w)

  -- An update.
  by-update :
      (words : List ℕ) (moves : List Move) → any (replaces d) moves ≡ false → Kept words
      → Adds (added_in d moves) words (after_update words moves)
  unfolding after_update
  by-update words moves = folded after_move (added_by d) (replaces d) by_move moves words

-- A test that passes nowhere in some lists does not pass in any one of them.
none-there :
    {A : Type 0} (f : A → Bool) (lists : List (List A)) (u : ℕ) → any (any f) lists ≡ false
    → any f (get_or lists u []) ≡ false
none-there f [] u h = refl
none-there f (l ∷ lists) zero h = (neither (any f l) (any (any f) lists) h).0
none-there f (l ∷ lists) (suc u) h = none-there f lists u (neither (any f l) (any (any f) lists) h).1

-- A test that is always false passes nowhere.
never : {A : Type 0} (xs : List A) → any (λ _. false) xs ≡ false
never [] = refl
never (x ∷ xs) = never xs

module _ (opening : List ℕ) (updates : List (List Move)) (entries : List Entry) (commits : List Commit) (d : ℕ)
    (counter : is_counter updates d ≡ true) (there : d < length opening) (fits : get_or opening d 0 ≤ largest) where
  -- The update of a call.
  by_call :
      (words : List ℕ) (call : ℕ) → false ≡ false → Kept d words
      → Adds d (added_in d (moves_of updates entries call)) words (after_update words (moves_of updates entries call))
  by_call words call _ w =
      by-update d words (moves_of updates entries call) (none-there (replaces d) updates _ (not-true _ counter)) w

  -- The first n entries.
  by_entries :
      (n : ℕ) → Adds d (added_after d updates entries commits n) opening (memory opening updates entries commits n)
  unfolding memory
  by_entries zero = record { many = refl; word = omega (arith, fits) }
  by_entries (suc n) =
      let so_far = by_entries n in
      behind d so_far
      (folded d _ (λ call. added_in d (moves_of updates entries call)) (λ _. false) by_call
      (committed_by commits (suc n)) (memory opening updates entries commits n) (never (committed_by commits (suc n)))
      (kept d (record { there = there; fits = fits }) so_far))

  -- The counter after n entries.
  pub counter-total : (n : ℕ)
      → get_or (memory opening updates entries commits n) d 0
      ≡ min (get_or opening d 0 + added_after d updates entries commits n) largest
  counter-total n = (by_entries n).word

  -- So no entry lowers it.
  pub counter-never-falls :
      (n : ℕ)
      → get_or (memory opening updates entries commits n) d 0 ≤ get_or
      (memory opening updates entries commits (suc n)) d 0
  counter-never-falls n = omega (arith, counter-total n, counter-total (suc n))

-- The word of a block at a word's place, where the block is the word's.
in_block : (s : ℕ) (words : List ℕ) (w : ℕ) → 0 < s → get_or (block_in s words (w / s)) (w % s) 0 ≡ get_or words w 0
in_block s words w h =
    get_d_tabulate s (λ i. get_or words (w / s * s + i) 0) 0 (w % s) (mod-lt w h) ∙ rw (div-add-mod' w s)

-- What a counter of an accepted plan shows, after any entries.
pub counter-seen :
    (form : Form) (text : List ℕ) (plan : Plan) (listed : List Listed) (lines : ℕ)
    → reading form text ≡ accepted plan listed lines → (es : List Entry) (d : ℕ)
    → d < plan.sizes.blocks * plan.sizes.words → is_counter plan.updates d ≡ true
    → CounterSeen plan es (run_of plan es) d
counter-seen form text plan listed lines read es d low counter =
    record {
      settled = λ none. shows words (holds.settled none block below) ∙ in_memory;
      kept = λ c decided unstored. shows words (holds.kept c block decided below unstored) ∙ in_memory;
      stored =
          λ c decided is-stored.
          shows (after_update words (moves_of plan.updates es c)) (holds.stored c block decided below is-stored)
          ∙ with_call c;
    }
  where
    ok : Sound plan
    ok = accepted-sound form text plan listed lines read

    holds : Holds plan es (run_of plan es)
    holds = holds_after plan ok es

    so_far : List Commit
    so_far = commits_in (run_of plan es).history

    words : List ℕ
    words = memory_after plan es (run_of plan es).history

    block : ℕ
    block = d / plan.sizes.words

    positive : 0 < plan.sizes.words
    positive = omega (arith, ok.some_word)

    below : block < plan.sizes.blocks
    below = (div-lt_iff_lt-mul positive).1 low

    there : d < length plan.words
    there = rw ok.all_words low

    fits : get_or plan.words d 0 ≤ largest
    fits = fit_at plan.words d (accepted-fits form text plan listed lines read).words

    after : Adds d (added_after d plan.updates es so_far (length es)) plan.words words
    after = by_entries plan.words plan.updates es so_far d counter there fits (length es)

    in_memory : get_or words d 0 ≡ min (counted plan es (run_of plan es) d) largest
    in_memory = after.word

    with_call :
        (c : ℕ)
        → get_or (after_update words (moves_of plan.updates es c)) d 0
        ≡ min (counted plan es (run_of plan es) d + added_in d (moves_of plan.updates es c)) largest
    with_call c =
        omega (
          arith,
          in_memory,
          (by_call plan.words plan.updates es so_far d counter there fits words c refl
              (kept d (record { there = there; fits = fits }) after)).word,
        )

    shows : (ws : List ℕ) → seen plan (run_of plan es).machine block ≡ block_in plan.sizes.words ws block
        → word_seen plan (run_of plan es).machine d ≡ get_or ws d 0
    shows ws e = ap (λ l. get_or l (d % plan.sizes.words) 0) e ∙ in_block plan.sizes.words ws d positive
