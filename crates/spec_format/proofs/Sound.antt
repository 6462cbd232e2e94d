-- A plan that is accepted is sound (accepted-sound), and a schedule that is accepted has at most 4,000 entries
-- (accepted-few). The argument: a line without a fault keeps what SoundSoFar says of a draft, which holds before the
-- first line. A plan line stands only as the first, where no job, block or update is there yet, and its sizes are in
-- range. A job, a block, an update, a move and an entry each stand where the plan lacks one or has room for it, and are
-- tested by the rows of the table; a block line that can be read has just S words. By induction over the lines,
-- SoundSoFar holds at the end, where the text is laid out: at most N jobs and B blocks are then all of them. The
-- single entries that are listed are those that the draft has counted (counted-entries). Assumes nothing.
use Prim.Native.Nat.{ℕ, zero, suc, ◌+◌, ◌*◌, ◌≤◌, ◌<◌}
use native.Mathlib.Omega.{arith}
use native.Mathlib.Decide.{dec_lt}
use mathlib.Core.Path.{◌≡◌, refl, sym, ◌∙◌, ap}
use mathlib.Core.Bool.{Bool, true, false, cond, not, ◌&&◌, ◌||◌, true≢false}
use mathlib.Core.List.{List, [], ◌∷◌, ◌++◌}
use Rattle.std.specs.Prelude.{Option, Some, None}
use lib.Dec.{ltb, leb, eqb}
use lib.ListN.{length, get_or, length-append, length-map, length-replicate, get_or-append, get_or-eq_default}
use lib.Seq.{get_or_at}
use borrow.Author.Tests.{ltb-true, ltb-false, leb-true, leb-false, eqb-true, eq-eqb, not-true, not-false}
use Rattle.spec_text.specs.Lines.{Line, lines, fields, numbers, and_then}
use Rattle.spec_text.specs.Numbers.{number}
use Rattle.spec_text.proofs.Cases.{both, neither}
use Rattle.spec_format.specs.declared.Kind.{Kind}
use Rattle.spec_format.specs.declared.Fault.{Fault}
use Rattle.spec_format.specs.declared.Form.{Form}
use Rattle.spec_format.specs.declared.Sizes.{Sizes}
use Rattle.spec_format.specs.declared.Job.{Job}
use Rattle.spec_format.specs.declared.Move.{Move}
use Rattle.spec_format.specs.declared.Entry.{Entry}
use Rattle.spec_format.specs.Plan.{Plan, Listed, entries_in, any, named, blocks_written}
use Rattle.spec_format.specs.Kinds.{kind_of}
use Rattle.spec_format.specs.ParsedLines.{Directive, plan, job, block, update, move, entry}
use Rattle.spec_format.specs.ParsedLines.{number_count, numbers_for, directive_of, parsed_from, parsed_of}
use Rattle.spec_format.specs.Faults.{Draft, laid_out, lacks_jobs, lacks_blocks, takes_entries, last_of, most_entries}
use Rattle.spec_format.specs.Faults.{within, in_range, taken, some_from, has_fault}
use Rattle.spec_format.specs.Reading.{blank, add_to_last, after, parsed_in, after_line, by_rank, first_of}
use Rattle.spec_format.specs.Reading.{ReadOutcome, refused, sound, or_else, read_lines, listed, entries_of}
use Rattle.spec_format.specs.Reading.{Reading, refusal, accepted, given, longest, reading}
use Rattle.spec_format.specs.Sound.{Sound}
use Rattle.spec_format.proofs.FirstFault.{Clear, Found, line-lowest}

-- What holds of each element of a list with its place, and of one more, holds of each of the longer list.
each_more :
    {A : Type 0} (P : ℕ → A → Type 0) (xs : List A) (x other : A)
    → ((k : ℕ) → k < length xs → P k (get_or xs k other)) → P (length xs) x
    → (k : ℕ) → k < length (xs ++ (x ∷ [])) → P k (get_or (xs ++ (x ∷ [])) k other)
each_more P xs x other each last k h = go (dec_lt k (length xs))
  where
    go : Dec (k < length xs) → P k (get_or (xs ++ (x ∷ [])) k other)
    go (yes l) = rw (get_or-append xs (x ∷ []) other k l) (each k l)
    go (no l) =
        let e : k ≡ length xs = omega (arith, length-append xs (x ∷ [])) in
        rw (e, get_or_at xs x [] other (length xs) refl) last

-- No element of a list passes a test that finds none.
none_passes :
    {A : Type 0} (test : A → Bool) (xs : List A) (other : A) → any test xs ≡ false
    → (k : ℕ) → k < length xs → test (get_or xs k other) ≡ false
none_passes test [] other e k h = absurd (omega arith)
none_passes test (x ∷ xs) other e zero h = (neither (test x) (any test xs) e).0
none_passes test (x ∷ xs) other e (suc k) h =
    none_passes test xs other (neither (test x) (any test xs) e).1 k (omega arith)

-- One more update without moves changes the moves of none.
pub one-empty : (us : List (List Move)) (u : ℕ) → get_or (us ++ ([] ∷ [])) u [] ≡ get_or us u []
one-empty [] zero = refl
one-empty [] (suc u) = refl
one-empty (v ∷ us) zero = refl
one-empty (v ∷ us) (suc u) = one-empty us u

-- What holds of each update holds of the last.
pub of-last : (P : List Move → Type 0) (us : List (List Move)) → ((u : ℕ) → P (get_or us u [])) → P (last_of us)
of-last P [] each = each 0
of-last P (v ∷ []) each = each 0
of-last P (v ∷ w ∷ us) each = of-last P (w ∷ us) (λ u. each (suc u))

-- What holds of each update, and of the last with one more move, holds of each once the move is added.
pub each-added :
    (P : List Move → Type 0) (m : Move) (us : List (List Move)) → ((u : ℕ) → P (get_or us u []))
    → P (last_of us ++ (m ∷ [])) → (u : ℕ) → P (get_or (add_to_last m us) u [])
each-added P m [] each last u = each u
each-added P m (v ∷ []) each last zero = last
each-added P m (v ∷ []) each last (suc u) = each (suc u)
each-added P m (v ∷ w ∷ us) each last zero = each zero
each-added P m (v ∷ w ∷ us) each last (suc u) = each-added P m (w ∷ us) (λ n. each (suc n)) last u

-- A move more is no update more.
pub as_many : (m : Move) (us : List (List Move)) → length (add_to_last m us) ≡ length us
as_many m [] = refl
as_many m (v ∷ []) = refl
as_many m (v ∷ w ∷ us) = omega (arith, as_many m (w ∷ us))

-- What stands past the last job.
abbrev no_job : Job
no_job = record { card = 0; priority = 0 }

-- Jobs are at most N, each on a card, of a low priority, and no two of a card have one priority.
record JobsFit (s : Sizes) (js : List Job) : Type 0 where
  few : length js ≤ s.jobs
  on_card : (k : ℕ) → k < length js → (get_or js k no_job).card < s.cards
  low_priority : (k : ℕ) → k < length js → (get_or js k no_job).priority ≤ 255
  apart :
      (a : ℕ) → a < length js → (b : ℕ) → b < length js → (get_or js a no_job).card ≡ (get_or js b no_job).card
      → (get_or js a no_job).priority ≡ (get_or js b no_job).priority → a ≡ b

-- Some blocks, at most B, have S words each.
record BlocksFit (s : Sizes) (blocks : ℕ) (ws : List ℕ) : Type 0 where
  few : blocks ≤ s.blocks
  all_words : length ws ≡ blocks * s.words

-- The moves of an update are at most 16, their words are in memory, and they write at most C blocks.
record UpdateFits (s : Sizes) (ms : List Move) : Type 0 where
  few_moves : length ms ≤ 16
  in_memory :
      (i : ℕ) → i < length ms → some_from (s.blocks * s.words) (named (get_or ms i (Move.Copy 0 0))) ≡ false
  few_blocks : length (blocks_written s.words ms) ≤ s.copies

-- Updates are at most 32, and each fits.
record UpdatesFit (s : Sizes) (us : List (List Move)) : Type 0 where
  few : length us ≤ 32
  each : (u : ℕ) → UpdateFits s (get_or us u [])

-- What holds of a draft as long as no line has a fault.
record SoundSoFar (d : Draft) : Type 0 where
  ranged : 0 < d.lines → in_range d.plan.sizes ≡ true
  -- before the first line N and B are 0, and no job, block or update is there
  sizes-in-lines : d.plan.sizes.jobs + d.plan.sizes.blocks ≤ 32 * d.lines
  in_lines : length d.plan.jobs + d.blocks + length d.plan.updates ≤ d.lines
  jobs-fit : JobsFit d.plan.sizes d.plan.jobs
  blocks-fit : BlocksFit d.plan.sizes d.blocks d.plan.words
  updates-fit : UpdatesFit d.plan.sizes d.plan.updates
  few_entries : d.entries ≤ most_entries

-- Where there is no job, the jobs fit.
no-jobs : (s : Sizes) (js : List Job) → length js ≡ 0 → JobsFit s js
no-jobs s js e =
    record {
      few = omega arith;
      on_card = λ k h. absurd (omega arith);
      low_priority = λ k h. absurd (omega arith);
      apart = λ a h b l c p. absurd (omega arith);
    }

-- An update without moves fits.
no-moves : (s : Sizes) → UpdateFits s []
unfolding blocks_written
no-moves s = record { few_moves = omega arith; in_memory = λ i h. absurd (omega arith); few_blocks = omega arith }

-- Nothing has been said before the first line.
blank-sound : SoundSoFar blank
blank-sound =
    record {
      ranged = λ h. absurd (omega arith);
      sizes-in-lines = omega arith;
      in_lines = omega arith;
      jobs-fit = no-jobs _ [] refl;
      blocks-fit = record { few = omega arith; all_words = omega arith };
      updates-fit = record { few = omega arith; each = λ u. no-moves _ };
      few_entries = omega arith;
    }

-- No earlier job has the card and the priority of a job that is not taken.
not_taken :
    (j : Job) (js : List Job) → taken j js ≡ false → (k : ℕ) → k < length js → (get_or js k no_job).card ≡ j.card
    → (get_or js k no_job).priority ≡ j.priority → ⊥
not_taken j js free k h c p =
    true≢false
    (rw (eq-eqb (get_or js k no_job).card j.card c, eq-eqb (get_or js k no_job).priority j.priority p) at
    (none_passes (λ (i : Job). eqb i.card j.card && eqb i.priority j.priority) js no_job free k h))

-- Jobs with one more that is on a card, of a low priority and not taken.
jobs-more :
    (s : Sizes) (js : List Job) (j : Job) → JobsFit s js → length js < s.jobs → j.card < s.cards
    → j.priority ≤ 255 → taken j js ≡ false → JobsFit s (js ++ (j ∷ []))
jobs-more s js j fit room c p free =
    record {
      few = omega (arith, length-append js (j ∷ []));
      on_card = each_more (λ k i. i.card < s.cards) js j no_job fit.on_card c;
      low_priority = each_more (λ k i. i.priority ≤ 255) js j no_job fit.low_priority p;
      apart =
          each_more
          (λ a i.
          (b : ℕ) → b < length (js ++ (j ∷ [])) → i.card ≡ (get_or (js ++ (j ∷ [])) b no_job).card
          → i.priority ≡ (get_or (js ++ (j ∷ [])) b no_job).priority → a ≡ b)
          js j no_job
          (λ a h.
          each_more
          (λ b i. (get_or js a no_job).card ≡ i.card → (get_or js a no_job).priority ≡ i.priority → a ≡ b) js j no_job
          (fit.apart a h)
          (λ x y. absurd (not_taken j js free a h x y)))
          (each_more (λ b i. j.card ≡ i.card → j.priority ≡ i.priority → length js ≡ b) js j no_job
          (λ b h x y. absurd (not_taken j js free b h (sym x) (sym y)))
          (λ x y. refl));
    }

-- An update with one more move whose words are in memory and that does not make it write too many blocks.
update-more :
    (s : Sizes) (ms : List Move) (m : Move) → UpdateFits s ms → length ms < 16
    → some_from (s.blocks * s.words) (named m) ≡ false
    → length (blocks_written s.words (ms ++ (m ∷ []))) ≤ s.copies → UpdateFits s (ms ++ (m ∷ []))
update-more s ms m fit few inside blocks =
    record {
      few_moves = omega (arith, length-append ms (m ∷ []));
      in_memory =
          each_more (λ i n. some_from (s.blocks * s.words) (named n) ≡ false) ms m (Move.Copy 0 0)
          fit.in_memory inside;
      few_blocks = blocks;
    }

-- A number is from low to high.
abbrev From : ℕ → ℕ → ℕ → Type 0
From low high n = (low ≤ n) × (n ≤ high)

-- What the test of a range says.
range : (low high n : ℕ) → within low high n ≡ true → From low high n
range low high n e =
    let ends = both (leb low n) (leb n high) e in
    (leb-true low n ends.0, leb-true n high ends.1)

-- What the test of all ranges says.
ranges :
    (s : Sizes) → in_range s ≡ true
    → From 1 8 s.cards × From 1 16 s.jobs × From 1 16 s.blocks × From 1 16 s.words × From 1 8 s.copies
ranges s e =
    let first = both (within 1 8 s.cards) _ e in
    let second = both (within 1 16 s.jobs) _ first.1 in
    let third = both (within 1 16 s.blocks) _ second.1 in
    let fourth = both (within 1 16 s.words) (within 1 8 s.copies) third.1 in (
      range 1 8 s.cards first.0,
      range 1 16 s.jobs second.0,
      range 1 16 s.blocks third.0,
      range 1 16 s.words fourth.0,
      range 1 8 s.copies fourth.1,
    )

-- A text that may end has begun, and lacks neither jobs nor blocks.
laid_out_lem :
    (d : Draft) → laid_out d ≡ true
    → (0 < d.lines) × (d.plan.sizes.jobs ≤ length d.plan.jobs) × (d.plan.sizes.blocks ≤ d.blocks)
laid_out_lem d e =
    let first = both (ltb 0 d.lines) (not (lacks_jobs d) && not (lacks_blocks d)) e in
    let second = both (not (lacks_jobs d)) (not (lacks_blocks d)) first.1 in (
      ltb-true 0 d.lines first.0,
      ltb-false (length d.plan.jobs) d.plan.sizes.jobs (not-true (lacks_jobs d) second.0),
      ltb-false d.blocks d.plan.sizes.blocks (not-true (lacks_blocks d) second.1),
    )

module _ (d : Draft) (safe : SoundSoFar d) where
  -- A plan line that is the first.
  plan-kept : (s : Sizes) → eqb d.lines 0 ≡ true → in_range s ≡ true → SoundSoFar (after d (Some (plan s)))
  plan-kept s first good =
      let start : d.lines ≡ 0 = eqb-true d.lines 0 first in
      let small = ranges s good in
      let no_block : d.blocks ≡ 0 = omega arith in
      record {
        ranged = λ h. good;
        sizes-in-lines = omega arith;
        in_lines = omega arith;
        jobs-fit = no-jobs s d.plan.jobs (omega arith);
        blocks-fit =
            record {
              few = omega arith;
              all_words = rw no_block (omega (arith, rw no_block at safe.blocks-fit.all_words));
            };
        updates-fit =
            record {
              few = safe.updates-fit.few;
              each = λ u. rw (get_or-eq_default d.plan.updates [] {n = u} (omega arith)) (no-moves s);
            };
        few_entries = safe.few_entries;
      }

  -- A job that the plan still lacks, on a card, of a low priority and not taken.
  job-kept :
      (j : Job) → lacks_jobs d ≡ true → (leb d.plan.sizes.cards j.card || ltb 255 j.priority) ≡ false
      → taken j d.plan.jobs ≡ false → SoundSoFar (after d (Some (job j)))
  job-kept j lacks good free =
      let more : length d.plan.jobs < d.plan.sizes.jobs = ltb-true _ _ lacks in
      let tests = neither (leb d.plan.sizes.cards j.card) (ltb 255 j.priority) good in
      record {
        ranged = λ h. safe.ranged (omega arith);
        sizes-in-lines = omega arith;
        in_lines = omega (arith, length-append d.plan.jobs (j ∷ []));
        jobs-fit =
            jobs-more d.plan.sizes d.plan.jobs j safe.jobs-fit more
            (leb-false d.plan.sizes.cards j.card tests.0)
            (ltb-false 255 j.priority tests.1) free;
        blocks-fit = safe.blocks-fit;
        updates-fit = safe.updates-fit;
        few_entries = safe.few_entries;
      }

  -- A block that the plan still lacks, with S words.
  block-kept :
      (ws : List ℕ) → length ws ≡ d.plan.sizes.words → (not (lacks_jobs d) && lacks_blocks d) ≡ true
      → SoundSoFar (after d (Some (block ws)))
  block-kept ws size stands =
      let lacks : lacks_blocks d ≡ true = (both (not (lacks_jobs d)) (lacks_blocks d) stands).1 in
      let more : d.blocks < d.plan.sizes.blocks = ltb-true _ _ lacks in
      record {
        ranged = λ h. safe.ranged (omega arith);
        sizes-in-lines = omega arith;
        in_lines = omega arith;
        jobs-fit = safe.jobs-fit;
        blocks-fit = record { few = omega arith; all_words = omega (arith, length-append d.plan.words ws) };
        updates-fit = safe.updates-fit;
        few_entries = safe.few_entries;
      }

  -- An update that may stand and is not one too many, whatever its number.
  update-kept :
      (n : ℕ) → (laid_out d && eqb d.entries 0) ≡ true → leb 32 (length d.plan.updates) ≡ false
      → SoundSoFar (after d (Some (update n)))
  update-kept n stands few =
      let begun : 0 < d.lines = (laid_out_lem d (both (laid_out d) (eqb d.entries 0) stands).0).0 in
      let room : length d.plan.updates < 32 = leb-false 32 (length d.plan.updates) few in
      let more : length (d.plan.updates ++ ([] ∷ [])) ≡ length d.plan.updates + 1
      = length-append d.plan.updates ([] ∷ []) in
      record {
        ranged = λ h. safe.ranged begun;
        sizes-in-lines = omega arith;
        in_lines = omega arith;
        jobs-fit = safe.jobs-fit;
        blocks-fit = safe.blocks-fit;
        updates-fit =
            record {
              few = omega arith;
              each = λ u. rw (one-empty d.plan.updates u) (safe.updates-fit.each u);
            };
        few_entries = safe.few_entries;
      }

  -- A move that may stand, is not one too many, names words in memory and does not make too many blocks written.
  move-kept :
      (m : Move) → ((laid_out d && eqb d.entries 0) && ltb 0 (length d.plan.updates)) ≡ true
      → leb 16 (length (last_of d.plan.updates)) ≡ false
      → some_from (d.plan.sizes.blocks * d.plan.sizes.words) (named m) ≡ false
      → ltb d.plan.sizes.copies
      (length (blocks_written d.plan.sizes.words (last_of d.plan.updates ++ (m ∷ []))))
      ≡ false
      → SoundSoFar (after d (Some (move m)))
  move-kept m stands few inside blocks =
      let behind = (both (laid_out d && eqb d.entries 0) (ltb 0 (length d.plan.updates)) stands).0 in
      let begun : 0 < d.lines = (laid_out_lem d (both (laid_out d) (eqb d.entries 0) behind).0).0 in
      let same : length (add_to_last m d.plan.updates) ≡ length d.plan.updates = as_many m d.plan.updates in
      record {
        ranged = λ h. safe.ranged begun;
        sizes-in-lines = omega arith;
        in_lines = omega arith;
        jobs-fit = safe.jobs-fit;
        blocks-fit = safe.blocks-fit;
        updates-fit =
            record {
              few = omega arith;
              each =
                  each-added (UpdateFits d.plan.sizes) m d.plan.updates safe.updates-fit.each
                  (update-more d.plan.sizes (last_of d.plan.updates) m
                  (of-last (UpdateFits d.plan.sizes) d.plan.updates safe.updates-fit.each)
                  (leb-false 16 _ few) inside (ltb-false _ _ blocks));
            };
        few_entries = safe.few_entries;
      }

  -- An entry that may stand, and that comes not too often.
  entry_kept :
      (form : Form) (e : Entry) (n : ℕ) → (takes_entries form && laid_out d) ≡ true
      → ltb most_entries (d.entries + n) ≡ false → SoundSoFar (after d (Some (entry e n)))
  entry_kept form e n stands few =
      let begun : 0 < d.lines = (laid_out_lem d (both (takes_entries form) (laid_out d) stands).1).0 in
      record {
        ranged = λ h. safe.ranged begun;
        sizes-in-lines = omega arith;
        in_lines = omega arith;
        jobs-fit = safe.jobs-fit;
        blocks-fit = safe.blocks-fit;
        updates-fit = safe.updates-fit;
        few_entries = ltb-false most_entries (d.entries + n) few;
      }

-- Numbers that could be read are n of them.
abbrev Sized : ℕ → Option (List ℕ) → Type 0
Sized n None = Unit {0}
Sized n (Some ns) = length ns ≡ n

-- A number in front makes one more.
sized-more : (n : ℕ) (x : Option ℕ) (o : Option (List ℕ)) → Sized n o → Sized (suc n) (and_then x o)
sized-more n (Some k) None e = tt
sized-more n (Some k) (Some ns) e = omega arith
sized-more n None o e = tt

-- Fields are read to as many numbers as are asked for.
sized : (n : ℕ) (fs : List (List ℕ)) → Sized n (numbers n fs)
sized zero [] = refl
sized zero (f ∷ fs) = tt
sized (suc n) [] = tt
sized (suc n) (f ∷ fs) = sized-more n (number f) (numbers n fs) (sized n fs)

-- A line without a fault, by its kind and the numbers that were read behind it.
kept :
    (form : Form) (d : Draft) (ended : Bool) (k : Kind) (fs : List (List ℕ)) (o : Option (List ℕ)) → SoundSoFar d
    → Sized (number_count d.plan.sizes.words k fs) o
    → Clear (has_fault form d (record { ended = ended; kind = k; directive = directive_of k o }))
    → SoundSoFar (after d (directive_of k o))
kept form d ended k fs None safe size clear = absurd (true≢false (clear Fault.Malformed))
kept form d ended Kind.Plan fs (Some ns) safe size clear =
    plan-kept d safe _ (not-false _ (clear Fault.Misplaced)) (not-false _ (clear Fault.BadSize))
kept form d ended Kind.Job fs (Some ns) safe size clear =
    job-kept d safe _ (not-false _ (clear Fault.Misplaced)) (clear Fault.BadJob) (clear Fault.SameJob)
kept form d ended Kind.Block fs (Some ns) safe size clear =
    block-kept d safe ns size (not-false _ (clear Fault.Misplaced))
kept form d ended Kind.Update fs (Some ns) safe size clear =
    update-kept d safe (get_or ns 0 0) (not-false _ (clear Fault.Misplaced)) (clear Fault.TooMany)
kept form d ended Kind.Copy fs (Some ns) safe size clear =
    move-kept d safe _ (not-false _ (clear Fault.Misplaced)) (clear Fault.TooMany) (clear Fault.BadWord)
    (clear Fault.TooManyBlocks)
kept form d ended Kind.Set fs (Some ns) safe size clear =
    move-kept d safe _ (not-false _ (clear Fault.Misplaced)) (clear Fault.TooMany) (clear Fault.BadWord)
    (clear Fault.TooManyBlocks)
kept form d ended Kind.Add fs (Some ns) safe size clear =
    move-kept d safe _ (not-false _ (clear Fault.Misplaced)) (clear Fault.TooMany) (clear Fault.BadWord)
    (clear Fault.TooManyBlocks)
kept form d ended Kind.Call fs (Some ns) safe size clear =
    entry_kept d safe form (record { kind = 0; first = get_or ns 0 0; second = get_or ns 1 0 }) 1
    (not-false _ (clear Fault.Misplaced)) (clear Fault.TooMany)
kept form d ended Kind.Step fs (Some ns) safe size clear =
    entry_kept d safe form (record { kind = 1; first = get_or ns 0 0; second = 0 }) (get_or ns 1 1)
    (not-false _ (clear Fault.Misplaced)) (clear Fault.TooMany)
kept form d ended Kind.Unknown fs (Some ns) safe size clear = absurd (true≢false (clear Fault.Malformed))

-- A line's fields without a fault.
fields-kept :
    (form : Form) (d : Draft) (ended : Bool) (fs : List (List ℕ)) → SoundSoFar d
    → Clear (has_fault form d (parsed_from d.plan.sizes.words ended fs))
    → SoundSoFar (after d (parsed_from d.plan.sizes.words ended fs).directive)
fields-kept form d ended [] safe clear = absurd (true≢false (clear Fault.Malformed))
fields-kept form d ended (f ∷ fs) safe clear =
    kept form d ended (kind_of f) fs (numbers_for d.plan.sizes.words (kind_of f) fs) safe
    (sized (number_count d.plan.sizes.words (kind_of f) fs) fs) clear

-- A line without a fault.
line_kept :
    (form : Form) (d : Draft) (l : Line) → SoundSoFar d → Clear (has_fault form d (parsed_in d l))
    → SoundSoFar (after_line d l)
unfolding parsed_of
line_kept form d l safe clear = fields-kept form d l.ended (fields l.bytes) safe clear

-- What is read off a directive that does not tell a block from a line that cannot be read does not depend on how many
-- words a block has.
module _ {A : Type 0} (of : Option Directive → A) (silent : (ws : List ℕ) → of (Some (block ws)) ≡ of None) where
  -- Of a block's line,
  block_same : (o : Option (List ℕ)) → of (directive_of Kind.Block o) ≡ of None
  block_same None = refl
  block_same (Some ns) = silent ns

  -- of a line of some kind,
  kind-same :
      (s t : ℕ) (k : Kind) (fs : List (List ℕ))
      → of (directive_of k (numbers_for s k fs)) ≡ of (directive_of k (numbers_for t k fs))
  kind-same s t Kind.Plan fs = refl
  kind-same s t Kind.Job fs = refl
  kind-same s t Kind.Block fs = block_same (numbers s fs) ∙ sym (block_same (numbers t fs))
  kind-same s t Kind.Update fs = refl
  kind-same s t Kind.Copy fs = refl
  kind-same s t Kind.Set fs = refl
  kind-same s t Kind.Add fs = refl
  kind-same s t Kind.Call fs = refl
  kind-same s t Kind.Step fs = refl
  kind-same s t Kind.Unknown fs = refl

  -- of a line's fields,
  fields-same :
      (s t : ℕ) (ended : Bool) (fs : List (List ℕ))
      → of (parsed_from s ended fs).directive ≡ of (parsed_from t ended fs).directive
  fields-same s t ended [] = refl
  fields-same s t ended (f ∷ fs) = kind-same s t (kind_of f) fs

  -- and of a line.
  pub line_same : (s t : ℕ) (l : Line) → of (parsed_of s l).directive ≡ of (parsed_of t l).directive
  unfolding parsed_of
  line_same s t l = fields-same s t l.ended (fields l.bytes)

-- So the entries of a line do not.
pub line-listed : (s t n : ℕ) (l : Line) → listed n (parsed_of s l).directive ≡ listed n (parsed_of t l).directive
line-listed s t n l = line_same (listed n) (λ ws. refl) s t l

-- An entry in line n.
abbrev listed_once : Entry → ℕ → Listed
listed_once e n = record { entry = e; line = n }

-- The entries after a line are those before it and its own.
counted : (d : Draft) (n : ℕ) (x : Option Directive) → (after d x).entries ≡ d.entries + length (listed n x)
counted d n None = omega arith
counted d n (Some (plan s)) = omega arith
counted d n (Some (job j)) = omega arith
counted d n (Some (block ws)) = omega arith
counted d n (Some (update k)) = omega arith
counted d n (Some (move m)) = omega arith
counted d n (Some (entry e k)) = omega (arith, length-replicate k (listed_once e n))

-- A reading of lines, behind a draft with some entries, that ends well.
record Ends (entries : ℕ) (ls : List Line) (d : Draft) : Type 0 where
  safe : SoundSoFar d
  whole : laid_out d ≡ true
  all-entries : (s n : ℕ) → entries + length (entries_of s n ls) ≡ d.entries

-- An outcome is a refusal or ends well.
abbrev SoundOutcome : ℕ → List Line → ReadOutcome → Type 0
SoundOutcome entries ls (refused f n) = Unit {0}
SoundOutcome entries ls (sound d) = Ends entries ls d

-- The end of a text.
end-sound :
    (d : Draft) (b : Bool) (n : ℕ) → SoundSoFar d → laid_out d ≡ b
    → SoundOutcome d.entries [] (cond b (sound d) (refused Fault.Misplaced n))
end-sound d true n safe e = record { safe = safe; whole = e; all-entries = λ s n. omega arith }
end-sound d false n safe e = tt

-- One line more in front of lines whose outcome is sound.
line-sound :
    (d : Draft) (l : Line) (ls : List Line) (o : ReadOutcome) → SoundOutcome (after_line d l).entries ls o
    → SoundOutcome d.entries (l ∷ ls) o
line-sound d l ls (refused f n) e = tt
line-sound d l ls (sound z) ends =
    record {
      safe = ends.safe;
      whole = ends.whole;
      all-entries =
          λ s n.
          let own : length (listed n (parsed_of s l).directive) ≡ length (listed n (parsed_in d l).directive)
          = ap length (line-listed s d.plan.sizes.words n l) in
          omega (
            arith,
            counted d n (parsed_in d l).directive,
            length-append (listed n (parsed_of s l).directive) (entries_of s (n + 1) ls),
            ends.all-entries s (n + 1),
          );
    }

-- The fault that is found, or else a sound outcome.
or_sound :
    {has : Fault → Bool} (entries : ℕ) (ls : List Line) (x : Option Fault) (n : ℕ) (rest : ReadOutcome) → Found has x
    → (Clear has → SoundOutcome entries ls rest) → SoundOutcome entries ls (or_else x n rest)
or_sound entries ls (Some f) n rest found sound-rest = tt
or_sound entries ls None n rest found sound-rest = sound-rest found

-- Lines behind a draft that is sound so far are read with a sound outcome.
lines-sound :
    (form : Form) (d : Draft) (ls : List Line) → SoundSoFar d → SoundOutcome d.entries ls (read_lines form d ls)
lines-sound form d [] safe = end-sound d (laid_out d) (d.lines + 1) safe refl
lines-sound form d (l ∷ ls) safe =
    or_sound d.entries (l ∷ ls) (first_of (has_fault form d (parsed_in d l)) by_rank) (d.lines + 1)
    (read_lines form (after_line d l) ls) (line-lowest form d (parsed_in d l))
    (λ clear.
    line-sound d l ls (read_lines form (after_line d l) ls)
    (lines-sound form (after_line d l) ls (line_kept form d l safe clear)))

-- Lines that are read to a draft list as many entries as it has counted.
pub counted-entries :
    (form : Form) (ls : List Line) (d : Draft) (s : ℕ) → read_lines form blank ls ≡ sound d
    → length (entries_of s 1 ls) ≡ d.entries
counted-entries form ls d s e =
    let ends : Ends 0 ls d = rw e at (lines-sound form blank ls blank-sound) in
    omega (arith, ends.all-entries s 1)

-- A draft that is sound so far and laid out has a sound plan.
whole-sound : (d : Draft) → SoundSoFar d → laid_out d ≡ true → Sound d.plan
whole-sound d safe whole =
    let there = laid_out_lem d whole in
    let small = ranges d.plan.sizes (safe.ranged there.0) in
    let all_jobs : length d.plan.jobs ≡ d.plan.sizes.jobs = omega arith in
    let all_blocks : d.blocks ≡ d.plan.sizes.blocks = omega arith in
    record {
      some_card = small.0.0;
      cards = small.0.1;
      some_job = small.1.0;
      jobs = small.1.1;
      some_block = small.2.0;
      blocks = small.2.1;
      some_word = small.3.0;
      words = small.3.1;
      some_copy = small.4.0;
      copies = small.4.1;
      all_jobs = all_jobs;
      on_card = λ k h. safe.jobs-fit.on_card k (omega arith);
      low_priority = λ k h. safe.jobs-fit.low_priority k (omega arith);
      apart = λ a b h l. safe.jobs-fit.apart a (omega arith) b (omega arith);
      all_words = rw (← all_blocks) safe.blocks-fit.all_words;
      few_updates = safe.updates-fit.few;
      few_moves = λ u. (safe.updates-fit.each u).few_moves;
      in_memory = λ u. (safe.updates-fit.each u).in_memory;
      few_blocks = λ u. (safe.updates-fit.each u).few_blocks;
    }

-- A reading is a refusal, or gives a sound plan and not too many entries.
abbrev SoundReading : Reading → Type 0
SoundReading (refusal f n) = Unit {0}
SoundReading (accepted p es n) = Sound p × (length es ≤ most_entries)

-- A sound outcome gives a sound reading.
given-sound : (ls : List Line) (o : ReadOutcome) → SoundOutcome 0 ls o → SoundReading (given ls o)
given-sound ls (refused f n) e = tt
given-sound ls (sound d) ends = (
  whole-sound d ends.safe ends.whole,
  omega (arith, ends.all-entries d.plan.sizes.words 1, ends.safe.few_entries),
)

-- Every reading is sound.
reading-sound : (form : Form) (text : List ℕ) → SoundReading (reading form text)
unfolding reading
reading-sound form text = go (ltb longest (length text))
  where
    go :
        (b : Bool)
        → SoundReading (cond b (refusal Fault.TooLong 0) (given (lines text) (read_lines form blank (lines text))))
    go true = tt
    go false =
        given-sound (lines text) (read_lines form blank (lines text)) (lines-sound form blank (lines text) blank-sound)

-- A plan that is accepted is sound.
pub accepted-sound :
    (form : Form) (text : List ℕ) (p : Plan) (es : List Listed) (n : ℕ) → reading form text ≡ accepted p es n → Sound p
accepted-sound form text p es n e = (rw e at (reading-sound form text)).0

-- A schedule that is accepted has at most 4,000 entries.
pub accepted-few :
    (form : Form) (text : List ℕ) (p : Plan) (es : List Listed) (n : ℕ) → reading form text ≡ accepted p es n
    → length es ≤ most_entries
accepted-few form text p es n e = (rw e at (reading-sound form text)).1

-- There are as many single entries as are listed.
pub entries-many : (ls : List Listed) → length (entries_in ls) ≡ length ls
entries-many ls = length-map ls (λ (l : Listed). l.entry)
