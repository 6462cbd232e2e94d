-- The text of a sound plan is read back (plan-leads): it leads from the blank draft to one that has the plan, is laid
-- out and has counted no entry. The argument: line by line, each leads from the draft with the plan so far to that with
-- one job, block, update or move more, since no line has a fault: the plan is sound, and every number can be read. An
-- update's first moves write no more blocks than all of them do. Assumes nothing.
use Prim.Native.Nat.{ℕ, suc, ◌+◌, ◌*◌, ◌≤◌, ◌<◌}
use native.Mathlib.Omega.{arith}
use native.Mathlib.Numerals.{add-one}
use native.Mathlib.Nat.{mul-le-mul}
use mathlib.Core.Path.{◌≡◌, refl, sym}
use mathlib.Core.Bool.{Bool, true, false, ◌&&◌, ◌||◌}
use mathlib.Core.List.{List, [], ◌∷◌, ◌++◌}
use Rattle.std.specs.Prelude.{Some, None}
use lib.Dec.{ltb, leb, eqb}
use lib.ListN.{length, get_or, take, drop, length-append, length-take, length-drop, take-append-drop}
use lib.Seq.{take-suc, take_all, take-length, length-take-le, get_or-take, take-add}
use borrow.Author.Tests.{lt-ltb, le-ltb, le-leb, lt-leb, leb-false, eq-eqb, ne_eqb, eqb-true}
use Rattle.spec_text.specs.Numbers.{largest}
use Rattle.spec_text.proofs.Cases.{by-test, neither}
use Rattle.spec_text.proofs.WrittenLines.{AllFit}
use Rattle.spec_format.specs.declared.Kind.{Kind}
use Rattle.spec_format.specs.declared.Form.{Form}
use Rattle.spec_format.specs.declared.Sizes.{Sizes}
use Rattle.spec_format.specs.declared.Job.{Job}
use Rattle.spec_format.specs.declared.Move.{Move}
use Rattle.spec_format.specs.Plan.{Plan, job_in, any, named, is_in, including, block_of, target}
use Rattle.spec_format.specs.Plan.{blocks_written_after, blocks_written}
use Rattle.spec_format.specs.ParsedLines.{move}
use Rattle.spec_format.specs.Faults.{Draft, laid_out, last_of, taken, some_from, has_fault}
use Rattle.spec_format.specs.Reading.{blank, add_to_last, after, by_rank, first_of}
use Rattle.spec_format.specs.Sound.{Sound}
use Rattle.spec_format.proofs.RunIsSteps.{numbered}
use Rattle.spec_plan_text.specs.PlanText.{plan_line, job_line, block_words, block_line, move_line, move_in}
use Rattle.spec_plan_text.specs.PlanText.{update_lines, job_lines, opening_block_lines, all_update_lines, plan_text}
use Rattle.spec_format.proofs.Fits.{AmountFits, Fits, fit-take, fit-drop}
use Rattle.spec_plan_text.proofs.Leads.{saying, Leads, leads-then, joined-leads, line-leads}

-- A test that no element of a list passes finds none.
none_found :
    {A : Type 0} (test : A → Bool) (xs : List A) (other : A)
    → ((k : ℕ) → k < length xs → test (get_or xs k other) ≡ false) → any test xs ≡ false
none_found test [] other each = refl
none_found test (x ∷ xs) other each =
    rw (each 0 (omega arith), none_found test xs other (λ k h. each (suc k) (omega arith)))

-- The last of some updates,
last-of : (us : List (List Move)) (ms : List Move) → last_of (us ++ (ms ∷ [])) ≡ ms
last-of [] ms = refl
last-of (u ∷ []) ms = refl
last-of (u ∷ v ∷ us) ms = last-of (v ∷ us) ms

-- with one more move.
last-added :
    (m : Move) (us : List (List Move)) (ms : List Move)
    → add_to_last m (us ++ (ms ∷ [])) ≡ us ++ ((ms ++ (m ∷ [])) ∷ [])
last-added m [] ms = refl
last-added m (u ∷ []) ms = refl
last-added m (u ∷ v ∷ us) ms = rw (last-added m (v ∷ us) ms)

-- A block more or not is no block fewer.
not-fewer : (bs : List ℕ) (b : ℕ) → length bs ≤ length (including bs b)
not-fewer bs b =
    by-test (is_in b bs) (λ t. rw t (omega arith)) (λ t. rw t (omega (arith, length-append bs (b ∷ []))))

-- More moves write no fewer blocks,
more-blocks : (s : ℕ) (bs : List ℕ) (ms : List Move) → length bs ≤ length (blocks_written_after s bs ms)
more-blocks s bs [] = omega arith
more-blocks s bs (m ∷ ms) =
    omega (
      arith,
      not-fewer bs (block_of s (target m)),
      more-blocks s (including bs (block_of s (target m))) ms,
    )

-- so the first moves write no more than all,
fewer-after :
    (s : ℕ) (bs : List ℕ) (ms ns : List Move)
    → length (blocks_written_after s bs ms) ≤ length (blocks_written_after s bs (ms ++ ns))
fewer-after s bs [] ns = more-blocks s bs ns
fewer-after s bs (m ∷ ms) ns = fewer-after s (including bs (block_of s (target m))) ms ns

-- in an update.
first-blocks :
    (s k : ℕ) (ms : List Move) → length (blocks_written s (take k ms)) ≤ length (blocks_written s ms)
unfolding blocks_written
first-blocks s k ms = rw (take-append-drop k ms) at (fewer-after s [] (take k ms) (drop k ms))

-- A draft behind the plan line with these jobs, blocks, words and updates, and no entry.
abbrev drafted : Sizes → List Job → ℕ → List ℕ → List (List Move) → Draft
drafted s js b ws us =
    record {
      lines = 1;
      blocks = b;
      entries = 0;
      plan = record { sizes = s; jobs = js; words = ws; updates = us };
    }

-- The draft with all jobs and blocks of a plan and these updates.
abbrev pub updating : Plan → List (List Move) → Draft
updating plan us = drafted plan.sizes plan.jobs plan.sizes.blocks plan.words us

-- Of a sound plan it is laid out.
pub laid : (plan : Plan) → Sound plan → (us : List (List Move)) → laid_out (updating plan us) ≡ true
laid plan good us =
    rw (
      le-ltb (length plan.jobs) plan.sizes.jobs (omega (arith, good.all_jobs)),
      le-ltb plan.sizes.blocks plan.sizes.blocks (omega arith),
    )

-- The draft with a whole plan and n entries.
abbrev pub counting : Plan → ℕ → Draft
counting plan n = record { lines = 1; blocks = plan.sizes.blocks; entries = n; plan = plan }

-- The kind of a move's line,
abbrev move_kind : Move → Kind
move_kind (Move.Copy d a) = Kind.Copy
move_kind (Move.Set d k) = Kind.Set
move_kind (Move.Add d a k) = Kind.Add

-- and its numbers,
abbrev move_numbers : Move → List ℕ
move_numbers (Move.Copy d a) = d ∷ a ∷ []
move_numbers (Move.Set d k) = d ∷ k ∷ []
move_numbers (Move.Add d a k) = d ∷ a ∷ k ∷ []

-- which can be read, where the words are below n, and n and k can be read.
move-fits :
    (n : ℕ) (m : Move) → n ≤ largest → some_from n (named m) ≡ false → AmountFits m → AllFit (move_numbers m)
move-fits n (Move.Copy d a) h inside fit =
    let first = neither (leb n d) (leb n a || false) inside in
    let second = neither (leb n a) false first.1 in
    (omega (arith, leb-false n d first.0), (omega (arith, leb-false n a second.0), tt))
move-fits n (Move.Set d k) h inside fit =
    let first = neither (leb n d) false inside in
    (omega (arith, leb-false n d first.0), (fit, tt))
move-fits n (Move.Add d a k) h inside fit =
    let first = neither (leb n d) (leb n a || false) inside in
    let second = neither (leb n a) false first.1 in
    (omega (arith, leb-false n d first.0), (omega (arith, leb-false n a second.0), (fit, tt)))

-- A move's line has no fault where it may stand, is not one too many, names words in memory and does not make too many
-- blocks written.
move-clear :
    (form : Form) (d : Draft) (m : Move)
    → ((laid_out d && eqb d.entries 0) && ltb 0 (length d.plan.updates)) ≡ true
    → leb 16 (length (last_of d.plan.updates)) ≡ false
    → some_from (d.plan.sizes.blocks * d.plan.sizes.words) (named m) ≡ false
    → ltb d.plan.sizes.copies
    (length (blocks_written d.plan.sizes.words (last_of d.plan.updates ++ (m ∷ []))))
    ≡ false
    → first_of (has_fault form d (saying (move_kind m) (move_numbers m))) by_rank ≡ None
move-clear form d (Move.Copy x a) stands few inside blocks = rw (stands, few, inside, blocks)
move-clear form d (Move.Set x k) stands few inside blocks = rw (stands, few, inside, blocks)
move-clear form d (Move.Add x a k) stands few inside blocks = rw (stands, few, inside, blocks)

-- A move's line without a fault adds the move to the last update.
move-line-leads :
    (form : Form) (d : Draft) (m : Move) → AllFit (move_numbers m)
    → first_of (has_fault form d (saying (move_kind m) (move_numbers m))) by_rank ≡ None
    → Leads form d (move_line m) [] (numbered 1 (after d (Some (move m))))
move-line-leads form d (Move.Copy x a) fit clear = line-leads form d Kind.Copy (x ∷ a ∷ []) fit refl clear
move-line-leads form d (Move.Set x k) fit clear = line-leads form d Kind.Set (x ∷ k ∷ []) fit refl clear
move-line-leads form d (Move.Add x a k) fit clear = line-leads form d Kind.Add (x ∷ a ∷ k ∷ []) fit refl clear

-- What stands past the last job.
abbrev no_job : Job
no_job = record { card = 0; priority = 0 }

module _ (form : Form) (plan : Plan) (good : Sound plan) (fits : Fits plan) where
  -- The plan line.
  sizes-lead : Leads form blank (plan_line plan.sizes) [] (drafted plan.sizes [] 0 [] [])
  sizes-lead =
      let s : Sizes = plan.sizes in
      line-leads form blank Kind.Plan (s.cards ∷ s.jobs ∷ s.blocks ∷ s.words ∷ s.copies ∷ [])
      (omega arith, (omega arith, (omega arith, (omega arith, (omega arith, tt))))) refl
      (rw (
        le-leb 1 s.cards good.some_card,
        le-leb s.cards 8 good.cards,
        le-leb 1 s.jobs good.some_job,
        le-leb s.jobs 16 good.jobs,
        le-leb 1 s.blocks good.some_block,
        le-leb s.blocks 16 good.blocks,
        le-leb 1 s.words good.some_word,
        le-leb s.words 16 good.words,
        le-leb 1 s.copies good.some_copy,
        le-leb s.copies 8 good.copies,
      ))

  -- No earlier job has the card and the priority of job k.
  job-free : (k : ℕ) → k < plan.sizes.jobs → taken (job_in plan k) (take k plan.jobs) ≡ false
  job-free k h = none_found _ (take k plan.jobs) no_job (λ a b. go a (omega (arith, length-take k plan.jobs)))
    where
      go : (a : ℕ) → a < k
          → (eqb (get_or (take k plan.jobs) a no_job).card (job_in plan k).card
          && eqb (get_or (take k plan.jobs) a no_job).priority (job_in plan k).priority)
          ≡ false
      go a l =
          rw (get_or-take k plan.jobs a no_job l)
          (by-test (eqb (job_in plan a).card (job_in plan k).card)
          (λ t.
          rw t
          (ne_eqb (job_in plan a).priority (job_in plan k).priority
          (λ e.
          let same : a ≡ k = good.apart a k (omega arith) h (eqb-true _ _ t) e in
          omega arith)))
          (λ t. rw t))

  -- Job k.
  job-leads :
      (k : ℕ) → k < plan.sizes.jobs
      → Leads form (drafted plan.sizes (take k plan.jobs) 0 [] []) (job_line (job_in plan k)) []
      (drafted plan.sizes (take (suc k) plan.jobs) 0 [] [])
  job-leads k h =
      let all : length plan.jobs ≡ plan.sizes.jobs = good.all_jobs in
      let j : Job = job_in plan k in
      let low : j.priority ≤ 255 = good.low_priority k h in
      let card : j.card < plan.sizes.cards = good.on_card k h in
      rw (take-suc plan.jobs k no_job (omega arith))
      (line-leads form (drafted plan.sizes (take k plan.jobs) 0 [] []) Kind.Job (j.card ∷ j.priority ∷ [])
      (omega arith, (omega arith, tt)) refl
      (rw (
        length-take-le k plan.jobs (omega arith),
        lt-ltb k plan.sizes.jobs h,
        lt-leb plan.sizes.cards j.card card,
        le-ltb 255 j.priority low,
        job-free k h,
      )))

  -- All jobs.
  jobs-lead :
      Leads form (drafted plan.sizes [] 0 [] []) (job_lines plan) [] (drafted plan.sizes plan.jobs 0 [] [])
  jobs-lead =
      rw (take_all plan.sizes.jobs plan.jobs (omega (arith, good.all_jobs))) at
      (joined-leads form plan.sizes.jobs (λ k. job_line (job_in plan k))
      (λ k. drafted plan.sizes (take k plan.jobs) 0 [] []) job-leads)

  -- Block b has S words.
  block_words_lem : (b : ℕ) → b < plan.sizes.blocks → length (block_words plan b) ≡ plan.sizes.words
  block_words_lem b h =
      let s : ℕ = plan.sizes.words in
      let room : suc b * s ≤ plan.sizes.blocks * s = mul-le-mul h (omega arith) in
      length-take-le s (drop (b * s) plan.words)
      (rw (length-drop (b * s) plan.words, good.all_words) (omega arith))

  -- Block b.
  block-leads :
      (b : ℕ) → b < plan.sizes.blocks
      → Leads form (drafted plan.sizes plan.jobs b (take (b * plan.sizes.words) plan.words) [])
      (block_line plan b) []
      (drafted plan.sizes plan.jobs (suc b) (take (suc b * plan.sizes.words) plan.words) [])
  block-leads b h =
      let s : ℕ = plan.sizes.words in
      let d : Draft = drafted plan.sizes plan.jobs b (take (b * s) plan.words) [] in
      let more : suc b * s ≡ b * s + s = omega arith in
      rw (more, take-add (b * s) s plan.words, ← add-one b)
      (line-leads form d Kind.Block (block_words plan b)
      (fit-take s (drop (b * s) plan.words) (fit-drop (b * s) plan.words fits.words))
      (sym (block_words_lem b h))
      (rw (
        le-ltb (length plan.jobs) plan.sizes.jobs (omega (arith, good.all_jobs)),
        lt-ltb b plan.sizes.blocks h,
      )))

  -- All blocks.
  blocks-lead :
      Leads form (drafted plan.sizes plan.jobs 0 [] []) (opening_block_lines plan) []
      (drafted plan.sizes plan.jobs plan.sizes.blocks plan.words [])
  blocks-lead =
      let nothing : 0 * plan.sizes.words ≡ 0 = omega arith in
      let all : length plan.words ≡ plan.sizes.blocks * plan.sizes.words = good.all_words in
      rw (nothing, take_all (plan.sizes.blocks * plan.sizes.words) plan.words (omega arith)) at
      (joined-leads form plan.sizes.blocks (block_line plan)
      (λ b. drafted plan.sizes plan.jobs b (take (b * plan.sizes.words) plan.words) []) block-leads)

  -- Move i of update u.
  move-leads :
      (u i : ℕ) → i < length (get_or plan.updates u [])
      → Leads form (updating plan (take u plan.updates ++ (take i (get_or plan.updates u []) ∷ [])))
      (move_line (move_in (get_or plan.updates u []) i)) []
      (updating plan (take u plan.updates ++ (take (suc i) (get_or plan.updates u []) ∷ [])))
  move-leads u i h =
      let us : List (List Move) = take u plan.updates in
      let ms : List Move = get_or plan.updates u [] in
      let m : Move = move_in ms i in
      let d : Draft = updating plan (us ++ (take i ms ∷ [])) in
      let more : take (suc i) ms ≡ take i ms ++ (m ∷ []) = take-suc ms i (Move.Copy 0 0) h in
      let last : last_of (us ++ (take i ms ∷ [])) ≡ take i ms = last-of us (take i ms) in
      let memory : plan.sizes.blocks * plan.sizes.words ≤ 16 * 16 = mul-le-mul good.blocks good.words in
      rw (more, ← last-added m us (take i ms))
      (move-line-leads form d m
      (move-fits (plan.sizes.blocks * plan.sizes.words) m (omega arith) (good.in_memory u i h)
      (fits.amounts u i))
      (move-clear form d m
      (rw (laid plan good (us ++ (take i ms ∷ [])))
      (lt-ltb 0 (length (us ++ (take i ms ∷ []))) (omega (arith, length-append us (take i ms ∷ [])))))
      (rw (last, length-take-le i ms (omega arith)) (lt-leb 16 i (omega (arith, good.few_moves u))))
      (good.in_memory u i h)
      (rw (last, ← more)
      (le-ltb plan.sizes.copies (length (blocks_written plan.sizes.words (take (suc i) ms)))
      (omega (arith, good.few_blocks u, first-blocks plan.sizes.words (suc i) ms))))))

  -- Update u with its moves.
  update-leads :
      (u : ℕ) → u < length plan.updates
      → Leads form (updating plan (take u plan.updates)) (update_lines u (get_or plan.updates u [])) []
      (updating plan (take (suc u) plan.updates))
  update-leads u h =
      let us : List (List Move) = take u plan.updates in
      let ms : List Move = get_or plan.updates u [] in
      let d : Draft = updating plan us in
      let many : length us ≡ u = length-take-le u plan.updates (omega arith) in
      rw (take-suc plan.updates u [] h)
      (leads-then
      (line-leads form d Kind.Update (u ∷ []) (omega (arith, good.few_updates), tt) refl
      (rw (
        laid plan good us,
        many,
        lt-leb 32 u (omega (arith, good.few_updates)),
        eq-eqb u u refl,
      )))
      (rw (take-length ms) at
      (joined-leads form (length ms) (λ i. move_line (move_in ms i))
      (λ i. updating plan (us ++ (take i ms ∷ []))) (move-leads u))))

  -- All updates.
  updates-lead : Leads form (updating plan []) (all_update_lines plan) [] (counting plan 0)
  updates-lead =
      rw (take-length plan.updates) at
      (joined-leads form (length plan.updates) (λ u. update_lines u (get_or plan.updates u []))
      (λ u. updating plan (take u plan.updates)) update-leads)

  -- The text of the plan.
  pub plan-leads : Leads form blank (plan_text plan) [] (counting plan 0)
  unfolding plan_text
  plan-leads = leads-then sizes-lead (leads-then jobs-lead (leads-then blocks-lead updates-lead))
