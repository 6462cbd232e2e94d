-- No written text is longer than longest_text (text-short).
--
-- In plain words. A line's length follows from how many digits its numbers may have, and a sound plan's numbers are
-- small: cards below 8, jobs and blocks at most 16, updates at most 32 of at most 16 moves, words of the memory below
-- 256; a word's value and the number k of a move have at most ten digits whatever they are. A run of n steps has n
-- single entries and is no longer than n entry lines may be: one step has no count, and a count of two or more, which
-- is at most ten digits and a tab, is no longer than the second line would be.
--
-- Assumes a sound plan, and entries that it can run.
use Prim.Native.Nat.{ℕ, zero, suc, ◌+◌, ◌*◌, ◌≤◌, ◌<◌}
use mathlib.Core.Path.{◌≡◌, ◌∙◌, ap}
use mathlib.Core.Bool.{false}
use mathlib.Core.List.{List, [], ◌∷◌, map}
use native.Mathlib.Nat.{mul-le-mul}
use native.Mathlib.Omega.{arith}
use borrow.Author.Tests.{eqb-true, eqb-false, leb-false}
use lib.Dec.{eqb, leb}
use lib.ListN.{length, length-append, length-map, length-replicate, length-take, get_or, replicate}
use Rattle.spec_text.specs.Bytes.{bytes}
use Rattle.spec_text.specs.Decimal.{decimal}
use Rattle.spec_text.specs.WrittenLines.{fields_behind, line_of}
use Rattle.spec_text.proofs.Cases.{by-test, neither}
use Rattle.spec_text.proofs.Digits.{decimal-within, decimal-most}
use Rattle.spec_format.specs.declared.Sizes.{Sizes}
use Rattle.spec_format.specs.declared.Job.{Job}
use Rattle.spec_format.specs.declared.Move.{Move}
use Rattle.spec_format.specs.declared.Entry.{Entry}
use Rattle.spec_format.specs.Plan.{Plan, job_in, named}
use Rattle.spec_format.specs.Faults.{most_entries, some_from}
use Rattle.spec_format.specs.Sound.{Sound}
use Rattle.spec_report.specs.Report.{joined}
use Rattle.spec_report.proofs.JoinedLengths.{append-short, joined-short}
use Rattle.spec_plan_text.specs.EntryLines.{EntryLine, call, run, run_bytes, entry_bytes, entry_line_bytes}
use Rattle.spec_plan_text.specs.EntryLines.{longest_runs, singles_of, singles_in, plain}
use Rattle.spec_plan_text.specs.PlanText.{plan_line, job_line, block_words, block_line, move_line, move_in}
use Rattle.spec_plan_text.specs.PlanText.{update_lines}
use Rattle.spec_plan_text.specs.PlanText.{job_lines, opening_block_lines, all_update_lines, plan_text, text_of}
use Rattle.spec_plan_text.specs.LongestText.{longest_plan_line, longest_job_line, longest_block_line}
use Rattle.spec_plan_text.specs.LongestText.{longest_update_line, longest_move_line, longest_entry_line}
use Rattle.spec_plan_text.specs.LongestText.{longest_update, longest_plan_text, longest_text}
use Rattle.spec_plan_text.proofs.Runnable.{AllRunnable}
use Rattle.spec_plan_text.proofs.LongestRuns.{runnable-kinds, only-longest, RunnableLine, RunnableLines}
use Rattle.spec_plan_text.proofs.LongestRuns.{runnable-lines}

-- Numbers have at most so many digits each. There may be fewer numbers.
abbrev HaveDigits : List ℕ → List ℕ → Type 0
HaveDigits ds [] = Unit {0}
HaveDigits [] (n ∷ ns) = ⊥
HaveDigits (d ∷ ds) (n ∷ ns) = (length (decimal n) ≤ d) × HaveDigits ds ns

-- The bytes of so many digits, each number's behind a tab, and the line feed.
abbrev bytes_of : List ℕ → ℕ
bytes_of [] = 1
bytes_of (d ∷ ds) = suc d + bytes_of ds

-- Numbers behind tabs, and the line feed.
fields-short : (ds ns : List ℕ) → HaveDigits ds ns → length (fields_behind (map decimal ns)) ≤ bytes_of ds
fields-short [] [] h = omega arith
fields-short (d ∷ ds) [] h = omega (arith, fields-short ds [] tt)
fields-short [] (n ∷ ns) h = absurd h
fields-short (d ∷ ds) (n ∷ ns) h =
    omega (arith, length-append (decimal n) (fields_behind (map decimal ns)), fields-short ds ns h.1)

-- A line of numbers.
line-short :
    (first ds ns : List ℕ) → HaveDigits ds ns → length (line_of first ns) ≤ length first + bytes_of ds
line-short first ds ns h =
    omega (arith, length-append first (fields_behind (map decimal ns)), fields-short ds ns h)

-- Any numbers have at most ten digits each.
ten-digits : (n : ℕ) (ns : List ℕ) → length ns ≤ n → HaveDigits (replicate n 10) ns
ten-digits n [] h = tt
ten-digits zero (w ∷ ns) h = absurd (omega arith)
ten-digits (suc n) (w ∷ ns) h = (decimal-most w, ten-digits n ns (omega arith))

-- The first of numbers that are all below n, and the others.
below_all :
    (n w : ℕ) (ws : List ℕ) → some_from n (w ∷ ws) ≡ false → (w < n) × (some_from n ws ≡ false)
below_all n w ws h =
    let b = neither (leb n w) (some_from n ws) h in
    (leb-false n w b.0, b.1)

-- A word of a memory of at most 256 words has at most three digits.
word-digits : (n w : ℕ) → n ≤ 256 → w < n → length (decimal w) ≤ 3
word-digits n w few h = decimal-within 2 w (omega arith)

-- A move whose words are below n, at most 256.
move-short :
    (n : ℕ) (m : Move) → n ≤ 256 → some_from n (named m) ≡ false → length (move_line m) ≤ longest_move_line
move-short n (Move.Copy d a) few h =
    let first = below_all n d (a ∷ []) h in
    let second = below_all n a [] first.1 in
    omega (
      arith,
      line-short (bytes "copy") (3 ∷ 3 ∷ []) (d ∷ a ∷ [])
          (word-digits n d few first.0, (word-digits n a few second.0, tt)),
    )
move-short n (Move.Set d k) few h =
    let first = below_all n d [] h in
    omega (
      arith,
      line-short (bytes "set") (3 ∷ 10 ∷ []) (d ∷ k ∷ [])
          (word-digits n d few first.0, (decimal-most k, tt)),
    )
move-short n (Move.Add d a k) few h =
    let first = below_all n d (a ∷ []) h in
    let second = below_all n a [] first.1 in
    line-short (bytes "add") (3 ∷ 3 ∷ 10 ∷ []) (d ∷ a ∷ k ∷ [])
    (word-digits n d few first.0, (word-digits n a few second.0, (decimal-most k, tt)))

module _ (plan : Plan) (ok : Sound plan) where
  -- The plan line.
  plan-line-short : length (plan_line plan.sizes) ≤ longest_plan_line
  plan-line-short =
      let s : Sizes = plan.sizes in
      let cards : length (decimal s.cards) ≤ 1 = decimal-within 0 s.cards (omega (arith, ok.cards)) in
      let jobs : length (decimal s.jobs) ≤ 2 = decimal-within 1 s.jobs (omega (arith, ok.jobs)) in
      let blocks : length (decimal s.blocks) ≤ 2 = decimal-within 1 s.blocks (omega (arith, ok.blocks)) in
      let words : length (decimal s.words) ≤ 2 = decimal-within 1 s.words (omega (arith, ok.words)) in
      let copies : length (decimal s.copies) ≤ 1 = decimal-within 0 s.copies (omega (arith, ok.copies)) in
      line-short (bytes "plan") (1 ∷ 2 ∷ 2 ∷ 2 ∷ 1 ∷ [])
      (s.cards ∷ s.jobs ∷ s.blocks ∷ s.words ∷ s.copies ∷ [])
      (cards, (jobs, (blocks, (words, (copies, tt)))))

  -- The line of a job.
  job-line-short : (k : ℕ) → k < plan.sizes.jobs → length (job_line (job_in plan k)) ≤ longest_job_line
  job-line-short k h =
      let j : Job = job_in plan k in
      line-short (bytes "job") (1 ∷ 3 ∷ []) (j.card ∷ j.priority ∷ []) (
        decimal-within 0 j.card (omega (arith, ok.on_card k h, ok.cards)),
        (decimal-within 2 j.priority (omega (arith, ok.low_priority k h)), tt),
      )

  -- The job lines.
  jobs-short : length (job_lines plan) ≤ 16 * longest_job_line
  jobs-short =
      omega (
        arith,
        ok.jobs,
        joined-short plan.sizes.jobs longest_job_line (λ k. job_line (job_in plan k)) job-line-short,
      )

  -- The line of a block.
  block-line-short : (b : ℕ) → length (block_line plan b) ≤ longest_block_line
  block-line-short b =
      line-short (bytes "block") (replicate 16 10) (block_words plan b)
      (ten-digits 16 (block_words plan b) (simp length-take (omega (arith, ok.words))))

  -- The block lines.
  blocks-short : length (opening_block_lines plan) ≤ 16 * longest_block_line
  blocks-short =
      omega (
        arith,
        ok.blocks,
        joined-short plan.sizes.blocks longest_block_line (block_line plan) (λ b l. block-line-short b),
      )

  -- The memory has at most 256 words.
  few_words : plan.sizes.blocks * plan.sizes.words ≤ 256
  few_words = mul-le-mul ok.blocks ok.words

  -- The moves of an update.
  moves-short :
      (u : ℕ)
      → length (joined (length (get_or plan.updates u [])) (λ i. move_line (move_in (get_or plan.updates u []) i)))
      ≤ 16 * longest_move_line
  moves-short u =
      let ms : List Move = get_or plan.updates u [] in
      omega (
        arith,
        ok.few_moves u,
        joined-short (length ms) longest_move_line (λ i. move_line (move_in ms i))
            (λ i l.
            move-short (plan.sizes.blocks * plan.sizes.words) (move_in ms i) few_words (ok.in_memory u i l)),
      )

  -- An update with its moves.
  update-short :
      (u : ℕ) → u < length plan.updates → length (update_lines u (get_or plan.updates u [])) ≤ longest_update
  update-short u h =
      append-short (line_of (bytes "update") (u ∷ [])) _ longest_update_line (16 * longest_move_line)
      (line-short (bytes "update") (2 ∷ []) (u ∷ []) (decimal-within 1 u (omega (arith, ok.few_updates)), tt))
      (moves-short u)

  -- The updates.
  updates-short : length (all_update_lines plan) ≤ 32 * longest_update
  updates-short =
      omega (
        arith,
        ok.few_updates,
        joined-short (length plan.updates) longest_update (λ u. update_lines u (get_or plan.updates u []))
            update-short,
      )

  -- The text of the plan alone.
  plan-text-short : length (plan_text plan) ≤ longest_plan_text
  unfolding plan_text
  plan-text-short =
      append-short (plan_line plan.sizes) _ longest_plan_line _ plan-line-short
      (append-short (job_lines plan) _ (16 * longest_job_line) _ jobs-short
      (append-short (opening_block_lines plan) (all_update_lines plan) (16 * longest_block_line) _ blocks-short
      updates-short))

-- A run takes no more bytes than as many lines of single entries may.
run_short : (card n : ℕ) → card < 8 → 1 ≤ n → length (run_bytes card n) ≤ n * longest_entry_line
run_short card n small some-step =
    by-test (eqb n 1)
    (λ t.
    rw t
    (omega (
      arith,
      eqb-true n 1 t,
      line-short (bytes "step") (1 ∷ []) (card ∷ []) (decimal-within 0 card (omega arith), tt),
    )))
    (λ t.
    let many : 2 ≤ n = omega (arith, eqb-false n 1 t) in
    rw t
    (omega (
      arith,
      line-short (bytes "step") (1 ∷ 10 ∷ []) (card ∷ n ∷ [])
          (decimal-within 0 card (omega arith), (decimal-most n, tt)),
    )))

module _ (plan : Plan) (ok : Sound plan) where
  -- An entry line takes no more bytes than its single entries may.
  entry-line-short :
      (l : EntryLine) → RunnableLine plan l → length (entry_bytes l) ≤ length (singles_of l) * longest_entry_line
  entry-line-short (call job update) h =
      line-short (bytes "call") (2 ∷ 2 ∷ []) (job ∷ update ∷ []) (
        decimal-within 1 job (omega (arith, ok.jobs)),
        (decimal-within 1 update (omega (arith, ok.few_updates)), tt),
      )
  entry-line-short (run card n) h = rw length-replicate (run_short card n (omega (arith, ok.cards)) h.1)

  -- Nor do entry lines.
  entry-lines-short :
      (ls : List EntryLine) → RunnableLines plan ls
      → length (entry_line_bytes ls) ≤ length (singles_in ls) * longest_entry_line
  entry-lines-short [] h = omega arith
  entry-lines-short (l ∷ ls) h =
      omega (
        arith,
        length-append (entry_bytes l) (entry_line_bytes ls),
        length-append (singles_of l) (singles_in ls),
        entry-line-short l h.0,
        entry-lines-short ls h.1,
      )

  -- Those of entries take at most so many bytes for each entry.
  entries-short :
      (es : List Entry) → AllRunnable plan es
      → length (entry_line_bytes (longest_runs es)) ≤ length es * longest_entry_line
  entries-short es h =
      let many : length (singles_in (longest_runs es)) ≡ length es
      = ap length (only-longest es (runnable-kinds plan es h)).same_singles ∙ length-map es plain in
      rw many at (entry-lines-short (longest_runs es) (runnable-lines plan es h))

-- No text of a sound plan and at most 4,000 entries that it can run is longer than longest_text.
pub text-short :
    (plan : Plan) (es : List Entry) → Sound plan → AllRunnable plan es → length es ≤ most_entries
    → length (text_of plan es) ≤ longest_text
unfolding text_of
text-short plan es ok h few =
    append-short (plan_text plan) (entry_line_bytes (longest_runs es)) longest_plan_text
    (most_entries * longest_entry_line)
    (plan-text-short plan ok)
    (omega (arith, entries-short plan ok es h))
