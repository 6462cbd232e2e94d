-- The runs of a written text are the longest, field by field, and a run of one has no count (fully-joined): no two of
-- its lines that follow each other are steps of one card, and none is a step with the count 1.
--
-- In plain words. A written line is a line of the text with the fields that were written, since no word and no decimal
-- form holds a tab or a line feed. A line of the plan has another first field than `step`, so in front of any lines it
-- changes nothing. The fields of the entry lines are those of entry lines with the longest runs: two runs that follow
-- each other are of different cards, whose decimal forms differ, and a count is written only where it is not 1, whose
-- decimal form is `1` alone. Both of decimal forms holds however large the numbers are: they are worth the numbers.
--
-- Assumes nothing.
use Prim.Native.Nat.{ℕ, zero, suc}
use mathlib.Core.Path.{◌≡◌, refl, ◌∙◌}
use mathlib.Core.Logic.{◌≢◌}
use mathlib.Core.Bool.{true, false, cond}
use mathlib.Core.List.{List, [], ◌∷◌, ◌++◌, map, append_assoc}
use lib.Dec.{eqb}
use lib.ListN.{length, get_or}
use borrow.Author.Tests.{eqb-true, eqb-false}
use Rattle.spec_text.specs.Bytes.{bytes}
use Rattle.spec_text.specs.Decimal.{decimal}
use Rattle.spec_text.specs.WrittenLines.{line_of}
use Rattle.spec_text.proofs.Cases.{by-test, both}
use Rattle.spec_text.proofs.Decimal.{decimal-of-one}
use Rattle.spec_text.proofs.WrittenLines.{numbers-line, numbers-fields}
use Rattle.spec_format.specs.declared.Kind.{Kind}
use Rattle.spec_format.specs.declared.Entry.{Entry}
use Rattle.spec_format.specs.declared.Sizes.{Sizes}
use Rattle.spec_format.specs.declared.Job.{Job}
use Rattle.spec_format.specs.declared.Move.{Move}
use Rattle.spec_format.specs.Plan.{Plan, job_in}
use Rattle.spec_format.specs.Kinds.{same_bytes}
use Rattle.spec_format.proofs.RunIsSteps.{no_lines}
use Rattle.spec_report.specs.Report.{joined}
use Rattle.spec_report.specs.Outcomes.{Outcome}
use Rattle.spec_plan_text.specs.EntryLines.{EntryLine, call, run, entry_bytes, entry_line_bytes, longest_runs}
use Rattle.spec_plan_text.specs.EntryLines.{Longest}
use Rattle.spec_plan_text.specs.PlanText.{plan_line, job_line, block_words, block_line, move_line, move_in}
use Rattle.spec_plan_text.specs.PlanText.{update_lines, job_lines, opening_block_lines, all_update_lines, plan_text}
use Rattle.spec_plan_text.specs.PlanText.{text_of}
use Rattle.spec_plan_text.specs.WrittenTexts.{WrittenFrom, fields_in, same_card, counts_one, fully_joined}
use Rattle.spec_plan_text.proofs.LongestRuns.{all-longest}
use Rattle.spec_plan_text.proofs.Leads.{word_of, word-plain}

-- Lists that hold the same bytes are the same.
same_bytes_lem : (s t : List ℕ) → same_bytes s t ≡ true → s ≡ t
same_bytes_lem [] [] e = refl
same_bytes_lem [] (c ∷ t) e = cc
same_bytes_lem (b ∷ s) [] e = cc
same_bytes_lem (b ∷ s) (c ∷ t) e =
    let first = both (eqb b c) (same_bytes s t) e in
    cc (eqb-true b c first.0, same_bytes_lem s t first.1)

-- The decimal forms of different numbers do not hold the same bytes.
decimals-differ : (n m : ℕ) → n ≢ m → same_bytes (decimal n) (decimal m) ≡ false
decimals-differ n m h =
    by-test (same_bytes (decimal n) (decimal m))
    (λ t. absurd (h (decimal-of-one n m (same_bytes_lem (decimal n) (decimal m) t))))
    (λ t. t)

-- The decimal form of 1.
decimal-one : decimal 1 ≡ bytes "1"
unfolding decimal
decimal-one = refl

-- The fields of a text that begins with a written line: those that were written, and those of the lines behind it.
line-fields :
    (k : Kind) (ns rest : List ℕ)
    → fields_in (line_of (word_of k) ns ++ rest) ≡ (word_of k ∷ map decimal ns) ∷ fields_in rest
line-fields k ns rest =
    rw (numbers-line (word_of k) ns rest (word-plain k), numbers-fields (word_of k) ns (word-plain k))

-- A line whose first field is not `step` is no step of a card,
other-card :
    (f : List ℕ) (fs next : List (List ℕ)) → same_bytes f (bytes "step") ≡ false → same_card (f ∷ fs) next ≡ false
other-card f [] next e = refl
other-card f (c ∷ fs) [] e = refl
other-card f (c ∷ fs) (g ∷ []) e = refl
other-card f (c ∷ fs) (g ∷ d ∷ gs) e = rw e

-- and has no count.
other-count : (f : List ℕ) (fs : List (List ℕ)) → same_bytes f (bytes "step") ≡ false → counts_one (f ∷ fs) ≡ false
other-count f [] e = refl
other-count f (c ∷ []) e = refl
other-count f (c ∷ n ∷ fs) e = rw e

-- So it changes nothing in front of lines.
other-line :
    (f : List ℕ) (fs : List (List ℕ)) (ls : List (List (List ℕ))) → same_bytes f (bytes "step") ≡ false
    → fully_joined ((f ∷ fs) ∷ ls) ≡ fully_joined ls
other-line f fs [] e = rw (other-count f fs e)
other-line f fs (next ∷ ls) e = rw (other-count f fs e, other-card f fs next e)

-- Bytes change nothing in front of others.
abbrev Passes : List ℕ → Type 0
Passes text = (rest : List ℕ) → fully_joined (fields_in (text ++ rest)) ≡ fully_joined (fields_in rest)

-- A written line with such a first field.
line-passes : (k : Kind) (ns : List ℕ) → same_bytes (word_of k) (bytes "step") ≡ false → Passes (line_of (word_of k) ns)
line-passes k ns e rest = rw (line-fields k ns rest) (other-line (word_of k) (map decimal ns) (fields_in rest) e)

-- Bytes behind each other.
passes_then : (s t : List ℕ) → Passes s → Passes t → Passes (s ++ t)
passes_then s t one other rest = rw (append_assoc s t rest) (one (t ++ rest) ∙ other rest)

-- Parts behind each other.
joined-pass : (n : ℕ) (part : ℕ → List ℕ) → ((k : ℕ) → Passes (part k)) → Passes (joined n part)
joined-pass zero part each = λ rest. refl
joined-pass (suc n) part each = passes_then (joined n part) (part n) (joined-pass n part each) (each n)

-- A move's line.
move-passes : (m : Move) → Passes (move_line m)
move-passes (Move.Copy d a) = line-passes Kind.Copy (d ∷ a ∷ []) refl
move-passes (Move.Set d k) = line-passes Kind.Set (d ∷ k ∷ []) refl
move-passes (Move.Add d a k) = line-passes Kind.Add (d ∷ a ∷ k ∷ []) refl

-- An update with its moves.
update-passes : (n : ℕ) (ms : List Move) → Passes (update_lines n ms)
update-passes n ms =
    passes_then (line_of (bytes "update") (n ∷ [])) (joined (length ms) (λ i. move_line (move_in ms i)))
    (line-passes Kind.Update (n ∷ []) refl)
    (joined-pass (length ms) (λ i. move_line (move_in ms i)) (λ i. move-passes (move_in ms i)))

-- The text of a plan.
plan-passes : (plan : Plan) → Passes (plan_text plan)
unfolding plan_text
plan-passes plan =
    let s : Sizes = plan.sizes in
    passes_then (plan_line s) (job_lines plan ++ (opening_block_lines plan ++ all_update_lines plan))
    (line-passes Kind.Plan (s.cards ∷ s.jobs ∷ s.blocks ∷ s.words ∷ s.copies ∷ []) refl)
    (passes_then (job_lines plan) (opening_block_lines plan ++ all_update_lines plan)
    (joined-pass plan.sizes.jobs (λ k. job_line (job_in plan k))
    (λ k.
    let j : Job = job_in plan k in
    line-passes Kind.Job (j.card ∷ j.priority ∷ []) refl))
    (passes_then (opening_block_lines plan) (all_update_lines plan)
    (joined-pass plan.sizes.blocks (block_line plan)
    (λ b. line-passes Kind.Block (block_words plan b) refl))
    (joined-pass (length plan.updates) (λ u. update_lines u (get_or plan.updates u []))
    (λ u. update-passes u (get_or plan.updates u [])))))

-- The count of a run as fields: a run of one has none.
abbrev count_field : ℕ → List (List ℕ)
count_field n = cond (eqb n 1) [] (decimal n ∷ [])

-- The fields of an entry line.
abbrev entry_fields : EntryLine → List (List ℕ)
entry_fields (call job update) = bytes "call" ∷ decimal job ∷ decimal update ∷ []
entry_fields (run card n) = bytes "step" ∷ decimal card ∷ count_field n

-- They are those of its bytes,
entry-fields :
    (l : EntryLine) (rest : List ℕ) → fields_in (entry_bytes l ++ rest) ≡ entry_fields l ∷ fields_in rest
entry-fields (call job update) rest =
    line-fields Kind.Call (job ∷ update ∷ []) rest
entry-fields (run card n) rest =
    by-test (eqb n 1)
    (λ t. rw t (line-fields Kind.Step (card ∷ []) rest))
    (λ t. rw t (line-fields Kind.Step (card ∷ n ∷ []) rest))

-- and those of entry lines are.
entries-fields : (ls : List EntryLine) → fields_in (entry_line_bytes ls) ≡ map entry_fields ls
entries-fields [] = rw no_lines
entries-fields (l ∷ ls) = entry-fields l (entry_line_bytes ls) ∙ rw (entries-fields ls)

-- No entry line is a step with the count 1.
no_one : (l : EntryLine) → counts_one (entry_fields l) ≡ false
no_one (call job update) = refl
no_one (run card n) =
    by-test (eqb n 1)
    (λ t. rw t)
    (λ t. rw t (rw decimal-one at (decimals-differ n 1 (eqb-false n 1 t))))

-- Runs of different cards are no steps of one card.
cards-differ :
    (card n other m : ℕ) → (card ≡ other → ⊥) → same_card (entry_fields (run card n)) (entry_fields (run other m))
    ≡ false
cards-differ card n other m h = decimals-differ card other h

-- Entry lines with the longest runs.
longest-joined : (ls : List EntryLine) → Longest ls → fully_joined (map entry_fields ls) ≡ true
longest-joined [] h = refl
longest-joined (l ∷ []) h = rw (no_one l)
longest-joined (call job update ∷ next ∷ ls) h =
    other-line (bytes "call") (decimal job ∷ decimal update ∷ []) (map entry_fields (next ∷ ls)) refl
    ∙ longest-joined (next ∷ ls) h.1.1
longest-joined (run card n ∷ call job update ∷ ls) h =
    rw (no_one (run card n)) (longest-joined (call job update ∷ ls) h.1.1)
longest-joined (run card n ∷ run other m ∷ ls) h =
    rw (no_one (run card n), cards-differ card n other m h.1.0) (longest-joined (run other m ∷ ls) h.1.1)

-- The one text of any plan and any single entries.
text-joined : (plan : Plan) (es : List Entry) → fully_joined (fields_in (text_of plan es)) ≡ true
unfolding text_of
text-joined plan es =
    plan-passes plan (entry_line_bytes (longest_runs es))
    ∙ rw (entries-fields (longest_runs es)) (longest-joined (longest_runs es) (all-longest es))

-- Every written text.
pub fully-joined :
    (plan : Plan) (es : List Entry) (ran : Outcome) (n : ℕ) (text : List ℕ) → WrittenFrom plan es ran n text
    → fully_joined (fields_in text) ≡ true
fully-joined plan es ran n text w = rw w.text_is (text-joined plan es)
