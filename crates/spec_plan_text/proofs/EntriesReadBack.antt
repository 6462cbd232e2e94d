-- The entry lines of single entries are read back (schedule-leads): behind a plan that can run the entries they lead to
-- the same plan with the entries counted, and list the single entries with their unused numbers 0. The argument: a line
-- has no fault where its numbers can be read, it says at least one entry, and there is room for its entries. The lines
-- of all entries say just those (LongestRuns), so as many as there are, and their numbers are those of the entries, or
-- counts of at most all of them. Assumes nothing.
use Prim.Native.Nat.{ℕ, ◌+◌, ◌≤◌}
use native.Mathlib.Omega.{arith}
use mathlib.Core.Path.{◌≡◌, refl}
use mathlib.Core.Bool.{true, false}
use mathlib.Core.List.{List, [], ◌∷◌, map}
use Rattle.std.specs.Prelude.{Some, None}
use lib.Dec.{eqb}
use lib.ListN.{length, replicate, length-append, length-replicate, length-map}
use borrow.Author.Tests.{le-ltb, le-leb, eqb-true}
use Rattle.spec_text.specs.Numbers.{largest}
use Rattle.spec_text.proofs.Cases.{by-test}
use Rattle.spec_format.specs.declared.Kind.{Kind}
use Rattle.spec_format.specs.declared.Form.{Form}
use Rattle.spec_format.specs.declared.Entry.{Entry}
use Rattle.spec_format.specs.Plan.{Plan}
use Rattle.spec_format.specs.ParsedLines.{entry}
use Rattle.spec_format.specs.Faults.{laid_out, stands, is_unknown, longest_run, most_entries, has_fault}
use Rattle.spec_format.specs.Reading.{by_rank, first_of}
use Rattle.spec_format.specs.Sound.{Sound}
use Rattle.spec_plan_text.specs.EntryLines.{EntryLine, call, run, entry_bytes, entry_line_bytes, longest_runs}
use Rattle.spec_plan_text.specs.EntryLines.{singles_of, singles_in, plain}
use Rattle.spec_plan_text.proofs.Runnable.{AllRunnable}
use Rattle.spec_plan_text.proofs.LongestRuns.{runnable-kinds, one-uncounted, only-longest}
use Rattle.spec_plan_text.proofs.LongestRuns.{RunnableLine, RunnableLines, runnable-lines}
use Rattle.spec_plan_text.proofs.Leads.{Leads, none-leads, leads-then, line-leads}
use Rattle.spec_plan_text.proofs.PlanReadBack.{laid, counting}

-- A single step of a card.
abbrev step_of : ℕ → Entry
step_of card = record { kind = 1; first = card; second = 0 }

module _ (plan : Plan) (good : Sound plan) where
  -- A line that says an entry k times has no fault, where there is room for them.
  entry-clear :
      (kind : Kind) (e : Entry) (n k : ℕ) → is_unknown kind ≡ false
      → stands Form.Schedule (counting plan n) kind ≡ laid_out (counting plan n) → 1 ≤ k → n + k ≤ most_entries
      → first_of
      (has_fault Form.Schedule (counting plan n) (record { ended = true; kind = kind; directive = Some (entry e k) }))
      by_rank
      ≡ None
  entry-clear kind e n k known place some-entry room =
      rw (
        known,
        place,
        laid plan good plan.updates,
        le-leb 1 k some-entry,
        le-leb k longest_run (omega arith),
        le-ltb most_entries (n + k) room,
      )

  -- An entry line counts and lists its single entries.
  entry-leads :
      (l : EntryLine) (n : ℕ) → RunnableLine plan l → n + length (singles_of l) ≤ most_entries
      → Leads Form.Schedule (counting plan n) (entry_bytes l) (singles_of l) (counting plan (n + length (singles_of l)))
  entry-leads (call job update) n fit room =
      line-leads Form.Schedule (counting plan n) Kind.Call (job ∷ update ∷ [])
      (omega (arith, good.jobs), (omega (arith, good.few_updates), tt)) refl
      (entry-clear Kind.Call (record { kind = 0; first = job; second = update }) n 1 refl refl (omega arith) room)
  entry-leads (run card k) n fit room =
      let many : length (replicate k (step_of card)) ≡ k = length-replicate k (step_of card) in
      let low : card ≤ largest = omega (arith, good.cards) in
      by-test (eqb k 1)
      (λ t.
      let one : k ≡ 1 = eqb-true k 1 t in
      rw (one-uncounted card k one, one)
      (line-leads Form.Schedule (counting plan n) Kind.Step (card ∷ []) (low, tt) refl
      (entry-clear Kind.Step (step_of card) n 1 refl refl (omega arith) (omega arith))))
      (λ t.
      rw (t, many)
      (line-leads Form.Schedule (counting plan n) Kind.Step (card ∷ k ∷ []) (low, (omega arith, tt)) refl
      (entry-clear Kind.Step (step_of card) n k refl refl fit.1 (omega arith))))

  -- So do entry lines.
  entries-lead :
      (ls : List EntryLine) (n : ℕ) → RunnableLines plan ls → n + length (singles_in ls) ≤ most_entries
      → Leads Form.Schedule (counting plan n) (entry_line_bytes ls) (singles_in ls)
      (counting plan (n + length (singles_in ls)))
  entries-lead [] n fit room =
      let same : n + 0 ≡ n = omega arith in
      rw same (none-leads Form.Schedule (counting plan n))
  entries-lead (l ∷ ls) n fit room =
      let m : ℕ = n + length (singles_of l) in
      let more : length (singles_in (l ∷ ls)) ≡ length (singles_of l) + length (singles_in ls)
      = length-append (singles_of l) (singles_in ls) in
      let sum : n + length (singles_in (l ∷ ls)) ≡ m + length (singles_in ls) = omega arith in
      rw sum
      (leads-then (entry-leads l n fit.0 (omega arith)) (entries-lead ls m fit.1 (omega arith)))

-- The entry lines of entries that a sound plan can run, where they are not too many.
pub schedule-leads :
    (plan : Plan) (es : List Entry) → Sound plan → AllRunnable plan es → length es ≤ most_entries
    → Leads Form.Schedule (counting plan 0) (entry_line_bytes (longest_runs es)) (map plain es)
    (counting plan (length es))
schedule-leads plan es good runnable few =
    let same : singles_in (longest_runs es) ≡ map plain es
    = (only-longest es (runnable-kinds plan es runnable)).same_singles in
    let many : 0 + length (map plain es) ≡ length es = omega (arith, length-map es plain) in
    rw (same, many) at
    (entries-lead plan good (longest_runs es) 0 (runnable-lines plan es runnable)
    (rw (same, many) few))
