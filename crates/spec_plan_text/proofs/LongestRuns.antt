-- The entry lines of single entries (only-longest): their runs are the longest, their single entries are those, each
-- step with its unused number 0, and no other entry lines have both. A step's unused number does not matter to them
-- (plain-longest), steps of one card in front of entries that begin with no step of it are one run (run-in-front), and
-- where a plan can run the entries, it has the numbers of their lines (runnable-lines).
--
-- In plain words. A step in front of entry lines makes a run of its card longer, or begins one where the first line is
-- of no step of its card, so no two runs of one card meet. The other way round, entry lines whose runs are the longest
-- come out again when their single entries are joined: each run meets no step of its card.
--
-- Assumes nothing.
use Prim.Native.Nat.{ℕ, zero, suc, ◌≤◌, ◌<◌}
use mathlib.Core.Path.{◌≡◌, refl, sym, ◌∙◌, ap, subst}
use mathlib.Core.Logic.{◌⊎◌, inl, inr, ⊎_elim, ◌≢◌}
use mathlib.Core.Bool.{false}
use mathlib.Core.List.{List, [], ◌∷◌, ◌++◌, map}
use native.Mathlib.Omega.{arith}
use borrow.Author.Tests.{eqb-true, eqb-false, eq-eqb, ne_eqb}
use lib.Dec.{eqb}
use lib.ListN.{length, length-replicate, replicate}
use Rattle.spec_text.specs.Bytes.{bytes}
use Rattle.spec_text.specs.WrittenLines.{line_of}
use Rattle.spec_text.proofs.Cases.{by-test}
use Rattle.spec_format.specs.declared.Entry.{Entry}
use Rattle.spec_format.specs.Plan.{Plan}
use Rattle.spec_plan_text.specs.EntryLines.{EntryLine, call, run, run_bytes, SomeSteps, Longest}
use Rattle.spec_plan_text.specs.EntryLines.{step_before, entry_before, longest_runs, singles_in, plain}
use Rattle.spec_plan_text.specs.PlanText.{text_of}
use Rattle.spec_plan_text.specs.WrittenTexts.{OnlyLongest}
use Rattle.spec_plan_text.proofs.Runnable.{Runnable, AllRunnable}

-- Every entry is a call or a step.
abbrev pub KnownKinds : List Entry → Type 0
KnownKinds [] = Unit {0}
KnownKinds (e ∷ es) = ((e.kind ≡ 0) ⊎ (e.kind ≡ 1)) × KnownKinds es

-- Entries that a plan can run are calls and steps.
pub runnable-kinds : (plan : Plan) (es : List Entry) → AllRunnable plan es → KnownKinds es
runnable-kinds plan [] h = tt
runnable-kinds plan (e ∷ es) h =
    (⊎_elim (λ known. inl known.0) (λ known. inr known.0) h.0, runnable-kinds plan es h.1)

-- An entry is a step of a card, as the entry lines take it: every kind but 0 is a step.
abbrev pub StepOf : ℕ → Entry → Type 0
StepOf card e = (e.kind ≢ 0) × (e.first ≡ card)

-- All entries are steps of a card.
abbrev pub AllSteps : ℕ → List Entry → Type 0
AllSteps card [] = Unit {0}
AllSteps card (e ∷ es) = StepOf card e × AllSteps card es

-- Entries do not begin with a step of a card.
abbrev pub NotStep : ℕ → List Entry → Type 0
NotStep card [] = Unit {0}
NotStep card (e ∷ es) = StepOf card e → ⊥

-- A run of one has no count.
pub one-uncounted : (card n : ℕ) → n ≡ 1 → run_bytes card n ≡ line_of (bytes "step") (card ∷ [])
one-uncounted card n one = rw one

-- The single entries of entry lines with a step in front.
step-singles :
    (card : ℕ) (ls : List EntryLine)
    → singles_in (step_before card ls) ≡ record { kind = 1; first = card; second = 0 } ∷ singles_in ls
step-singles card [] = refl
step-singles card (call job update ∷ ls) = refl
step-singles card (run other n ∷ ls) =
    by-test (eqb other card)
    (λ t. rw (t, eqb-true other card t))
    (λ t. rw t)

-- The single entries of entry lines with a call or a step in front.
entry-singles :
    (e : Entry) (ls : List EntryLine) → (e.kind ≡ 0) ⊎ (e.kind ≡ 1)
    → singles_in (entry_before e ls) ≡ plain e ∷ singles_in ls
entry-singles e ls (inl z) =
    rw (eq-eqb e.kind 0 z)
    (ap {B = List Entry} (λ k. record { kind = k; first = e.first; second = e.second } ∷ singles_in ls) (sym z))
entry-singles e ls (inr z) = rw z (step-singles e.first ls)

-- The single entries of the entry lines of single entries.
all-singles : (es : List Entry) → KnownKinds es → singles_in (longest_runs es) ≡ map plain es
unfolding longest_runs
all-singles [] h = refl
all-singles (e ∷ es) h = entry-singles e (longest_runs es) h.0 ∙ rw (all-singles es h.1)

-- A call in front of entry lines with the longest runs.
call-longest : (job update : ℕ) (ls : List EntryLine) → Longest ls → Longest (call job update ∷ ls)
call-longest job update [] h = tt
call-longest job update (l ∷ ls) h = (tt, (λ q. q, h))

-- A run in front of others may have any number of steps.
resized :
    (card n m : ℕ) (ls : List EntryLine) → 1 ≤ m → Longest (run card n ∷ ls) → Longest (run card m ∷ ls)
resized card n m [] some-step h = some-step
resized card n m (call job update ∷ ls) some-step h = (some-step, h.1)
resized card n m (run other k ∷ ls) some-step h = (some-step, h.1)

-- A step in front of entry lines with the longest runs.
step-longest : (card : ℕ) (ls : List EntryLine) → Longest ls → Longest (step_before card ls)
step-longest card [] h = omega arith
step-longest card (call job update ∷ ls) h = (omega arith, (λ q. q, h))
step-longest card (run other n ∷ ls) h =
    by-test (eqb other card)
    (λ t.
    let same : other ≡ card = eqb-true other card t in
    rw t (resized card n (suc n) ls (omega arith) (subst (λ (x : ℕ). Longest (run x n ∷ ls)) same h)))
    (λ t. rw t (omega arith, (λ q. eqb-false other card t (sym q), h)))

-- The entry lines of single entries have the longest runs.
pub all-longest : (es : List Entry) → Longest (longest_runs es)
unfolding longest_runs
all-longest [] = tt
all-longest (e ∷ es) =
    by-test (eqb e.kind 0)
    (λ t. rw t (call-longest e.first e.second (longest_runs es) (all-longest es)))
    (λ t. rw t (step-longest e.first (longest_runs es) (all-longest es)))

-- The unused number of a step does not matter to the entry lines.
pub plain-longest : (es : List Entry) → longest_runs (map plain es) ≡ longest_runs es
unfolding longest_runs
plain-longest [] = refl
plain-longest (e ∷ es) =
    by-test (eqb e.kind 0)
    (λ t. rw (t, t, plain-longest es))
    (λ t. rw (t, t, plain-longest es))

-- So it does not matter to the text.
pub plain-text : (plan : Plan) (es : List Entry) → text_of plan (map plain es) ≡ text_of plan es
unfolding text_of
plain-text plan es = rw (plain-longest es)

-- A step in front of entry lines makes their first line a run of its card.
begins-run :
    (card : ℕ) (ls : List EntryLine)
    → (n : ℕ) × (rest : List EntryLine) × (step_before card ls ≡ run card n ∷ rest)
begins-run card [] = (1, [], refl)
begins-run card (call job update ∷ ls) = (1, call job update ∷ ls, refl)
begins-run card (run other n ∷ ls) =
    by-test (eqb other card)
    (λ t. (suc n, ls, rw t))
    (λ t. (1, run other n ∷ ls, rw t))

-- A step in front of entries that do not begin with a step of its card is a run of one.
run-of-one :
    (card : ℕ) (es : List Entry) → NotStep card es → step_before card (longest_runs es) ≡ run card 1 ∷ longest_runs es
unfolding longest_runs
run-of-one card [] h = refl
run-of-one card (e ∷ es) h =
    by-test (eqb e.kind 0)
    (λ t. rw t)
    (λ t.
    let begun = begins-run e.first (longest_runs es) in
    let other : eqb e.first card ≡ false
    = ne_eqb e.first card (λ q. h (eqb-false e.kind 0 t, q)) in
    rw (t, begun.2, other))

-- Steps of a card in front of entries that do not begin with one are one run.
pub run-in-front :
    (card n : ℕ) (xs es : List Entry) → AllSteps card xs → length xs ≡ suc n → NotStep card es
    → longest_runs (xs ++ es) ≡ run card (suc n) ∷ longest_runs es
unfolding longest_runs
run-in-front card n [] es all many h = absurd (omega arith)
run-in-front card zero (x ∷ []) es all many h =
    rw (ne_eqb x.kind 0 all.0.0, all.0.1) (run-of-one card es h)
run-in-front card (suc n) (x ∷ []) es all many h = absurd (omega arith)
run-in-front card zero (x ∷ y ∷ xs) es all many h = absurd (omega arith)
run-in-front card (suc n) (x ∷ y ∷ xs) es all many h =
    rw (
      ne_eqb x.kind 0 all.0.0,
      all.0.1,
      run-in-front card n (y ∷ xs) es all.1 (omega arith) h,
      eq-eqb card card refl,
    )

-- The steps of a run are steps of its card.
all-steps : (card n : ℕ) → AllSteps card (replicate n (record { kind = 1; first = card; second = 0 }))
all-steps card zero = tt
all-steps card (suc n) = ((omega arith, refl), all-steps card n)

-- The first of entry lines with the longest runs is no empty run.
some-steps : (l : EntryLine) (ls : List EntryLine) → Longest (l ∷ ls) → SomeSteps l
some-steps l [] h = h
some-steps l (next ∷ ls) h = h.0

-- Behind a run comes no step of its card.
other-behind :
    (card n : ℕ) (ls : List EntryLine) → Longest (run card n ∷ ls) → NotStep card (singles_in ls)
other-behind card n [] h = tt
other-behind card n (call job update ∷ ls) h = λ s. s.0 refl
other-behind card n (run other zero ∷ ls) h =
    absurd (omega (arith, some-steps (run other zero) ls h.1.1))
other-behind card n (run other (suc m) ∷ ls) h = λ s. h.1.0 (sym s.1)

-- What stands behind an entry line has the longest runs too.
longest-behind : (l : EntryLine) (ls : List EntryLine) → Longest (l ∷ ls) → Longest ls
longest-behind l [] h = tt
longest-behind l (next ∷ ls) h = h.1.1

-- Entry lines with the longest runs are those of their single entries.
rejoined : (ls : List EntryLine) → Longest ls → longest_runs (singles_in ls) ≡ ls
unfolding longest_runs
rejoined [] h = refl
rejoined (call job update ∷ ls) h =
    ap {B = List EntryLine} (λ r. call job update ∷ r) (rejoined ls (longest-behind (call job update) ls h))
rejoined (run card zero ∷ ls) h = absurd (omega (arith, some-steps (run card zero) ls h))
rejoined (run card (suc n) ∷ ls) h =
    run-in-front card n (replicate (suc n) (record { kind = 1; first = card; second = 0 })) (singles_in ls)
    (all-steps card (suc n)) (length-replicate (suc n) _) (other-behind card (suc n) ls h)
    ∙ ap {B = List EntryLine} (λ r. run card (suc n) ∷ r) (rejoined ls (longest-behind (run card (suc n)) ls h))

-- The entry lines of calls and steps are those with the longest runs, and no others.
pub only-longest : (es : List Entry) → KnownKinds es → OnlyLongest es
only-longest es known =
    record {
      are_longest = all-longest es;
      same_singles = all-singles es known;
      only = λ ls h same. sym (rejoined ls h) ∙ ap longest_runs same ∙ plain-longest es;
    }

module _ (plan : Plan) where
  -- An entry line is a call of a job and an update that the plan has, or a run, not empty, of a card that it has.
  abbrev pub RunnableLine : EntryLine → Type 0
  RunnableLine (call job update) = (job < plan.sizes.jobs) × (update < length plan.updates)
  RunnableLine (run card n) = (card < plan.sizes.cards) × (1 ≤ n)

  -- All entry lines are so.
  abbrev pub RunnableLines : List EntryLine → Type 0
  RunnableLines [] = Unit {0}
  RunnableLines (l ∷ ls) = RunnableLine l × RunnableLines ls

  -- A step in front of such lines,
  step-runnable :
      (card : ℕ) (ls : List EntryLine) → card < plan.sizes.cards → RunnableLines ls
      → RunnableLines (step_before card ls)
  step-runnable card [] has h = ((has, omega arith), tt)
  step-runnable card (call job update ∷ ls) has h = ((has, omega arith), h)
  step-runnable card (run other n ∷ ls) has h =
      by-test (eqb other card)
      (λ t. rw t ((has, omega arith), h.1))
      (λ t. rw t ((has, omega arith), h))

  -- an entry in front of them,
  entry-runnable :
      (e : Entry) (ls : List EntryLine) → Runnable plan e → RunnableLines ls → RunnableLines (entry_before e ls)
  entry-runnable e ls (inl called) h = rw called.0 ((called.1, called.2), h)
  entry-runnable e ls (inr stepped) h = rw stepped.0 (step-runnable e.first ls stepped.1 h)

  -- and the lines of entries that the plan can run.
  pub runnable-lines : (es : List Entry) → AllRunnable plan es → RunnableLines (longest_runs es)
  unfolding longest_runs
  runnable-lines [] h = tt
  runnable-lines (e ∷ es) h = entry-runnable e (longest_runs es) h.0 (runnable-lines es h.1)
