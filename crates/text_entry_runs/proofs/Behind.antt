-- The entry lines of single entries with one more at the end (one_more): the last line decides. There are no more
-- lines than entries (no-more-lines), and no run has more steps than there are entries (steps-at-most).
--
-- In plain words. Entry lines are built from the front, and the entry at the end meets them last; what it does to the
-- last line and what an entry does to the first one can change places, also where there is one line only.
--
-- Assumes nothing.
use Prim.Native.Nat.{ℕ, suc, ◌+◌, ◌≤◌}
use mathlib.Core.Path.{◌≡◌, refl, sym, ◌∙◌, ap}
use mathlib.Core.List.{List, [], ◌∷◌, ◌++◌}
use native.Mathlib.Omega.{arith}
use borrow.Author.Tests.{eqb-true, eqb-false, eq-eqb, ne_eqb}
use lib.Dec.{eqb}
use lib.ListN.{length}
use Rattle.spec_text.proofs.Cases.{by-test}
use Rattle.spec_format.specs.declared.Entry.{Entry}
use Rattle.spec_plan_text.specs.EntryLines.{EntryLine, call, run, step_before, entry_before, longest_runs}
use Rattle.text_entry_runs.specs.Behind.{line_alone, entry_behind, add_last, StepsAtMost}

-- The last of entry lines decides what an entry behind them does.
pub last-decides : (e : Entry) (ls : List EntryLine) (l : EntryLine)
    → add_last e (ls ++ (l ∷ [])) ≡ ls ++ entry_behind e l
last-decides e [] l = refl
last-decides e (x ∷ []) l = refl
last-decides e (x ∷ y ∷ ls) l = ap {B = List EntryLine} (λ r. x ∷ r) (last-decides e (y ∷ ls) l)

-- A call in front of an entry that is a line by itself.
call-alone : (job update : ℕ) (e : Entry) → call job update ∷ line_alone e ∷ [] ≡ entry_behind e (call job update)
call-alone job update e =
    by-test (eqb e.kind 0)
    (λ t. rw t)
    (λ t. rw t)

-- A step in front of an entry that is a line by itself.
step-alone : (card : ℕ) (e : Entry) → step_before card (line_alone e ∷ []) ≡ entry_behind e (run card 1)
step-alone card e =
    by-test (eqb e.kind 0)
    (λ t. rw t)
    (λ t.
    by-test (eqb e.first card)
    (λ same. rw (t, same, eq-eqb card e.first (sym (eqb-true e.first card same))))
    (λ other. rw (t, other, ne_eqb card e.first (λ q. eqb-false e.first card other (sym q)))))

-- A step in front of a line and an entry behind it change places.
step-around : (card : ℕ) (e : Entry) (l : EntryLine)
    → step_before card (entry_behind e l) ≡ add_last e (step_before card (l ∷ []))
step-around card e (call job update) =
    by-test (eqb e.kind 0)
    (λ t. rw t)
    (λ t. rw t)
step-around card e (run other n) =
    by-test (eqb other card)
    (λ same.
    let one : eqb card e.first ≡ eqb other e.first
    = ap (λ k. eqb k e.first) (sym (eqb-true other card same)) in
    by-test (eqb e.kind 0)
    (λ t. rw (t, same, t))
    (λ t.
    by-test (eqb other e.first)
    (λ grows. rw (t, grows, same, t, one, grows))
    (λ begins. rw (t, begins, same, t, one, begins))))
    (λ apart.
    by-test (eqb e.kind 0)
    (λ t. rw (t, apart, t))
    (λ t.
    by-test (eqb other e.first)
    (λ grows. rw (t, grows, apart, t, grows))
    (λ begins. rw (t, begins, apart, t, begins))))

-- An entry in front of entry lines and one behind them change places.
around : (x e : Entry) (ls : List EntryLine) → entry_before x (add_last e ls) ≡ add_last e (entry_before x ls)
around x e [] =
    by-test (eqb x.kind 0)
    (λ t. rw t (call-alone x.first x.second e))
    (λ t. rw t (step-alone x.first e))
around x e (l ∷ []) =
    by-test (eqb x.kind 0)
    (λ t. rw t)
    (λ t. rw t (step-around x.first e l))
around x e (call job update ∷ next ∷ ls) =
    by-test (eqb x.kind 0)
    (λ t. rw t)
    (λ t. rw t)
around x e (run other n ∷ next ∷ ls) =
    by-test (eqb x.kind 0)
    (λ t. rw t)
    (λ t.
    by-test (eqb other x.first)
    (λ same. rw (t, same))
    (λ apart. rw (t, apart)))

-- One more entry at the end.
pub one_more : (es : List Entry) (e : Entry) → longest_runs (es ++ (e ∷ [])) ≡ add_last e (longest_runs es)
unfolding longest_runs
one_more [] e =
    by-test (eqb e.kind 0)
    (λ t. rw t)
    (λ t. rw t)
one_more (x ∷ es) e = ap (entry_before x) (one_more es e) ∙ around x e (longest_runs es)

-- A step in front makes entry lines at most one more.
step-longer : (card : ℕ) (ls : List EntryLine) → length (step_before card ls) ≤ length ls + 1
step-longer card [] = omega arith
step-longer card (call job update ∷ ls) = omega arith
step-longer card (run other n ∷ ls) =
    by-test (eqb other card)
    (λ t. rw t (omega arith))
    (λ t. rw t (omega arith))

-- There are no more entry lines than single entries.
pub no-more-lines : (es : List Entry) → length (longest_runs es) ≤ length es
unfolding longest_runs
no-more-lines [] = omega arith
no-more-lines (e ∷ es) =
    by-test (eqb e.kind 0)
    (λ t. rw t (omega (arith, no-more-lines es)))
    (λ t. rw t (omega (arith, no-more-lines es, step-longer e.first (longest_runs es))))

-- Runs of at most so many steps have at most one more.
weaker : (n : ℕ) (ls : List EntryLine) → StepsAtMost n ls → StepsAtMost (suc n) ls
weaker n [] h = tt
weaker n (call job update ∷ ls) h = weaker n ls h
weaker n (run card m ∷ ls) h = (omega arith, weaker n ls h.1)

-- A step in front makes no run longer by more than one.
step-most : (card n : ℕ) (ls : List EntryLine) → StepsAtMost n ls → StepsAtMost (suc n) (step_before card ls)
step-most card n [] h = (omega arith, tt)
step-most card n (call job update ∷ ls) h = (omega arith, weaker n ls h)
step-most card n (run other m ∷ ls) h =
    by-test (eqb other card)
    (λ t. rw t (omega arith, weaker n ls h.1))
    (λ t. rw t (omega arith, (omega arith, weaker n ls h.1)))

-- No run has more steps than there are single entries.
pub steps-at-most : (es : List Entry) → StepsAtMost (length es) (longest_runs es)
unfolding longest_runs
steps-at-most [] = tt
steps-at-most (e ∷ es) =
    by-test (eqb e.kind 0)
    (λ t. rw t (weaker (length es) (longest_runs es) (steps-at-most es)))
    (λ t. rw t (step-most e.first (length es) (longest_runs es) (steps-at-most es)))

-- A larger bound holds too.
pub at_most : (n m : ℕ) (ls : List EntryLine) → n ≤ m → StepsAtMost n ls → StepsAtMost m ls
at_most n m [] more h = tt
at_most n m (call job update ∷ ls) more h = at_most n m ls more h
at_most n m (run card k ∷ ls) more h = (omega arith, at_most n m ls more h.1)

-- The last run has no more steps.
pub last-at-most : (most card n : ℕ) (ls : List EntryLine) → StepsAtMost most (ls ++ (run card n ∷ [])) → n ≤ most
last-at-most most card n [] h = h.0
last-at-most most card n (call job update ∷ ls) h = last-at-most most card n ls h
last-at-most most card n (run other m ∷ ls) h = last-at-most most card n ls h.1
