-- A single entry behind the entry lines of notes: the last note is one step longer, where that is a run of its card
-- (grows), and else it is a note of its own (begins). Assumes nothing.
use Rattle.std.proofs.Common.{ℕ, suc, ◌+◌, ◌-◌, ◌≤◌, ◌≡◌, refl, sym, ap, arith, add-one}
use Rattle.std.proofs.Common.{true, false, List, [], ◌∷◌, ◌++◌, length, get_or, eqb, ltb, append-nil}
use Rattle.std.proofs.Math.ListN.{set, length-set}
use Rattle.std.proofs.Math.Seq.{drop-length}
use Rattle.std.proofs.lemmas.List.{take_all}
use Rattle.std.specs.List.{refill}
use borrow.Author.Tests.{ltb-true}
use Rattle.spec_text.proofs.Cases.{by-test}
use Rattle.spec_format.specs.declared.Entry.{Entry}
use Rattle.spec_plan_text.specs.EntryLines.{EntryLine}
use Rattle.read_tables.specs.declared.Note.{Note}
use Rattle.text_entry_runs.specs.Joined.{line_noted, lines_noted, goes_on}
use Rattle.text_entry_runs.specs.Behind.{line_alone, entry_behind, add_last, StepsAtMost}

-- A note with one step more.
abbrev pub longer : Note → Note
longer n = record { entry = n.entry; times = n.times + 1; line = n.line }

-- A note of an entry alone.
abbrev pub alone : Entry → Note
alone e = record { entry = e; times = 1; line = 0 }

-- A step behind a run of its card: the run is one longer.
behind_run : (e : Entry) (n : Note) → goes_on n e ≡ true → entry_behind e (line_noted n) ≡ line_noted (longer n) ∷ []
behind_run e n on =
    by-test (eqb e.kind 0)
    (λ t. absurd (cc (rw t at on)))
    (λ t.
    by-test (eqb n.entry.kind 0)
    (λ u. absurd (cc (rw (t, u) at on)))
    (λ u. rw (t, u, rw (t, u) at on, add-one)))

-- Any other entry behind a line is a line by itself.
behind_other : (e : Entry) (n : Note) → goes_on n e ≡ false
    → entry_behind e (line_noted n) ≡ line_noted n ∷ line_alone e ∷ []
behind_other e n off =
    by-test (eqb e.kind 0)
    (λ t. rw t)
    (λ t.
    by-test (eqb n.entry.kind 0)
    (λ u. rw (t, u))
    (λ u. rw (t, u, rw (t, u) at off)))

-- One step more for the last note.
pub grows : (e : Entry) (notes : List Note) (i : ℕ) (d : Note) → length notes ≡ i + 1
    → goes_on (get_or notes i d) e ≡ true
    → lines_noted (set notes i (longer (get_or notes i d))) ≡ add_last e (lines_noted notes)
grows e [] i d long on = absurd (omega arith)
grows e (n ∷ []) i d long on =
    let first : i ≡ 0 = omega arith in
    rw first (sym (behind_run e n (rw first at on)))
grows e (n ∷ m ∷ notes) i d long on =
    let behind : i ≡ suc (i - 1) = omega arith in
    rw behind
    (ap (λ (ls : List EntryLine). line_noted n ∷ ls) (grows e (m ∷ notes) (i - 1) d (omega arith) (rw behind at on)))

-- Another note behind the last.
pub begins : (e : Entry) (notes : List Note) (d : Note)
    → ((i : ℕ) → length notes ≡ i + 1 → goes_on (get_or notes i d) e ≡ false)
    → lines_noted (notes ++ alone e ∷ []) ≡ add_last e (lines_noted notes)
begins e [] d off = refl
begins e (n ∷ []) d off = sym (behind_other e n (off 0 (omega arith)))
begins e (n ∷ m ∷ notes) d off =
    ap (λ (ls : List EntryLine). line_noted n ∷ ls) (begins e (m ∷ notes) d (λ i long. off (suc i) (omega arith)))

-- A list with one element changed is as long.
pub refilled : {A : Type 0} (xs : List A) (i : ℕ) (x : A) → refill (length xs) xs (set xs i x) ≡ set xs i x
refilled {A} xs i x =
    rw (length-set xs i x, drop-length xs, append-nil (set xs i x))
    (take_all (length xs) (set xs i x) (omega (arith, length-set xs i x)))

-- And so is one with none.
pub same : {A : Type 0} (xs : List A) → refill (length xs) xs xs ≡ xs
same xs = rw (drop-length xs, append-nil xs) (take_all (length xs) xs (omega arith))

-- The last place of a list that has one.
pub last_place : (notes : List Note) → true ≡ ltb 0 (length notes) → length notes ≡ (length notes - 1) + 1
last_place notes some = omega (arith, ltb-true 0 (length notes) (sym some))

-- No entry makes a call longer.
called : (e : Entry) (n : Note) → eqb n.entry.kind 0 ≡ true → goes_on n e ≡ true → ⊥
called e n u on =
    by-test (eqb e.kind 0)
    (λ t. cc (rw t at on))
    (λ t. cc (rw (t, u) at on))

-- The last note, a run, has no more steps than any.
pub last_at_most : (most : ℕ) (e : Entry) (notes : List Note) (i : ℕ) (d : Note) → length notes ≡ i + 1
    → goes_on (get_or notes i d) e ≡ true → StepsAtMost most (lines_noted notes) → (get_or notes i d).times ≤ most
last_at_most most e [] i d long on h = absurd (omega arith)
last_at_most most e (n ∷ []) i d long on h =
    let first : i ≡ 0 = omega arith in
    rw first
    (by-test (eqb n.entry.kind 0)
    (λ u. absurd (called e n u (rw first at on)))
    (λ u. (rw u at h).0))
last_at_most most e (n ∷ m ∷ notes) i d long on h =
    let behind : i ≡ suc (i - 1) = omega arith in
    rw behind
    (last_at_most most e (m ∷ notes) (i - 1) d (omega arith) (rw behind at on)
    (by-test (eqb n.entry.kind 0)
    (λ u. rw u at h)
    (λ u. (rw u at h).1)))
