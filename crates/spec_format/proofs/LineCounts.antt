-- A text that is accepted has at most 65,536 lines (low_count), and no entry stands in a line past that (low-lines). A
-- text that is refused is refused at a line of at most 65,537, one past the last (low-refused). The argument: a text
-- that is measured has at most 65,536 bytes, a text has at most as many lines as bytes, an entry of lines that are
-- numbered from n on has the number of one of them, and so has a refusal, or the number behind the last where the text
-- ends too early; a text that is too long is refused at line 0. Assumes nothing.
use Prim.Native.Nat.{ℕ, zero, suc, ◌+◌, ◌≤◌, ◌<◌}
use native.Mathlib.Omega.{arith}
use mathlib.Core.Path.{◌≡◌, refl}
use mathlib.Core.Bool.{Bool, true, false, cond}
use mathlib.Core.List.{List, [], ◌∷◌, ◌++◌, map}
use Rattle.std.specs.Prelude.{Option, Some, None}
use lib.Dec.{ltb, eqb}
use lib.ListN.{length, get_or, replicate}
use borrow.Author.Tests.{ltb-false}
use Rattle.spec_text.specs.Lines.{Line, lines, in_front, split, as_lines}
use Rattle.spec_format.specs.declared.Fault.{Fault}
use Rattle.spec_format.specs.declared.Form.{Form}
use Rattle.spec_format.specs.declared.Entry.{Entry}
use Rattle.spec_format.specs.Plan.{Plan, Listed}
use Rattle.spec_format.specs.ParsedLines.{Directive, plan, job, block, update, move, entry, parsed_of}
use Rattle.spec_format.specs.Faults.{Draft, laid_out, has_fault}
use Rattle.spec_format.specs.Reading.{blank, parsed_in, after_line, by_rank, first_of}
use Rattle.spec_format.specs.Reading.{ReadOutcome, refused, sound, or_else, read_lines, listed, entries_of}
use Rattle.spec_format.specs.Reading.{Reading, refusal, accepted, given, longest, reading}
use Rattle.spec_format.proofs.FirstFault.{one_more}

-- A byte in front of the first part makes at most one line more.
front-lines : (b : ℕ) (ps : List (List ℕ)) → length (as_lines (in_front b ps)) ≤ length (as_lines ps) + 1
front-lines b [] = omega arith
front-lines b (part ∷ []) = omega arith
front-lines b (part ∷ next ∷ parts) = omega arith

-- An empty part in front makes at most one line more.
part-lines : (ps : List (List ℕ)) → length (as_lines ([] ∷ ps)) ≤ length (as_lines ps) + 1
part-lines [] = omega arith
part-lines (next ∷ parts) = omega arith

-- There are at most as many lines as bytes.
split-lines : (x : ℕ) (s : List ℕ) → length (as_lines (split x s)) ≤ length s
split-lines x [] = omega arith
split-lines x (b ∷ s) = go (eqb b x) (split-lines x s)
  where
    go :
        (t : Bool) → length (as_lines (split x s)) ≤ length s
        → length (as_lines (cond t ([] ∷ split x s) (in_front b (split x s)))) ≤ suc (length s)
    go true h = omega (arith, part-lines (split x s))
    go false h = omega (arith, front-lines b (split x s))

-- The same of a text.
few-lines : (text : List ℕ) → length (lines text) ≤ length text
unfolding lines
few-lines text = split-lines 10 text

-- The line of the entry i, or 0 past the last.
abbrev line_at : List Listed → ℕ → ℕ
line_at es i = get_or (map (λ (l : Listed). l.line) es) i 0

-- Entries of line n, in front of entries that stand before line m.
run-low :
    (n m k : ℕ) (e : Entry) (es : List Listed) → n < m → ((i : ℕ) → line_at es i < m)
    → (i : ℕ) → line_at (replicate k (record { entry = e; line = n }) ++ es) i < m
run-low n m zero e es h low i = low i
run-low n m (suc k) e es h low zero = h
run-low n m (suc k) e es h low (suc i) = run-low n m k e es h low i

-- The entries of line n, in front of entries that stand before line m.
listed-low :
    (n m : ℕ) (x : Option Directive) (es : List Listed) → n < m → ((i : ℕ) → line_at es i < m)
    → (i : ℕ) → line_at (listed n x ++ es) i < m
listed-low n m None es h low i = low i
listed-low n m (Some (plan s)) es h low i = low i
listed-low n m (Some (job j)) es h low i = low i
listed-low n m (Some (block ws)) es h low i = low i
listed-low n m (Some (update k)) es h low i = low i
listed-low n m (Some (move k)) es h low i = low i
listed-low n m (Some (entry e k)) es h low i = run-low n m k e es h low i

-- The entries of lines that are numbered from n on stand before line m, where the lines do.
entries-low :
    (s n m : ℕ) (ls : List Line) → 0 < m → n + length ls ≤ m → (i : ℕ) → line_at (entries_of s n ls) i < m
entries-low s n m [] some-line h i = some-line
entries-low s n m (l ∷ ls) some-line h i =
    listed-low n m (parsed_of s l).directive (entries_of s (n + 1) ls) (omega arith)
    (entries-low s (n + 1) m ls some-line (omega arith)) i

-- A refusal is at a line of at most m.
abbrev LowOutcome : ℕ → ReadOutcome → Type 0
LowOutcome m (refused f n) = n ≤ m
LowOutcome m (sound d) = Unit {0}

-- A text that ends is refused at the line behind its last, or not refused.
end_refused : (d : Draft) (b : Bool) (n m : ℕ) → n ≤ m → LowOutcome m (cond b (sound d) (refused Fault.Misplaced n))
end_refused d true n m h = tt
end_refused d false n m h = h

-- A refusal at line n, or what comes of the rest.
or-refused : (x : Option Fault) (n m : ℕ) (rest : ReadOutcome) → n ≤ m → LowOutcome m rest
    → LowOutcome m (or_else x n rest)
or-refused (Some f) n m rest h low = h
or-refused None n m rest h low = low

-- Lines are refused at one of them, or at the line behind the last.
lines-refused :
    (form : Form) (d : Draft) (ls : List Line) (m : ℕ) → d.lines + length ls < m → LowOutcome m (read_lines form d ls)
lines-refused form d [] m h = end_refused d (laid_out d) (d.lines + 1) m (omega arith)
lines-refused form d (l ∷ ls) m h =
    or-refused (first_of (has_fault form d (parsed_in d l)) by_rank) (d.lines + 1) m
    (read_lines form (after_line d l) ls)
    (omega arith)
    (lines-refused form (after_line d l) ls m (omega (arith, one_more d (parsed_in d l).directive)))

-- A reading is a refusal at a line that is at most one past the last, or its lines are few and its entries stand in
-- them.
abbrev LowReading : Reading → Type 0
LowReading (refusal f n) = n ≤ longest + 1
LowReading (accepted p es n) = (n ≤ longest) × ((i : ℕ) → line_at es i ≤ longest)

-- What few lines give.
given-low :
    (ls : List Line) (o : ReadOutcome) → length ls ≤ longest → LowOutcome (longest + 1) o → LowReading (given ls o)
given-low ls (refused f n) h low = low
given-low ls (sound d) h low = (
  h,
  λ i. omega (arith, entries-low d.plan.sizes.words 1 (length ls + 1) ls (omega arith) (omega arith) i),
)

-- Every reading is low.
reading-low : (form : Form) (text : List ℕ) → LowReading (reading form text)
unfolding reading
reading-low form text = go (ltb longest (length text)) refl
  where
    go :
        (b : Bool) → ltb longest (length text) ≡ b
        → LowReading (cond b (refusal Fault.TooLong 0) (given (lines text) (read_lines form blank (lines text))))
    go true e = omega arith
    go false e =
        let few : length (lines text) ≤ longest = omega (arith, ltb-false longest (length text) e, few-lines text) in
        given-low (lines text) (read_lines form blank (lines text)) few
        (lines-refused form blank (lines text) (longest + 1) (omega arith))

-- A text that is accepted has at most 65,536 lines.
pub low_count :
    (form : Form) (text : List ℕ) (plan : Plan) (listed : List Listed) (n : ℕ)
    → reading form text ≡ accepted plan listed n → n ≤ 65536
low_count form text p es n e = (rw e at (reading-low form text)).0

-- No entry of a text that is accepted stands in a line past 65,536.
pub low-lines :
    (form : Form) (text : List ℕ) (plan : Plan) (listed : List Listed) (n : ℕ)
    → reading form text ≡ accepted plan listed n
    → (i : ℕ) → get_or (map (λ (l : Listed). l.line) listed) i 0 ≤ 65536
low-lines form text p es n e = (rw e at (reading-low form text)).1

-- A text that is refused is refused at a line of at most 65,537: at most one past the last of at most 65,536.
pub low-refused :
    (form : Form) (text : List ℕ) (f : Fault) (n : ℕ) → reading form text ≡ refusal f n → n ≤ 65537
low-refused form text f n e = rw e at (reading-low form text)
