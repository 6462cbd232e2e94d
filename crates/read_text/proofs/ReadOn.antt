-- Reading on by one line: what is left to read comes to the same as before. Assumes nothing.
use Rattle.std.proofs.Common.{◌≡◌, refl, sym, ap, ◌∙◌, ℕ, ◌+◌, ◌≤◌, ◌<◌, Bool, true, false, ◌==◌}
use Rattle.std.proofs.Common.{List, [], ◌∷◌, ◌++◌, length, take, drop, append_assoc, arith}
use Rattle.std.specs.Prelude.{Option, Some, None, Ok, Err, position}
use Rattle.std.specs.List.{position_or_len}
use Rattle.std.proofs.lemmas.Option.{cond_some}
use mathlib.Core.List.{append-nil}
use native.Mathlib.Nat.{sub-zero}
use borrow.Author.Tests.{le-ltb, lt-ltb, ltb-true}
use lib.Dec.{ltb}
use Rattle.spec_text.specs.Lines.{Line, lines, fields}
use Rattle.read_fields.proofs.FieldPlaces.{position-or}
use Rattle.read_fields.proofs.LinePlaces.{lines_none, lines-ended, lines-open}
use Rattle.read_fields.specs.FieldPlaces.{place_of}
use Rattle.spec_format.specs.declared.Fault.{Fault}
use Rattle.spec_format.specs.declared.Form.{Form}
use Rattle.spec_format.specs.declared.LineFault.{LineFault}
use Rattle.spec_format.specs.Plan.{Listed}
use Rattle.spec_format.specs.ParsedLines.{Directive, ParsedLine, parsed_from, parsed_of}
use Rattle.spec_format.specs.Faults.{Draft, has_fault, laid_out}
use Rattle.spec_format.specs.Reading.{ReadOutcome, refused, sound, blank, after, first_of, by_rank, or_else, parsed_in}
use Rattle.spec_format.specs.Reading.{after_line, read_lines, listed, entries_of, Reading, refusal, accepted, given}
use Rattle.spec_format.specs.Reading.{reading}
use Rattle.spec_format.proofs.FirstFault.{one_more}
use Rattle.spec_format.proofs.Sound.{line-listed}
use Rattle.read_tables.specs.Notes.{listed_in}
use Rattle.read_line_promises.specs.declared.PartRead.{PartRead}
use Rattle.read_line_promises.specs.Promises.{draft_in, Unread, line_outcome, LineDone}

-- What a text gives of which n lines with the single entries es have been read, where the lines ls that are left come
-- to an outcome.
abbrev pub given_on : ℕ → List Listed → List Line → ReadOutcome → Reading
given_on n es ls (refused f m) = refusal f m
given_on n es ls (sound d) = accepted d.plan (es ++ entries_of d.plan.sizes.words (n + 1) ls) (n + length ls)

-- What the lines that are left come to, behind what has been read.
unfoldable pub reading_on : Form → PartRead → List Line → Reading
reading_on form p ls = given_on p.progress.lines (listed_in p.notes.items) ls (read_lines form (draft_in p) ls)

-- A text over the limit is refused for that.
pub too_long : (form : Form) (text : List ℕ) → 65536 < length text → reading form text ≡ refusal Fault.TooLong 0
unfolding reading
too_long form text l = rw (lt-ltb 65536 (length text) l)

-- Before the first line all is left to read.
pub starts : (form : Form) (p : PartRead) (text : List ℕ) → length text ≤ 65536 → Unread p
    → reading form text ≡ reading_on form p (lines text)
unfolding reading reading_on
starts form p text h u =
    rw (le-ltb 65536 (length text) h, u.none_noted, u.draft) (go (read_lines form blank (lines text)))
  where
    none : p.progress.lines ≡ 0
    none = ap (λ (d : Draft). d.lines) u.draft

    go : (o : ReadOutcome) → given (lines text) o ≡ given_on p.progress.lines [] (lines text) o
    go (refused f n) = refl
    go (sound d) = rw none (ap (accepted d.plan (entries_of d.plan.sizes.words 1 (lines text))) (omega arith))

-- No line is left: the text ends too early,
pub ends-early : (form : Form) (p : PartRead) → laid_out (draft_in p) ≡ false
    → reading_on form p (lines []) ≡ refusal Fault.Misplaced (p.progress.lines + 1)
unfolding reading_on
ends-early form p e = rw (lines_none, e) refl

-- or gives what has been read.
pub ends : (form : Form) (p : PartRead) → laid_out (draft_in p) ≡ true
    → reading_on form p (lines []) ≡ accepted p.plan (listed_in p.notes.items) p.progress.lines
unfolding reading_on
ends form p e =
    let same : p.progress.lines + 0 ≡ p.progress.lines = omega arith in
    rw (lines_none, e, append-nil (listed_in p.notes.items), same) refl

-- A line taken apart is ended if the line is.
ended_is : (s : ℕ) (e : Bool) (fs : List (List ℕ)) → (parsed_from s e fs).ended ≡ e
ended_is s e [] = refl
ended_is s e (f ∷ fs) = refl

-- Where a line ends.
pub found : (s : List ℕ) (n : ℕ) → position (λ b. b == 10) s ≡ Some n → (n < length s) × (place_of 10 s 0 ≡ n)
unfolding place_of
found s n e =
    let x = cond_some (ltb (position_or_len (λ b. b == 10) s) (length s)) _ n e in
    let l = ltb-true _ _ x.0 in
    (omega (arith, l, x.1), omega (arith, x.1))

-- No line feed follows.
nowhere : (s : List ℕ) → position (λ b. b == 10) s ≡ None → place_of 10 s 0 ≡ length s
unfolding place_of
nowhere s e = let none = rw e at (position-or (λ b. b == 10) s) in omega (arith, none)

-- A last line without its line feed is refused.
pub open-refused : (form : Form) (p : PartRead) (s : List ℕ) → 0 < length s → position (λ b. b == 10) s ≡ None
    → reading_on form p (lines s) ≡ refusal Fault.Unknown (p.progress.lines + 1)
unfolding reading_on parsed_of
open-refused form p s some e =
    let none : place_of 10 s 0 ≡ length s = nowhere s e in
    rw (lines-open s 0 some none, ended_is p.plan.sizes.words false (fields s)) refl

-- What is left to read, after one line came to an outcome.
abbrev continue : Form → List Line → ReadOutcome → ReadOutcome
continue form ls (refused f n) = refused f n
continue form ls (sound d) = read_lines form d ls

-- The lines are read one by one.
one_by_one : (form : Form) (d : Draft) (l : Line) (ls : List Line)
    → read_lines form d (l ∷ ls) ≡ continue form ls (line_outcome form d (parsed_in d l))
one_by_one form d l ls = go (first_of (has_fault form d (parsed_in d l)) by_rank)
  where
    go : (o : Option Fault)
        → or_else o (d.lines + 1) (read_lines form (after_line d l) ls)
        ≡ continue form ls (or_else o (d.lines + 1) (sound (after_line d l)))
    go None = refl
    go (Some f) = refl

-- An outcome that is a draft is the draft after the line.
sound-after : (form : Form) (d e : Draft) (r : ParsedLine) → sound e ≡ line_outcome form d r → e ≡ after d r.directive
sound-after form d e r = go (first_of (has_fault form d r) by_rank)
  where
    go : (o : Option Fault) → sound e ≡ or_else o (d.lines + 1) (sound (after d r.directive))
        → e ≡ after d r.directive
    go None q = cc
    go (Some f) q = let z : ◌≡◌ {A = ℕ} 0 1 = cc in absurd (omega arith)

module _ (form : Form) (p q : PartRead) (s : List ℕ) (n : ℕ) (end : position (λ b. b == 10) s ≡ Some n) where
  -- The line, and what it says.
  abbrev the_line : Line
  the_line = record { bytes = take n s; ended = true }

  abbrev says-it : Option Directive
  says-it = (parsed_in (draft_in p) the_line).directive

  -- The lines.
  lines-here : lines s ≡ the_line ∷ lines (drop (n + 1) s)
  lines-here =
      let f = found s n end in
      let here : 0 < length s = omega (arith, f.0) in
      let inside : place_of 10 s 0 < length s = rw f.1 f.0 in
      rw (f.1, sub-zero) at (lines-ended s 0 here inside)

  -- The line is refused.
  pub line_refused : (e : LineFault) → LineDone form p q (take n s) (Err e)
      → reading_on form p (lines s) ≡ refusal e.fault e.line
  unfolding reading_on
  line_refused e done =
      rw (lines-here, one_by_one form (draft_in p) the_line (lines (drop (n + 1) s)), ← done.says) refl

  module _ (done : LineDone form p q (take n s) (Ok tt)) where
    -- One more line has been read.
    pub lines-is : q.progress.lines ≡ p.progress.lines + 1
    lines-is =
        let next = sound-after form (draft_in p) (draft_in q) (parsed_in (draft_in p) the_line) done.says in
        ap (λ (d : Draft). d.lines) next ∙ one_more (draft_in p) says-it

    -- The single entries noted with the line's, and those behind it, are all.
    entries-are : (w : ℕ) (ls : List Line)
        → listed_in p.notes.items ++ entries_of w (p.progress.lines + 1) (the_line ∷ ls)
        ≡ listed_in q.notes.items ++ entries_of w (q.progress.lines + 1) ls
    entries-are w ls =
        let n = p.progress.lines + 1 in
        ap (λ l. listed_in p.notes.items ++ (l ++ entries_of w (n + 1) ls))
        (line-listed w p.plan.sizes.words n the_line)
        ∙ sym (append_assoc (listed_in p.notes.items) (listed n says-it) (entries_of w (n + 1) ls))
        ∙ (λ i. sym done.noted i ++ entries_of w (sym lines-is i + 1) ls)

    -- The line is read.
    pub line_read : reading_on form p (lines s) ≡ reading_on form q (lines (drop (n + 1) s))
    unfolding reading_on
    line_read =
        rw (lines-here, one_by_one form (draft_in p) the_line (lines (drop (n + 1) s)), ← done.says)
        (go (read_lines form (draft_in q) (lines (drop (n + 1) s))))
      where
        go : (o : ReadOutcome)
            → given_on p.progress.lines (listed_in p.notes.items) (the_line ∷ lines (drop (n + 1) s)) o
            ≡ given_on q.progress.lines (listed_in q.notes.items) (lines (drop (n + 1) s)) o
        go (refused f m) = refl
        go (sound d) =
            let ls = lines (drop (n + 1) s) in
            let many : p.progress.lines + length (the_line ∷ ls) ≡ q.progress.lines + length ls
            = omega (arith, lines-is) in
            λ i. accepted d.plan (entries-are d.plan.sizes.words ls i) (many i)
