-- Every number of an accepted plan can be read (accepted-fits): its opening words and the numbers k of its moves are
-- not too large. The argument: a field holds a number only where it is not too large, so a line says only such numbers,
-- whether or not it has a fault, and what it adds to the plan is what it says. By induction over the lines. Assumes
-- nothing.
use Prim.Native.Nat.{ℕ, zero, suc, ◌+◌, ◌≤◌}
use native.Mathlib.Omega.{arith}
use mathlib.Core.Path.{◌≡◌, refl}
use mathlib.Core.List.{List, [], ◌∷◌, ◌++◌}
use Rattle.std.specs.Prelude.{Option, Some, None}
use lib.ListN.{get_or, take, drop}
use Rattle.spec_text.specs.Numbers.{largest, number}
use Rattle.spec_text.specs.Lines.{Line, fields, lines, and_then, numbers}
use Rattle.spec_text.proofs.Decimal.{number-decimal}
use Rattle.spec_text.proofs.WrittenLines.{AllFit}
use Rattle.spec_format.specs.declared.Kind.{Kind}
use Rattle.spec_format.specs.declared.Form.{Form}
use Rattle.spec_format.specs.declared.Move.{Move}
use Rattle.spec_format.specs.Plan.{Plan, Listed}
use Rattle.spec_format.specs.Kinds.{kind_of}
use Rattle.spec_format.specs.ParsedLines.{Directive, plan, job, block, update, move, entry}
use Rattle.spec_format.specs.ParsedLines.{number_count, numbers_for, directive_of, parsed_from, parsed_of}
use Rattle.spec_format.specs.Faults.{Draft, laid_out, last_of, has_fault}
use Rattle.spec_format.specs.Reading.{blank, after, parsed_in, after_line, by_rank, first_of, read_lines}
use Rattle.spec_format.specs.Reading.{accepted, reading}
use Rattle.spec_format.proofs.Sound.{one-empty, of-last, each-added}
use Rattle.spec_format.proofs.AcceptedTexts.{plan_of, accepted-says}
use Rattle.spec_format.proofs.UpdateNumbers.{no-fault, at-end}

-- The number k of a move can be read.
abbrev pub AmountFits : Move → Type 0
AmountFits (Move.Copy d a) = Unit {0}
AmountFits (Move.Set d k) = k ≤ largest
AmountFits (Move.Add d a k) = k ≤ largest

-- Every number of a plan that no range limits can be read: the opening words, and the numbers k of the moves.
pub record Fits (plan : Plan) : Type 0 where
  pub words : AllFit plan.words
  pub amounts : (u i : ℕ) → AmountFits (get_or (get_or plan.updates u []) i (Move.Copy 0 0))

-- The numbers of two lists in a row, where those of both can be read.
pub fit_append : (ns ms : List ℕ) → AllFit ns → AllFit ms → AllFit (ns ++ ms)
fit_append [] ms one other = other
fit_append (n ∷ ns) ms one other = (one.0, fit_append ns ms one.1 other)

-- The first n of such numbers,
pub fit-take : (n : ℕ) (ns : List ℕ) → AllFit ns → AllFit (take n ns)
fit-take zero ns fit = tt
fit-take (suc n) [] fit = tt
fit-take (suc n) (m ∷ ns) fit = (fit.0, fit-take n ns fit.1)

-- those behind them,
pub fit-drop : (n : ℕ) (ns : List ℕ) → AllFit ns → AllFit (drop n ns)
fit-drop zero ns fit = fit
fit-drop (suc n) [] fit = tt
fit-drop (suc n) (m ∷ ns) fit = fit-drop n ns fit.1

-- and the one at a place, which is 0 past the last.
pub fit_at : (ns : List ℕ) (i : ℕ) → AllFit ns → get_or ns i 0 ≤ largest
fit_at [] i fit = omega arith
fit_at (n ∷ ns) zero fit = fit.0
fit_at (n ∷ ns) (suc i) fit = fit_at ns i fit.1

-- Where numbers could be read, none is too large.
abbrev ReadFit : Option (List ℕ) → Type 0
ReadFit None = Unit {0}
ReadFit (Some ns) = AllFit ns

-- The number of a field is not too large, in front of others that are not.
fit-more : (f : List ℕ) (x : Option ℕ) (o : Option (List ℕ)) → number f ≡ x → ReadFit o → ReadFit (and_then x o)
fit-more f (Some n) None e fit = tt
fit-more f (Some n) (Some ns) e fit = (((number-decimal f n).0 e).0, fit)
fit-more f None o e fit = tt

-- So the numbers that are read from fields are not.
numbers_fit : (n : ℕ) (fs : List (List ℕ)) → ReadFit (numbers n fs)
numbers_fit zero [] = tt
numbers_fit zero (f ∷ fs) = tt
numbers_fit (suc n) [] = tt
numbers_fit (suc n) (f ∷ fs) = fit-more f (number f) (numbers n fs) refl (numbers_fit n fs)

-- What a line says has only such numbers, of those that no range limits.
abbrev SaidFits : Option Directive → Type 0
SaidFits None = Unit {0}
SaidFits (Some (plan s)) = Unit {0}
SaidFits (Some (job j)) = Unit {0}
SaidFits (Some (block ws)) = AllFit ws
SaidFits (Some (update n)) = Unit {0}
SaidFits (Some (move m)) = AmountFits m
SaidFits (Some (entry e n)) = Unit {0}

-- So it is by the kind and the numbers,
said_fits : (k : Kind) (o : Option (List ℕ)) → ReadFit o → SaidFits (directive_of k o)
said_fits k None fit = tt
said_fits Kind.Plan (Some ns) fit = tt
said_fits Kind.Job (Some ns) fit = tt
said_fits Kind.Block (Some ns) fit = fit
said_fits Kind.Update (Some ns) fit = tt
said_fits Kind.Copy (Some ns) fit = tt
said_fits Kind.Set (Some ns) fit = fit_at ns 1 fit
said_fits Kind.Add (Some ns) fit = fit_at ns 2 fit
said_fits Kind.Call (Some ns) fit = tt
said_fits Kind.Step (Some ns) fit = tt
said_fits Kind.Unknown (Some ns) fit = tt

-- by the fields,
fields_fit : (s : ℕ) (fs : List (List ℕ)) (l : Line) → SaidFits (parsed_from s l.ended fs).directive
fields_fit s [] l = tt
fields_fit s (f ∷ fs) l =
    said_fits (kind_of f) (numbers_for s (kind_of f) fs) (numbers_fit (number_count s (kind_of f) fs) fs)

-- and by the line.
line-fits : (s : ℕ) (l : Line) → SaidFits (parsed_of s l).directive
unfolding parsed_of
line-fits s l = fields_fit s (fields l.bytes) l

-- All moves of an update are so.
abbrev MovesFit : List Move → Type 0
MovesFit ms = (i : ℕ) → AmountFits (get_or ms i (Move.Copy 0 0))

-- One more move.
moves_more : (ms : List Move) (m : Move) → MovesFit ms → AmountFits m → MovesFit (ms ++ (m ∷ []))
moves_more [] m fit last zero = last
moves_more [] m fit last (suc i) = tt
moves_more (n ∷ ms) m fit last zero = fit zero
moves_more (n ∷ ms) m fit last (suc i) = moves_more ms m (λ j. fit (suc j)) last i

-- A plan with what one more line says.
after-fits : (d : Draft) (x : Option Directive) → Fits d.plan → SaidFits x → Fits (after d x).plan
after-fits d None fits said = fits
after-fits d (Some (plan s)) fits said = record { words = fits.words; amounts = fits.amounts }
after-fits d (Some (job j)) fits said = record { words = fits.words; amounts = fits.amounts }
after-fits d (Some (block ws)) fits said =
    record { words = fit_append d.plan.words ws fits.words said; amounts = fits.amounts }
after-fits d (Some (update n)) fits said =
    record { words = fits.words; amounts = λ u. rw (one-empty d.plan.updates u) (fits.amounts u) }
after-fits d (Some (move m)) fits said =
    record {
      words = fits.words;
      amounts =
          each-added MovesFit m d.plan.updates fits.amounts
          (moves_more (last_of d.plan.updates) m (of-last MovesFit d.plan.updates fits.amounts) said);
    }
after-fits d (Some (entry e n)) fits said = fits

-- The plan that lines give.
lines_fit :
    (form : Form) (d : Draft) (ls : List Line) (p : Plan) → Fits d.plan → plan_of form d ls ≡ Some p → Fits p
lines_fit form d [] p fits e = rw (at-end d (laid_out d) (d.lines + 1) p e) at fits
lines_fit form d (l ∷ ls) p fits e =
    let r = parsed_in d l in
    let read = no-fault (first_of (has_fault form d r) by_rank) (d.lines + 1) (read_lines form (after_line d l) ls) p
    e in
    lines_fit form (after_line d l) ls p
    (after-fits d r.directive fits (line-fits d.plan.sizes.words l)) read.1

-- The plan of an accepted text.
pub accepted-fits :
    (form : Form) (text : List ℕ) (p : Plan) (es : List Listed) (n : ℕ) → reading form text ≡ accepted p es n → Fits p
accepted-fits form text p es n e =
    lines_fit form blank (lines text) p (record { words = tt; amounts = λ u i. tt })
    (accepted-says form text p es n e).plan-is
