-- "The first line with a fault counts", and in it the fault that is judged first. A text is refused with a fault and a
-- line exactly when the line is the first with a fault and the fault the first in it by rank (refused-first), and it is
-- accepted exactly when no line has a fault and it does not end too early (accepted-faultless). The argument: by_rank
-- goes through all faults of a line in the order of their ranks, so the one that is found has the lowest rank there. By
-- induction over the lines, a reading stops in the first line where one is found, and the text as a whole, which is
-- line 0, goes before all lines. So every reading is right: a refusal names the first fault, and an accepted text has
-- none. There is only one first fault, so a text that has one is refused by no other and is not accepted, and a text
-- that has none is not refused. In the lemmas `has` says which faults are there, in one place or in each place from 0
-- on. Assumes nothing.
use Prim.Native.Nat.{ℕ, zero, suc, ◌+◌, ◌<◌}
use native.Mathlib.Omega.{arith}
use mathlib.Core.Path.{◌≡◌, refl, sym, ◌∙◌, ap}
use mathlib.Core.Logic.{◌↔◌, ◌⊎◌, inl, inr}
use mathlib.Core.Bool.{Bool, true, false, cond, not, ◌&&◌, true≢false}
use mathlib.Core.List.{List, [], ◌∷◌}
use Rattle.std.specs.Prelude.{Option, Some, None}
use lib.Dec.{ltb}
use lib.ListN.{length, take, drop}
use borrow.Author.Tests.{ltb-true, eq-eqb, ne_eqb}
use Rattle.spec_text.specs.Lines.{Line, lines}
use Rattle.spec_text.proofs.Cases.{both}
use Rattle.spec_format.specs.declared.Fault.{Fault}
use Rattle.spec_format.specs.declared.Form.{Form}
use Rattle.spec_format.specs.Plan.{Plan, Listed}
use Rattle.spec_format.specs.ParsedLines.{Directive, ParsedLine}
use Rattle.spec_format.specs.Faults.{Draft, rank, has_fault, laid_out}
use Rattle.spec_format.specs.Reading.{blank, after, parsed_in, after_line, by_rank, first_of}
use Rattle.spec_format.specs.Reading.{ReadOutcome, refused, sound, or_else, read_lines}
use Rattle.spec_format.specs.Reading.{Reading, refusal, accepted, given, longest, reading}
use Rattle.spec_format.specs.FirstFault.{same_fault, draft_after, next_has, fault_at, First, Faultless}

-- A test cannot come out both ways.
clash : {b : Bool} → b ≡ true → b ≡ false → ⊥
clash p q = true≢false (sym p ∙ q)

-- All faults, by their ranks.
abbrev faults : List Fault
faults = Fault.TooLong ∷ by_rank

-- A fault is in a list.
abbrev In : Fault → List Fault → Type 0
In f [] = ⊥
In f (g ∷ gs) = (f ≡ g) ⊎ In f gs

-- Every fault is in the list of all.
all_in : (f : Fault) → In f faults
all_in Fault.TooLong = inl refl
all_in Fault.Unknown = inr (inl refl)
all_in Fault.Misplaced = inr (inr (inl refl))
all_in Fault.Malformed = inr (inr (inr (inl refl)))
all_in Fault.BadRun = inr (inr (inr (inr (inl refl))))
all_in Fault.TooMany = inr (inr (inr (inr (inr (inl refl)))))
all_in Fault.Misnumbered = inr (inr (inr (inr (inr (inr (inl refl))))))
all_in Fault.BadSize = inr (inr (inr (inr (inr (inr (inr (inl refl)))))))
all_in Fault.BadJob = inr (inr (inr (inr (inr (inr (inr (inr (inl refl))))))))
all_in Fault.SameJob = inr (inr (inr (inr (inr (inr (inr (inr (inr (inl refl)))))))))
all_in Fault.BadWord = inr (inr (inr (inr (inr (inr (inr (inr (inr (inr (inl refl))))))))))
all_in Fault.TooManyBlocks = inr (inr (inr (inr (inr (inr (inr (inr (inr (inr (inr (inl refl)))))))))))

-- A list goes through faults by their ranks, each above n and above the one before.
abbrev Rising : ℕ → List Fault → Type 0
Rising n [] = Unit {0}
Rising n (f ∷ fs) = (n < rank f) × Rising (rank f) fs

-- The same as a test,
abbrev rising : ℕ → List Fault → Bool
rising n [] = true
rising n (f ∷ fs) = ltb n (rank f) && rising (rank f) fs

-- by which it holds,
rises : (n : ℕ) (l : List Fault) → rising n l ≡ true → Rising n l
rises n [] e = tt
rises n (f ∷ fs) e =
    let tests = both (ltb n (rank f)) (rising (rank f) fs) e in
    (ltb-true n (rank f) tests.0, rises (rank f) fs tests.1)

-- and so of all faults, above 0.
all-rising : Rising 0 faults
all-rising = rises 0 faults refl

-- A fault of such a list has a rank above n.
above : (n : ℕ) (l : List Fault) (g : Fault) → Rising n l → In g l → n < rank g
above n [] g rising there = absurd there
above n (f ∷ fs) g rising (inl e) = rw e rising.0
above n (f ∷ fs) g rising (inr there) = omega (arith, rising.0, above (rank f) fs g rising.1 there)

-- No two faults of such a list have the same rank,
same_in :
    (n : ℕ) (l : List Fault) (f g : Fault) → Rising n l → In f l → In g l → rank f ≡ rank g → f ≡ g
same_in n [] f g rising there here e = absurd there
same_in n (h ∷ hs) f g rising (inl p) (inl q) e = p ∙ sym q
same_in n (h ∷ hs) f g rising (inl p) (inr q) e =
    absurd (omega (arith, ap rank p, e, above (rank h) hs g rising.1 q))
same_in n (h ∷ hs) f g rising (inr p) (inl q) e =
    absurd (omega (arith, ap rank q, e, above (rank h) hs f rising.1 p))
same_in n (h ∷ hs) f g rising (inr p) (inr q) e = same_in (rank h) hs f g rising.1 p q e

-- so no two faults do.
same_rank : (f g : Fault) → rank f ≡ rank g → f ≡ g
same_rank f g e = same_in 0 faults f g all-rising (all_in f) (all_in g) e

-- No fault is there.
abbrev pub Clear : (Fault → Bool) → Type 0
Clear has = (g : Fault) → has g ≡ false

-- A fault is there, and none with a lower rank.
pub record Lowest (has : Fault → Bool) (f : Fault) : Type 0 where
  pub here : has f ≡ true
  pub sooner : (g : Fault) → rank g < rank f → has g ≡ false

-- What is found is the fault with the lowest rank, and where nothing is found no fault is there.
abbrev pub Found : (Fault → Bool) → Option Fault → Type 0
Found has None = Clear has
Found has (Some f) = Lowest has f

-- The same of the faults of a list.
abbrev FoundIn : (Fault → Bool) → List Fault → Option Fault → Type 0
FoundIn has l None = (g : Fault) → In g l → has g ≡ false
FoundIn has l (Some f) = (has f ≡ true) × ((g : Fault) → In g l → rank g < rank f → has g ≡ false)

-- One fault more in front, which is not there.
found-more :
    (has : Fault → Bool) (f : Fault) (fs : List Fault) (x : Option Fault) → has f ≡ false → FoundIn has fs x
    → FoundIn has (f ∷ fs) x
found-more has f fs None e rest = go
  where
    go : (g : Fault) → In g (f ∷ fs) → has g ≡ false
    go g (inl same) = rw same e
    go g (inr there) = rest g there
found-more has f fs (Some h) e rest = (rest.0, go)
  where
    go : (g : Fault) → In g (f ∷ fs) → rank g < rank h → has g ≡ false
    go g (inl same) l = rw same e
    go g (inr there) l = rest.1 g there l

-- The first fault of a list that goes up by rank is the lowest of the list.
first-lowest : (has : Fault → Bool) (l : List Fault) (n : ℕ) → Rising n l → FoundIn has l (first_of has l)
first-lowest has [] n rising = λ g there. absurd there
first-lowest has (f ∷ fs) n rising = go (has f) refl (first-lowest has fs (rank f) rising.1)
  where
    none_before : (g : Fault) → In g (f ∷ fs) → rank g < rank f → has g ≡ false
    none_before g (inl same) l = absurd (omega (arith, ap rank same, l))
    none_before g (inr there) l = absurd (omega (arith, l, above (rank f) fs g rising.1 there))

    go : (b : Bool) → has f ≡ b → FoundIn has fs (first_of has fs)
        → FoundIn has (f ∷ fs) (cond b (Some f) (first_of has fs))
    go true e rest = (e, none_before)
    go false e rest = found-more has f fs (first_of has fs) e rest

-- What is found among all faults is the lowest of all.
of-all : (has : Fault → Bool) (x : Option Fault) → FoundIn has faults x → Found has x
of-all has None found = λ g. found g (all_in g)
of-all has (Some f) found = record { here = found.0; sooner = λ g l. found.1 g (all_in g) l }

-- What is found in a line is its lowest fault.
pub line-lowest :
    (form : Form) (d : Draft) (r : ParsedLine) → Found (has_fault form d r) (first_of (has_fault form d r) by_rank)
line-lowest form d r =
    of-all (has_fault form d r) (first_of (has_fault form d r) faults)
    (first-lowest (has_fault form d r) faults 0 all-rising)

-- Where only f can be there, by one test: f is the lowest where the test passes, and none is there where it fails.
sole : (f : Fault) (b : Bool) → Found (λ g. same_fault g f && b) (cond b (Some f) None)
sole f true =
    record {
      here = rw (eq-eqb (rank f) (rank f) refl);
      sooner = λ g h. rw (ne_eqb (rank g) (rank f) (omega arith));
    }
sole f false = λ g. go (same_fault g f)
  where
    go : (a : Bool) → (a && false) ≡ false
    go true = refl
    go false = refl

-- Fault f of place i leads: it is the lowest there, and no earlier place has a fault.
record Leads (has : ℕ → Fault → Bool) (i : ℕ) (f : Fault) : Type 0 where
  lowest : Lowest (has i) f
  earlier : (j : ℕ) → j < i → Clear (has j)

-- The lowest fault of place 0 leads.
at_once : {has : ℕ → Fault → Bool} {f : Fault} → Lowest (has 0) f → Leads has 0 f
at_once l = record { lowest = l; earlier = λ j h. absurd (omega arith) }

-- What leads in the places from 1 on leads in all, where place 0 has no fault.
later :
    {has : ℕ → Fault → Bool} {i : ℕ} {f : Fault} → Clear (has 0) → Leads (λ j. has (suc j)) i f → Leads has (suc i) f
later {has} {i} clear rest = record { lowest = rest.lowest; earlier = go }
  where
    go : (j : ℕ) → j < suc i → Clear (has j)
    go zero h = clear
    go (suc j) h = rest.earlier j (omega arith)

-- No place has a fault, where place 0 has none and none from 1 on has one.
all-clear : (has : ℕ → Fault → Bool) → Clear (has 0) → ((j : ℕ) → Clear (has (suc j))) → (i : ℕ) → Clear (has i)
all-clear has clear rest zero = clear
all-clear has clear rest (suc j) = rest j

-- An outcome is right for places whose lines are numbered from n: a refusal names what leads, and else none is there.
abbrev RightOutcome : (ℕ → Fault → Bool) → ℕ → ReadOutcome → Type 0
RightOutcome has n (refused f m) = (i : ℕ) × (m ≡ n + i) × Leads has i f
RightOutcome has n (sound d) = (i : ℕ) → Clear (has i)

-- The fault found in place 0, or else a right outcome of the places from 1 on, is a right outcome of all.
right-step :
    (has : ℕ → Fault → Bool) (n : ℕ) (x : Option Fault) (rest : ReadOutcome) → Found (has 0) x
    → RightOutcome (λ j. has (suc j)) (n + 1) rest → RightOutcome has n (or_else x n rest)
right-step has n (Some f) rest found right = (0, omega arith, at_once found)
right-step has n None (refused f m) found right = (suc right.0, omega arith, later found right.2)
right-step has n None (sound d) found right = all-clear has found right

-- A line more is counted, whatever it says.
pub one_more : (d : Draft) (x : Option Directive) → (after d x).lines ≡ d.lines + 1
one_more d None = refl
one_more d (Some i) = refl

-- The lines after a draft are read with a right outcome; place i is the line with i of them before it.
lines-right :
    (form : Form) (d : Draft) (ls : List Line)
    → RightOutcome (λ i. next_has form (draft_after d (take i ls)) (drop i ls)) (d.lines + 1) (read_lines form d ls)
lines-right form d [] = go (laid_out d) (sole Fault.Misplaced (not (laid_out d)))
  where
    has : ℕ → Fault → Bool
    has i = next_has form (draft_after d (take i [])) (drop i [])

    go :
        (b : Bool) → Found (next_has form d []) (cond (not b) (Some Fault.Misplaced) None)
        → RightOutcome has (d.lines + 1) (cond b (sound d) (refused Fault.Misplaced (d.lines + 1)))
    go true clear = all-clear has clear (λ j. clear)
    go false lowest = (0, omega arith, at_once lowest)
lines-right form d (l ∷ ls) =
    right-step (λ i. next_has form (draft_after d (take i (l ∷ ls))) (drop i (l ∷ ls))) (d.lines + 1)
    (first_of (has_fault form d (parsed_in d l)) by_rank) (read_lines form (after_line d l) ls)
    (line-lowest form d (parsed_in d l))
    (rw (one_more d (parsed_in d l).directive) at (lines-right form (after_line d l) ls))

-- A reading is right: a refusal names what leads, and where the text is accepted no fault is there.
abbrev RightReading : (ℕ → Fault → Bool) → Reading → Type 0
RightReading has (refusal f i) = Leads has i f
RightReading has (accepted p es n) = (i : ℕ) → Clear (has i)

-- What a right outcome gives is right, where the lines are numbered from 0.
given-right :
    (has : ℕ → Fault → Bool) (ls : List Line) (o : ReadOutcome) → RightOutcome has 0 o → RightReading has (given ls o)
given-right has ls (refused f m) right =
    let e : m ≡ right.0 = omega arith in
    rw e right.2
given-right has ls (sound d) right = right

-- Every reading is right.
reading-right : (form : Form) (text : List ℕ) → RightReading (fault_at form text) (reading form text)
unfolding reading
reading-right form text = go (ltb longest (length text)) (sole Fault.TooLong (ltb longest (length text)))
  where
    has : ℕ → Fault → Bool
    has = fault_at form text

    rest : ReadOutcome
    rest = read_lines form blank (lines text)

    go :
        (b : Bool) → Found (has 0) (cond b (Some Fault.TooLong) None)
        → RightReading has (cond b (refusal Fault.TooLong 0) (given (lines text) rest))
    go true lowest = at_once lowest
    go false clear =
        given-right has (lines text) rest (right-step has 0 None rest clear (lines-right form blank (lines text)))

-- Of two that are lowest, neither has the lower rank.
not-sooner : {has : Fault → Bool} {f g : Fault} → Lowest has f → Lowest has g → ¬ (rank f < rank g)
not-sooner {f = f} a b h = clash a.here (b.sooner f h)

-- Of two that lead, neither stands in an earlier place.
not_earlier : {has : ℕ → Fault → Bool} {i j : ℕ} {f g : Fault} → Leads has i f → Leads has j g → ¬ (i < j)
not_earlier {i = i} {f = f} a b h = clash a.lowest.here (b.earlier i h f)

-- Only one leads: two that do make the same refusal.
one-leads :
    {has : ℕ → Fault → Bool} {i j : ℕ} {f g : Fault} → Leads has i f → Leads has j g → refusal f i ≡ refusal g j
one-leads {has} {i} {j} {f} {g} a b =
    let e : i ≡ j = omega (arith, not_earlier a b, not_earlier b a) in
    let c : Lowest (has i) g = rw e b.lowest in
    cc (same_rank f g (omega (arith, not-sooner a.lowest c, not-sooner c a.lowest)))

-- A text is refused with (f, i) exactly when i is the first line with a fault and f the one in it that is judged first.
pub refused-first :
    (form : Form) (text : List ℕ) (f : Fault) (i : ℕ) → (reading form text ≡ refusal f i) ↔ First form text i f
refused-first form text f i = (there, back)
  where
    there : reading form text ≡ refusal f i → First form text i f
    there e =
        let leads : Leads (fault_at form text) i f = rw e at (reading-right form text) in
        record { here = leads.lowest.here; earlier = leads.earlier; sooner = leads.lowest.sooner }

    back : First form text i f → reading form text ≡ refusal f i
    back first = go (reading form text) refl (reading-right form text)
      where
        leads : Leads (fault_at form text) i f
        leads = record { lowest = record { here = first.here; sooner = first.sooner }; earlier = first.earlier }

        go :
            (r : Reading) → reading form text ≡ r → RightReading (fault_at form text) r
            → reading form text ≡ refusal f i
        go (refusal g j) e right = cc (one-leads leads right)
        go (accepted p es n) e right = absurd (clash first.here (right i f))

-- A text is accepted exactly when no line has a fault and it does not end too early.
pub accepted-faultless :
    (form : Form) (text : List ℕ)
    → ((p : Plan) × (es : List Listed) × (n : ℕ) × (reading form text ≡ accepted p es n)) ↔ Faultless form text
accepted-faultless form text = (
  λ a. record { none_at = rw a.3 at (reading-right form text) },
  go (reading form text) refl (reading-right form text),
)
  where
    go :
        (r : Reading) → reading form text ≡ r → RightReading (fault_at form text) r → Faultless form text
        → (p : Plan) × (es : List Listed) × (n : ℕ) × (reading form text ≡ accepted p es n)
    go (refusal f i) e right faultless = absurd (clash right.lowest.here (faultless.none_at i f))
    go (accepted p es n) e right faultless = (p, es, n, e)
