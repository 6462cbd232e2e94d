-- An accepted text by its lines: it is accepted with what its lines say (says-accepted), and they say what it is
-- accepted with (accepted-says). Assumes nothing.
use Prim.Native.Nat.{ℕ, ◌≤◌}
use native.Mathlib.Omega.{arith}
use mathlib.Core.Path.{◌≡◌}
use mathlib.Core.List.{List}
use Rattle.std.specs.Prelude.{Option, Some, None}
use lib.Dec.{ltb}
use lib.ListN.{length}
use borrow.Author.Tests.{le-ltb, ltb-false}
use Rattle.spec_text.specs.Lines.{Line, lines}
use Rattle.spec_text.proofs.Cases.{by-test}
use Rattle.spec_format.specs.declared.Form.{Form}
use Rattle.spec_format.specs.Plan.{Plan, Listed}
use Rattle.spec_format.specs.Faults.{Draft}
use Rattle.spec_format.specs.Reading.{blank, ReadOutcome, refused, sound, read_lines, entries_of}
use Rattle.spec_format.specs.Reading.{accepted, given, longest, reading}

-- The plan of an outcome that is no refusal.
abbrev pub plan_read : ReadOutcome → Option Plan
plan_read (refused f n) = None
plan_read (sound d) = Some d.plan

-- The plan that lines give after a draft, where no line has a fault.
abbrev pub plan_of : Form → Draft → List Line → Option Plan
plan_of form d ls = plan_read (read_lines form d ls)

-- What an accepted text says, by its lines.
pub record Says (form : Form) (text : List ℕ) (p : Plan) (es : List Listed) (k : ℕ) : Type 0 where
  pub short : length text ≤ longest
  pub plan-is : plan_of form blank (lines text) ≡ Some p
  pub entries_are : es ≡ entries_of p.sizes.words 1 (lines text)
  pub count_is : k ≡ length (lines text)

-- Lines that are accepted give the plan, their entries and their count.
given-says :
    (ls : List Line) (o : ReadOutcome) (p : Plan) (es : List Listed) (k : ℕ) → given ls o ≡ accepted p es k
    → (plan_read o ≡ Some p) × (es ≡ entries_of p.sizes.words 1 ls) × (k ≡ length ls)
given-says ls (refused f n) p es k e = (cc, cc, cc)
given-says ls (sound d) p es k e = (cc, cc, cc)

-- Lines that give a plan are accepted with it, their entries and their count.
plan-given :
    (ls : List Line) (o : ReadOutcome) (p : Plan) → plan_read o ≡ Some p
    → given ls o ≡ accepted p (entries_of p.sizes.words 1 ls) (length ls)
plan-given ls (refused f n) p e = cc
plan-given ls (sound d) p e = cc

-- An accepted text says what it is accepted with,
pub accepted-says :
    (form : Form) (text : List ℕ) (p : Plan) (es : List Listed) (k : ℕ) → reading form text ≡ accepted p es k
    → Says form text p es k
unfolding reading
accepted-says form text p es k e =
    by-test (ltb longest (length text))
    (λ t. let clash = rw t at e in absurd (let z : ◌≡◌ {A = ℕ} 0 1 = cc in omega arith))
    (λ t.
    let says = given-says (lines text) (read_lines form blank (lines text)) p es k (rw t at e) in
    record {
      short = ltb-false longest (length text) t;
      plan-is = says.0;
      entries_are = says.1;
      count_is = says.2;
    })

-- and it is accepted with what it says.
pub says-accepted :
    (form : Form) (text : List ℕ) (p : Plan) (es : List Listed) (k : ℕ) → Says form text p es k
    → reading form text ≡ accepted p es k
unfolding reading
says-accepted form text p es k says =
    rw (le-ltb longest (length text) says.short, says.entries_are, says.count_is)
    (plan-given (lines text) (read_lines form blank (lines text)) p says.plan-is)
