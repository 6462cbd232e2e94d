-- The single entries of an accepted text are calls and steps (read-kinds) whose unused number is 0 (read_plain). The
-- argument: a line says a call or a step, and of a step no second number. By induction over the lines. Assumes nothing.
use Prim.Native.Nat.{ℕ, zero, suc, ◌+◌}
use mathlib.Core.Path.{◌≡◌, refl}
use mathlib.Core.Logic.{◌⊎◌, inl, inr}
use mathlib.Core.List.{List, [], ◌∷◌, ◌++◌, map}
use Rattle.std.specs.Prelude.{Option, Some, None}
use lib.ListN.{get_or, replicate}
use Rattle.spec_text.specs.Lines.{Line, fields, lines}
use Rattle.spec_format.specs.declared.Kind.{Kind}
use Rattle.spec_format.specs.declared.Form.{Form}
use Rattle.spec_format.specs.Plan.{Plan, Listed, entries_in}
use Rattle.spec_format.specs.Kinds.{kind_of}
use Rattle.spec_format.specs.ParsedLines.{numbers_for, directive_of, parsed_from, parsed_of}
use Rattle.spec_format.specs.Reading.{listed, entries_of, accepted, reading}
use Rattle.spec_format.proofs.AcceptedTexts.{accepted-says}
use Rattle.spec_plan_text.specs.EntryLines.{plain}
use Rattle.spec_plan_text.proofs.LongestRuns.{KnownKinds}

-- Single entries are calls and steps, and their unused numbers are 0.
abbrev Plain : List Listed → Type 0
Plain ls = KnownKinds (entries_in ls) × (map plain (entries_in ls) ≡ entries_in ls)

-- One such entry any number of times.
plain-times :
    (k : ℕ) (l : Listed) → (l.entry.kind ≡ 0) ⊎ (l.entry.kind ≡ 1) → plain l.entry ≡ l.entry
    → Plain (replicate k l)
plain-times zero l known same = (tt, refl)
plain-times (suc k) l known same =
    let more = plain-times k l known same in
    ((known, more.0), cc (same, more.1))

-- Such entries behind such entries.
plain-append : (ls ms : List Listed) → Plain ls → Plain ms → Plain (ls ++ ms)
plain-append [] ms one other = other
plain-append (l ∷ ls) ms one other =
    let first : plain l.entry ≡ l.entry = cc one.1 in
    let others : map plain (entries_in ls) ≡ entries_in ls = cc one.1 in
    let more = plain-append ls ms (one.0.1, others) other in
    ((one.0.0, more.0), cc (first, more.1))

-- The entries of what a line of a kind with its numbers says,
plain-said : (n : ℕ) (k : Kind) (o : Option (List ℕ)) → Plain (listed n (directive_of k o))
plain-said n k None = (tt, refl)
plain-said n Kind.Plan (Some ns) = (tt, refl)
plain-said n Kind.Job (Some ns) = (tt, refl)
plain-said n Kind.Block (Some ns) = (tt, refl)
plain-said n Kind.Update (Some ns) = (tt, refl)
plain-said n Kind.Copy (Some ns) = (tt, refl)
plain-said n Kind.Set (Some ns) = (tt, refl)
plain-said n Kind.Add (Some ns) = (tt, refl)
plain-said n Kind.Call (Some ns) = ((inl refl, tt), refl)
plain-said n Kind.Step (Some ns) =
    plain-times (get_or ns 1 1) (record { entry = record { kind = 1; first = get_or ns 0 0; second = 0 }; line = n })
    (inr refl) refl
plain-said n Kind.Unknown (Some ns) = (tt, refl)

-- by its fields,
plain-fields : (s n : ℕ) (l : Line) (fs : List (List ℕ)) → Plain (listed n (parsed_from s l.ended fs).directive)
plain-fields s n l [] = (tt, refl)
plain-fields s n l (f ∷ fs) = plain-said n (kind_of f) (numbers_for s (kind_of f) fs)

-- and of lines.
plain_lines : (s n : ℕ) (ls : List Line) → Plain (entries_of s n ls)
unfolding parsed_of
plain_lines s n [] = (tt, refl)
plain_lines s n (l ∷ ls) =
    plain-append (listed n (parsed_of s l).directive) (entries_of s (n + 1) ls)
    (plain-fields s n l (fields l.bytes)) (plain_lines s (n + 1) ls)

module _
    (form : Form) (text : List ℕ) (p : Plan) (ls : List Listed) (n : ℕ)
    (read : reading form text ≡ accepted p ls n) where
  -- The entries of an accepted text.
  read-both : Plain ls
  read-both = rw (accepted-says form text p ls n read).entries_are (plain_lines p.sizes.words 1 (lines text))

  -- They are calls and steps,
  pub read-kinds : KnownKinds (entries_in ls)
  read-kinds = read-both.0

  -- and their unused numbers are 0.
  pub read_plain : map plain (entries_in ls) ≡ entries_in ls
  read_plain = read-both.1
