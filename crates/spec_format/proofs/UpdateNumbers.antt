-- The updates of an accepted text are numbered (updates-numbered). The argument: an update's line without a fault says
-- how many updates there are before it, so that the numbers said so far are always those below the count of updates,
-- and a move is added to the update whose line was the last. By induction over the lines. Assumes nothing.
use Prim.Native.Nat.{ℕ, zero, suc, ◌+◌}
use native.Mathlib.Omega.{arith}
use mathlib.Core.Path.{◌≡◌, refl, sym, ◌∙◌, subst}
use mathlib.Core.Bool.{Bool, true, false, cond, not}
use mathlib.Core.List.{List, [], ◌∷◌, ◌++◌, append_assoc, append-nil}
use Rattle.std.specs.Prelude.{Option, Some, None}
use lib.Dec.{eqb}
use lib.ListN.{length, get_or, length-append}
use borrow.Author.Tests.{eqb-true, eqb-false, eq-eqb, ne_eqb, not-false}
use Rattle.spec_text.specs.Lines.{Line, lines}
use Rattle.spec_text.proofs.Cases.{by-test}
use Rattle.spec_format.specs.declared.Fault.{Fault}
use Rattle.spec_format.specs.declared.Form.{Form}
use Rattle.spec_format.specs.declared.Move.{Move}
use Rattle.spec_format.specs.Plan.{Plan, Listed, tabulate}
use Rattle.spec_format.specs.ParsedLines.{Directive, plan, job, block, update, move, entry}
use Rattle.spec_format.specs.Faults.{Draft, laid_out, of_update, has_fault}
use Rattle.spec_format.specs.Reading.{blank, add_to_last, after, parsed_in, after_line, by_rank, first_of}
use Rattle.spec_format.specs.Reading.{ReadOutcome, refused, sound, or_else, read_lines, accepted, reading}
use Rattle.spec_format.specs.UpdateNumbers.{directives, update_numbers, moves_behind, Numbered}
use Rattle.spec_format.proofs.FirstFault.{Clear, Found, line-lowest}
use Rattle.spec_format.proofs.Sound.{one-empty, as_many, line_same}
use Rattle.spec_format.proofs.AcceptedTexts.{plan_read, plan_of, accepted-says}

-- What lines say makes the updates `vs` of the updates `us`: the numbers go on from those below the count of us, and
-- the moves behind each number are added to those that us has there.
abbrev Makes : List (List Move) → List (Option Directive) → List (List Move) → Type 0
Makes us is vs =
    (tabulate (length us) (λ n. n) ++ update_numbers is ≡ tabulate (length vs) (λ n. n))
    × ((u : ℕ) → get_or us u [] ++ moves_behind u (eqb (length us) (suc u)) is ≡ get_or vs u [])

-- Whether n + 1 is u + 1.
both-more : (n u : ℕ) → eqb (suc n) (suc u) ≡ eqb n u
both-more n u =
    by-test (eqb n u)
    (λ t. rw t (eq-eqb (suc n) (suc u) (omega (arith, eqb-true n u t))))
    (λ t. rw t (ne_eqb (suc n) (suc u) (λ e. eqb-false n u t (omega arith))))

-- A move more in the last update is a move more of the number that is one below the count.
added-by-number : (m : Move) (us : List (List Move)) (u : ℕ)
    → get_or (add_to_last m us) u [] ≡ get_or us u [] ++ cond (eqb (length us) (suc u)) (m ∷ []) []
added-by-number m [] u = rw (ne_eqb 0 (suc u) (omega arith))
added-by-number m (v ∷ []) zero = refl
added-by-number m (v ∷ []) (suc u) = rw (ne_eqb 1 (suc (suc u)) (omega arith)) refl
added-by-number m (v ∷ w ∷ us) zero = rw (ne_eqb (suc (suc (length us))) 1 (omega arith)) (sym (append-nil v))
added-by-number m (v ∷ w ∷ us) (suc u) =
    rw (both-more (suc (length us)) (suc u)) (added-by-number m (w ∷ us) u)

-- One line more in front, with no wrong number.
one-more-line : (d : Draft) (x : Option Directive) (is : List (Option Directive)) (vs : List (List Move))
    → of_update (λ n. not (eqb n (length d.plan.updates))) x ≡ false
    → Makes (after d x).plan.updates is vs → Makes d.plan.updates (x ∷ is) vs
one-more-line d None is vs right makes = makes
one-more-line d (Some (plan s)) is vs right makes = makes
one-more-line d (Some (job j)) is vs right makes = makes
one-more-line d (Some (block ws)) is vs right makes = makes
one-more-line d (Some (update n)) is vs right makes =
    let us : List (List Move) = d.plan.updates in
    let next : n ≡ length us = eqb-true n (length us) (not-false _ right) in
    let count : length (us ++ ([] ∷ [])) ≡ suc (length us) = omega (arith, length-append us ([] ∷ [])) in (
      rw next
          (sym (append_assoc (tabulate (length us) (λ i. i)) (length us ∷ []) (update_numbers is))
          ∙ (rw count at makes.0)),
      λ u. rw (next, ← both-more (length us) u, ← count, ← one-empty us u) (makes.1 u),
    )
one-more-line d (Some (move m)) is vs right makes =
    let us : List (List Move) = d.plan.updates in (
      rw (as_many m us) at makes.0,
      λ u. sym (append_assoc (get_or us u []) _ _) ∙ (rw (as_many m us, added-by-number m us u) at (makes.1 u)),
    )
one-more-line d (Some (entry e n)) is vs right makes = makes

-- A line in front of lines that give a plan has no fault.
pub no-fault : (x : Option Fault) (n : ℕ) (rest : ReadOutcome) (p : Plan) → plan_read (or_else x n rest) ≡ Some p
    → (x ≡ None) × (plan_read rest ≡ Some p)
no-fault (Some f) n rest p e = (cc, cc)
no-fault None n rest p e = (refl, e)

-- The plan at the end of a text.
pub at-end : (d : Draft) (b : Bool) (n : ℕ) (p : Plan)
    → plan_read (cond b (sound d) (refused Fault.Misplaced n)) ≡ Some p → d.plan ≡ p
at-end d true n p e = cc
at-end d false n p e = cc

-- Lines that give a plan make its updates.
lines-make : (form : Form) (d : Draft) (ls : List Line) (s : ℕ) (p : Plan) → plan_of form d ls ≡ Some p
    → Makes d.plan.updates (directives s ls) p.updates
lines-make form d [] s p e =
    rw (← at-end d (laid_out d) (d.lines + 1) p e) (append-nil _, λ u. append-nil _)
lines-make form d (l ∷ ls) s p e =
    let r = parsed_in d l in
    let read = no-fault (first_of (has_fault form d r) by_rank) (d.lines + 1) (read_lines form (after_line d l) ls) p
    e in
    let clear : Clear (has_fault form d r) = subst (Found (has_fault form d r)) read.0 (line-lowest form d r) in
    let is : List (Option Directive) = directives s ls in
    let words : ℕ = d.plan.sizes.words in
    let makes = one-more-line d r.directive is p.updates (clear Fault.Misnumbered)
    (lines-make form (after_line d l) ls s p read.1) in (
      rw (line_same (λ x. update_numbers (x ∷ is)) (λ ws. refl) s words l) makes.0,
      λ u.
          let behind : Bool = eqb (length d.plan.updates) (suc u) in
          rw (line_same (λ x. moves_behind u behind (x ∷ is)) (λ ws. refl) s words l) (makes.1 u),
    )

-- The updates of an accepted text are numbered.
pub updates-numbered :
    (form : Form) (text : List ℕ) (p : Plan) (es : List Listed) (n : ℕ) → reading form text ≡ accepted p es n
    → Numbered text p
updates-numbered form text p es n e =
    let makes = lines-make form blank (lines text) p.sizes.words p (accepted-says form text p es n e).plan-is in
    record { from_zero = makes.0; by_number = λ u. sym (rw (ne_eqb 0 (suc u) (omega arith)) at (makes.1 u)) }
