-- "Engineers count `update` lines with a finger to know what `call 3 7` means. The line becomes `update n` with the
-- number that was implied": what a reader of a text finds by these numbers, and that it is what the plan has.
-- proofs/UpdateNumbers.antt shows it of every accepted text. Assumes nothing.
use Rattle.std.specs.Prelude.{ℕ, zero, suc, ◌≡◌, Bool, false, cond, List, [], ◌∷◌, ◌++◌, map, eqb, length, get_or}
use Rattle.std.specs.Prelude.{Option, Some, None}
use Rattle.spec_text.specs.Bytes.{bytes}
use Rattle.spec_text.specs.Lines.{Line, lines}
use Rattle.spec_text.specs.WrittenLines.{line_of}
use Rattle.spec_format.specs.declared.Move.{Move}
use Rattle.spec_format.specs.Plan.{Plan, tabulate}
use Rattle.spec_format.specs.ParsedLines.{Directive, plan, job, block, update, move, entry, parsed_of}

-- The lines of n updates without moves.
abbrev pub update_lines : ℕ → List ℕ
update_lines zero = []
update_lines (suc n) = update_lines n ++ line_of (bytes "update") (n ∷ [])

-- What the lines of a text say, one after the other, where blocks have s words.
abbrev pub directives : ℕ → List Line → List (Option Directive)
directives s ls = map (λ (l : Line). (parsed_of s l).directive) ls

-- The numbers of the update lines, in their order.
abbrev pub update_numbers : List (Option Directive) → List ℕ
update_numbers [] = []
update_numbers (None ∷ is) = update_numbers is
update_numbers (Some (plan s) ∷ is) = update_numbers is
update_numbers (Some (job j) ∷ is) = update_numbers is
update_numbers (Some (block ws) ∷ is) = update_numbers is
update_numbers (Some (update n) ∷ is) = n ∷ update_numbers is
update_numbers (Some (move m) ∷ is) = update_numbers is
update_numbers (Some (entry e n) ∷ is) = update_numbers is

-- The moves that stand behind the line `update u`, up to the next update, where `behind` says whether that line is the
-- last update so far.
abbrev pub moves_behind : ℕ → Bool → List (Option Directive) → List Move
moves_behind u behind [] = []
moves_behind u behind (None ∷ is) = moves_behind u behind is
moves_behind u behind (Some (plan s) ∷ is) = moves_behind u behind is
moves_behind u behind (Some (job j) ∷ is) = moves_behind u behind is
moves_behind u behind (Some (block ws) ∷ is) = moves_behind u behind is
moves_behind u behind (Some (update n) ∷ is) = moves_behind u (eqb n u) is
moves_behind u behind (Some (move m) ∷ is) = cond behind (m ∷ []) [] ++ moves_behind u behind is
moves_behind u behind (Some (entry e n) ∷ is) = moves_behind u behind is

-- The updates of a text that has this plan are numbered: as they come, 0, 1, 2 and so on, as many as the plan has; and
-- update u, which `call job u` means, has the moves that stand behind the line `update u`.
pub record Numbered (text : List ℕ) (plan : Plan) : Type 0 where
  pub from_zero :
      update_numbers (directives plan.sizes.words (lines text)) ≡ tabulate (length plan.updates) (λ n. n)
  pub by_number :
      (u : ℕ) → get_or plan.updates u [] ≡ moves_behind u false (directives plan.sizes.words (lines text))
