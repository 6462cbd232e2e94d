-- `write_plan` runs an accepted text and writes it. Assumes nothing.
use Rattle.std.proofs.Common.{◌≡◌, ap, ◌∙◌, ◌+◌, ℕ, arith, List}
use Rattle.spec_format.specs.declared.Entry.{Entry}
use Rattle.spec_format.specs.Plan.{Plan, entries_in}
use Rattle.spec_format.proofs.Sound.{entries-many}
use Rattle.spec_machine.specs.History.{run_of}
use Rattle.spec_report.specs.Outcomes.{end_of, end_of_run, line_in}
use Rattle.spec_plan_text.specs.PlanText.{text_of}
use Rattle.spec_plan_text.specs.Writing.{written_at}
use Rattle.read_tables.specs.Notes.{listed_in}
use Rattle.run_from_opening.specs.declared.RunEnd.{RunEnd}
use Rattle.run_from_opening.specs.Ends.{Ends}
use Rattle.report_ending.proofs.WrittenOut.{same_outcome}
use Rattle.whole_text.proofs.AcceptedText.{sound-plan, few-listed, line_told}
use Rattle.whole_written_text.proofs.write_plan.Goals as goal

pub run_notes-ran-requires : goal.run_notes-ran-requires
run_notes-ran-requires c = record { sound = sound-plan c.requires; few = few-listed c.requires }

pub overflow_add-ran : goal.overflow_add-ran
overflow_add-ran c = omega (arith, few-listed c.requires, entries-many (listed_in c.args.notes.now.items))

pub write_after-requires : goal.write_after-requires
write_after-requires c = record { sound = sound-plan c.requires; few = few-listed c.requires }

-- How the run ended is how its entries' run ends.
ended : {plan : Plan} {es : List Entry} {r : RunEnd} → Ends plan es r → (line : ℕ → ℕ) (count : ℕ)
    → end_of r.halt (r.entries + 1) (line r.entries) count ≡ end_of_run (run_of plan es) line count
ended ends line count = rw (ends.stopped_by, ends.counted)

pub returns : goal.returns
returns c =
    let ls = listed_in c.args.notes.now.items in
    let e =
    c.end_of-end.ensures
    ∙ line_told _ _ _ _ _ c.refused_line-line.ensures
    ∙ ended c.run_notes-ran.ensures (line_in ls) c.args.lines
    in
    same_outcome (ap (λ x. written_at x (text_of c.args.plan.now (entries_in ls))) e) c.write_after.ensures
