-- What is written is read back (read-back): "Reading that text gives the same plan and the same single entries". The
-- argument: the plan's text leads from the blank draft to one with the plan, and the entry lines from there to one with
-- the same plan, and list the single entries; the text may end there. Assumes nothing.
use Prim.Native.Nat.{ℕ, ◌≤◌}
use mathlib.Core.Path.{◌≡◌, refl, ◌∙◌}
use mathlib.Core.Bool.{true}
use mathlib.Core.List.{List, [], map, append-nil}
use lib.ListN.{length}
use Rattle.spec_text.specs.Lines.{lines}
use Rattle.spec_format.specs.declared.Entry.{Entry}
use Rattle.spec_format.specs.declared.Form.{Form}
use Rattle.spec_format.specs.Plan.{Plan, Listed, entries_in}
use Rattle.spec_format.specs.Faults.{laid_out, most_entries}
use Rattle.spec_format.specs.Reading.{blank, entries_of, accepted, longest, reading}
use Rattle.spec_format.specs.Sound.{Sound}
use Rattle.spec_format.proofs.AcceptedTexts.{says-accepted}
use Rattle.spec_format.proofs.RunIsSteps.{no_lines}
use Rattle.spec_plan_text.specs.EntryLines.{plain}
use Rattle.spec_plan_text.specs.PlanText.{text_of}
use Rattle.spec_plan_text.proofs.Runnable.{AllRunnable}
use Rattle.spec_format.proofs.Fits.{Fits}
use Rattle.spec_plan_text.proofs.Leads.{Leads, leads-then}
use Rattle.spec_plan_text.proofs.PlanReadBack.{laid, counting, plan-leads}
use Rattle.spec_plan_text.proofs.EntriesReadBack.{schedule-leads}

-- A text that leads to a draft with a whole plan, which is laid out, is accepted with the plan and its single entries.
whole-read :
    (form : Form) (text : List ℕ) (plan : Plan) (es : List Entry) (n : ℕ)
    → Leads form blank text es (counting plan n) → laid_out (counting plan n) ≡ true → length text ≤ longest
    → (listed : List Listed) × (count : ℕ) × (reading form text ≡ accepted plan listed count)
    × (entries_in listed ≡ es)
whole-read form text plan es n leads is_laid_out short = (
  entries_of plan.sizes.words 1 (lines text),
  length (lines text),
  says-accepted form text plan _ _
      (record {
        short = short;
        plan-is = (rw (append-nil text) at (leads.plans [])) ∙ rw (no_lines, is_laid_out);
        entries_are = refl;
        count_is = refl;
      }),
  (rw (append-nil text) at (leads.lists plan.sizes.words 1 1 [])) ∙ rw no_lines (append-nil es),
)

-- What is written is read back.
pub read_back :
    (plan : Plan) (es : List Entry) → Sound plan → Fits plan → AllRunnable plan es → length es ≤ most_entries
    → length (text_of plan es) ≤ longest
    → (listed : List Listed) × (lines : ℕ) × (reading Form.Schedule (text_of plan es) ≡ accepted plan listed lines)
    × (entries_in listed ≡ map plain es)
unfolding text_of
read_back plan es good fits runnable few short =
    whole-read Form.Schedule (text_of plan es) plan (map plain es) (length es)
    (leads-then (plan-leads Form.Schedule plan good fits) (schedule-leads plan es good runnable few))
    (laid plan good plan.updates) short
