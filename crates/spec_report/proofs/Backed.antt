-- The end, the commits and the words that a report prints are those of a run that demand 3 holds of, whether the
-- entries stand in the text or come as records. Assumes nothing.
use Prim.Native.Nat.{ℕ, ◌+◌, ◌≤◌}
use mathlib.Core.Path.{◌≡◌, ◌∙◌, ap, subst}
use mathlib.Core.List.{List}
use Rattle.std.specs.Prelude.{None}
use borrow.Author.Tests.{le-ltb}
use lib.ListN.{length}
use lib.Seq.{take-length}
use Rattle.spec_format.specs.declared.Entry.{Entry}
use Rattle.spec_format.specs.declared.Form.{Form}
use Rattle.spec_format.specs.Plan.{Plan, Listed, entries_in}
use Rattle.spec_format.specs.Faults.{most_entries}
use Rattle.spec_format.specs.Reading.{accepted, reading}
use Rattle.spec_machine.specs.History.{run_of}
use Rattle.spec_machine.specs.Demand3.{Holds, Demand3}
use Rattle.spec_machine.proofs.Demand3.{demand3}
use Rattle.spec_report.specs.Outcomes.{
  Outcome,
  run_outcome,
  line_in,
  of_reading,
  run_text,
  other_from,
  unless_other,
  of_records,
  run_schedule,
}
use Rattle.spec_report.specs.Backed.{Backed}

-- The report of a run of any entries is backed, for the plan of an accepted text.
backed : (form : Form) (text : List ℕ) (plan : Plan) (listed : List Listed) (n : ℕ)
    → reading form text ≡ accepted plan listed n → (es : List Entry) (line : ℕ → ℕ) (count : ℕ) (o : Outcome)
    → o ≡ run_outcome plan es line count
    → Backed plan es line count o
backed form text plan listed n read es line count o is =
    record {
      outcome_is = is;
      holds = subst (λ l. Holds plan l (run_of plan l)) (take-length es) (demand.always (length es));
      demand = demand;
    }
  where
    demand : Demand3 plan es
    demand = demand3 form text plan listed n read es

-- The report of every accepted text is backed.
pub report-backed :
    (text : List ℕ) (plan : Plan) (listed : List Listed) (n : ℕ) → reading Form.Schedule text ≡ accepted plan listed n
    → Backed plan (entries_in listed) (line_in listed) n (run_text text)
unfolding run_text
report-backed text plan listed n read =
    let es : List Entry = entries_in listed in
    backed Form.Schedule text plan listed n read es (line_in listed) n (run_text text) (ap of_reading read)

-- Demand 3 "is a single claim about the whole list of entries", of a list of records too: the report of every schedule
-- of records that runs beside an accepted plan's text is backed.
pub schedule-backed :
    (text : List ℕ) (plan : Plan) (listed : List Listed) (n : ℕ) → reading Form.PlanAlone text ≡ accepted plan listed n
    → (es : List Entry) → length es ≤ most_entries → other_from 1 es ≡ None
    → Backed plan es (λ i. i + 1) (length es) (run_schedule text es)
unfolding run_schedule
schedule-backed text plan listed n read es few no_other =
    backed Form.PlanAlone text plan listed n read es (λ i. i + 1) (length es) (run_schedule text es)
    (ap (λ r. of_records r es) read
    ∙ rw (le-ltb most_entries (length es) few)
    (ap (λ q. unless_other q (run_outcome plan es (λ i. i + 1) (length es))) no_other))
