-- What a `call` and a `step` entry do: "An accepted `call` makes the job active at A1. A `step` does one item for the
-- active job p of highest priority on card R." A refused entry leaves the state as it was. Assumes nothing.
use Rattle.std.specs.Prelude.{ℕ, zero, suc, Bool, cond, ◌&&◌, ◌||◌, eqb, ltb, leb, length}
use Rattle.std.specs.Prelude.{Option, Some, None}
use Rattle.spec_format.specs.declared.Entry.{Entry}
use Rattle.spec_format.specs.Plan.{Plan, job_in}
use Rattle.spec_machine.specs.declared.Refusal.{Refusal}
use Rattle.spec_machine.specs.declared.Judgement.{Judgement}
use Rattle.spec_machine.specs.Places.{is_active}
use Rattle.spec_machine.specs.Working.{called}
use Rattle.spec_machine.specs.Machine.{Machine, work_of, with_work, carried_out, item_of}

-- The number of each refusal in the table.
abbrev pub refusal_number : Refusal → ℕ
refusal_number Refusal.NoSuch = 11
refusal_number Refusal.Active = 12
refusal_number Refusal.NoCard = 13
refusal_number Refusal.NoneActive = 14

-- Job k is active and on this card.
abbrev pub active_on : Plan → Machine → ℕ → ℕ → Bool
active_on plan m card k = is_active (work_of m k).place && eqb (job_in plan k).card card

-- Of the best job so far and job k, where job k may run: the one of higher priority, "the larger running first".
abbrev pub higher : Plan → Option ℕ → ℕ → Option ℕ
higher plan None k = Some k
higher plan (Some best) k =
    cond (ltb (job_in plan best).priority (job_in plan k).priority) (Some k) (Some best)

-- The active job of highest priority on a card among the first n jobs, where there is one.
abbrev pub runs_on : Plan → Machine → ℕ → ℕ → Option ℕ
runs_on plan m card zero = None
runs_on plan m card (suc n) =
    cond (active_on plan m card n) (higher plan (runs_on plan m card n) n) (runs_on plan m card n)

-- A call is judged: 11, no such job or no such update; then 12, job active.
abbrev pub judge_call : Plan → Machine → ℕ → ℕ → Judgement
judge_call plan m job update =
    cond (leb plan.sizes.jobs job || leb (length plan.updates) update) (Judgement.Refused Refusal.NoSuch)
    (cond (is_active (work_of m job).place) (Judgement.Refused Refusal.Active) (Judgement.Calls job update))

-- A step of a card whose running job is known, or not: 14, no job active on the card.
abbrev pub judge_running : Option ℕ → Judgement
judge_running None = Judgement.Refused Refusal.NoneActive
judge_running (Some p) = Judgement.Runs p

-- A step is judged: 13, card not below P; then 14.
abbrev pub judge_step : Plan → Machine → ℕ → Judgement
judge_step plan m card =
    cond (leb plan.sizes.cards card) (Judgement.Refused Refusal.NoCard)
    (judge_running (runs_on plan m card plan.sizes.jobs))

-- What an entry comes to: kind 0 calls job `first` with update `second`, kind 1 steps card `first`. Entries of another
-- kind are refused before any entry runs (crate `spec_report`); here they would count as steps.
unfoldable pub judge : Plan → Machine → Entry → Judgement
judge plan m e = cond (eqb e.kind 0) (judge_call plan m e.first e.second) (judge_step plan m e.first)

-- The state after an entry that is judged so.
unfoldable pub acted : Plan → Machine → Judgement → Machine
acted plan m (Judgement.Calls job update) = with_work job (called update (work_of m job)) m
acted plan m (Judgement.Runs p) = carried_out plan p (item_of plan m p) m
acted plan m (Judgement.Refused r) = m
