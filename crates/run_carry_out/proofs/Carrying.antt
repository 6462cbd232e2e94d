-- What a change makes of the jobs' working records. Assumes nothing.
use Rattle.std.proofs.Common.{ℕ, ◌≡◌, ◌<◌, arith, List, length, get_or}
use Rattle.std.proofs.Math.ListN.{set}
use Rattle.std.proofs.lemmas.List.{get_or_default}
use Rattle.spec_format.specs.Plan.{Plan}
use Rattle.step_cells.specs.declared.Own.{Own}
use Rattle.step_cells.specs.declared.Registers.{Registers}
use Rattle.step_cells.specs.declared.Change.{Change}
use Rattle.step_cells.specs.declared.Tables.{Tables}
use Rattle.spec_machine.specs.Machine.{in_row, with_work, stored, carried_out}
use Rattle.step_cells.specs.Effects.{ChangeInside, own_after, store_of, Carried}
use Rattle.step_cells.specs.Tables.{machine_of, own_of, no_own, work_with, works_of, OwnWhole}
use Rattle.step_cells.proofs.Whole.{owns_set}
use Rattle.step_cells.proofs.Works.{works-same, works-step}
use Rattle.run_carry_out.specs.Asks.{Asks}

-- The job is one of the sixteen.
pub low : {plan : Plan} {p : ℕ} {s : Change} {x : Tables} → Asks plan p s x → p < 16
low a = omega (arith, a.fits.job, a.fits.jobs)

-- Its own part, as the code reads it.
pub own_read :
    {plan : Plan} {p : ℕ} {s : Change} {x : Tables} (d : Own) → Asks plan p s x → get_or x.own p d ≡ own_of x p
own_read {p = p} {x = x} d a = get_or_default x.own p d no_own (omega (arith, low a, a.whole.own))

-- Its own part stays: its record has the next registers.
pub own_stays :
    {plan : Plan} {p : ℕ} {s : Change} {x : Tables} → Asks plan p s x → (ws : List Registers) (w : Registers)
    → length ws ≡ 16
    → works_of x.own (set ws p w) ≡ set (works_of x.own ws) p (work_with (own_of x p) w)
own_stays a ws w long = works-same _ ws _ w (low a) long

-- Its own part becomes another.
pub own_becomes :
    {plan : Plan} {p : ℕ} {s : Change} {x : Tables} (o : Own) → Asks plan p s x → (ws : List Registers) (w : Registers)
    → length ws ≡ 16
    → works_of (set x.own p o) (set ws p w) ≡ set (works_of x.own ws) p (work_with o w)
own_becomes o a ws w long = works-step _ ws _ o w (low a) a.whole.own long

-- The jobs' own parts stay whole where its own becomes one that is whole.
pub owns_whole :
    {plan : Plan} {p : ℕ} {s : Change} {x : Tables} (o : Own) → Asks plan p s x → OwnWhole o
    → (q : ℕ) → OwnWhole (get_or (set x.own p o) q no_own)
owns_whole {p = p} {x = x} o a one = owns_set x.own p o (omega (arith, low a, a.whole.own)) a.whole.owns one

-- The store carried out, whatever the other jobs' registers are.
pub carried :
    (plan : Plan) (p : ℕ) (s : Change) (x y : Tables)
    → ((ws : List Registers) (w : Registers) → length ws ≡ 16 → ChangeInside w s
    → let work = work_with (own_after (in_row x.rows.addr p) (in_row x.rows.old p) s (own_of x p)) w in
    machine_of y (set ws p w)
    ≡ stored plan p work (store_of plan.sizes.jobs p (own_of x p) s) (with_work p work (machine_of x ws)))
    → Carried plan p s x y
unfolding Carried carried_out
carried plan p s x y f = λ ws w done long fits. f ws w long fits

-- What the search needs of them.
pub ruleset works = (own_stays, own_becomes, own_read, carried)
