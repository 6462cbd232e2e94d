-- The jobs' working records, as the tables and the registers have them. Assumes nothing.
use Prim.Native.Nat.{ℕ, ◌<◌}
use mathlib.Core.Path.{◌≡◌, sym, ◌∙◌, ap}
use mathlib.Core.Logic.{◌≢◌}
use mathlib.Core.List.{List}
use native.Mathlib.Decide.{ℕ_discrete}
use native.Mathlib.Omega.{arith}
use lib.ListN.{length, get_or, set, length-set}
use lib.Seq.{get_or-set_same, get_or-set_other, ext_get_or}
use Rattle.spec_format.specs.Plan.{tabulate}
use Rattle.spec_format.proofs.Tabulated.{length-tabulate, get_d_tabulate}
use Rattle.spec_machine.specs.declared.Working.{Working}
use Rattle.spec_machine.specs.Working.{no_work}
use Rattle.step_cells.specs.declared.Registers.{Registers}
use Rattle.step_cells.specs.declared.Own.{Own}
use Rattle.step_cells.specs.Tables.{no_own, work_with, idle, works_of}

-- One element of a tabulated list stored.
pub tabulate-set :
    {A : Type 0} (n : ℕ) (f g : ℕ → A) (d : A) (p : ℕ) → ((q : ℕ) → q < n → q ≢ p → g q ≡ f q) → p < n
    → tabulate n g ≡ set (tabulate n f) p (g p)
tabulate-set n f g d p h l =
    ext_get_or d (tabulate n g) (set (tabulate n f) p (g p))
    (length-tabulate n g ∙ sym (length-set (tabulate n f) p (g p) ∙ length-tabulate n f))
    (λ i m. at i (rw (length-tabulate n g) at m) (ℕ_discrete i p))
  where
    at : (i : ℕ) → i < n → Dec (i ≡ p) → get_or (tabulate n g) i d ≡ get_or (set (tabulate n f) p (g p)) i d
    at i m (yes e) =
        get_d_tabulate n g d i m ∙ ap g e
        ∙ sym (ap (λ k. get_or (set (tabulate n f) p (g p)) k d) e
        ∙ get_or-set_same (tabulate n f) p (g p) d (rw (length-tabulate n f) l))
    at i m (no c) =
        get_d_tabulate n g d i m ∙ h i m c
        ∙ sym (get_or-set_other (tabulate n f) p i (g p) d c ∙ get_d_tabulate n f d i m)

-- There are sixteen records.
pub works-length : (os : List Own) (ws : List Registers) → length (works_of os ws) ≡ 16
unfolding works_of
works-length os ws = length-tabulate 16 (λ q. work_with (get_or os q no_own) (get_or ws q idle))

-- A job's record.
pub work-at :
    (os : List Own) (ws : List Registers) (p : ℕ) → p < 16
    → get_or (works_of os ws) p no_work ≡ work_with (get_or os p no_own) (get_or ws p idle)
unfolding works_of
work-at os ws p l = get_d_tabulate 16 (λ q. work_with (get_or os q no_own) (get_or ws q idle)) no_work p l

-- One job's own part and its registers stored.
pub works-step :
    (os : List Own) (ws : List Registers) (p : ℕ) (o : Own) (w : Registers) → p < 16 → length os ≡ 16
    → length ws ≡ 16 → works_of (set os p o) (set ws p w) ≡ set (works_of os ws) p (work_with o w)
unfolding works_of
works-step os ws p o w l own all =
    tabulate-set 16 (λ q. work_with (get_or os q no_own) (get_or ws q idle))
    (λ q. work_with (get_or (set os p o) q no_own) (get_or (set ws p w) q idle))
    no_work p
    (λ q m c.
    ap (λ x. work_with x (get_or (set ws p w) q idle)) (get_or-set_other os p q o no_own c)
    ∙ ap (work_with (get_or os q no_own)) (get_or-set_other ws p q w idle c))
    l
    ∙ ap (λ x. set was p (work_with x (get_or (set ws p w) p idle))) (get_or-set_same os p o no_own (omega (arith, own)))
    ∙ ap (λ x. set was p (work_with o x)) (get_or-set_same ws p w idle (omega (arith, all)))
  where
    -- the records before
    was : List Working
    was = tabulate 16 (λ q. work_with (get_or os q no_own) (get_or ws q idle))

-- One job's registers stored.
pub works-same :
    (os : List Own) (ws : List Registers) (p : ℕ) (w : Registers) → p < 16 → length ws ≡ 16
    → works_of os (set ws p w) ≡ set (works_of os ws) p (work_with (get_or os p no_own) w)
unfolding works_of
works-same os ws p w l all =
    tabulate-set 16 (λ q. work_with (get_or os q no_own) (get_or ws q idle))
    (λ q. work_with (get_or os q no_own) (get_or (set ws p w) q idle))
    no_work p
    (λ q m c. ap (work_with (get_or os q no_own)) (get_or-set_other ws p q w idle c))
    l
    ∙ ap (λ x. set was p (work_with (get_or os p no_own) x)) (get_or-set_same ws p w idle (omega (arith, all)))
  where
    -- the records before
    was : List Working
    was = tabulate 16 (λ q. work_with (get_or os q no_own) (get_or ws q idle))
