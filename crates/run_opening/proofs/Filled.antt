-- A list whose places hold what f gives is the tabulated list. Assumes nothing.
use Rattle.std.proofs.Common.{◌≡◌, sym, ◌∙◌, ℕ, ◌<◌, arith, List, length, get_or, ext_get_or}
use Rattle.spec_format.specs.Plan.{tabulate}
use Rattle.spec_format.proofs.Tabulated.{length-tabulate, get_d_tabulate}

pub filled :
    {A : Type 0} (n : ℕ) (f : ℕ → A) (d : A) (l : List A) → length l ≡ n
    → ((k : ℕ) → k < n → get_or l k d ≡ f k) → l ≡ tabulate n f
filled n f d l long at =
    ext_get_or d l (tabulate n f) (long ∙ sym (length-tabulate n f))
    (λ k h. let m : k < n = omega (arith, long) in at k m ∙ sym (get_d_tabulate n f d k m))
