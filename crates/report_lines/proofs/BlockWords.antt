-- A block's words as a part of the store. Assumes nothing.
use Rattle.std.proofs.Common.{◌≡◌, refl, ◌∙◌, ◌+◌, ◌-◌, ◌*◌, ◌≤◌, ℕ, zero, suc, arith, List, length, get_or, take, drop}
use Rattle.std.proofs.Common.{length-drop}
use Rattle.std.proofs.Math.Seq.{take-suc, get_or-drop}
use Rattle.spec_format.specs.Plan.{tabulate}
use Rattle.spec_machine.specs.Machine.{block_in}

-- A part of a list is tabulated from its elements.
part-tabulate : (n k : ℕ) (xs : List ℕ) → k + n ≤ length xs → take n (drop k xs) ≡ tabulate n (λ i. get_or xs (k + i) 0)
part-tabulate zero k xs h = refl
part-tabulate (suc n) k xs h =
    take-suc (drop k xs) n 0 (omega (arith, length-drop k xs))
    ∙ rw (part-tabulate n k xs (omega arith), get_or-drop k xs n 0) refl

-- A block's words are a part of the store.
pub block-part : (s b : ℕ) (store : List ℕ) → b * s + s ≤ length store
    → take (b * s + s - b * s) (drop (b * s) store) ≡ block_in s store b
block-part s b store h =
    let e : b * s + s - b * s ≡ s = omega arith in
    rw e (part-tabulate s (b * s) store h)
