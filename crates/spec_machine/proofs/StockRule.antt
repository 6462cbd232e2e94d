-- The stock rule holds where no call's update is decided and uncommitted. Assumes a sound plan, arrays of their
-- lengths, the third layer of the invariant, and for the form by the history the first, the second and the fifth too.
--
-- In plain words. While no status is a job's number, the third layer has the rule in the view by functions, and the
-- view reads the bank and the copy lists of the plan's jobs off the machine's lists, which have their lengths: so it is
-- the rule of these. As many different numbers below B + NC as there are numbers below B + NC are all of them, so none
-- is missing. Where no call is decided and uncommitted, no status is a job's number (Answer.antt).
use Prim.Native.Nat.{ℕ, ◌<◌}
use mathlib.Core.Path.{◌≡◌, sym, ◌∙◌, ap}
use mathlib.Core.Logic.{◌≢◌, ◌⊎◌, inl, inr}
use mathlib.Core.Bool.{false}
use mathlib.Core.List.{List}
use native.Mathlib.Omega.{arith}
use lib.ListN.{get_or}
use Rattle.spec_format.specs.declared.Entry.{Entry}
use Rattle.spec_format.specs.Plan.{Plan}
use Rattle.spec_format.specs.Sound.{Sound}
use Rattle.spec_machine.specs.declared.Working.{Working}
use Rattle.spec_machine.specs.Machine.{Machine}
use Rattle.spec_machine.specs.History.{Run}
use Rattle.spec_machine.specs.Demand3.{is_decided_uncommitted}
use Rattle.spec_machine.specs.StockRule.{block_numbers, bank_number, copy_number, StockRule}
use Rattle.spec_machine.proofs.View.{decided, state_in}
use Rattle.spec_machine.proofs.Sizes.{Sized, Roomy}
use Rattle.spec_machine.proofs.ListsByPlace.{get_d_any}
use Rattle.spec_machine.proofs.ListMachine.{job-seen}
use Rattle.spec_machine.proofs.SmallSteps.{copy_of, layout}
use Rattle.spec_machine.proofs.Attempts.{Stock}
use Rattle.spec_machine.proofs.Pigeonhole as pigeonhole
use Rattle.spec_machine.proofs.Cards.{CardsHold}
use Rattle.spec_machine.proofs.Epochs.{EpochsHold}
use Rattle.spec_machine.proofs.Contents.{Ghost, ContentsHold}
use Rattle.spec_machine.proofs.Bypass.{Tally}
use Rattle.spec_machine.proofs.Told.{Told}
use Rattle.spec_machine.proofs.Answer.{none-decided}

-- A bank number in the view is the machine's.
pub bank-seen :
    (plan : Plan) → Sound plan → (m : Machine) → Sized m → (k : ℕ) → k < plan.sizes.blocks
    → (state_in plan m).sh.bank k ≡ bank_number plan m k
unfolding state_in
bank-seen plan ok m sized k h =
    get_d_any m.cells.bank k 0 (block_numbers plan) (rw sized.bank (omega (arith, ok.blocks)))

module _ (plan : Plan) (ok : Sound plan) (m : Machine) (sized : Sized m)
    (roomy : (q : ℕ) → Roomy ((state_in plan m).job q)) where
  -- `bank-seen` of this machine.
  seen : (k : ℕ) → k < plan.sizes.blocks → (state_in plan m).sh.bank k ≡ bank_number plan m k
  seen = bank-seen plan ok m sized

  -- A copy number in the view is the machine's.
  copy_seen :
      (q i : ℕ) → q < plan.sizes.jobs → i < plan.sizes.copies
      → copy_of ((state_in plan m).job q) i ≡ copy_number plan m q i
  copy_seen q i h l =
      get_d_any ((state_in plan m).job q).copy i 0 (block_numbers plan)
      (rw (roomy q).copy (omega (arith, ok.copies)))
      ∙ ap (λ (w : Working). get_or w.copy i (block_numbers plan)) (job-seen plan m q h)

  -- The stock of the view is the stock rule of the machine.
  pub stock-rule :
      Stock (layout plan) (state_in plan m).sh.bank (λ q. copy_of ((state_in plan m).job q)) → StockRule plan m
  stock-rule stock =
      record {
        bank_bank = λ k l hk hl e. stock.bank_bank k l hk hl (seen k hk ∙ e ∙ sym (seen l hl));
        bank_copy =
            λ k q i hk hq hi e. stock.bank_copy k q i hk hi (seen k hk ∙ e ∙ sym (copy_seen q i hq hi));
        copy_copy =
            λ q r i j hq hr hi hj e.
            stock.copy_copy q r i j hi hj (copy_seen q i hq hi ∙ e ∙ sym (copy_seen r j hr hj));
        bank_in = λ k hk. rw (← seen k hk) (stock.bank_in k hk);
        copy_in = λ q i hq hi. rw (← copy_seen q i hq hi) (stock.copy_in q i hq hi);
        none_missing = λ y hy. go y (pigeonhole.none_missing (layout plan) stock y hy);
      }
    where
      -- where a number stands in the view, it stands in the machine
      go :
          (y : ℕ)
          → ((k : ℕ) × (k < plan.sizes.blocks) × ((state_in plan m).sh.bank k ≡ y))
          ⊎ ((q : ℕ)
          × (i : ℕ)
          × (q < plan.sizes.jobs)
          × (i < plan.sizes.copies)
          × (copy_of ((state_in plan m).job q) i ≡ y))
          → ((k : ℕ) × (k < plan.sizes.blocks) × (bank_number plan m k ≡ y))
          ⊎ ((q : ℕ) × (i : ℕ) × (q < plan.sizes.jobs) × (i < plan.sizes.copies) × (copy_number plan m q i ≡ y))
      go y (inl x) = inl (x.0, x.1, sym (seen x.0 x.1) ∙ x.2)
      go y (inr x) = inr (x.0, x.1, x.2, x.3, sym (copy_seen x.0 x.1 x.2 x.3) ∙ x.4)

-- The stock rule holds where no status is a job's number.
pub stock-when-calm :
    (plan : Plan) → Sound plan → (m : Machine) → Sized m → (g : Ghost) → ContentsHold plan (state_in plan m) g
    → ((q w : ℕ) → (state_in plan m).sh.stat q ≢ decided w) → StockRule plan m
stock-when-calm plan ok m sized g contents none =
    stock-rule plan ok m sized (λ q. (contents.each q).roomy) (contents.whole.calm none).1

-- It holds where no call's update is decided and uncommitted.
pub stock-when-none-decided :
    (plan : Plan) → Sound plan → (es : List Entry) (r : Run) → Sized r.machine → (g : Ghost) (H : Tally)
    → CardsHold (layout plan) (state_in plan r.machine)
    → EpochsHold (layout plan) (state_in plan r.machine)
    → ContentsHold plan (state_in plan r.machine) g
    → Told plan es r.history (state_in plan r.machine) g H
    → ((c : ℕ) → is_decided_uncommitted r.history c ≡ false)
    → StockRule plan r.machine
stock-when-none-decided plan ok es r sized g H cards epochs contents told none =
    stock-when-calm plan ok r.machine sized g contents (none-decided told cards epochs none)
