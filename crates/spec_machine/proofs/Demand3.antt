-- Demand 3: of every plan that the reader accepts, and of every list of entries, refused ones included.
--
-- The argument. What acceptance says of a plan is a law of the reader (Sound.antt of crate spec_format): numbers in
-- range, jobs of a card with different priorities, at most C blocks written by an update. With it the layers of the
-- invariant hold at the opening and are kept by every entry (EveryRun.antt), so they hold after every list of entries;
-- and they say what demand 3 says (Answer.antt). The first entries of a list are a list, so this is so at the start and
-- after each entry up to the first refused one, that one included.
--
-- The length of the list is not used: the theorem holds of longer lists than a schedule can have. Assumes nothing.
use Prim.Native.Nat.{ℕ, ◌<◌}
use mathlib.Core.Path.{◌≡◌, subst}
use mathlib.Core.Bool.{false}
use mathlib.Core.List.{List}
use lib.ListN.{take}
use Rattle.spec_format.specs.declared.Form.{Form}
use Rattle.spec_format.specs.declared.Entry.{Entry}
use Rattle.spec_format.specs.Plan.{Plan, Listed, entries_in}
use Rattle.spec_format.specs.Sound.{Sound}
use Rattle.spec_format.specs.Reading.{reading, accepted}
use Rattle.spec_format.proofs.Sound.{accepted-sound}
use Rattle.spec_machine.specs.Machine.{work_of}
use Rattle.spec_machine.specs.History.{run_of}
use Rattle.spec_machine.specs.Demand3.{is_decided_uncommitted, Holds, Demand3}
use Rattle.spec_machine.specs.StockRule.{block_numbers, bank_number, StockRule}
use Rattle.spec_machine.proofs.View.{state_in}
use Rattle.spec_machine.proofs.Sizes.{Sized, Roomy}
use Rattle.spec_machine.proofs.ListMachine.{job-seen}
use Rattle.spec_machine.proofs.ContentsFrame.{bank-numbers}
use Rattle.spec_machine.proofs.EveryRun.{Layers, Inv, always}
use Rattle.spec_machine.proofs.Answer.{holds_of}
use Rattle.spec_machine.proofs.StockRule.{bank-seen, stock-when-none-decided}

-- After any entries, what demand 3 says of a run holds.
pub holds_after : (plan : Plan) → Sound plan → (es : List Entry) → Holds plan es (run_of plan es)
holds_after plan ok es =
    let l : Layers plan es _ _ = (always plan ok es).layers in
    holds_of plan ok es (run_of plan es) l.memory l.counts l.cards l.epochs l.contents l.bypass
    l.told

-- Demand 3.
pub demand3 :
    (form : Form) (text : List ℕ) (plan : Plan) (listed : List Listed) (lines : ℕ)
    → reading form text ≡ accepted plan listed lines → (es : List Entry) → Demand3 plan es
demand3 form text plan listed lines read es =
    record { always = λ n. holds_after plan (accepted-sound form text plan listed lines read) (take n es) }

-- So it holds of the entries that a text itself has.
pub demand3-text :
    (form : Form) (text : List ℕ) (plan : Plan) (listed : List Listed) (lines : ℕ)
    → reading form text ≡ accepted plan listed lines → Demand3 plan (entries_in listed)
demand3-text form text plan listed lines read =
    demand3 form text plan listed lines read (entries_in listed)

-- The stock rule: after any entries, if no update is decided and uncommitted, each of the B + NC block numbers stands
-- once in the bank and the copy lists, and none is missing.
pub stock-rule :
    (form : Form) (text : List ℕ) (plan : Plan) (listed : List Listed) (lines : ℕ)
    → reading form text ≡ accepted plan listed lines → (es : List Entry)
    → ((c : ℕ) → is_decided_uncommitted (run_of plan es).history c ≡ false) → StockRule plan (run_of plan es).machine
stock-rule form text plan listed lines read es none =
    let ok : Sound plan = accepted-sound form text plan listed lines read in
    let inv : Inv plan es (run_of plan es) = always plan ok es in
    let l : Layers plan es _ _ = inv.layers in
    stock-when-none-decided plan ok es (run_of plan es) inv.sized l.memory l.counts l.cards l.epochs
    l.contents l.told none

-- After any entries, decided or not: every array of the machine and of the jobs' records has its length, and the bank
-- names a block number for every block. So what is seen through the bank is always words of the store.
pub arrays-kept :
    (form : Form) (text : List ℕ) (plan : Plan) (listed : List Listed) (lines : ℕ)
    → reading form text ≡ accepted plan listed lines → (es : List Entry)
    → Sized (run_of plan es).machine
    × ((q : ℕ) → q < plan.sizes.jobs → Roomy (work_of (run_of plan es).machine q))
    × ((k : ℕ) → k < plan.sizes.blocks → bank_number plan (run_of plan es).machine k < block_numbers plan)
arrays-kept form text plan listed lines read es =
    let ok : Sound plan = accepted-sound form text plan listed lines read in
    let inv : Inv plan es (run_of plan es) = always plan ok es in
    let l : Layers plan es _ _ = inv.layers in (
      inv.sized,
      λ q h. subst Roomy (job-seen plan (run_of plan es).machine q h) (l.contents.each q).roomy,
      λ k h.
          rw (← bank-seen plan ok (run_of plan es).machine inv.sized k h)
          (bank-numbers plan (state_in plan (run_of plan es).machine) l.cards l.epochs l.memory l.contents
          k h),
    )
