-- The lengths of the machine's arrays, and which stores stay inside them: what it takes for the list machine to do
-- what the view by functions says. Assumes nothing.
use Prim.Native.Nat.{ℕ, ◌≤◌, ◌<◌}
use mathlib.Core.Path.{◌≡◌}
use mathlib.Core.List.{[]}
use lib.ListN.{length, get_or}
use Rattle.spec_format.specs.Plan.{Plan}
use Rattle.spec_machine.specs.declared.Working.{Working}
use Rattle.spec_machine.specs.declared.Store.{Store}
use Rattle.spec_machine.specs.Machine.{Machine}
use Rattle.spec_machine.specs.StockRule.{block_numbers}
use Rattle.spec_machine.proofs.View.{Proper}

-- Every array of a machine has its length.
pub record Sized (m : Machine) : Type 0 where
  pub ann : length m.cells.ann ≡ 8
  pub stat : length m.cells.stat ≡ 17
  pub trans : length m.cells.trans ≡ 16
  pub bank : length m.cells.bank ≡ 16
  pub numblks : length m.cells.numblks ≡ 16
  pub jobs : length m.jobs ≡ 16
  pub store : length m.store ≡ 2304
  pub addrlists : length m.addrlist ≡ 16
  pub oldlists : length m.oldlist ≡ 16
  pub newlists : length m.newlist ≡ 16
  pub addrlist : (k : ℕ) → k < 16 → length (get_or m.addrlist k []) ≡ 16
  pub oldlist : (k : ℕ) → k < 16 → length (get_or m.oldlist k []) ≡ 16
  pub newlist : (k : ℕ) → k < 16 → length (get_or m.newlist k []) ≡ 16

-- Every array of a working record has its length.
pub record Roomy (w : Working) : Type 0 where
  pub dirty : length w.dirty ≡ 16
  pub curr : length w.curr ≡ 16
  pub copy : length w.copy ≡ 8

-- A store of a job whose record is w stays inside the arrays, and statuses stay proper.
abbrev pub Fits : Plan → Working → Store → Type 0
Fits plan w Store.Nothing = Unit {0}
Fits plan w (Store.Version n f) = Unit {0}
Fits plan w (Store.Ann r k) = r < 8
Fits plan w (Store.Stat k x) = (k < 17) × Proper x
Fits plan w (Store.Trans k u) = k < 16
Fits plan w (Store.Listed i a b) = i < 16
Fits plan w (Store.Block from to) = (from < block_numbers plan) × (to < block_numbers plan)
Fits plan w (Store.Word b i x) = (b < block_numbers plan) × (i < plan.sizes.words)
Fits plan w Store.Published = w.numblks ≤ 16
Fits plan w (Store.Bank b n) = b < 16
