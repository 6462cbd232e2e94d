-- The sum of an add: it is at most the largest word; it is word + k wherever that fits, and else the largest word.
-- Assumes nothing.
use Prim.Native.Nat.{ℕ, ◌+◌, ◌≤◌, ◌<◌}
use mathlib.Core.Path.{◌≡◌}
use native.Mathlib.Omega.{arith}
use Rattle.spec_text.specs.Numbers.{largest}
use Rattle.spec_machine.specs.Memory.{sum}

-- It is at most the largest word.
pub sum-at-most : (word k : ℕ) → sum word k ≤ largest
sum-at-most word k = omega arith

-- It is word + k wherever that fits.
pub sum-exact : (word k : ℕ) → word + k ≤ largest → sum word k ≡ word + k
sum-exact word k fits = omega arith

-- "Add gives 4,294,967,295 where the sum would be more."
pub sum-stops : (word k : ℕ) → largest < word + k → sum word k ≡ largest
sum-stops word k more = omega arith
