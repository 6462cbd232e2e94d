-- Blocks stand inside the store: 144 numbers of at most 16 words are 2,304 words. Assumes nothing.
use Prim.Native.Nat.{ℕ, suc, ◌+◌, ◌*◌, ◌≤◌, ◌<◌}
use native.Mathlib.Nat.{mul-le-mul_right}
use native.Mathlib.Omega.{arith}
use Rattle.spec_machine.specs.Ranges.{most_numbers}

-- A block whose number is below the most that there are stands inside the store.
pub block_inside : (words n : ℕ) → words ≤ 16 → n < most_numbers → n * words + words ≤ 2304
block_inside words n few h =
    let z : suc n * words ≤ most_numbers * words = mul-le-mul_right words h in omega arith

-- So does a word of it.
pub word-inside : (words b i : ℕ) → words ≤ 16 → b < most_numbers → i < 16 → b * words + i < 2304
word-inside words b i few h l =
    let z : b * words ≤ 143 * words = mul-le-mul_right words (omega arith) in omega arith
