-- First fields that no kind has, by their length and their first bytes. Assumes nothing.
use Rattle.std.proofs.Common.{◌≡◌, ◌≢◌, refl, ℕ, ◌<◌, ◌≤◌, List, [], ◌∷◌, length, get_or, arith, rules}
use borrow.Author.Tests.{tests}
use Rattle.spec_format.specs.declared.Kind.{Kind}
use Rattle.spec_format.specs.Kinds.{kind_of}

-- Fewer bytes than three.
pub short : (w : List ℕ) → length w < 3 → kind_of w ≡ Kind.Unknown
unfolding kind_of
short [] h = refl
short (a ∷ []) h = search rules
short (a ∷ b ∷ []) h = search rules
short (a ∷ b ∷ c ∷ w) h = absurd (omega arith)

-- Three bytes, the first not that of `job`, `set` or `add`,
pub no_three : (w : List ℕ) → length w ≡ 3 → get_or w 0 0 ≢ 106 → get_or w 0 0 ≢ 115 → get_or w 0 0 ≢ 97
    → kind_of w ≡ Kind.Unknown
unfolding kind_of
no_three (a ∷ b ∷ c ∷ []) h j s t = search (rules, tests)
no_three _ h j s t = absurd (omega arith)

-- or the second not that of `set`.
pub no_set : (w : List ℕ) → length w ≡ 3 → get_or w 0 0 ≡ 115 → get_or w 1 0 ≢ 101 → kind_of w ≡ Kind.Unknown
unfolding kind_of
no_set (a ∷ b ∷ c ∷ []) h j s = search (rules, tests)
no_set _ h j s = absurd (omega arith)

-- Four bytes, the first not that of `plan`, `copy`, `call` or `step`,
pub no_four : (w : List ℕ) → length w ≡ 4 → get_or w 0 0 ≢ 112 → get_or w 0 0 ≢ 99 → get_or w 0 0 ≢ 115
    → kind_of w ≡ Kind.Unknown
unfolding kind_of
no_four (a ∷ b ∷ c ∷ d ∷ []) h p k s = search (rules, tests)
no_four _ h p k s = absurd (omega arith)

-- or the second not that of `step`.
pub no_step : (w : List ℕ) → length w ≡ 4 → get_or w 0 0 ≡ 115 → get_or w 1 0 ≢ 116 → kind_of w ≡ Kind.Unknown
unfolding kind_of
no_step (a ∷ b ∷ c ∷ d ∷ []) h s t = search (rules, tests)
no_step _ h s t = absurd (omega arith)

-- Five bytes, the first not that of `block`.
pub no_block : (w : List ℕ) → length w ≡ 5 → get_or w 0 0 ≢ 98 → kind_of w ≡ Kind.Unknown
unfolding kind_of
no_block (a ∷ b ∷ c ∷ d ∷ e ∷ []) h n = search (rules, tests)
no_block _ h n = absurd (omega arith)

-- Six bytes, the first not that of `update`.
pub no_update : (w : List ℕ) → length w ≡ 6 → get_or w 0 0 ≢ 117 → kind_of w ≡ Kind.Unknown
unfolding kind_of
no_update (a ∷ b ∷ c ∷ d ∷ e ∷ f ∷ []) h n = search (rules, tests)
no_update _ h n = absurd (omega arith)

-- More bytes than six.
pub long : (w : List ℕ) → 7 ≤ length w → kind_of w ≡ Kind.Unknown
unfolding kind_of
long (a ∷ b ∷ c ∷ d ∷ e ∷ f ∷ g ∷ w) h = search rules
long _ h = absurd (omega arith)
