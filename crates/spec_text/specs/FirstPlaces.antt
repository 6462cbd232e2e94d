-- Numbers in the first places of a list. Assumes nothing.
use Rattle.std.specs.Prelude.{ℕ, List, ◌++◌, length, drop}

-- Numbers take the first places of a list; the other places stay.
abbrev pub in_first_places : List ℕ → List ℕ → List ℕ
in_first_places ns list = ns ++ drop (length ns) list
