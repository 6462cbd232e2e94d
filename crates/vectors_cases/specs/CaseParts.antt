-- Where the parts of a case stand in its pack. Assumes nothing.
use Rattle.std.specs.Prelude.{◌≡◌, ℕ, ◌+◌, ◌<◌, List, ◌++◌, length, drop}
use Rattle.vectors_cases.specs.declared.Case.{Case}

-- behind the case's first line its text, its records, its output and the rest of the pack follow one another
abbrev pub CasePlaced : List ℕ → Case → List ℕ → Type 0
CasePlaced pack c rest =
    (end : ℕ) × (end < length pack)
    × (drop (end + 1) pack ≡ c.text.now ++ (c.records.now ++ (c.output.now ++ rest)))
