-- How long the entry lines of notes can be, whatever their numbers are. Assumes nothing.
use Rattle.std.proofs.Common.{ℕ, ◌+◌, ◌*◌, ◌≤◌, ◌<◌, ◌≡◌, List, [], ◌∷◌, length, map, arith}
use Rattle.std.proofs.lemmas.List.{length-append}
use Rattle.std.specs.Prelude.{Bool, true, false, cond, eqb, min}
use Rattle.spec_text.specs.Bytes.{bytes}
use Rattle.spec_text.specs.Decimal.{decimal}
use Rattle.spec_text.specs.WrittenLines.{fields_behind, line_of}
use Rattle.spec_text.proofs.Digits.{decimal-most}
use Rattle.spec_plan_text.specs.EntryLines.{EntryLine, call, run, entry_bytes, entry_line_bytes}
use Rattle.read_tables.specs.declared.Note.{Note}
use Rattle.text_entry_runs.specs.Joined.{line_noted, lines_noted}

-- Numbers behind tabs, and the line feed: at most eleven bytes for each, and one.
fields_short : (ns : List ℕ) → length (fields_behind (map decimal ns)) ≤ 11 * length ns + 1
fields_short [] = omega arith
fields_short (n ∷ ns) =
    omega (arith, length-append (decimal n) (fields_behind (map decimal ns)), decimal-most n, fields_short ns)

-- An entry line has a first field of four bytes, and at most two numbers.
entry_short : (l : EntryLine) → length (entry_bytes l) ≤ 27
entry_short (call job update) = omega (arith, fields_short (job ∷ update ∷ []))
entry_short (run card n) = go (eqb n 1)
  where
    go : (once : Bool)
        → length (cond once (line_of (bytes "step") (card ∷ [])) (line_of (bytes "step") (card ∷ n ∷ []))) ≤ 27
    go true = omega (arith, fields_short (card ∷ []))
    go false = omega (arith, fields_short (card ∷ n ∷ []))

-- How long the entry lines of notes are.
abbrev pub lines_length : List Note → ℕ
lines_length notes = length (entry_line_bytes (lines_noted notes))

-- They have at most 27 bytes for each note.
pub entry_lines_short : (notes : List Note) → lines_length notes ≤ 27 * length notes
entry_lines_short [] = omega arith
entry_lines_short (n ∷ notes) =
    omega (
      arith,
      length-append (entry_bytes (line_noted n)) (entry_line_bytes (lines_noted notes)),
      entry_short (line_noted n),
      entry_lines_short notes,
    )

-- Those of at most 4,000 notes have at most 108,000 bytes: where a count has room for so many, it is exact.
pub entry_lines_counted : (notes : List Note) (before after : ℕ) → length notes ≤ 4000
    → before + 108000 < 18446744073709551615
    → min after 18446744073709551615 ≡ min (before + lines_length notes) 18446744073709551615
    → after ≡ before + lines_length notes
entry_lines_counted notes before after few room taken = omega (arith, entry_lines_short notes, taken)
