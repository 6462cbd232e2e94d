-- The bytes of the entry lines of one note more. Assumes nothing.
use Rattle.std.proofs.Common.{ℕ, ◌+◌, ◌<◌, ◌≡◌, ◌∙◌, ap, List, [], ◌∷◌, ◌++◌, length, get_or, take}
use Rattle.std.proofs.Common.{append-nil, append_assoc}
use Rattle.std.proofs.lemmas.List.{take_more, map-append}
use Rattle.spec_plan_text.specs.EntryLines.{EntryLine, entry_bytes, entry_line_bytes}
use Rattle.read_tables.specs.declared.Note.{Note}
use Rattle.text_entry_runs.specs.Joined.{line_noted, lines_noted}

-- The bytes of one entry line more.
line_more : (ls : List EntryLine) (l : EntryLine)
    → entry_line_bytes (ls ++ l ∷ []) ≡ entry_line_bytes ls ++ entry_bytes l
line_more [] l = append-nil (entry_bytes l)
line_more (x ∷ ls) l = rw (line_more ls l, append_assoc)

-- The bytes of one note more.
pub noted_more : (notes : List Note) (i : ℕ) (d : Note) → i < length notes
    → entry_line_bytes (lines_noted (take (i + 1) notes))
    ≡ entry_line_bytes (lines_noted (take i notes)) ++ entry_bytes (line_noted (get_or notes i d))
noted_more notes i d h =
    ap (λ (ns : List Note). entry_line_bytes (lines_noted ns)) (take_more notes i d h)
    ∙ ap entry_line_bytes (map-append line_noted (take i notes) (get_or notes i d ∷ []))
    ∙ line_more (lines_noted (take i notes)) (line_noted (get_or notes i d))
