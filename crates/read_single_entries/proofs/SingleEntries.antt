-- The single entries of one note more, and the line of one. Assumes nothing.
use Rattle.std.proofs.Common.{ℕ, zero, suc, ◌+◌, ◌≤◌, ◌<◌, ◌≡◌, refl, ◌∙◌, ap, arith}
use Rattle.std.proofs.Common.{List, [], ◌∷◌, ◌++◌, length, get_or, take, drop, replicate}
use Rattle.std.proofs.lemmas.Grind.{flat_map-append}
use Rattle.std.proofs.Math.Seq.{drop-cons}
use Rattle.std.proofs.lemmas.List.{take_more, length-replicate, length-map, map-append, append-nil}
use Rattle.std.proofs.lemmas.List.Folds.{length-flat_map-take}
use Rattle.spec_format.specs.declared.Entry.{Entry}
use Rattle.spec_format.specs.Plan.{Listed, entries_in}
use Rattle.spec_report.specs.Outcomes.{line_in}
use Rattle.read_tables.specs.declared.Note.{Note}
use Rattle.read_tables.specs.Notes.{singles, listed_in}

-- What stands for a note where there is none.
abbrev pub no_note : Note
no_note = record { entry = record { kind = 0; first = 0; second = 0 }; times = 0; line = 0 }

-- The records of a note's single entries.
entries_single : (k : ℕ) (e : Listed) → entries_in (replicate k e) ≡ replicate k e.entry
entries_single zero e = refl
entries_single (suc k) e = ap (λ (es : List Entry). e.entry ∷ es) (entries_single k e)

-- The records of one note more.
pub entries_more : (notes : List Note) (i : ℕ) (d : Note) → i < length notes
    → entries_in (listed_in (take (i + 1) notes))
    ≡ entries_in (listed_in (take i notes)) ++ replicate (get_or notes i d).times (get_or notes i d).entry
entries_more notes i d h =
    let n = get_or notes i d in
    ap (λ (ns : List Note). entries_in (listed_in ns)) (take_more notes i d h)
    ∙ ap entries_in (flat_map-append singles (take i notes) (n ∷ []))
    ∙ simp (map-append, append-nil, entries_single)

-- They are no more than those of all notes.
pub entries_within : (notes : List Note) (i : ℕ) (d : Note) → i < length notes
    → length (entries_in (listed_in (take i notes))) + (get_or notes i d).times ≤ length (listed_in notes)
entries_within notes i d h =
    simp length-map (simp length-replicate at (length-flat_map-take {Y = Listed} singles notes i d h))

-- The line of a note's single entries.
line_of_first : (rest : List Listed) (l : Listed) (i k : ℕ)
    → i < k → line_in (replicate k l ++ rest) i ≡ l.line
line_of_first rest l i zero h = absurd (omega arith)
line_of_first rest l zero (suc k) h = refl
line_of_first rest l (suc i) (suc k) h = line_of_first rest l i k (omega arith)

-- Entry i of the notes from note k on, where it is one of that note's.
pub line_there : (notes : List Note) (i k : ℕ) (d : Note) → k < length notes → i < (get_or notes k d).times
    → line_in (listed_in (drop k notes)) i ≡ (get_or notes k d).line
line_there notes i k d h l = rw (drop-cons notes k d) (line_of_first _ _ i _ l)
