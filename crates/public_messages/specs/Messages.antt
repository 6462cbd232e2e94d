-- A refusal in plain words: the one table of sentences, and the line that a program writes to standard error beside
-- what it prints. Assumes nothing.
use Rattle.std.specs.Prelude.{ℕ, Bool, cond, ◌&&◌, List, [], ◌∷◌, ◌++◌, eqb, ltb, length, get_or}
use Rattle.spec_text.specs.Bytes.{bytes}
use Rattle.spec_text.specs.Decimal.{decimal}

-- What each number means, 0 first, which refuses nothing.
abbrev pub meanings : List (List ℕ)
meanings =
    []
    ∷ bytes "the text has more than 65,536 bytes"
    ∷ bytes "the first field is no known word, or the last line has no line feed"
    ∷ bytes "a line of this kind cannot stand here, or the text ends too early"
    ∷ bytes "the count of fields is wrong, or one is no number from 0 to 4,294,967,295 without leading zeros"
    ∷ bytes "too many: there can be 32 updates, 16 moves in an update and 4,000 entries"
    ∷ bytes "P and C must be from 1 to 8, and N, B and S from 1 to 16"
    ∷ bytes "the job's card is not below P, or its priority is over 255"
    ∷ bytes "an earlier job has the same card and priority"
    ∷ bytes "a word that the move names is not below B times S"
    ∷ bytes "with this move the update writes more than C blocks"
    ∷ bytes "there is no such job or no such update"
    ∷ bytes "the job is active: its last call has not returned"
    ∷ bytes "the card is not below P"
    ∷ bytes "no job is active on the card"
    ∷ bytes "the buffer is too short for what is to be written"
    ∷ bytes "a run has from 1 to 4,000 steps"
    ∷ bytes "the update's number is not the next one, counted from 0"
    ∷ []

-- What a number means.
abbrev pub meaning : ℕ → List ℕ
meaning number = get_or meanings number []

-- Whether a number refuses: it is neither 0 nor past the table.
abbrev pub refuses : ℕ → Bool
refuses number = ltb 0 number && ltb number (length meanings)

-- The entry that is refused: `, entry 2`; nothing where none is, which is entry 0.
abbrev pub entry_part : ℕ → List ℕ
entry_part entry = cond (eqb entry 0) [] (bytes ", entry " ++ decimal entry)

-- Where a refusal was met: `line 7, entry 2: `; nothing for the text as a whole, which is line 0.
abbrev pub where_met : ℕ → ℕ → List ℕ
where_met line entry = cond (eqb line 0) [] (bytes "line " ++ (decimal line ++ (entry_part entry ++ bytes ": ")))

-- The line of a refusal, by its number, its line and its entry: `line 7, entry 2: refused with 12: ..`.
abbrev pub refusal_line : ℕ → ℕ → ℕ → List ℕ
refusal_line number line entry =
    where_met line entry
    ++ (bytes "refused with " ++ (decimal number ++ (bytes ": " ++ (meaning number ++ (10 ∷ [])))))

-- What is said of an end: the line of a refusal; nothing of acceptance, nor of a number past the table.
abbrev pub message : ℕ → ℕ → ℕ → List ℕ
message number line entry = cond (refuses number) (refusal_line number line entry) []
