-- Lines and fields by their places in a text: the form in which the program reads them, one pass from left to right.
-- proofs/LinePlaces.antt ties these to the definitions of Lines. Assumes nothing.
use Rattle.std.specs.Prelude.{ℕ, ◌+◌, ◌-◌, cond, List, [], ltb, ◌==◌, length, take, drop}
use Rattle.std.specs.Prelude.{Option, None, option_map}
use Rattle.std.specs.List.{position_or_len}
use Rattle.spec_text.specs.Numbers.{number}
use Rattle.spec_text.specs.Lines.{split}

-- The place of the first byte x of s at or after a place; s's length where there is none.
unfoldable pub place_of : ℕ → List ℕ → ℕ → ℕ
place_of x s from = from + position_or_len (λ b. b == x) (drop from s)

-- The fields of a line from a place on: none where the place is past the line's end.
unfoldable pub fields_at : List ℕ → ℕ → List (List ℕ)
fields_at line at = cond (ltb (length line) at) [] (split 9 (drop at line))

-- The number in the field that starts at a place, and where the next field starts.
unfoldable pub field_at : List ℕ → ℕ → Option (ℕ × ℕ)
field_at line at =
    cond (ltb (length line) at) None
    (option_map (λ n. (n, place_of 9 line at + 1)) (number (take (place_of 9 line at - at) (drop at line))))
