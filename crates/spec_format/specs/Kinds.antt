-- The kinds of lines, by their first field. Assumes nothing.
use Rattle.std.specs.Prelude.{ℕ, Bool, true, false, cond, ◌&&◌, List, [], ◌∷◌, eqb}
use Rattle.spec_text.specs.Bytes.{bytes}
use Rattle.spec_format.specs.declared.Kind.{Kind}

-- Two lists hold the same bytes.
abbrev pub same_bytes : List ℕ → List ℕ → Bool
same_bytes [] [] = true
same_bytes [] (c ∷ t) = false
same_bytes (b ∷ s) [] = false
same_bytes (b ∷ s) (c ∷ t) = eqb b c && same_bytes s t

-- The kind that a first field names.
unfoldable pub kind_of : List ℕ → Kind
kind_of f =
    cond (same_bytes f (bytes "plan")) Kind.Plan
    (cond (same_bytes f (bytes "job")) Kind.Job
    (cond (same_bytes f (bytes "block")) Kind.Block
    (cond (same_bytes f (bytes "update")) Kind.Update
    (cond (same_bytes f (bytes "copy")) Kind.Copy
    (cond (same_bytes f (bytes "set")) Kind.Set
    (cond (same_bytes f (bytes "add")) Kind.Add
    (cond (same_bytes f (bytes "call")) Kind.Call
    (cond (same_bytes f (bytes "step")) Kind.Step Kind.Unknown))))))))
