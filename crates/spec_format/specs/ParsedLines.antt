-- A line taken apart: its kind, and what it says where its fields can be read. Assumes nothing.
use Rattle.std.specs.Prelude.{ℕ, Bool, List, [], ◌∷◌, get_or}
use Rattle.std.specs.Prelude.{Option, Some, None}
use Rattle.spec_text.specs.Lines.{Line, fields, numbers}
use Rattle.spec_format.specs.declared.Kind.{Kind}
use Rattle.spec_format.specs.declared.Sizes.{Sizes}
use Rattle.spec_format.specs.declared.Job.{Job}
use Rattle.spec_format.specs.declared.Move.{Move}
use Rattle.spec_format.specs.declared.Entry.{Entry}
use Rattle.spec_format.specs.Kinds.{kind_of}

-- What a line of a known kind says; of an update, its number. An entry comes with the number of times that it stands
-- there: a run of n steps is the entry `step card` n times over, every other entry is there once.
pub data Directive : Type 0 where
  plan : Sizes → Directive
  job : Job → Directive
  block : List ℕ → Directive
  update : ℕ → Directive
  move : Move → Directive
  entry : Entry → ℕ → Directive

-- How many numbers a line `step` has, by the fields behind the first: `step card`, or `step card n` where there is a
-- second of them.
abbrev pub step_numbers : List (List ℕ) → ℕ
step_numbers [] = 1
step_numbers (f ∷ []) = 1
step_numbers (f ∷ g ∷ fs) = 2

-- How many numbers a kind has behind its first field: `plan P N B S C`, `job card priority`, `block` with s words,
-- `update n`, `copy d a`, `set d k`, `add d a k`, `call job update`, `step card` or `step card n`.
abbrev pub number_count : ℕ → Kind → List (List ℕ) → ℕ
number_count s Kind.Plan fs = 5
number_count s Kind.Job fs = 2
number_count s Kind.Block fs = s
number_count s Kind.Update fs = 1
number_count s Kind.Copy fs = 2
number_count s Kind.Set fs = 2
number_count s Kind.Add fs = 3
number_count s Kind.Call fs = 2
number_count s Kind.Step fs = step_numbers fs
number_count s Kind.Unknown fs = 0

-- What a line of this kind with these numbers says. A step without n is there once. An unknown kind says nothing.
abbrev pub directive : Kind → List ℕ → Option Directive
directive Kind.Plan ns =
    Some
    (plan
    (record {
      cards = get_or ns 0 0;
      jobs = get_or ns 1 0;
      blocks = get_or ns 2 0;
      words = get_or ns 3 0;
      copies = get_or ns 4 0;
    }))
directive Kind.Job ns = Some (job (record { card = get_or ns 0 0; priority = get_or ns 1 0 }))
directive Kind.Block ns = Some (block ns)
directive Kind.Update ns = Some (update (get_or ns 0 0))
directive Kind.Copy ns = Some (move (Move.Copy (get_or ns 0 0) (get_or ns 1 0)))
directive Kind.Set ns = Some (move (Move.Set (get_or ns 0 0) (get_or ns 1 0)))
directive Kind.Add ns = Some (move (Move.Add (get_or ns 0 0) (get_or ns 1 0) (get_or ns 2 0)))
directive Kind.Call ns = Some (entry (record { kind = 0; first = get_or ns 0 0; second = get_or ns 1 0 }) 1)
directive Kind.Step ns = Some (entry (record { kind = 1; first = get_or ns 0 0; second = 0 }) (get_or ns 1 1))
directive Kind.Unknown ns = None

-- The numbers of a line of this kind, from the fields behind the first, where they could be read.
abbrev pub numbers_for : ℕ → Kind → List (List ℕ) → Option (List ℕ)
numbers_for s k fs = numbers (number_count s k fs) fs

-- What the numbers of a line say, where they could be read.
abbrev pub directive_of : Kind → Option (List ℕ) → Option Directive
directive_of k None = None
directive_of k (Some ns) = directive k ns

-- A line taken apart.
pub record ParsedLine : Type 0 where
  pub ended : Bool
  pub kind : Kind
  pub directive : Option Directive

-- The kind and what the line says, from its fields, where blocks have s words.
abbrev pub parsed_from : ℕ → Bool → List (List ℕ) → ParsedLine
parsed_from s e [] = record { ended = e; kind = Kind.Unknown; directive = None }
parsed_from s e (f ∷ fs) =
    record { ended = e; kind = kind_of f; directive = directive_of (kind_of f) (numbers_for s (kind_of f) fs) }

-- A line taken apart, where blocks have s words.
unfoldable pub parsed_of : ℕ → Line → ParsedLine
parsed_of s l = parsed_from s l.ended (fields l.bytes)
