-- What there is before the records run. Assumes nothing.
use Rattle.std.specs.Prelude.{ℕ, ◌+◌, ◌≤◌, ◌<◌, ◌≡◌, List, length, MatchResult}
use Rattle.spec_format.specs.declared.Entry.{Entry}
use Rattle.spec_format.specs.declared.Fault.{Fault}
use Rattle.spec_format.specs.declared.Form.{Form}
use Rattle.spec_format.specs.declared.LineFault.{LineFault}
use Rattle.spec_format.specs.Plan.{Plan, Listed}
use Rattle.spec_format.specs.Faults.{most_entries}
use Rattle.spec_format.specs.Reading.{accepted, reading, verdict_of}

-- A plan's text was accepted, and has given this plan; the records beside it are not too many.
pub record Begun (text : List ℕ) (es : List Entry) (plan : Plan) : Type 0 where
  pub listed : List Listed
  pub lines : ℕ
  pub gives : reading Form.PlanAlone text ≡ accepted plan listed lines
  pub few : length es ≤ most_entries

-- A plan's text with records is refused before they run: by the verdict on the text, or where that is an acceptance
-- because the records are too many.
abbrev pub NotBegun : List ℕ → List Entry → LineFault → Type 0
NotBegun text es e =
    MatchResult (verdict_of (reading Form.PlanAlone text))
    (λ _. (most_entries < length es) × (e ≡ record { fault = Fault.TooMany; line = most_entries + 1 }))
    (λ refused. e ≡ refused)
