-- What an accepted text has given. Assumes nothing.
use Rattle.std.specs.Prelude.{ℕ, ◌≡◌, List}
use Rattle.spec_format.specs.declared.Form.{Form}
use Rattle.spec_format.specs.Plan.{Plan, Listed}
use Rattle.spec_format.specs.Reading.{accepted, reading}

-- Some text, a plan with its schedule, was accepted, and has given this plan, these single entries and so many lines.
pub record Reads (plan : Plan) (ls : List Listed) (lines : ℕ) : Type 0 where
  pub text : List ℕ
  pub gives : reading Form.Schedule text ≡ accepted plan ls lines
