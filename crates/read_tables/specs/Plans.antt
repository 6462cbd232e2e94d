-- A plan with one of its parts changed. Assumes nothing.
use Rattle.std.specs.Prelude.{ℕ, List}
use Rattle.spec_format.specs.declared.Sizes.{Sizes}
use Rattle.spec_format.specs.declared.Job.{Job}
use Rattle.spec_format.specs.declared.Move.{Move}
use Rattle.spec_format.specs.Plan.{Plan}

-- The plan with these sizes.
abbrev pub with_sizes : Sizes → Plan → Plan
with_sizes sizes p = record { sizes = sizes; jobs = p.jobs; words = p.words; updates = p.updates }

-- The plan with these jobs.
abbrev pub with_jobs : List Job → Plan → Plan
with_jobs jobs p = record { sizes = p.sizes; jobs = jobs; words = p.words; updates = p.updates }

-- The plan with these opening words.
abbrev pub with_words : List ℕ → Plan → Plan
with_words words p = record { sizes = p.sizes; jobs = p.jobs; words = words; updates = p.updates }

-- The plan with these updates.
abbrev pub with_updates : List (List Move) → Plan → Plan
with_updates updates p = record { sizes = p.sizes; jobs = p.jobs; words = p.words; updates = updates }
