-- What a kind that can stand asks of what has been read. Assumes nothing.
use Rattle.std.specs.Prelude.{◌<◌, ◌≡◌, length}
use Rattle.spec_format.specs.declared.Kind.{Kind}
use Rattle.read_line_promises.specs.declared.PartRead.{PartRead}

-- What a kind that can stand behind what has been read asks of it; an unknown kind stands nowhere.
abbrev pub Standing : PartRead → Kind → Type 0
Standing p Kind.Plan = p.progress.lines ≡ 0
Standing p Kind.Job = length p.plan.jobs < p.plan.sizes.jobs
Standing p Kind.Block = p.progress.blocks < p.plan.sizes.blocks
Standing p Kind.Update = Unit {0}
Standing p Kind.Copy = 0 < length p.plan.updates
Standing p Kind.Set = 0 < length p.plan.updates
Standing p Kind.Add = 0 < length p.plan.updates
Standing p Kind.Call = Unit {0}
Standing p Kind.Step = Unit {0}
Standing p Kind.Unknown = ⊥
