-- The commits of a run as the code keeps them: an entry, a job and an update each. Assumes nothing.
use Rattle.std.specs.Prelude.{List, map}
use Rattle.spec_format.specs.declared.Entry.{Entry}
use Rattle.spec_machine.specs.Memory as memory
use Rattle.spec_machine.specs.Memory.{job_of, update_of}
use Rattle.step_cells.specs.declared.Commit.{Commit}

-- A commit with the job and the update that the committed call's own entry names.
abbrev pub row_in : List Entry → memory.Commit → Commit
row_in es c = record { entry = c.entry; job = job_of es c.call; update = update_of es c.call }

-- The same of some commits.
abbrev pub rows_in : List Entry → List memory.Commit → List Commit
rows_in es cs = map (row_in es) cs
