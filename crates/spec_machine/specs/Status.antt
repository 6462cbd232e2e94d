-- "A job's status is −1, a job number, or N." Statuses are whole numbers. Assumes nothing.
use Rattle.std.specs.Prelude.{ℕ, Bool, false, eqb, ℤ, pos, negsuc}

-- −1: called, and its update not decided.
abbrev pub undecided : ℤ
undecided = negsuc 0

-- Whether two statuses are the same.
abbrev pub same_status : ℤ → ℤ → Bool
same_status (pos a) (pos b) = eqb a b
same_status (pos a) (negsuc b) = false
same_status (negsuc a) (pos b) = false
same_status (negsuc a) (negsuc b) = eqb a b

-- The job that a status names, where it names one.
abbrev pub job_named : ℤ → ℕ
job_named (pos w) = w
job_named (negsuc a) = 0
