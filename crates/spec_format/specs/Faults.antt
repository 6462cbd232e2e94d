-- The faults of a line, one clause for each row of the table: what the lines before have said is a draft of the plan,
-- and a line has a fault or not, whatever other faults it has. The rank of a fault says when it is judged. Fault, its
-- variants and Form are declared in src/lib.rt. Assumes nothing.
use Rattle.std.specs.Prelude.{ℕ, ◌+◌, ◌*◌, Bool, true, false, not, ◌&&◌, ◌||◌, List, [], ◌∷◌, ◌++◌, ltb, leb, eqb}
use Rattle.std.specs.Prelude.{length}
use Rattle.std.specs.Prelude.{Option, Some, None}
use Rattle.spec_format.specs.declared.Kind.{Kind}
use Rattle.spec_format.specs.declared.Fault.{Fault}
use Rattle.spec_format.specs.declared.Form.{Form}
use Rattle.spec_format.specs.declared.Sizes.{Sizes}
use Rattle.spec_format.specs.declared.Job.{Job}
use Rattle.spec_format.specs.declared.Move.{Move}
use Rattle.spec_format.specs.Plan.{Plan, any, named, blocks_written}
use Rattle.spec_format.specs.ParsedLines.{Directive, plan, job, block, update, move, entry, ParsedLine}

-- The number of each fault in the table.
abbrev pub number_of : Fault → ℕ
number_of Fault.TooLong = 1
number_of Fault.Unknown = 2
number_of Fault.Misplaced = 3
number_of Fault.Malformed = 4
number_of Fault.TooMany = 5
number_of Fault.BadSize = 6
number_of Fault.BadJob = 7
number_of Fault.SameJob = 8
number_of Fault.BadWord = 9
number_of Fault.TooManyBlocks = 10
number_of Fault.BadRun = 16
number_of Fault.Misnumbered = 17

-- The order of judgement in a line: the fault of the lowest rank counts. It is that of the numbers, but for "16 ..,
-- judged after 4 and before 5" and "17 .., judged after 5 and before 6". The ranks leave room for faults that are
-- judged between these.
abbrev pub rank : Fault → ℕ
rank Fault.TooLong = 10
rank Fault.Unknown = 20
rank Fault.Misplaced = 30
rank Fault.Malformed = 40
rank Fault.BadRun = 45
rank Fault.TooMany = 50
rank Fault.Misnumbered = 55
rank Fault.BadSize = 60
rank Fault.BadJob = 70
rank Fault.SameJob = 80
rank Fault.BadWord = 90
rank Fault.TooManyBlocks = 100

-- What some lines have said: how many they are, how many blocks and single entries they hold, and the plan so far.
-- Before the plan line all sizes are 0.
pub record Draft : Type 0 where
  pub lines : ℕ
  pub blocks : ℕ
  pub entries : ℕ
  pub plan : Plan

-- Whether the plan still lacks jobs.
abbrev pub lacks_jobs : Draft → Bool
lacks_jobs d = ltb (length d.plan.jobs) d.plan.sizes.jobs

-- Whether the plan still lacks blocks.
abbrev pub lacks_blocks : Draft → Bool
lacks_blocks d = ltb d.blocks d.plan.sizes.blocks

-- The plan line, N jobs and B blocks are there: updates and entries may follow, and the text may end.
abbrev pub laid_out : Draft → Bool
laid_out d = ltb 0 d.lines && (not (lacks_jobs d) && not (lacks_blocks d))

-- Whether entries may stand in a text of this form.
abbrev pub takes_entries : Form → Bool
takes_entries Form.Schedule = true
takes_entries Form.PlanAlone = false

-- "In this order: `plan P N B S C`; N lines `job card priority`; B lines `block` with S opening words; any updates,
-- each a line .. followed by moves ..; then any entries": whether a kind can stand here.
abbrev pub stands : Form → Draft → Kind → Bool
stands form d Kind.Plan = eqb d.lines 0
stands form d Kind.Job = lacks_jobs d
stands form d Kind.Block = not (lacks_jobs d) && lacks_blocks d
stands form d Kind.Update = laid_out d && eqb d.entries 0
stands form d Kind.Copy = (laid_out d && eqb d.entries 0) && ltb 0 (length d.plan.updates)
stands form d Kind.Set = (laid_out d && eqb d.entries 0) && ltb 0 (length d.plan.updates)
stands form d Kind.Add = (laid_out d && eqb d.entries 0) && ltb 0 (length d.plan.updates)
stands form d Kind.Call = takes_entries form && laid_out d
stands form d Kind.Step = takes_entries form && laid_out d
stands form d Kind.Unknown = false

-- The moves of the last update so far.
abbrev pub last_of : List (List Move) → List Move
last_of [] = []
last_of (u ∷ []) = u
last_of (u ∷ v ∷ us) = last_of (v ∷ us)

-- The first field is none of the known ones.
abbrev pub is_unknown : Kind → Bool
is_unknown Kind.Plan = false
is_unknown Kind.Job = false
is_unknown Kind.Block = false
is_unknown Kind.Update = false
is_unknown Kind.Copy = false
is_unknown Kind.Set = false
is_unknown Kind.Add = false
is_unknown Kind.Call = false
is_unknown Kind.Step = false
is_unknown Kind.Unknown = true

-- A number is from low to high.
abbrev pub within : ℕ → ℕ → ℕ → Bool
within low high n = leb low n && leb n high

-- P, N, B, S and C are each in their range.
abbrev pub in_range : Sizes → Bool
in_range s =
    within 1 8 s.cards
    && (within 1 16 s.jobs
    && (within 1 16 s.blocks
    && (within 1 16 s.words && within 1 8 s.copies)))

-- Some earlier job has this card and priority.
abbrev pub taken : Job → List Job → Bool
taken j is = any (λ i. eqb i.card j.card && eqb i.priority j.priority) is

-- Some number of the list is not below n.
abbrev pub some_from : ℕ → List ℕ → Bool
some_from n ws = any (λ w. leb n w) ws

-- A test of the sizes that a line says, where it says any.
abbrev pub of_plan : (Sizes → Bool) → Option Directive → Bool
of_plan f None = false
of_plan f (Some (plan s)) = f s
of_plan f (Some (job j)) = false
of_plan f (Some (block ws)) = false
of_plan f (Some (update n)) = false
of_plan f (Some (move m)) = false
of_plan f (Some (entry e n)) = false

-- The same of the job.
abbrev pub of_job : (Job → Bool) → Option Directive → Bool
of_job f None = false
of_job f (Some (plan s)) = false
of_job f (Some (job j)) = f j
of_job f (Some (block ws)) = false
of_job f (Some (update n)) = false
of_job f (Some (move m)) = false
of_job f (Some (entry e n)) = false

-- The same of the move.
abbrev pub of_move : (Move → Bool) → Option Directive → Bool
of_move f None = false
of_move f (Some (plan s)) = false
of_move f (Some (job j)) = false
of_move f (Some (block ws)) = false
of_move f (Some (update n)) = false
of_move f (Some (move m)) = f m
of_move f (Some (entry e n)) = false

-- The same of the number of an update.
abbrev pub of_update : (ℕ → Bool) → Option Directive → Bool
of_update f None = false
of_update f (Some (plan s)) = false
of_update f (Some (job j)) = false
of_update f (Some (block ws)) = false
of_update f (Some (update n)) = f n
of_update f (Some (move m)) = false
of_update f (Some (entry e n)) = false

-- The same of how many times an entry comes.
abbrev pub of_run : (ℕ → Bool) → Option Directive → Bool
of_run f None = false
of_run f (Some (plan s)) = false
of_run f (Some (job j)) = false
of_run f (Some (block ws)) = false
of_run f (Some (update n)) = false
of_run f (Some (move m)) = false
of_run f (Some (entry e n)) = f n

-- The fields cannot be read: a wrong count of them, or a bad number.
abbrev pub unreadable : Option Directive → Bool
unreadable None = true
unreadable (Some i) = false

-- The most steps of a run.
abbrev pub longest_run : ℕ
longest_run = 4000

-- The most single entries of a schedule.
abbrev pub most_entries : ℕ
most_entries = 4000

-- The 33rd update, the 17th move, the 4,001st single entry: "The n steps count as n entries for the 4,000".
abbrev pub one_too_many : Draft → Option Directive → Bool
one_too_many d None = false
one_too_many d (Some (plan s)) = false
one_too_many d (Some (job j)) = false
one_too_many d (Some (block ws)) = false
one_too_many d (Some (update n)) = leb 32 (length d.plan.updates)
one_too_many d (Some (move m)) = leb 16 (length (last_of d.plan.updates))
one_too_many d (Some (entry e n)) = ltb most_entries (d.entries + n)

-- Whether a line has a fault, after lines that gave the draft d. The rows of the table, in the order of judgement.
abbrev pub has_fault : Form → Draft → ParsedLine → Fault → Bool
-- 1: text over 65,536 bytes. This is no line's fault but the whole text's.
has_fault form d r Fault.TooLong = false
-- 2: a last line without its line feed, or an unknown first field.
has_fault form d r Fault.Unknown = not r.ended || is_unknown r.kind
-- 3: the kind cannot stand here.
has_fault form d r Fault.Misplaced = not (stands form d r.kind)
-- 4: wrong count of fields, or a bad number.
has_fault form d r Fault.Malformed = unreadable r.directive
-- 16: a run of steps whose n is not from 1 to 4,000.
has_fault form d r Fault.BadRun = of_run (λ n. not (within 1 longest_run n)) r.directive
-- 5: 33rd update, 17th move, 4,001st entry.
has_fault form d r Fault.TooMany = one_too_many d r.directive
-- 17: n is not the next number from 0, which is the count of updates so far.
has_fault form d r Fault.Misnumbered = of_update (λ n. not (eqb n (length d.plan.updates))) r.directive
-- 6: P, N, B, S or C outside its range.
has_fault form d r Fault.BadSize = of_plan (λ s. not (in_range s)) r.directive
-- 7: job's card not below P, or priority over 255.
has_fault form d r Fault.BadJob =
    of_job (λ j. leb d.plan.sizes.cards j.card || ltb 255 j.priority) r.directive
-- 8: same card and priority as an earlier job.
has_fault form d r Fault.SameJob = of_job (λ j. taken j d.plan.jobs) r.directive
-- 9: d or a not below B times S.
has_fault form d r Fault.BadWord =
    of_move (λ m. some_from (d.plan.sizes.blocks * d.plan.sizes.words) (named m)) r.directive
-- 10: this move makes the update write more than C blocks.
has_fault form d r Fault.TooManyBlocks =
    of_move
    (λ m.
    ltb d.plan.sizes.copies
    (length (blocks_written d.plan.sizes.words (last_of d.plan.updates ++ (m ∷ [])))))
    r.directive
