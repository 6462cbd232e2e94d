-- What a whole text gives: the plan and the single entries, or the refusal with its number and line. "The first line
-- with a fault counts", and in it the fault that is judged first. Assumes nothing.
use Rattle.std.specs.Prelude.{ℕ, ◌+◌, Bool, cond, List, [], ◌∷◌, ◌++◌, ltb, length, replicate}
use Rattle.std.specs.Prelude.{Option, Some, None, Result, Ok, Err}
use Rattle.spec_text.specs.Lines.{Line, lines}
use Rattle.spec_format.specs.declared.Fault.{Fault}
use Rattle.spec_format.specs.declared.Form.{Form}
use Rattle.spec_format.specs.declared.LineFault.{LineFault}
use Rattle.spec_format.specs.declared.Move.{Move}
use Rattle.spec_format.specs.Plan.{Plan, Listed}
use Rattle.spec_format.specs.ParsedLines.{Directive, plan, job, block, update, move, entry, ParsedLine, parsed_of}
use Rattle.spec_format.specs.Faults.{Draft, has_fault, laid_out}

-- The draft before the first line.
abbrev pub blank : Draft
blank =
    record {
      lines = 0;
      blocks = 0;
      entries = 0;
      plan =
          record {
            sizes = record { cards = 0; jobs = 0; blocks = 0; words = 0; copies = 0 };
            jobs = [];
            words = [];
            updates = [];
          };
    }

-- One more move in the last update.
abbrev pub add_to_last : Move → List (List Move) → List (List Move)
add_to_last m [] = []
add_to_last m (u ∷ []) = (u ++ (m ∷ [])) ∷ []
add_to_last m (u ∷ v ∷ us) = u ∷ add_to_last m (v ∷ us)

-- A plan with what one more line says.
abbrev pub plan_after : Plan → Directive → Plan
plan_after p (plan s) = record { sizes = s; jobs = p.jobs; words = p.words; updates = p.updates }
plan_after p (job j) =
    record { sizes = p.sizes; jobs = p.jobs ++ (j ∷ []); words = p.words; updates = p.updates }
plan_after p (block ws) = record { sizes = p.sizes; jobs = p.jobs; words = p.words ++ ws; updates = p.updates }
plan_after p (update n) =
    record { sizes = p.sizes; jobs = p.jobs; words = p.words; updates = p.updates ++ ([] ∷ []) }
plan_after p (move m) =
    record { sizes = p.sizes; jobs = p.jobs; words = p.words; updates = add_to_last m p.updates }
plan_after p (entry e n) = p

-- How many blocks there are after a line, where there were n.
abbrev pub blocks_after : ℕ → Directive → ℕ
blocks_after n (plan s) = n
blocks_after n (job j) = n
blocks_after n (block ws) = n + 1
blocks_after n (update k) = n
blocks_after n (move m) = n
blocks_after n (entry e k) = n

-- How many single entries there are after a line, where there were n.
abbrev pub entries_after : ℕ → Directive → ℕ
entries_after n (plan s) = n
entries_after n (job j) = n
entries_after n (block ws) = n
entries_after n (update k) = n
entries_after n (move m) = n
entries_after n (entry e k) = n + k

-- The draft after one more line; a line whose fields cannot be read adds nothing to the plan.
abbrev pub after : Draft → Option Directive → Draft
after d None = record { lines = d.lines + 1; blocks = d.blocks; entries = d.entries; plan = d.plan }
after d (Some i) =
    record {
      lines = d.lines + 1;
      blocks = blocks_after d.blocks i;
      entries = entries_after d.entries i;
      plan = plan_after d.plan i;
    }

-- A line taken apart after lines that gave the draft d, whose plan says how many words a block has.
abbrev pub parsed_in : Draft → Line → ParsedLine
parsed_in d l = parsed_of d.plan.sizes.words l

-- The draft after one more line, taken apart.
abbrev pub after_line : Draft → Line → Draft
after_line d l = after d (parsed_in d l).directive

-- The faults that a line can have, by their ranks.
abbrev pub by_rank : List Fault
by_rank =
    Fault.Unknown
    ∷ Fault.Misplaced
    ∷ Fault.Malformed
    ∷ Fault.BadRun
    ∷ Fault.TooMany
    ∷ Fault.Misnumbered
    ∷ Fault.BadSize
    ∷ Fault.BadJob
    ∷ Fault.SameJob
    ∷ Fault.BadWord
    ∷ Fault.TooManyBlocks
    ∷ []

-- The first fault of a list that a line has.
abbrev pub first_of : (Fault → Bool) → List Fault → Option Fault
first_of has [] = None
first_of has (f ∷ fs) = cond (has f) (Some f) (first_of has fs)

-- What a reading comes to: a refusal with its line, or a draft in which no line has a fault.
pub data ReadOutcome : Type 0 where
  refused : Fault → ℕ → ReadOutcome
  sound : Draft → ReadOutcome

-- The refusal by the fault found in this line, or what comes of the rest.
abbrev pub or_else : Option Fault → ℕ → ReadOutcome → ReadOutcome
or_else (Some f) line rest = refused f line
or_else None line rest = rest

-- The lines are read in order, after lines that gave the draft d. Where no line is left the text may end, or it ends
-- too early: 3, one line past the last.
abbrev pub read_lines : Form → Draft → List Line → ReadOutcome
read_lines form d [] = cond (laid_out d) (sound d) (refused Fault.Misplaced (d.lines + 1))
read_lines form d (l ∷ ls) =
    or_else (first_of (has_fault form d (parsed_in d l)) by_rank) (d.lines + 1) (read_lines form (after_line d l) ls)

-- The single entries of a line, each with the line: "A line `step card n` .. shall do what n lines `step card` do", and
-- "the refusal's line is the line of the run".
abbrev pub listed : ℕ → Option Directive → List Listed
listed n None = []
listed n (Some (plan s)) = []
listed n (Some (job j)) = []
listed n (Some (block ws)) = []
listed n (Some (update k)) = []
listed n (Some (move m)) = []
listed n (Some (entry e k)) = replicate k (record { entry = e; line = n })

-- The single entries of lines that are numbered from n on, in order, where blocks have s words.
abbrev pub entries_of : ℕ → ℕ → List Line → List Listed
entries_of s n [] = []
entries_of s n (l ∷ ls) = listed n (parsed_of s l).directive ++ entries_of s (n + 1) ls

-- What a text gives: a refusal with its line, or a plan with the single entries and the count of all lines.
pub data Reading : Type 0 where
  refusal : Fault → ℕ → Reading
  accepted : Plan → List Listed → ℕ → Reading

-- The plan and the entries, where no line has a fault.
abbrev pub given : List Line → ReadOutcome → Reading
given ls (refused f n) = refusal f n
given ls (sound d) = accepted d.plan (entries_of d.plan.sizes.words 1 ls) (length ls)

-- The most bytes of a text.
abbrev pub longest : ℕ
longest = 65536

-- What a text gives. The whole text is measured first: 1, line 0.
unfoldable pub reading : Form → List ℕ → Reading
reading form text =
    cond (ltb longest (length text)) (refusal Fault.TooLong 0)
    (given (lines text) (read_lines form blank (lines text)))

-- The answer of a check: the refusal, or the count of all lines.
abbrev pub verdict_of : Reading → Result ℕ LineFault
verdict_of (refusal f n) = Err (record { fault = f; line = n })
verdict_of (accepted p es n) = Ok n
