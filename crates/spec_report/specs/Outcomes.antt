-- What the two ways in give: a text with its schedule, or a plan's text with a schedule of records; and what is left in
-- the lent buffer and handed back. Assumes nothing.
use Rattle.std.specs.Prelude.{ℕ, ◌+◌, Bool, cond, not, ◌||◌, List, [], ◌∷◌, map, eqb, ltb, leb, length, get_or}
use Rattle.std.specs.Prelude.{Option, Some, None}
use Rattle.spec_text.specs.FirstPlaces.{in_first_places}
use Rattle.spec_format.specs.declared.Entry.{Entry}
use Rattle.spec_format.specs.declared.Fault.{Fault}
use Rattle.spec_format.specs.declared.Form.{Form}
use Rattle.spec_format.specs.Plan.{Plan, Listed, entries_in}
use Rattle.spec_format.specs.Faults.{most_entries}
use Rattle.spec_format.specs.Reading.{Reading, refusal, accepted, reading}
use Rattle.spec_machine.specs.declared.Refusal.{Refusal}
use Rattle.spec_report.specs.declared.End.{End}
use Rattle.spec_machine.specs.History.{Run, run_of}
use Rattle.spec_report.specs.Report.{report, report_end}

-- What a call comes to before the lent buffer is looked at: a refusal with which nothing is written, or an end with the
-- bytes that are to be written. Those of a run are its report.
pub data Outcome : Type 0 where
  refused : End → Outcome
  written : End → List ℕ → Outcome

-- How a run ends: by the refusal that stopped it, with the entry's number and line, or accepted with a count.
abbrev pub end_of : Option Refusal → ℕ → ℕ → ℕ → End
end_of None entry line count = End.Accepted count
end_of (Some r) entry line count = End.Refused r entry line

-- How a run of entries ends. Entry i, from 0, stands in line `line i`; acceptance gives `count`.
abbrev pub end_of_run : Run → (ℕ → ℕ) → ℕ → End
end_of_run r line count = end_of r.refusal (length r.history + 1) (line (length r.history)) count

-- What entries come to for a plan.
abbrev pub run_outcome : Plan → List Entry → (ℕ → ℕ) → ℕ → Outcome
run_outcome plan es line count =
    let r : Run = run_of plan es in
    let e : End = end_of_run r line count in
    written e (report plan es r e)

-- The line of entry i of a text.
abbrev pub line_in : List Listed → ℕ → ℕ
line_in ls i = get_or (map (λ (l : Listed). l.line) ls) i 0

-- "The whole text is checked for 1 to 10 before any entry runs; the first of 11 to 14 stops the run." 16 and 17,
-- which have "the effect of 2", are checked with 1 to 10.
abbrev pub of_reading : Reading → Outcome
of_reading (refusal f n) = refused (End.Faulty f n)
of_reading (accepted plan ls n) = run_outcome plan (entries_in ls) (line_in ls) n

-- What a text comes to.
unfoldable pub run_text : List ℕ → Outcome
run_text text = of_reading (reading Form.Schedule text)

-- "A record has a kind (0 call, 1 step) and two numbers": the record is of another kind.
abbrev pub is_other : Entry → Bool
is_other e = not (eqb e.kind 0 || eqb e.kind 1)

-- The place, from n on, of the first record of another kind, where there is one.
abbrev pub other_from : ℕ → List Entry → Option ℕ
other_from n [] = None
other_from n (e ∷ es) = cond (is_other e) (Some n) (other_from (n + 1) es)

-- The records run, unless one is of another kind.
abbrev pub unless_other : Option ℕ → Outcome → Outcome
unless_other None o = o
unless_other (Some place) o = refused (End.Faulty Fault.Misplaced place)

-- "After the text's check and before any runs, over 4,000 records give 5 at place 4,001, else the first record of
-- another kind gives 3 ..; these and 11 to 14 give the record's place from 1 as their line, and acceptance gives their
-- count."
abbrev pub of_records : Reading → List Entry → Outcome
of_records (refusal f n) es = refused (End.Faulty f n)
of_records (accepted plan ls n) es =
    cond (ltb most_entries (length es)) (refused (End.Faulty Fault.TooMany (most_entries + 1)))
    (unless_other (other_from 1 es) (run_outcome plan es (λ i. i + 1) (length es)))

-- What a plan's text, "in which an entry line is 3", comes to with a schedule of records.
unfoldable pub run_schedule : List ℕ → List Entry → Outcome
run_schedule text es = of_records (reading Form.PlanAlone text) es

-- Bytes are written where they are not longer than the lent buffer.
abbrev pub fits : List ℕ → List ℕ → Bool
fits bytes buffer = leb (length bytes) (length buffer)

-- How the call ends, with a buffer lent: "15 is decided last."
abbrev pub end_with : Outcome → List ℕ → End
end_with (refused e) buffer = e
end_with (written e bytes) buffer = cond (fits bytes buffer) e End.NoRoom

-- "The caller gets back the written part of the buffer it lent, empty where no report is written".
abbrev pub handed : Outcome → List ℕ → List ℕ
handed (refused e) buffer = []
handed (written e bytes) buffer = cond (fits bytes buffer) bytes []

-- What the buffer then holds: "bytes past the report keep what they held".
unfoldable pub left : Outcome → List ℕ → List ℕ
left o buffer = in_first_places (handed o buffer) buffer

-- "A program .. prints the report, or `end number line` alone for 1 to 10", and for 16 and 17; of a writing the text,
-- or `end number line` alone for any refusal.
unfoldable pub printed : Outcome → List ℕ
printed (refused e) = report_end e
printed (written e bytes) = bytes
