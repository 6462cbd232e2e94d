-- What a written text is worth: "Reading that text gives the same plan and the same single entries, and two texts with
-- the same meaning are written alike. .. Reports before and after agree but for the line in `end`." And where one is
-- written: "A refused text or schedule gives the refusal that its run gives". proofs/WrittenTexts.antt shows both of
-- every text and of every plan's text with a schedule of records. And of the text itself, field by field: "steps of
-- one card that follow each other are joined into the longest runs, and a run of one has no count", which
-- proofs/FullyJoined.antt shows. Assumes nothing.
use Rattle.std.specs.Prelude.{ℕ, ◌≤◌, ◌≡◌, ◌↔◌, Bool, true, false, not, ◌&&◌, List, [], ◌∷◌, ◌++◌, map, length}
use Rattle.spec_text.specs.Bytes.{bytes}
use Rattle.spec_text.specs.Lines.{Line, fields, lines}
use Rattle.spec_format.specs.declared.Entry.{Entry}
use Rattle.spec_format.specs.declared.Form.{Form}
use Rattle.spec_format.specs.Plan.{Plan, Listed, entries_in}
use Rattle.spec_format.specs.Kinds.{same_bytes}
use Rattle.spec_format.specs.Reading.{accepted, reading}
use Rattle.spec_report.specs.declared.End.{End}
use Rattle.spec_report.specs.Report.{report_end}
use Rattle.spec_report.specs.Outcomes.{Outcome, refused, written, run_text}
use Rattle.spec_plan_text.specs.EntryLines.{EntryLine, Longest, singles_in, longest_runs, plain}
use Rattle.spec_plan_text.specs.PlanText.{text_of}
use Rattle.spec_plan_text.specs.Writing.{write_text}
use Rattle.spec_plan_text.specs.LongestText.{longest_text}

-- A text was written from a plan and single entries whose run is accepted with the count n and comes to `run`.
pub record WrittenFrom (plan : Plan) (es : List Entry) (run : Outcome) (n : ℕ) (text : List ℕ) : Type 0 where
  pub text_is : text ≡ text_of plan es
  -- it is not too long to be read
  pub short : length text ≤ longest_text
  -- reading it gives the same plan and the same single entries
  pub listed : List Listed
  pub lines : ℕ
  pub read_back : reading Form.Schedule text ≡ accepted plan listed lines
  pub same_entries : entries_in listed ≡ es
  -- writing it again gives the same text
  pub written_again : write_text text ≡ written (End.Accepted lines) text
  -- its report is that of the run, but for the line in `end`
  pub front : List ℕ
  pub report_is : run ≡ written (End.Accepted n) (front ++ report_end (End.Accepted n))
  pub report_again : run_text text ≡ written (End.Accepted lines) (front ++ report_end (End.Accepted lines))

-- A text was written, with what it was written from: what text-written gives of a text, and schedule-written of a
-- plan's text with a schedule of records.
pub record Written (text : List ℕ) : Type 0 where
  pub plan : Plan
  pub entries : List Entry
  pub run : Outcome
  pub count : ℕ
  pub from : WrittenFrom plan entries run count text

-- Two texts have the same meaning: both are accepted, with the same plan and the same single entries.
pub record SameMeaning (one other : List ℕ) : Type 0 where
  pub plan : Plan
  pub listed : List Listed
  pub lines : ℕ
  pub one_read : reading Form.Schedule one ≡ accepted plan listed lines
  pub other_listed : List Listed
  pub other_lines : ℕ
  pub other_read : reading Form.Schedule other ≡ accepted plan other_listed other_lines
  pub same_entries : entries_in listed ≡ entries_in other_listed

-- Entry lines are those of some single entries: they have the longest runs and those single entries, and no others do.
pub record OnlyLongest (es : List Entry) : Type 0 where
  pub are_longest : Longest (longest_runs es)
  pub same_singles : singles_in (longest_runs es) ≡ map plain es
  pub only : (ls : List EntryLine) → Longest ls → singles_in ls ≡ map plain es → ls ≡ longest_runs es

-- The fields of the lines of a text, line by line.
abbrev pub fields_in : List ℕ → List (List (List ℕ))
fields_in text = map (λ (l : Line). fields l.bytes) (lines text)

-- Two lines are steps of one card: each has the first field `step`, and their second fields are the same.
abbrev pub same_card : List (List ℕ) → List (List ℕ) → Bool
same_card [] other = false
same_card (f ∷ []) other = false
same_card (f ∷ card ∷ fs) [] = false
same_card (f ∷ card ∷ fs) (g ∷ []) = false
same_card (f ∷ card ∷ fs) (g ∷ other ∷ gs) =
    same_bytes f (bytes "step") && (same_bytes g (bytes "step") && same_bytes card other)

-- A line is a step with the count 1: its first field is `step`, and its third is `1`.
abbrev pub counts_one : List (List ℕ) → Bool
counts_one [] = false
counts_one (f ∷ []) = false
counts_one (f ∷ card ∷ []) = false
counts_one (f ∷ card ∷ count ∷ fs) = same_bytes f (bytes "step") && same_bytes count (bytes "1")

-- No two lines that follow each other are steps of one card, and none is a step with the count 1.
abbrev pub fully_joined : List (List (List ℕ)) → Bool
fully_joined [] = true
fully_joined (l ∷ []) = not (counts_one l)
fully_joined (l ∷ next ∷ ls) = not (counts_one l) && (not (same_card l next) && fully_joined (next ∷ ls))

-- A call comes to an end, with bytes that are to be written or without.
abbrev pub EndsSo : Outcome → End → Type 0
EndsSo (refused e) end = e ≡ end
EndsSo (written e bytes) end = e ≡ end

-- An end is no acceptance.
abbrev pub NotAccepted : End → Type 0
NotAccepted (End.Accepted n) = ⊥
NotAccepted (End.Faulty f n) = Unit {0}
NotAccepted (End.Refused r i n) = Unit {0}
NotAccepted End.NoRoom = Unit {0}

-- The writer comes to `outcome` beside a run that comes to `run`.
pub record Follows (run outcome : Outcome) : Type 0 where
  -- a text is written just where the run is accepted, with the line that the run answers
  pub written_where :
      (n : ℕ) → EndsSo run (End.Accepted n) ↔ ((text : List ℕ) × (outcome ≡ written (End.Accepted n) text))
  -- nothing is written just where the run is refused, by what refuses the run
  pub refused_where : (e : End) → (EndsSo run e × NotAccepted e) ↔ (outcome ≡ refused e)
  -- no text comes with another end
  pub only_accepted : (e : End) (text : List ℕ) → outcome ≡ written e text → (n : ℕ) × (e ≡ End.Accepted n)
