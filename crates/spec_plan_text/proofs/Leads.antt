-- What lines are read to: bytes of a text lead from a draft to another and list single entries (Leads), where whatever
-- stands behind them is read as if the other draft was before it. A line of a kind with its numbers leads so where it
-- has no fault (line-leads), and bytes behind each other do (leads-then, joined-leads). The argument: a line that is
-- written is read to its kind and its numbers, of the count of lines a draft is only asked whether it is 0, so that all
-- drafts behind the first line can have the count 1, and the single entries but for their lines do not depend on where
-- they stand. Assumes nothing.
use Prim.Native.Nat.{ℕ, zero, suc, ◌+◌, ◌<◌}
use native.Mathlib.Omega.{arith}
use mathlib.Core.Path.{◌≡◌, refl, sym, ◌∙◌}
use mathlib.Core.Bool.{true}
use mathlib.Core.List.{List, [], ◌∷◌, ◌++◌, map, append_assoc, map-append}
use Rattle.std.specs.Prelude.{Option, Some, None}
use lib.ListN.{length, replicate}
use Rattle.spec_text.specs.Bytes.{bytes}
use Rattle.spec_text.specs.Decimal.{decimal}
use Rattle.spec_text.specs.Lines.{Line, lines}
use Rattle.spec_text.specs.WrittenLines.{line_of}
use Rattle.spec_text.proofs.WrittenLines.{Plain, AllFit, numbers-written, written_line, numbers-line, numbers-fields}
use Rattle.spec_format.specs.declared.Kind.{Kind}
use Rattle.spec_format.specs.declared.Form.{Form}
use Rattle.spec_format.specs.declared.Entry.{Entry}
use Rattle.spec_format.specs.Plan.{entries_in}
use Rattle.spec_format.specs.Kinds.{kind_of}
use Rattle.spec_format.specs.ParsedLines.{Directive, plan, job, block, update, move, entry}
use Rattle.spec_format.specs.ParsedLines.{number_count, directive, ParsedLine, parsed_of}
use Rattle.spec_format.specs.Faults.{Draft, has_fault}
use Rattle.spec_format.specs.Reading.{after, by_rank, first_of, listed, entries_of}
use Rattle.spec_format.proofs.Sound.{line-listed}
use Rattle.spec_format.proofs.AcceptedTexts.{plan_of}
use Rattle.spec_format.proofs.RunIsSteps.{numbered, numbered-after, same-plan}
use Rattle.spec_report.specs.Report.{joined}

-- The first field of a line of a kind. That of an unknown kind is never written.
abbrev pub word_of : Kind → List ℕ
word_of Kind.Plan = bytes "plan"
word_of Kind.Job = bytes "job"
word_of Kind.Block = bytes "block"
word_of Kind.Update = bytes "update"
word_of Kind.Copy = bytes "copy"
word_of Kind.Set = bytes "set"
word_of Kind.Add = bytes "add"
word_of Kind.Call = bytes "call"
word_of Kind.Step = bytes "step"
word_of Kind.Unknown = []

-- It is a field of a line,
pub word-plain : (k : Kind) → Plain (word_of k)
word-plain Kind.Plan = record { no-tab = refl; no-feed = refl }
word-plain Kind.Job = record { no-tab = refl; no-feed = refl }
word-plain Kind.Block = record { no-tab = refl; no-feed = refl }
word-plain Kind.Update = record { no-tab = refl; no-feed = refl }
word-plain Kind.Copy = record { no-tab = refl; no-feed = refl }
word-plain Kind.Set = record { no-tab = refl; no-feed = refl }
word-plain Kind.Add = record { no-tab = refl; no-feed = refl }
word-plain Kind.Call = record { no-tab = refl; no-feed = refl }
word-plain Kind.Step = record { no-tab = refl; no-feed = refl }
word-plain Kind.Unknown = record { no-tab = refl; no-feed = refl }

-- and names the kind.
word-kind : (k : Kind) → kind_of (word_of k) ≡ k
unfolding kind_of
word-kind Kind.Plan = refl
word-kind Kind.Job = refl
word-kind Kind.Block = refl
word-kind Kind.Update = refl
word-kind Kind.Copy = refl
word-kind Kind.Set = refl
word-kind Kind.Add = refl
word-kind Kind.Call = refl
word-kind Kind.Step = refl
word-kind Kind.Unknown = refl

-- A line of a kind with its numbers, taken apart.
abbrev pub saying : Kind → List ℕ → ParsedLine
saying k ns = record { ended = true; kind = k; directive = directive k ns }

-- A line that is written is read so, where it has as many numbers as the kind has.
line-parsed :
    (s : ℕ) (k : Kind) (ns : List ℕ) → AllFit ns → number_count s k (map decimal ns) ≡ length ns
    → parsed_of s (written_line (word_of k) (map decimal ns)) ≡ saying k ns
unfolding parsed_of
line-parsed s k ns fit many =
    rw (numbers-fields (word_of k) ns (word-plain k), word-kind k, many, numbers-written ns fit)

-- The single entries of a run, without their line.
run-singles : (e : Entry) (n k : ℕ) → entries_in (replicate k (record { entry = e; line = n })) ≡ replicate k e
run-singles e n zero = refl
run-singles e n (suc k) = rw (run-singles e n k)

-- The single entries that a line says, without the line.
abbrev pub said : Option Directive → List Entry
said None = []
said (Some (plan s)) = []
said (Some (job j)) = []
said (Some (block ws)) = []
said (Some (update n)) = []
said (Some (move m)) = []
said (Some (entry e n)) = replicate n e

-- They are those that are listed in whatever line.
listed-said : (n : ℕ) (x : Option Directive) → entries_in (listed n x) ≡ said x
listed-said n None = refl
listed-said n (Some (plan s)) = refl
listed-said n (Some (job j)) = refl
listed-said n (Some (block ws)) = refl
listed-said n (Some (update k)) = refl
listed-said n (Some (move m)) = refl
listed-said n (Some (entry e k)) = run-singles e n k

-- The single entries of lines, without their lines, do not depend on the number of the first line.
pub same_singles : (s m n : ℕ) (ls : List Line) → entries_in (entries_of s m ls) ≡ entries_in (entries_of s n ls)
same_singles s m n [] = refl
same_singles s m n (l ∷ ls) =
    let x = (parsed_of s l).directive in
    map-append _ (listed m x) _
    ∙ rw (listed-said m x, ← listed-said n x, same_singles s (m + 1) (n + 1) ls)
    (sym (map-append _ (listed n x) _))

-- Bytes lead from a draft to another and list single entries.
pub record Leads (form : Form) (from : Draft) (text : List ℕ) (es : List Entry) (to : Draft) : Type 0 where
  pub plans : (rest : List ℕ) → plan_of form from (lines (text ++ rest)) ≡ plan_of form to (lines rest)
  pub lists :
      (s m n : ℕ) (rest : List ℕ)
      → entries_in (entries_of s m (lines (text ++ rest))) ≡ es ++ entries_in (entries_of s n (lines rest))

-- No bytes lead from a draft to it.
pub none-leads : (form : Form) (d : Draft) → Leads form d [] [] d
none-leads form d = record { plans = λ rest. refl; lists = λ s m n rest. same_singles s m n (lines rest) }

-- Bytes behind each other.
pub leads-then :
    {form : Form} {d e f : Draft} {s t : List ℕ} {es fs : List Entry} → Leads form d s es e → Leads form e t fs f
    → Leads form d (s ++ t) (es ++ fs) f
leads-then {s} {t} {es} {fs} one other =
    record {
      plans = λ rest. rw (append_assoc s t rest) (one.plans (t ++ rest) ∙ other.plans rest);
      lists = λ w m n rest.
          rw (append_assoc s t rest, append_assoc es fs _, ← other.lists w m n rest)
          (one.lists w m m (t ++ rest));
    }

-- Parts behind each other, which list no entries.
pub joined-leads :
    (form : Form) (n : ℕ) (part : ℕ → List ℕ) (at : ℕ → Draft)
    → ((k : ℕ) → k < n → Leads form (at k) (part k) [] (at (suc k))) → Leads form (at 0) (joined n part) [] (at n)
joined-leads form zero part at each = none-leads form (at 0)
joined-leads form (suc n) part at each =
    leads-then (joined-leads form n part at (λ k h. each k (omega arith))) (each n (omega arith))

-- A line without a fault leads to the draft after it, where the count of lines is 1.
pub line-leads :
    (form : Form) (d : Draft) (k : Kind) (ns : List ℕ) → AllFit ns
    → number_count d.plan.sizes.words k (map decimal ns) ≡ length ns
    → first_of (has_fault form d (saying k ns)) by_rank ≡ None
    → Leads form d (line_of (word_of k) ns) (said (directive k ns)) (numbered 1 (after d (directive k ns)))
line-leads form d k ns fit many clear =
    let l : Line = written_line (word_of k) (map decimal ns) in
    let is = line-parsed d.plan.sizes.words k ns fit many in
    let x = directive k ns in
    record {
      plans = λ rest.
          rw (numbers-line (word_of k) ns rest (word-plain k), is, clear, numbered-after d.lines d x)
          (same-plan form (after d x) (d.lines + 1) 1 (omega arith) (omega arith) (lines rest));
      lists = λ s m n rest.
          rw (numbers-line (word_of k) ns rest (word-plain k))
          (map-append _ (listed m (parsed_of s l).directive) _
          ∙ rw (line-listed s d.plan.sizes.words m l, is, listed-said m x, same_singles s (m + 1) n (lines rest)));
    }
