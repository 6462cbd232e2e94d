-- "A line `step card n` .. shall do what n lines `step card` do": a text with a run says the same as the text with its
-- steps in its place (run-is-steps), and a run of no steps is accepted nowhere (no-empty-run). The argument: the lines
-- of the two texts are those before, the run or n times its step, and those behind, since lines behind whole lines are
-- read as lines of their own. Of the count of lines a draft is only asked whether it is 0, so the lines behind give the
-- same plan after the run and after its steps. The run passes just where a step can stand and n more entries have room,
-- and so do the n steps, by induction: one has room and then n − 1 have. So the plans are the same, and both texts have
-- the same entries, each in the line that it has once the n lines are joined. Where either text is looked at, the one
-- with the steps is not too long, so that n can be written. Assumes nothing.
use Prim.Native.Nat.{ℕ, zero, suc, ◌+◌, ◌-◌, ◌≤◌, ◌<◌}
use native.Mathlib.Omega.{arith}
use mathlib.Core.Path.{◌≡◌, refl, sym, ◌∙◌, ap}
use mathlib.Core.Bool.{Bool, true, false, cond, not, ◌&&◌, true≢false, false≢true}
use mathlib.Core.List.{List, [], ◌∷◌, ◌++◌, map, append_assoc, map-append}
use Rattle.std.specs.Prelude.{Option, Some, None}
use lib.Dec.{ltb, eqb}
use lib.ListN.{length, replicate, length-append, length-replicate}
use lib.Seq.{drop-append_seam}
use borrow.Author.Tests.{lt-ltb, le-ltb, ltb-true, ltb-false, le-leb, ne_eqb}
use Rattle.spec_text.specs.Bytes.{bytes}
use Rattle.spec_text.specs.Numbers.{largest}
use Rattle.spec_text.specs.Decimal.{decimal}
use Rattle.spec_text.specs.Lines.{Line, lines, in_front, split, as_lines}
use Rattle.spec_text.specs.WrittenLines.{line_of}
use Rattle.spec_text.proofs.Cases.{by-test, both}
use Rattle.spec_text.proofs.WrittenLines.{part-more, Plain, AllFit, numbers-written}
use Rattle.spec_text.proofs.WrittenLines.{written_line, numbers-line, numbers-fields}
use Rattle.spec_format.specs.declared.Kind.{Kind}
use Rattle.spec_format.specs.declared.Fault.{Fault}
use Rattle.spec_format.specs.declared.Form.{Form}
use Rattle.spec_format.specs.declared.Entry.{Entry}
use Rattle.spec_format.specs.Plan.{Plan, Listed}
use Rattle.spec_format.specs.Kinds.{kind_of}
use Rattle.spec_format.specs.ParsedLines.{Directive, plan, job, block, update, move, entry}
use Rattle.spec_format.specs.ParsedLines.{step_numbers, directive, ParsedLine, parsed_of}
use Rattle.spec_format.specs.Faults.{Draft, laid_out, lacks_jobs, lacks_blocks, takes_entries, stands}
use Rattle.spec_format.specs.Faults.{within, longest_run, most_entries, one_too_many, has_fault}
use Rattle.spec_format.specs.Reading.{blank, after, parsed_in, after_line, by_rank, first_of}
use Rattle.spec_format.specs.Reading.{ReadOutcome, or_else, read_lines, listed, entries_of}
use Rattle.spec_format.specs.Reading.{accepted, longest, reading}
use Rattle.spec_format.specs.RunIsSteps.{run_line, step_lines, whole_lines, joined_line, in_joined, SaysSame}
use Rattle.spec_format.proofs.FirstFault.{accepted-faultless}
use Rattle.spec_format.proofs.AcceptedTexts.{plan_read, plan_of, accepted-says, says-accepted}

-- A line feed alone is a line without bytes.
abbrev empty_line : Line
empty_line = record { bytes = []; ended = true }

-- A byte in front of lines: it begins the first of them, or is a line by itself that no line feed ended.
abbrev front : ℕ → List Line → List Line
front b [] = record { bytes = b ∷ []; ended = false } ∷ []
front b (l ∷ ls) = record { bytes = b ∷ l.bytes; ended = l.ended } ∷ ls

-- A byte in front of the first of some parts is in front of their lines.
front-parts : (b : ℕ) (parts : List (List ℕ)) → as_lines (in_front b parts) ≡ front b (as_lines parts)
front-parts b [] = refl
front-parts b ([] ∷ []) = refl
front-parts b ((c ∷ part) ∷ []) = refl
front-parts b (part ∷ next ∷ parts) = refl

-- The lines of bytes with one byte more in front.
byte-lines :
    (b : ℕ) (s : List ℕ) → lines (b ∷ s) ≡ cond (eqb b 10) (empty_line ∷ lines s) (front b (lines s))
unfolding lines
byte-lines b s = by-test (eqb b 10) (λ t. rw t (part-more 10 [] s)) (λ t. rw t (front-parts b (split 10 s)))

-- A byte in front of such lines, and of others behind them: there is a first line in any case.
front-append :
    (b c : ℕ) (t : Bool) (ls ms : List Line)
    → front b (cond t (empty_line ∷ ls) (front c ls) ++ ms) ≡ front b (cond t (empty_line ∷ ls) (front c ls)) ++ ms
front-append b c true ls ms = refl
front-append b c false [] ms = refl
front-append b c false (l ∷ ls) ms = refl

-- Where there are no bytes there is no line.
pub no_lines : lines [] ≡ []
unfolding lines
no_lines = refl

-- The lines of bytes behind whole lines stand behind those.
whole_append : (s t : List ℕ) → whole_lines s ≡ true → lines (s ++ t) ≡ lines s ++ lines t
whole_append [] t e = rw no_lines
whole_append (b ∷ []) t e = rw (byte-lines b t, byte-lines b [], e, no_lines)
whole_append (b ∷ c ∷ s) t e =
    rw (byte-lines b (c ∷ (s ++ t)), byte-lines b (c ∷ s), whole_append (c ∷ s) t e) (go (eqb b 10))
  where
    go : (a : Bool)
        → cond a (empty_line ∷ (lines (c ∷ s) ++ lines t)) (front b (lines (c ∷ s) ++ lines t))
        ≡ cond a (empty_line ∷ lines (c ∷ s)) (front b (lines (c ∷ s))) ++ lines t
    go true = refl
    go false = rw (byte-lines c s) (front-append b c (eqb c 10) (lines s) (lines t))

-- A line with or without a fault, in front of lines that give the same plan.
or-plan :
    (x : Option Fault) (m n : ℕ) (one other : ReadOutcome) → plan_read one ≡ plan_read other
    → plan_read (or_else x m one) ≡ plan_read (or_else x n other)
or-plan (Some f) m n one other e = refl
or-plan None m n one other e = e

-- A draft with another count of lines.
abbrev pub numbered : ℕ → Draft → Draft
numbered n d = record { lines = n; blocks = d.blocks; entries = d.entries; plan = d.plan }

-- One more line.
pub numbered-after : (m : ℕ) (d : Draft) (x : Option Directive) → after (numbered m d) x ≡ numbered (m + 1) (after d x)
numbered-after m d None = refl
numbered-after m d (Some i) = refl

-- A count of lines counts only as none or some: where a kind can stand does not depend on how many there are,
same_place :
    (form : Form) (d : Draft) (m n : ℕ) → 0 < m → 0 < n → (k : Kind)
    → stands form (numbered m d) k ≡ stands form (numbered n d) k
same_place form d m n h l Kind.Plan = rw (ne_eqb m 0 (omega arith), ne_eqb n 0 (omega arith))
same_place form d m n h l Kind.Job = refl
same_place form d m n h l Kind.Block = refl
same_place form d m n h l Kind.Update = rw (lt-ltb 0 m h, lt-ltb 0 n l)
same_place form d m n h l Kind.Copy = rw (lt-ltb 0 m h, lt-ltb 0 n l)
same_place form d m n h l Kind.Set = rw (lt-ltb 0 m h, lt-ltb 0 n l)
same_place form d m n h l Kind.Add = rw (lt-ltb 0 m h, lt-ltb 0 n l)
same_place form d m n h l Kind.Call = rw (lt-ltb 0 m h, lt-ltb 0 n l)
same_place form d m n h l Kind.Step = rw (lt-ltb 0 m h, lt-ltb 0 n l)
same_place form d m n h l Kind.Unknown = refl

-- nor whether a line is one too many,
same-many :
    (d : Draft) (m n : ℕ) (x : Option Directive) → one_too_many (numbered m d) x ≡ one_too_many (numbered n d) x
same-many d m n None = refl
same-many d m n (Some (plan s)) = refl
same-many d m n (Some (job j)) = refl
same-many d m n (Some (block ws)) = refl
same-many d m n (Some (update k)) = refl
same-many d m n (Some (move k)) = refl
same-many d m n (Some (entry e k)) = refl

-- nor the fault that is found in a line,
same-fault :
    (form : Form) (d : Draft) (m n : ℕ) → 0 < m → 0 < n → (r : ParsedLine)
    → first_of (has_fault form (numbered m d) r) by_rank ≡ first_of (has_fault form (numbered n d) r) by_rank
same-fault form d m n h l r = rw (same_place form d m n h l r.kind, same-many d m n r.directive)

-- nor the plan that lines give.
pub same-plan :
    (form : Form) (d : Draft) (m n : ℕ) → 0 < m → 0 < n → (ls : List Line)
    → plan_of form (numbered m d) ls ≡ plan_of form (numbered n d) ls
same-plan form d m n h l [] =
    rw (lt-ltb 0 m h, lt-ltb 0 n l)
    (by-test (not (lacks_jobs d) && not (lacks_blocks d)) (λ t. rw t) (λ t. rw t))
same-plan form d m n h l (x ∷ xs) =
    let r = parsed_in d x in
    ap (λ f. plan_read (or_else f (m + 1) (read_lines form (after (numbered m d) r.directive) xs)))
    (same-fault form d m n h l r)
    ∙ or-plan (first_of (has_fault form (numbered n d) r) by_rank) (m + 1) (n + 1) _ _
    (rw (numbered-after m d r.directive, numbered-after n d r.directive)
    (same-plan form (after d r.directive) (m + 1) (n + 1) (omega arith) (omega arith) xs))

-- Lines that begin alike give the same plan, where the others do after every draft.
same-front :
    (form : Form) (xs ys : List Line) → ((d : Draft) → plan_of form d xs ≡ plan_of form d ys)
    → (ls : List Line) (d : Draft) → plan_of form d (ls ++ xs) ≡ plan_of form d (ls ++ ys)
same-front form xs ys same [] d = same d
same-front form xs ys same (l ∷ ls) d =
    or-plan (first_of (has_fault form d (parsed_in d l)) by_rank) (d.lines + 1) (d.lines + 1) _ _
    (same-front form xs ys same ls (after_line d l))

-- A line taken apart that says an entry n times.
abbrev entry_line : Entry → ℕ → ParsedLine
entry_line e n = record { ended = true; kind = Kind.Step; directive = Some (entry e n) }

-- The draft after it.
abbrev counted : ℕ → Draft → Draft
counted n d = record { lines = d.lines + 1; blocks = d.blocks; entries = d.entries + n; plan = d.plan }

-- A step can stand here, and there is room for n entries.
abbrev room : Form → Draft → ℕ → Bool
room form d n = (takes_entries form && laid_out d) && not (ltb most_entries (d.entries + n))

-- A line that says an entry passes where it can stand, is no bad run, and there is room; where there is room, it is no
-- bad run.
found-entry :
    (place run full : Bool) (line : ℕ) (rest : ReadOutcome) → (full ≡ false → run ≡ true)
    → plan_read
    (or_else
    (cond (not place) (Some Fault.Misplaced) (cond (not run) (Some Fault.BadRun) (cond full (Some Fault.TooMany) None)))
    line
    rest)
    ≡ cond (place && not full) (plan_read rest) None
found-entry false run full line rest h = refl
found-entry true true true line rest h = refl
found-entry true true false line rest h = refl
found-entry true false true line rest h = refl
found-entry true false false line rest h = absurd (false≢true (h refl))

-- A line that says an entry n times, in front of others.
entry_read :
    (form : Form) (d : Draft) (l : Line) (e : Entry) (n : ℕ) (ls : List Line) → 1 ≤ n
    → parsed_in d l ≡ entry_line e n
    → plan_of form d (l ∷ ls) ≡ cond (room form d n) (plan_of form (counted n d) ls) None
entry_read form d l e n ls some-entry is =
    rw is
    (found-entry (takes_entries form && laid_out d) (within 1 longest_run n) (ltb most_entries (d.entries + n))
    (d.lines + 1) (read_lines form (counted n d) ls)
    (λ t.
    let fits = ltb-false most_entries (d.entries + n) t in
    rw (le-leb 1 n some-entry, le-leb n longest_run (omega arith))))

-- Where there is room for more there is room for one.
one-room :
    (full-at-one full : Bool) (o : Option Plan) → (full ≡ false → full-at-one ≡ false)
    → cond (not full-at-one) (cond (not full) o None) None ≡ cond (not full) o None
one-room false full o h = refl
one-room true true o h = refl
one-room true false o h = absurd (true≢false (h refl))

-- Room for one entry and then for n more is room for n + 1.
one-and-more :
    (form : Form) (d : Draft) (n : ℕ) (ls : List Line)
    → cond (room form d 1) (cond (room form (counted 1 d) n) (plan_of form (counted n (counted 1 d)) ls) None) None
    ≡ cond (room form d (suc n)) (plan_of form (counted (suc n) d) ls) None
one-and-more form d n ls =
    by-test (takes_entries form && laid_out d)
    (λ t.
    let begun : 0 < d.lines
    = ltb-true 0 d.lines (both (ltb 0 d.lines) _ (both (takes_entries form) (laid_out d) t).1).0 in
    let next : (takes_entries form && laid_out (counted 1 d)) ≡ true
    = sym (same_place form d d.lines (d.lines + 1) begun (omega arith) Kind.Step) ∙ t in
    let sum : d.entries + 1 + n ≡ d.entries + suc n = omega arith in
    rw (
      t,
      next,
      sum,
      same-plan form (counted (suc n) d) (d.lines + 1 + 1) (d.lines + 1) (omega arith) (omega arith) ls,
    )
    (one-room (ltb most_entries (d.entries + 1)) (ltb most_entries (d.entries + suc n))
    (plan_of form (counted (suc n) d) ls)
    (λ u.
    let fits = ltb-false most_entries (d.entries + suc n) u in
    le-ltb most_entries (d.entries + 1) (omega arith))))
    (λ t. rw t)

-- n + 1 lines that say an entry once, in front of others, are read as one that says it n + 1 times.
steps-read :
    (form : Form) (l : Line) (e : Entry) → ((s : ℕ) → parsed_of s l ≡ entry_line e 1)
    → (n : ℕ) (d : Draft) (ls : List Line)
    → plan_of form d (replicate (suc n) l ++ ls) ≡ cond (room form d (suc n)) (plan_of form (counted (suc n) d) ls) None
steps-read form l e is zero d ls = entry_read form d l e 1 ls (omega arith) (is d.plan.sizes.words)
steps-read form l e is (suc n) d ls =
    entry_read form d l e 1 (replicate (suc n) l ++ ls) (omega arith) (is d.plan.sizes.words)
    ∙ ap (λ o. cond (room form d 1) o None) (steps-read form l e is n (counted 1 d) ls)
    ∙ one-and-more form d (suc n) ls

-- A run in front of lines gives the plan that its steps in front of them give.
run-read :
    (form : Form) (run step : Line) (e : Entry) (n : ℕ) → 1 ≤ n → ((s : ℕ) → parsed_of s run ≡ entry_line e n)
    → ((s : ℕ) → parsed_of s step ≡ entry_line e 1)
    → (ls : List Line) (d : Draft) → plan_of form d (run ∷ ls) ≡ plan_of form d (replicate n step ++ ls)
run-read form run step e zero some-step run_is step_is ls d = absurd (omega arith)
run-read form run step e (suc n) some-step run_is step_is ls d =
    entry_read form d run e (suc n) ls some-step (run_is d.plan.sizes.words)
    ∙ sym (steps-read form step e step_is n d ls)

-- The entries of lines in a row, of which the second part is numbered from m on.
entries-append :
    (s k m : ℕ) (xs ys : List Line) → m ≡ k + length xs
    → entries_of s k (xs ++ ys) ≡ entries_of s k xs ++ entries_of s m ys
entries-append s k m [] ys e =
    let same : m ≡ k = omega arith in
    rw same
entries-append s k m (x ∷ xs) ys e =
    rw (entries-append s (k + 1) m xs ys (omega arith))
    (sym (append_assoc (listed k (parsed_of s x).directive) (entries_of s (k + 1) xs) (entries_of s m ys)))

module _ (at n : ℕ) where
  -- A line before the joined ones keeps its number,
  line_before : (j : ℕ) → j < at → joined_line at n j ≡ j
  line_before j h = rw (lt-ltb j at h)

  -- one of them gets that of the first,
  line-among : (j : ℕ) → at ≤ j → j < at + n → joined_line at n j ≡ at
  line-among j h l = rw (le-ltb j at h, lt-ltb j (at + n) l)

  -- and one behind them moves up.
  line-behind : (j : ℕ) → at + n ≤ j → joined_line at n j ≡ j + 1 - n
  line-behind j h = rw (le-ltb j at (omega arith), le-ltb j (at + n) h)

  -- The entries of a run, in the line that it then has.
  run-joined :
      (e : Entry) (k m : ℕ)
      → map (in_joined at n) (replicate m (record { entry = e; line = k }))
      ≡ replicate m (record { entry = e; line = joined_line at n k })
  run-joined e k zero = refl
  run-joined e k (suc m) = rw (run-joined e k m)

  -- The entries of a line, in the line that it then is.
  listed-joined :
      (k : ℕ) (x : Option Directive) → map (in_joined at n) (listed k x) ≡ listed (joined_line at n k) x
  listed-joined k None = refl
  listed-joined k (Some (plan s)) = refl
  listed-joined k (Some (job j)) = refl
  listed-joined k (Some (block ws)) = refl
  listed-joined k (Some (update i)) = refl
  listed-joined k (Some (move i)) = refl
  listed-joined k (Some (entry e m)) = run-joined e k m

  -- The entries of lines from k on, which are then lines from m on.
  entries-joined :
      (s k m : ℕ) (ls : List Line) → ((j : ℕ) → k ≤ j → j < k + length ls → joined_line at n j + k ≡ m + j)
      → map (in_joined at n) (entries_of s k ls) ≡ entries_of s m ls
  entries-joined s k m [] h = refl
  entries-joined s k m (l ∷ ls) h =
      let x = (parsed_of s l).directive in
      let here : joined_line at n k ≡ m = omega (arith, h k (omega arith) (omega arith)) in
      map-append (in_joined at n) (listed k x) (entries_of s (k + 1) ls)
      ∙ rw (
        listed-joined k x,
        here,
        entries-joined s (k + 1) (m + 1) ls (λ j a b. omega (arith, h j (omega arith) (omega arith))),
      )

  -- The entries of m lines that say an entry once and are all joined.
  steps-joined :
      (s : ℕ) (l : Line) (e : Entry) → parsed_of s l ≡ entry_line e 1
      → (m k : ℕ) → at ≤ k → k + m ≤ at + n
      → map (in_joined at n) (entries_of s k (replicate m l)) ≡ replicate m (record { entry = e; line = at })
  steps-joined s l e is zero k h b = refl
  steps-joined s l e is (suc m) k h b =
      rw (is, line-among k h (omega arith), steps-joined s l e is m (k + 1) (omega arith) (omega arith))

-- Lines `run` say the same as lines `steps`, of which those from line `at` on, n of them, stand for one.
record Alike (form : Form) (run steps : List Line) (at n : ℕ) : Type 0 where
  same-plans : plan_of form blank run ≡ plan_of form blank steps
  same_entries : (s : ℕ) → entries_of s 1 run ≡ map (in_joined at n) (entries_of s 1 steps)
  same_count : length run ≡ joined_line at n (length steps)
  fewer : length run + n ≡ length steps + 1

-- How many lines there are.
count-alike :
    (n : ℕ) (before behind : List Line) (run step : Line) → 1 ≤ n
    → length (before ++ (run ∷ behind))
    ≡ joined_line (length before + 1) n (length (before ++ (replicate n step ++ behind)))
count-alike n before [] run step h =
    simp (length-append, length-replicate)
    (omega (arith, line-among (length before + 1) n (length before + (n + 0)) (omega arith) (omega arith)))
count-alike n before (l ∷ ls) run step h =
    simp (length-append, length-replicate)
    (omega (arith, line-behind (length before + 1) n (length before + (n + suc (length ls))) (omega arith)))

-- A run between lines says the same as its steps between them.
lines-alike :
    (form : Form) (before behind : List Line) (run step : Line) (e : Entry) (n : ℕ) → 1 ≤ n
    → ((s : ℕ) → parsed_of s run ≡ entry_line e n) → ((s : ℕ) → parsed_of s step ≡ entry_line e 1)
    → Alike form (before ++ (run ∷ behind)) (before ++ (replicate n step ++ behind)) (length before + 1) n
lines-alike form before behind run step e n h run_is step_is =
    record {
      same-plans =
          same-front form (run ∷ behind) (replicate n step ++ behind)
          (run-read form run step e n h run_is step_is behind) before blank;
      same_entries = λ s.
          let at : ℕ = length before + 1 in
          rw (
            entries-append s 1 at before (run ∷ behind) (omega arith),
            entries-append s 1 at before (replicate n step ++ behind) (omega arith),
            entries-append s at (at + n) (replicate n step) behind (omega (arith, length-replicate n step)),
            map-append (in_joined at n) (entries_of s 1 before) _,
            map-append (in_joined at n) (entries_of s at (replicate n step)) _,
            entries-joined at n s 1 1 before (λ j a b. omega (arith, line_before at n j (omega arith))),
            steps-joined at n s step e (step_is s) n at (omega arith) (omega arith),
            entries-joined at n s (at + n) (at + 1) behind (λ j a b. omega (arith, line-behind at n j a)),
            run_is s,
          );
      same_count = count-alike n before behind run step h;
      fewer = simp (length-append, length-replicate) (omega arith);
    }

-- `step` is a field of a line.
step-plain : Plain (bytes "step")
step-plain = record { no-tab = refl; no-feed = refl }

-- The line `step` with these numbers.
abbrev step_line : List ℕ → Line
step_line ns = written_line (bytes "step") (map decimal ns)

-- It says what its numbers say, where there are as many as a step has.
step-parsed :
    (ns : List ℕ) → AllFit ns → step_numbers (map decimal ns) ≡ length ns → (s : ℕ)
    → parsed_of s (step_line ns) ≡ record { ended = true; kind = Kind.Step; directive = directive Kind.Step ns }
unfolding parsed_of kind_of
step-parsed ns fit many s = rw (numbers-fields (bytes "step") ns step-plain, many, numbers-written ns fit)

-- The lines of n lines `step card`.
step_lines_lem :
    (card n : ℕ) (rest : List ℕ) → card ≤ largest
    → lines (step_lines card n ++ rest) ≡ replicate n (step_line (card ∷ [])) ++ lines rest
step_lines_lem card zero rest fits = refl
step_lines_lem card (suc n) rest fits =
    rw (
      append_assoc (line_of (bytes "step") (card ∷ [])) (step_lines card n) rest,
      numbers-line (bytes "step") (card ∷ []) (step_lines card n ++ rest) step-plain,
      step_lines_lem card n rest fits,
    )

-- There are at least as many bytes as steps.
many-bytes : (card n : ℕ) → n ≤ length (step_lines card n)
many-bytes card zero = omega arith
many-bytes card (suc n) = simp length-append (omega (arith, many-bytes card n))

-- The lines of a text with a run in it.
run-lines :
    (before behind : List ℕ) (card n : ℕ) → whole_lines before ≡ true → AllFit (card ∷ n ∷ [])
    → lines (before ++ (run_line card n ++ behind)) ≡ lines before ++ (step_line (card ∷ n ∷ []) ∷ lines behind)
run-lines before behind card n whole fit =
    rw (
      whole_append before (run_line card n ++ behind) whole,
      numbers-line (bytes "step") (card ∷ n ∷ []) behind step-plain,
    )

-- The lines of the text with the run say the same as those of the text with the steps.
texts-alike :
    (form : Form) (before behind : List ℕ) (card n : ℕ) → whole_lines before ≡ true → card ≤ largest → n ≤ largest
    → 1 ≤ n
    → Alike form (lines (before ++ (run_line card n ++ behind))) (lines (before ++ (step_lines card n ++ behind)))
    (length (lines before) + 1) n
texts-alike form before behind card n whole card-fits fits some-step =
    rw (
      run-lines before behind card n whole (card-fits, (fits, tt)),
      whole_append before (step_lines card n ++ behind) whole,
      step_lines_lem card n behind card-fits,
    )
    (lines-alike form (lines before) (lines behind) (step_line (card ∷ n ∷ [])) (step_line (card ∷ []))
    (record { kind = 1; first = card; second = 0 }) n some-step
    (step-parsed (card ∷ n ∷ []) (card-fits, (fits, tt)) refl) (step-parsed (card ∷ []) (card-fits, tt) refl))

-- The steps of a text that is not too long are not too many for a number.
few-steps :
    (before behind : List ℕ) (card n : ℕ) → length (before ++ (step_lines card n ++ behind)) ≤ longest → n ≤ largest
few-steps before behind card n short = omega (arith, simp length-append at short, many-bytes card n)

-- "A line `step card n` .. shall do what n lines `step card` do", in every text and every place.
pub run-is-steps :
    (form : Form) (before behind : List ℕ) (card n : ℕ) → whole_lines before ≡ true → card ≤ largest → 1 ≤ n
    → SaysSame form (before ++ (run_line card n ++ behind)) (before ++ (step_lines card n ++ behind))
    (length (lines before) + 1) n
run-is-steps form before behind card n whole card-fits some-step =
    record {
      there = λ p es k e short.
          let says = accepted-says form run p es k e in
          let same = alike (few-steps before behind card n short) in (
            entries_of p.sizes.words 1 (lines steps),
            length (lines steps),
            says-accepted form steps p _ _
                (record {
                  short = short;
                  plan-is = sym same.same-plans ∙ says.plan-is;
                  entries_are = refl;
                  count_is = refl;
                }),
            says.entries_are ∙ same.same_entries p.sizes.words,
            says.count_is ∙ same.same_count,
            omega (arith, says.count_is, same.fewer),
          );
      back = λ p fs m e short.
          let says = accepted-says form steps p fs m e in
          let same = alike (few-steps before behind card n says.short) in
          says-accepted form run p _ _
          (record {
            short = short;
            plan-is = same.same-plans ∙ says.plan-is;
            entries_are = rw says.entries_are (sym (same.same_entries p.sizes.words));
            count_is = rw says.count_is (sym same.same_count);
          });
    }
  where
    run : List ℕ
    run = before ++ (run_line card n ++ behind)

    steps : List ℕ
    steps = before ++ (step_lines card n ++ behind)

    alike : n ≤ largest → Alike form (lines run) (lines steps) (length (lines before) + 1) n
    alike fits = texts-alike form before behind card n whole card-fits fits some-step

-- A run of no steps is not accepted: it has the fault 16, wherever it stands.
pub no-empty-run :
    (form : Form) (before behind : List ℕ) (card : ℕ) (p : Plan) (es : List Listed) (k : ℕ)
    → whole_lines before ≡ true → card ≤ largest
    → reading form (before ++ (run_line card 0 ++ behind)) ≡ accepted p es k → ⊥
no-empty-run form before behind card p es k whole card-fits e =
    let fits : AllFit (card ∷ 0 ∷ []) = (card-fits, (omega arith, tt)) in
    let clear = (accepted-faultless form (before ++ (run_line card 0 ++ behind))).0 (p, es, k, e) in
    true≢false
    (rw (
      run-lines before behind card 0 whole fits,
      drop-append_seam (lines before) (step_line (card ∷ 0 ∷ []) ∷ lines behind),
      step-parsed (card ∷ 0 ∷ []) fits refl,
    ) at
    (clear.none_at (suc (length (lines before))) Fault.BadRun))
