-- Document 01 names the nearest wrong machine: "an update done whole at its commit step while the earlier steps idle
-- (the states at H25 and H41 differ)". No edit of one operand gives it, so it is defined here, on the given step list,
-- and held against the right machine: T whole does the same items and prints the same report on both, but the copy
-- lists differ after H25, the banks after H41, and the reports of T stopped before its commit. Assumes nothing.
use Prim.Native.Nat.{ℕ, ◌*◌}
use mathlib.Core.Path.{◌≡◌, refl, sym, ap, ◌∙◌}
use mathlib.Core.Bool.{cond, ◌&&◌}
use mathlib.Core.List.{List, [], ◌∷◌, ◌++◌, foldl, map}
use native.Mathlib.Omega.{arith}
use lib.Dec.{eqb}
use lib.ListN.{length, get_or}
use lib.Seq.{paste}
use Rattle.spec_text.specs.Bytes.{bytes}
use Rattle.spec_text.specs.Decimal.{decimal}
use Rattle.spec_text.specs.Lines.{lines, fields}
use Rattle.spec_text.specs.Numbers.{number}
use Rattle.spec_format.specs.declared.Entry.{Entry}
use Rattle.spec_format.specs.declared.Form.{Form}
use Rattle.spec_format.specs.Plan.{Plan, entries_in, blocks_written}
use Rattle.spec_format.specs.Kinds.{kind_of}
use Rattle.spec_format.specs.ParsedLines.{parsed_of}
use Rattle.spec_format.specs.Reading.{Reading, refusal, accepted, reading}
use Rattle.spec_machine.specs.declared.Working.{Working}
use Rattle.spec_machine.specs.declared.Store.{Store}
use Rattle.spec_machine.specs.declared.Out.{Out}
use Rattle.spec_machine.specs.declared.Judgement.{Judgement}
use Rattle.spec_machine.specs.Memory.{after_update}
use Rattle.spec_machine.specs.Places.{label}
use Rattle.spec_machine.specs.Working.{with_copy}
use Rattle.spec_machine.specs.Steps.{same_version, stage, item}
use Rattle.spec_machine.specs.Machine.{Machine, seen, shared_in, work_of, copy_blocks, with_store}
use Rattle.spec_machine.specs.Machine.{opening_of, stored, carried_out, item_of}
use Rattle.spec_machine.specs.Entries.{judge, acted}
use Rattle.spec_machine.specs.History.{Event, Run, begun, history_after, refusal_in, unless_refused, entered, run_of}
use Rattle.spec_report.specs.declared.End.{End}
use Rattle.spec_report.specs.Report.{report_end, joined, report}
use Rattle.spec_report.specs.Outcomes.{end_of_run, line_in, of_reading, printed}
use Rattle.spec_report.proofs.Texts.{T}

-- The near miss's stores: those to words and bank store nothing. V, announcements, statuses, Trans and the rows, with
-- their addresses, old and new numbers and counts, are stored as ever: by them the items find the same way.
abbrev pub idle : Store → Store
idle Store.Nothing = Store.Nothing
idle (Store.Version n f) = Store.Version n f
idle (Store.Ann r k) = Store.Ann r k
idle (Store.Stat k x) = Store.Stat k x
idle (Store.Trans k u) = Store.Trans k u
idle (Store.Listed i a b) = Store.Listed i a b
idle (Store.Block from to) = Store.Nothing
idle (Store.Word b i x) = Store.Nothing
idle Store.Published = Store.Published
idle (Store.Bank b n) = Store.Nothing

-- The update Trans[k] run whole on the words seen through the bank. The bank is still the opening one, so that these
-- words stand from block NC on.
abbrev pub done_whole : Plan → ℕ → Machine → Machine
done_whole plan k m =
    let before : List ℕ = joined plan.sizes.blocks (seen plan m) in
    let after : List ℕ = after_update before (get_or plan.updates ((shared_in plan m).trans k) []) in
    with_store (paste m.store (copy_blocks plan * plan.sizes.words) after (length after)) m

-- The near miss after an entry that is judged so. An item's next record is kept, but for the copy list, which stays;
-- where the item is H42 done, the update of job hid is run whole.
unfoldable pub miss_acted : Plan → Machine → Judgement → Machine
miss_acted plan m (Judgement.Calls job update) = acted plan m (Judgement.Calls job update)
miss_acted plan m (Judgement.Runs p) =
    let w : Working = work_of m p in
    let o : Out = item_of plan m p in
    carried_out plan p (record { work = with_copy w.copy o.work; store = idle o.store; done = o.done })
    (cond (eqb (label w.place) 42 && o.done) (done_whole plan w.hid m) m)
miss_acted plan m (Judgement.Refused r) = m

-- Its run after one more entry.
unfoldable pub miss_entered : Plan → Run → Entry → Run
miss_entered plan r e =
    let j : Judgement = judge plan r.machine e in
    let h : List Event = history_after plan r.machine r.history j in
    unless_refused r.refusal r
    (record { machine = miss_acted plan r.machine j; history = h; refusal = refusal_in j })

-- Its run of a list of entries.
unfoldable pub miss_run_of : Plan → List Entry → Run
miss_run_of plan es = foldl (miss_entered plan) (begun plan) es

-- What is seen of a text's run by `look`, where `run` runs its entries. A refused text is only refused.
abbrev pub seen_by :
    (Plan → List Entry → Run → End → List ℕ) → (Plan → List Entry → Run) → Reading → List ℕ
seen_by look run (refusal f n) = report_end (End.Faulty f n)
seen_by look run (accepted plan ls n) =
    let es : List Entry = entries_in ls in
    let r : Run = run plan es in
    look plan es r (end_of_run r (line_in ls) n)

-- Of the right machine's run `report` sees what the text prints.
pub right-prints : (r : Reading) → seen_by report run_of r ≡ printed (of_reading r)
unfolding printed
right-prints (refusal f n) = refl
right-prints (accepted plan ls n) = refl

-- The labels of the items done, in order.
abbrev pub items : Plan → List Entry → Run → End → List ℕ
items plan es r e = map (λ (v : Event). label v.item) r.history

-- Two cells: the first number of job 0's copy list, and Bank[0].
abbrev pub cells : Plan → List Entry → Run → End → List ℕ
cells plan es r e = get_or (work_of r.machine 0).copy 0 0 ∷ get_or r.machine.cells.bank 0 0 ∷ []

-- What is looked at: T whole; the two cells after H22, H25 and H41, which are steps 20, 21 and 27; T with 27 steps.
abbrev pub looks : (Plan → List Entry → Run) → List (List ℕ)
looks run =
    seen_by report run (reading Form.Schedule (T 33))
    ∷ seen_by items run (reading Form.Schedule (T 33))
    ∷ seen_by cells run (reading Form.Schedule (T 20))
    ∷ seen_by cells run (reading Form.Schedule (T 21))
    ∷ seen_by cells run (reading Form.Schedule (T 27))
    ∷ seen_by report run (reading Form.Schedule (T 27))
    ∷ []

-- The first three, the same on both: T's report, its items, and after H22 the two cells as at the opening.
abbrev pub agreed : List (List ℕ)
agreed =
    bytes "commit\t29\t0\t0\nblock\t7\nend\t0\t39\n"
    ∷ (0 ∷ 1 ∷ 2 ∷ 4 ∷ 14 ∷ 4 ∷ 7 ∷ 10 ∷ 12 ∷ 7 ∷ 16 ∷ 17 ∷ 21 ∷ 43 ∷ 43 ∷ 43 ∷ 43 ∷ 43 ∷ 43 ∷ 43
    ∷ 22 ∷ 25 ∷ 32 ∷ 34 ∷ 36 ∷ 37 ∷ 38 ∷ 41 ∷ 42 ∷ 10 ∷ 12 ∷ 7 ∷ 14 ∷ 15 ∷ [])
    ∷ (0 ∷ 1 ∷ [])
    ∷ []

-- On the right machine H25 puts the replaced number into the copy list, and H41 the new one into the bank.
pub right-shows :
    looks run_of ≡ agreed ++ ((1 ∷ 1 ∷ []) ∷ (1 ∷ 0 ∷ []) ∷ bytes "block\t7\nopen\t0\t0\nend\t0\t33\n" ∷ [])
unfolding reading lines fields number kind_of parsed_of blocks_written decimal same_version stage item
    opening_of stored carried_out item_of judge acted begun entered run_of report
right-shows = refl

-- The near miss leaves both as they were.
pub miss-shows :
    looks miss_run_of ≡ agreed ++ ((0 ∷ 1 ∷ []) ∷ (0 ∷ 1 ∷ []) ∷ bytes "block\t5\nopen\t0\t0\nend\t0\t33\n" ∷ [])
unfolding reading lines fields number kind_of parsed_of blocks_written decimal same_version stage item
    opening_of stored carried_out item_of judge acted begun report after_update miss_acted miss_entered miss_run_of
miss-shows = refl

-- So the two do not run entries alike: the first number of the copy list after H25 is 1, and 0.
pub not-the-same : run_of ≡ miss_run_of → ⊥
not-the-same e =
    let z : ◌≡◌ {A = ℕ} 1 0 = ap (λ l. get_or (get_or l 3 []) 0 0) (sym right-shows ∙ ap looks e ∙ miss-shows) in
    omega (arith, z)
