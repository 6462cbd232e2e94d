-- `join` joins one entry after the other. Assumes nothing.
use Rattle.std.proofs.Common.{◌≡◌, ◌≤◌, ◌∙◌, sym, ap, List, length, take, get_or, arith}
use Rattle.std.proofs.lemmas.List.{length-map, length-take-le, take_more, take_all}
use Rattle.spec_format.specs.declared.Entry.{Entry}
use Rattle.spec_plan_text.specs.EntryLines.{longest_runs}
use Rattle.read_tables.specs.declared.Note.{Note}
use Rattle.text_entry_runs.specs.Joined.{line_noted, lines_noted}
use Rattle.text_entry_runs.specs.Behind.{add_last}
use Rattle.text_entry_runs.proofs.Behind.{one_more, no-more-lines, steps-at-most, at_most}
use Rattle.text_entry_runs.proofs.join.Goals as goal

-- What stands for a record where there is none.
abbrev no_record : Entry
no_record = record { kind = 0; first = 0; second = 0 }

-- There are no more lines than records.
no_more : (es : List Entry) (notes : List Note) → lines_noted notes ≡ longest_runs es → length notes ≤ length es
no_more es notes lines = omega (arith, no-more-lines es, length-map notes line_noted, ap length lines)

pub loop-e-init : goal.loop-e-init
unfolding longest_runs
loop-e-init c = rw c.clear.ensures

pub add-requires-clause-room : goal.add-requires-clause-room
add-requires-clause-room c =
    let so_far : List Entry = take c.loop-e.e-index c.args.records.now in
    let long = length-take-le c.loop-e.e-index c.args.records.now (omega arith) in
    omega (arith, long, no_more so_far c.loop-e.notes.items c.loop-e.invariant)

pub add-requires-clause-steps_at_most : goal.add-requires-clause-steps_at_most
add-requires-clause-steps_at_most c =
    let so_far : List Entry = take c.loop-e.e-index c.args.records.now in
    let long = length-take-le c.loop-e.e-index c.args.records.now (omega arith) in
    rw c.loop-e.invariant
    (at_most (length so_far) 4000 (longest_runs so_far) (omega (arith, long)) (steps-at-most so_far))

pub loop-e-preserved : goal.loop-e-preserved
loop-e-preserved c =
    let es = c.args.records.now in
    let i = c.loop-e.e-index in
    c.add.ensures
    ∙ ap (add_last (get_or es i no_record)) c.loop-e.invariant
    ∙ sym (one_more (take i es) (get_or es i no_record))
    ∙ ap longest_runs (sym (take_more es i no_record c.loop-e-test.true))

pub returns : goal.returns
returns c =
    let all = take_all c.loop-e.e-index c.args.records.now c.loop-e-test.false in
    let lines : lines_noted c.loop-e.notes.items ≡ longest_runs c.args.records.now
    = c.loop-e.invariant ∙ ap longest_runs all in
    record { few = no_more c.args.records.now c.loop-e.notes.items lines; lines_are = lines }
