-- `add` makes the last note longer or adds one. Assumes nothing.
use Rattle.std.proofs.Common.{◌≡◌, ◌-◌, true, false, length, get_or, arith, ap, ◌∙◌}
use Rattle.std.proofs.Math.ListN.{set}
use Rattle.std.proofs.lemmas.List.{set-get_or}
use Rattle.read_tables.specs.declared.Note.{Note}
use Rattle.text_entry_runs.specs.Joined.{goes_on}
use Rattle.text_entry_runs.proofs.NotedLines.{grows, begins, refilled, same, last_at_most, last_place}
use Rattle.text_entry_runs.proofs.add.Goals.{in_default-via-in-None-1, in_default-via-in-Some+else-goes_on}
use Rattle.text_entry_runs.proofs.add.Goals as goal

-- What stands for a note where there is none.
abbrev no_note : Note
no_note = record { entry = record { kind = 0; first = 0; second = 0 }; times = 0; line = 0 }

pub overflow_add-last : goal.overflow_add-last
overflow_add-last c =
    let notes = c.deref_mut.result.now in
    let n = c.in-Some.last.now in
    let item = c.in-Some.ensures.item in
    let on : goes_on (get_or notes (length notes - 1) n) c.args.e ≡ true = cc in
    let few =
    last_at_most 4000 c.args.e notes (length notes - 1) n (last_place notes item.0) on
    (rw c.deref_mut.ensures.value c.requires.steps_at_most) in
    rw item.1 (record { fits = omega arith })

pub returns : goal.returns
returns c =
    let notes = c.deref_mut.result.now in
    let n = c.in-Some.last.now in
    let item = c.in-Some.ensures.item in
    let on : goes_on (get_or notes (length notes - 1) n) c.args.e ≡ true = cc in
    rw (item.1, ← c.deref_mut.ensures.value, refilled)
    (grows c.args.e notes (length notes - 1) n (last_place notes item.0) on)

pub returns-2 : goal.returns-2
returns-2 c =
    elim c.in_default.branch [
      | in_default-via-in-None-1 w ↦
          rw (c.push.ensures.items, w.notes-is, c.deref_mut.ensures.value, same)
          (begins c.args.e c.args.notes.now.items no_note (λ i long. absurd (grind (arith, long))))
      | in_default-via-in-Some+else-goes_on w ↦
          let notes = c.args.notes.now.items in
          let n = w.in-Some.last.now in
          let is : n ≡ get_or notes (length notes - 1) n
          = rw c.deref_mut.ensures.value at w.in-Some.ensures.item.1 in
          let off : goes_on (get_or notes (length notes - 1) n) c.args.e ≡ false = cc in
          let unchanged : set notes (length notes - 1) n ≡ notes
          = ap (set notes (length notes - 1)) is ∙ set-get_or notes (length notes - 1) n in
          rw (c.push.ensures.items, w.notes-is, c.deref_mut.ensures.value, unchanged, same)
          (begins c.args.e notes n (λ i long. let last : i ≡ length notes - 1 = omega arith in rw last off))
    ]
