-- `records_of` adds the single entries of one note after the other. Assumes nothing.
use Rattle.std.proofs.Common.{◌≡◌, get_or, arith}
use Rattle.std.proofs.lemmas.Grind.{common_steps}
use Rattle.read_single_entries.proofs.SingleEntries.{no_note, entries_more, entries_within}
use Rattle.read_single_entries.proofs.records_of.Goals as goal

pub push-requires : goal.push-requires
push-requires c = (omega arith, grind (arith, common_steps, entries_within))

pub loop-entry-preserved : goal.loop-entry-preserved
loop-entry-preserved c =
    let notes = c.as_slice-entry-items.result.now in
    let i = c.loop-entry.entry-index in
    let all : c.loop.counter ≡ (get_or notes i no_note).times = omega arith in
    let more = entries_more notes i no_note c.loop-entry-test.true in
    cc
