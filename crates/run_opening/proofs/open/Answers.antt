-- `open` fills blank tables. Assumes nothing.
use Rattle.std.proofs.Common.{◌≡◌, refl, ◌∙◌, ap, ◌+◌, ◌-◌, ◌*◌, arith, length, replicate, pos, to_z, w32}
use Rattle.std.proofs.lemmas.Int.{to_z_pos}
use Rattle.std.proofs.lemmas.Slice.{put_mid-paste}
use borrow.Rule.Slice.PartMut.{put_mid}
use Rattle.spec_machine.specs.Machine.{opening_store}
use Rattle.run_opening.proofs.OpenedTables.{opened}
use Rattle.run_opening.proofs.open.Goals as goal

pub returns : goal.returns
returns c =
    let plan = c.args.plan.now in
    let start = plan.sizes.jobs * plan.sizes.copies * plan.sizes.words in
    let small : to_z w32 plan.sizes.jobs ≡ pos plan.sizes.jobs = to_z_pos w32 plan.sizes.jobs (omega arith) in
    let memory : put_mid start (start + length plan.words - start) (replicate 2304 0) c.put_words.new.part
    ≡ opening_store plan
    = put_mid-paste start (start + length plan.words - start) (replicate 2304 0) c.put_words.new.part
    plan.words (length plan.words) (c.put_words.ensures ∙ c.words-memory.ensures.value) (omega arith)
    refl in
    rw (
      c.requires.blank,
      c.open_bank.ensures,
      c.open_own.ensures,
      c.«sizes-sizes».ensures,
      c.words-memory.ensures.value,
    )
    (opened plan c.requires.sound _ (ap (replicate 17) small) _ memory)
