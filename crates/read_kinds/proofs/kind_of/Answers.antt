-- `kind_of` meets its contract: the words' bytes are those of the definition. Assumes nothing.
use Rattle.std.proofs.Common.{◌≡◌, refl, sym, arith, rules}
use Rattle.std.proofs.lemmas.Slice.Eq.{text_from_reads}
use Rattle.spec_text.specs.Bytes.{bytes}
use Rattle.spec_format.specs.Kinds.{kind_of}
use Rattle.read_kinds.proofs.Words.{short, no_three, no_set, no_four, no_step, no_block, no_update, long}
use Rattle.read_kinds.proofs.kind_of.Goals as goal

pub returns-in-update : goal.returns-in-update
unfolding kind_of
returns-in-update c =
    let e : c.args.word.now ≡ bytes "update" = text_from_reads _ (bytes "update") (omega arith) (search rules) in
    rw e refl

pub returns-in_default : goal.returns-in_default
returns-in_default c = sym (short c.args.word.now (omega arith))

pub returns-in_default-5 : goal.returns-in_default-5
returns-in_default-5 c = sym (no_set c.args.word.now (omega arith) (search rules) (search rules))

pub returns-in_default-8 : goal.returns-in_default-8
returns-in_default-8 c = sym (no_three c.args.word.now (omega arith) (search rules) (search rules) (search rules))

pub returns-in_default-19 : goal.returns-in_default-19
returns-in_default-19 c = sym (no_step c.args.word.now (omega arith) (search rules) (search rules))

pub returns-in_default-20 : goal.returns-in_default-20
returns-in_default-20 c = sym (no_four c.args.word.now (omega arith) (search rules) (search rules) (search rules))

pub returns-in_default-25 : goal.returns-in_default-25
returns-in_default-25 c = sym (no_block c.args.word.now (omega arith) (search rules))

pub returns-in_default-31 : goal.returns-in_default-31
returns-in_default-31 c = sym (no_update c.args.word.now (omega arith) (search rules))

pub returns-in_default-32 : goal.returns-in_default-32
returns-in_default-32 c = sym (long c.args.word.now (omega arith))
