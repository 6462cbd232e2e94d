-- `find` meets its contract: the bytes up to the first x, or up to the end. Assumes nothing.
use Rattle.std.proofs.Common.{arith}
use Rattle.std.proofs.lemmas.Grind.{common_steps}
use Rattle.read_fields.proofs.FieldPlaces.{position-or, before-le}
use Rattle.read_fields.specs.FieldPlaces.{place_of}
use Rattle.read_fields.proofs.find.Goals as goal

pub returns : goal.returns
unfolding place_of
returns c = grind (arith, common_steps, position-or, before-le)
