-- The last range, with the others: the tests are those of the definition. Assumes nothing.
use native.Mathlib.Omega.{arith}
use Rattle.std.proofs.lemmas.Bool.Decides.{nat_tests}
use Rattle.read_sizes.proofs.in_range.Goals as goal

pub returns-then-contains-4 : goal.returns-then-contains-4
returns-then-contains-4 c = grind (arith, nat_tests)

pub returns-else-contains-4 : goal.returns-else-contains-4
returns-else-contains-4 c = grind (arith, nat_tests)
