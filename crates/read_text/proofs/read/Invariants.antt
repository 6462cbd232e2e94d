use Rattle.std.proofs.Common.{◌≡◌, ◌+◌, ◌≤◌, length}
use Rattle.spec_text.specs.Lines.{lines}
use Rattle.spec_format.specs.Reading.{reading}
use Rattle.read_text.proofs.ReadOn.{reading_on}
use Rattle.read_text.proofs.read.Given as goal

abbrev pub invariant-loop-rest : goal.invariant-loop-rest
invariant-loop-rest l =
    record {
      room : l.part.progress.lines + length l.rest ≤ 65536;
      same : reading l.form l.text ≡ reading_on l.form l.part (lines l.rest);
    }

abbrev pub decreases-loop-rest : goal.decreases-loop-rest
decreases-loop-rest l = length l.rest
