-- `put_update` gives the line of the update and those of its moves. Assumes nothing.
use Rattle.std.proofs.Common.{[], ◌∷◌}
use Rattle.spec_text.specs.Bytes.{bytes}
use Rattle.spec_text.specs.WrittenLines.{line_of}
use Rattle.text_update_lines.proofs.put_update.Goals as goal

pub returns : goal.returns
returns g c =
    g.met.O.Output.then (line_of (bytes "update") (c.args.u ∷ [])) _ _ _ _ c.line.ensures
    (rw c.moves.ensures.value at c.put_moves.ensures)
