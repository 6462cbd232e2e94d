-- `explain` says nothing of acceptance and of what lies past the table, and else writes the line of the refusal.
-- Assumes nothing.
use native.Mathlib.Omega.{arith}
use Rattle.std.proofs.lemmas.Grind.{common_steps}
use Rattle.report_bytes.proofs.Writes.{put_whole}
use Rattle.public_messages.proofs.explain.Goals as goal

pub returns-clause-buffer_after : goal.returns-clause-buffer_after
returns-clause-buffer_after c = grind (arith, common_steps, put_whole)
