-- The records before record i + 1 have run, with the jobs' registers in `works`: the loop's invariant.
use Rattle.run_loop.proofs.OneAfterAnother.{Sofar}
use Rattle.run_loop.proofs.run_records.Given as goal

abbrev pub invariant-loop-i : goal.invariant-loop-i
invariant-loop-i l = Sofar l.plan l.records l.initial.tables l.i l.works l.tables
