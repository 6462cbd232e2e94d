-- `act` meets its contract. Assumes nothing.
use Rattle.run_entry.proofs.Ready.{ready}
use Rattle.run_entry.proofs.Acts.{noted, acts-noted, call-acts, step-acts, refuse-acts}
use Rattle.run_entry.proofs.act.Goals as goal

pub step-requires : goal.step-requires
step-requires c =
    let told = c.in-Runs.is in
    let k = noted c.requires.1.0 c.args.ruling.other in
    let judged = rw told at c.requires.1.1.0 in
    record {
      ready = ready k c.in-Runs.p c.args.w judged.0 (rw told at c.requires.1.1.1);
      whole = k.whole;
      few = judged.1.1;
      committed = k.few_commits;
    }

pub returns-in-Calls : goal.returns-in-Calls
returns-in-Calls c ws k judged its =
    let told = c.in-Calls.is in
    rw (told, c.call.ensures.value, c.call.ensures.called)
    (acts-noted k c.args.ruling.other _ _ _
    (call-acts (noted k c.args.ruling.other) _ _ c.args.w (rw told at judged) (rw told at its)))

pub returns-in-Runs : goal.returns-in-Runs
returns-in-Runs c ws k judged its =
    let told = c.in-Runs.is in
    rw told
    (acts-noted k c.args.ruling.other _ _ _
    (step-acts (noted k c.args.ruling.other) _ c.args.w _ _ (rw told at judged) (rw told at its) c.step.ensures))

pub returns-in-Refused : goal.returns-in-Refused
returns-in-Refused c ws k judged its =
    let told = c.in-Refused.is in
    rw told
    (acts-noted k c.args.ruling.other _ _ _
    (refuse-acts (noted k c.args.ruling.other) _ c.args.w (rw told at its)))
