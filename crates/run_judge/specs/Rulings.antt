-- What a record comes to in a run: once stopped, a run stays so, and the first record of another kind is noted. Ruling
-- is declared in src/lib.rt. Assumes nothing.
use Rattle.std.specs.Prelude.{ℕ, cond, ltb, Option, Some, None}
use Rattle.spec_format.specs.declared.Entry.{Entry}
use Rattle.spec_format.specs.Plan.{Plan}
use Rattle.spec_machine.specs.declared.Refusal.{Refusal}
use Rattle.spec_machine.specs.declared.Judgement.{Judgement}
use Rattle.spec_machine.specs.Machine.{Machine}
use Rattle.spec_machine.specs.Entries.{judge}
use Rattle.step_cells.specs.declared.Book.{Book}
use Rattle.run_judge.specs.declared.Ruling.{Ruling}

-- The place of the first record of another kind, with one more record, at this place.
abbrev pub other_after : Option ℕ → ℕ → ℕ → Option ℕ
other_after None place kind = cond (ltb 1 kind) (Some place) None
other_after (Some other) place kind = Some other

-- A judgement, unless the run has stopped.
abbrev pub unless_halted : Option Refusal → Judgement → Judgement
unless_halted None j = j
unless_halted (Some r) j = Judgement.Refused r

-- What the record at a place comes to.
abbrev pub ruling_of : Plan → Machine → Book → ℕ → Entry → Ruling
ruling_of plan m b place e =
    record {
      judgement = unless_halted b.halt (judge plan m e);
      other = other_after b.other place e.kind;
    }

-- The job that a judged entry changes, 0 where it is refused.
abbrev pub changed_by : Judgement → ℕ
changed_by (Judgement.Calls job u) = job
changed_by (Judgement.Runs p) = p
changed_by (Judgement.Refused r) = 0
