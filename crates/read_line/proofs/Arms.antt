-- A line taken apart at its first tab, and what it comes to. Assumes nothing.
use Rattle.std.proofs.Common.{◌≡◌, refl, ℕ, ◌+◌, true, false, List, take, Result, Err}
use denote.Enum.Bare.{sameb}
use Rattle.spec_format.specs.contracts.Kind.{the_type}
use Rattle.read_fields.specs.FieldPlaces.{place_of, fields_at}
use Rattle.read_fields.proofs.LinePlaces.{fields-first}
use Rattle.spec_format.specs.declared.Fault.{Fault}
use Rattle.spec_format.specs.declared.Form.{Form}
use Rattle.spec_format.specs.declared.Kind.{Kind}
use Rattle.spec_format.specs.declared.LineFault.{LineFault}
use Rattle.spec_format.specs.Kinds.{kind_of}
use Rattle.spec_format.specs.ParsedLines.{directive_of, numbers_for, parsed_of}
use Rattle.spec_format.specs.Faults.{is_unknown, stands}
use Rattle.read_line_promises.specs.declared.PartRead.{PartRead}
use Rattle.read_line_promises.specs.Promises.{draft_in, LineStep, LineDone}

-- The test whether a kind is the unknown one.
pub unknown-is : (k : Kind) → sameb the_type k Kind.Unknown ≡ is_unknown k
unknown-is Kind.Plan = refl
unknown-is Kind.Job = refl
unknown-is Kind.Block = refl
unknown-is Kind.Update = refl
unknown-is Kind.Copy = refl
unknown-is Kind.Set = refl
unknown-is Kind.Add = refl
unknown-is Kind.Call = refl
unknown-is Kind.Step = refl
unknown-is Kind.Unknown = refl

-- A line's kind, and what it says.
parsed_is : (s : ℕ) (line : List ℕ)
    → parsed_of s (record { bytes = line; ended = true })
    ≡ (let k = kind_of (take (place_of 9 line 0) line) in
    record {
      ended = true;
      kind = k;
      directive = directive_of k (numbers_for s k (fields_at line (place_of 9 line 0 + 1)));
    })
unfolding parsed_of
parsed_is s line = rw (fields-first line) refl

module _ (form : Form) (p q : PartRead) (line : List ℕ) (n : ℕ) (end : n ≡ place_of 9 line 0) where
  -- A line whose first field is unknown.
  pub done-unknown : is_unknown (kind_of (take n line)) ≡ true
      → LineDone form p p line (Err (record { fault = Fault.Unknown; line = p.progress.lines + 1 }))
  done-unknown u = record { says = rw (parsed_is p.plan.sizes.words line, ← end, u) refl; noted = refl }

  module _ (known : is_unknown (kind_of (take n line)) ≡ false) where
    -- A line that cannot stand where it does.
    pub done-misplaced : stands form (draft_in p) (kind_of (take n line)) ≡ false
        → LineDone form p p line (Err (record { fault = Fault.Misplaced; line = p.progress.lines + 1 }))
    done-misplaced s = record { says = rw (parsed_is p.plan.sizes.words line, ← end, known, s) refl; noted = refl }

    -- A line that can.
    pub done-read : (r : Result Unit LineFault) → stands form (draft_in p) (kind_of (take n line)) ≡ true
        → LineStep p q
        (let k = kind_of (take n line) in directive_of k (numbers_for p.plan.sizes.words k (fields_at line (n + 1)))) r
        → LineDone form p q line r
    done-read r s step =
        record {
          says = rw (parsed_is p.plan.sizes.words line, ← end, known, s) (step.says form (kind_of (take n line)));
          noted = rw (parsed_is p.plan.sizes.words line, ← end) step.noted;
        }
