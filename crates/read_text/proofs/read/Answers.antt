-- `read` meets its contract: behind each line, what is left to read comes to the same as the whole. Assumes nothing.
use Rattle.std.proofs.Common.{◌≡◌, refl, sym, ◌∙◌, ap, arith, rules, length, drop, ◌+◌, ◌-◌, List, [], ◌∷◌, ℕ}
use Rattle.std.specs.Prelude.{Result}
use Rattle.std.proofs.lemmas.List.{take_all, length-drop}
use Rattle.std.proofs.lemmas.Result.{err_from_is_err_and}
use Rattle.spec_format.specs.declared.LineFault.{LineFault}
use Rattle.spec_format.specs.Reading.{Reading}
use Rattle.read_line_promises.specs.declared.PartRead.{PartRead}
use Rattle.read_text.specs.Readings.{reading_from, ReadTo}
use Rattle.read_text.proofs.ReadOn.{too_long, starts, ends-early, ends, open-refused, line_refused, line_read, lines-is}
use Rattle.read_text.proofs.ReadOn.{found}
use Rattle.read_text.proofs.read.Goals as goal

-- What a text gives was read so far, to this verdict.
read_to : {r : Reading} {v : Result ℕ LineFault} (p : PartRead) → r ≡ reading_from v p.plan p.notes.items → ReadTo r v p
read_to p e = record { gives = sym e; counted = p.consistent.counted; few_entries = p.consistent.entries_read }

-- Nothing is left.
none-left : (s : List ℕ) → length s ≡ 0 → s ≡ []
none-left [] e = refl
none-left (b ∷ s) e = absurd (omega arith)

pub returns-then-text-gt-LONGEST : goal.returns-then-text-gt-LONGEST
returns-then-text-gt-LONGEST c = read_to c.args.part.now (too_long _ _ c.if-text-gt-LONGEST.true)

pub loop-rest-init : goal.loop-rest-init
loop-rest-init c =
    let none : c.args.part.now.progress.lines ≡ 0 = ap (λ d. d.lines) c.requires.draft in
    record {
      room = omega (arith, none);
      same = starts _ _ _ (omega arith) c.requires;
    }

pub returns-in_default : goal.returns-in_default
returns-in_default c =
    read_to c.loop-rest.part
    (c.loop-rest.invariant.same
    ∙ open-refused _ _ _ (search rules) (sym c.end_of.ensures ∙ c.in_default.is))

pub returns-in_err-read_line : goal.returns-in_err-read_line
returns-in_err-read_line c =
    let p = err_from_is_err_and c.from_residual.result c.from_residual.ensures.1 in
    rw (p.1, p.2)
    (read_to c.read_line.new.part
    (c.loop-rest.invariant.same
    ∙ line_refused _ _ _ _ _ (sym c.end_of.ensures ∙ c.in-Some.is) _ c.in_err-read_line.ensures))

pub loop-rest-preserved : goal.loop-rest-preserved
loop-rest-preserved c =
    let s = c.loop-rest.rest.now in
    let end = c.in-Some.end in
    let here = sym c.end_of.ensures ∙ c.in-Some.is in
    let n = lines-is _ _ _ _ _ here c.in_ok-read_line.ensures in
    let left = length-drop (end + 1) s in
    rw (take_all (length s - (end + 1)) (drop (end + 1) s) (omega (arith, left)))
    (record {
      room = omega (arith, n, left, c.loop-rest.invariant.room, (found s end here).0);
      same = c.loop-rest.invariant.same ∙ line_read _ _ _ _ _ here c.in_ok-read_line.ensures;
    })

pub returns-then-not-laid_out : goal.returns-then-not-laid_out
returns-then-not-laid_out c =
    read_to c.loop-rest.part
    (rw (none-left c.loop-rest.rest.now (search rules)) at c.loop-rest.invariant.same
    ∙ ends-early _ c.loop-rest.part (search rules))

pub returns : goal.returns
returns c =
    read_to c.loop-rest.part
    (rw (none-left c.loop-rest.rest.now (search rules)) at c.loop-rest.invariant.same
    ∙ ends _ c.loop-rest.part (search rules))
