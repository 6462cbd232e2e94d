-- What is printed of an outcome that was written out, from what the code has: the buffer has room, so that 15 is not
-- met. Assumes nothing.
use Rattle.std.proofs.Common.{◌≡◌, refl, sym, ap, subst, ◌∙◌, ℕ, ◌≤◌, ◌<◌, List, length, arith}
use native.Mathlib.Nat.{zero-add}
use borrow.Author.Tests.{le-leb}
use Rattle.spec_text.specs.FirstPlaces.{in_first_places}
use Rattle.io.specs.Counts.{IsPrefixLen}
use Rattle.spec_report.specs.Report.{report_end}
use Rattle.spec_report.specs.Outcomes.{Outcome, refused, written, end_with, handed, left, printed}
use Rattle.report_bytes.specs.Writes.{Writes}
use Rattle.report_bytes.proofs.Writes.{put_whole, counts}
use Rattle.report_ending.specs.declared.WrittenEnd.{WrittenEnd}
use Rattle.public_printing.specs.Printing.{answered, end_of_outcome, outcome_answer, Finished}

-- With room for all that is printed nothing ends with 15,
ended_so : (o : Outcome) (before : List ℕ) → length (printed o) ≤ length before → end_with o before ≡ end_of_outcome o
unfolding printed
ended_so (refused e) before short = refl
ended_so (written e bytes) before short = rw (le-leb (length bytes) (length before) short)

-- what is handed back, if anything is, is what is printed,
handed-so : (o : Outcome) (before : List ℕ) → length (printed o) ≤ length before → 0 < length (handed o before)
    → handed o before ≡ printed o
unfolding printed
handed-so (refused e) before short some = absurd (omega (arith, some))
handed-so (written e bytes) before short some = rw (le-leb (length bytes) (length before) short)

-- and if nothing is, the last line alone is printed.
last-so : (o : Outcome) (before : List ℕ) → length (printed o) ≤ length before → 0 < length (printed o)
    → length (handed o before) ≤ 0
    → (left o before ≡ before) × (printed o ≡ report_end (end_of_outcome o))
unfolding printed left
last-so (refused e) before short some none = (refl, refl)
last-so (written e bytes) before short some none =
    absurd (omega (arith, some, rw (le-leb (length bytes) (length before) short) at none))

-- An outcome that was written out into a buffer with room for what is printed of it.
module _ (o : Outcome) {before after : List ℕ} {r : WrittenEnd} (f : Finished o before r after) where
  -- Its end is the outcome's.
  end_is : r.end ≡ end_of_outcome o
  end_is = f.out.end_is ∙ ended_so o before f.can.short

  -- Where bytes are written, they are what is printed.
  pub bytes-printed : 0 < r.length
      → (answered r.end (handed o before) ≡ outcome_answer o)
      × (IsPrefixLen r.length after × (after ≡ in_first_places (printed o) before))
  unfolding left
  bytes-printed some =
      let so : handed o before ≡ printed o =
      handed-so o before f.can.short (omega (arith, some, f.out.length_is)) in
      let first = f.out.left_is ∙ ap (λ bs. in_first_places bs before) so in (
        ap (λ e. answered e (handed o before)) end_is ∙ ap (answered (end_of_outcome o)) so,
        (counts (printed o) before (f.out.length_is ∙ ap length so) first, first),
      )

  -- Where none are, the last line is.
  pub last-printed : r.length ≤ 0 → {next : ℕ} {after' : List ℕ}
      → Writes (report_end r.end) 40 0 after next after'
      → (answered r.end (report_end r.end) ≡ outcome_answer o)
      × ((next ≡ length (report_end r.end))
      × (IsPrefixLen next after' × (after' ≡ in_first_places (printed o) before)))
  last-printed none {next} {after'} v =
      let so = last-so o before f.can.short f.can.some (omega (arith, none, f.out.length_is)) in
      let same : after ≡ before = f.out.left_is ∙ so.0 in
      let line : report_end r.end ≡ printed o = ap report_end end_is ∙ sym so.1 in
      let v' : Writes (printed o) 40 0 before next after' =
      subst (λ l. Writes l 40 0 before next after') line
      (subst (λ b. Writes (report_end r.end) 40 0 b next after') same v)
      in
      let first = v'.after_is ∙ put_whole before (printed o) f.can.short in (
        ap (λ e. answered e (report_end r.end)) end_is ∙ ap (answered (end_of_outcome o)) line,
        (v.next_is ∙ zero-add _, (counts (printed o) before (v'.next_is ∙ zero-add _) first, first)),
      )
