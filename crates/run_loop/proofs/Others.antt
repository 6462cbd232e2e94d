-- The first record of another kind: with one more record it is what the code keeps of it. Assumes nothing.
use Prim.Native.Nat.{ℕ, zero, suc, ◌+◌, ◌≤◌, ◌<◌}
use native.Mathlib.Nat.{add-zero}
use native.Mathlib.Omega.{arith}
use native.Mathlib.Decide.{dec_lt}
use mathlib.Core.Path.{◌≡◌, refl, sym, ◌∙◌, ap}
use mathlib.Core.Bool.{Bool, true, false, cond, not, ◌||◌}
use mathlib.Core.List.{List, [], ◌∷◌, ◌++◌}
use Rattle.std.specs.Prelude.{Option, Some, None}
use borrow.Author.Tests.{ne_eqb, lt-ltb, le-ltb}
use lib.Dec.{eqb, ltb}
use lib.ListN.{length}
use Rattle.spec_format.specs.declared.Entry.{Entry}
use Rattle.spec_report.specs.Outcomes.{is_other, other_from}
use Rattle.run_judge.specs.Rulings.{other_after}

-- The first of two places, where there is one.
abbrev or_else : Option ℕ → Option ℕ → Option ℕ
or_else None q = q
or_else (Some n) q = Some n

-- A record is of another kind where its kind is over 1.
over-one : (e : Entry) → is_other e ≡ ltb 1 e.kind
over-one e = by e.kind (dec_lt 1 e.kind)
  where
    -- a kind that is at most 1
    at_most : (k : ℕ) → k ≤ 1 → not (eqb k 0 || eqb k 1) ≡ false
    at_most zero l = refl
    at_most (suc zero) l = refl
    at_most (suc (suc k)) l = absurd (omega arith)

    -- by whether it is over 1
    by : (k : ℕ) → Dec (1 < k) → not (eqb k 0 || eqb k 1) ≡ ltb 1 k
    by k (yes l) = rw (lt-ltb 1 k l, ne_eqb k 0 (λ e. omega arith), ne_eqb k 1 (λ e. omega arith))
    by k (no n) = at_most k (omega arith) ∙ sym (le-ltb 1 k (omega arith))

-- The first record of another kind, with one more record.
other-more : (k : ℕ) (es : List Entry) (e : Entry)
    → other_from k (es ++ (e ∷ [])) ≡ or_else (other_from k es) (cond (is_other e) (Some (k + length es)) None)
other-more k [] e = ap (λ n. cond (is_other e) (Some n) None) (sym (add-zero k))
other-more k (x ∷ es) e = by (is_other x) (other-more (k + 1) es e)
  where
    -- by whether the first record is one
    by : (b : Bool)
        → other_from (k + 1) (es ++ (e ∷ []))
        ≡ or_else (other_from (k + 1) es) (cond (is_other e) (Some (k + 1 + length es)) None)
        → cond b (Some k) (other_from (k + 1) (es ++ (e ∷ [])))
        ≡ or_else (cond b (Some k) (other_from (k + 1) es)) (cond (is_other e) (Some (k + length (x ∷ es))) None)
    by true more = refl
    by false more =
        let same : k + 1 + length es ≡ k + length (x ∷ es) = omega arith in
        more ∙ ap (λ n. or_else (other_from (k + 1) es) (cond (is_other e) (Some n) None)) same

-- What the code keeps of it.
pub other-kept : (es : List Entry) (e : Entry) (other : Option ℕ) (place : ℕ) → other ≡ other_from 1 es
    → place ≡ suc (length es)
    → other_after other place e.kind ≡ other_from 1 (es ++ (e ∷ []))
other-kept es e other place was here =
    by other
    ∙ ap (λ q. or_else q (cond (is_other e) (Some place) None)) was
    ∙ ap (λ n. or_else (other_from 1 es) (cond (is_other e) (Some n) None)) one_more
    ∙ sym (other-more 1 es e)
  where
    -- the place behind these records
    one_more : place ≡ 1 + length es
    one_more = omega arith

    -- by whether there was one
    by : (o : Option ℕ) → other_after o place e.kind ≡ or_else o (cond (is_other e) (Some place) None)
    by None = ap (λ b. cond b (Some place) None) (sym (over-one e))
    by (Some n) = refl
