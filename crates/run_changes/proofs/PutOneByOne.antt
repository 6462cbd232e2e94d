-- Numbers put into the first places of a list one by one, and the replaced numbers. Assumes nothing.
use Rattle.std.proofs.Common.{ℕ, zero, suc, ◌≡◌, sym, ap, ◌∙◌, ◌+◌, ◌≤◌, ◌<◌, arith, cond, eqb}
use Rattle.std.proofs.Common.{List, [], ◌∷◌, ◌++◌, length, get_or, drop, eq-eqb, ne_eqb, append-nil}
use Rattle.std.proofs.Math.ListN.{set, length-append}
use Rattle.std.proofs.Math.Seq.{drop-cons, append_snoc, set-append_seam}
use native.Mathlib.Decide.{dec_lt}
use native.Mathlib.Numerals.{add-one}
use Rattle.spec_text.specs.FirstPlaces.{in_first_places}
use Rattle.spec_format.specs.Plan.{tabulate}
use Rattle.spec_format.proofs.Tabulated.{length-tabulate}
use Rattle.spec_machine.specs.Steps.{replaced}

-- One more number in the first places.
pub one_more :
    (ns list : List ℕ) (x : ℕ) → length ns < length list
    → set (in_first_places ns list) (length ns) x ≡ in_first_places (ns ++ (x ∷ [])) list
one_more ns list x h =
    ap (λ l. set (ns ++ l) (length ns) x) (drop-cons list (length ns) 0 h)
    ∙ set-append_seam ns (get_or list (length ns) 0) (drop (suc (length ns)) list) x
    ∙ rw (length-append ns (x ∷ []), add-one, append_snoc)

-- One more number of a tabulated list.
pub one-more-of :
    (row : List ℕ) (f : ℕ → ℕ) (i : ℕ) → i < length row
    → set (in_first_places (tabulate i f) row) i (f i) ≡ in_first_places (tabulate (i + 1) f) row
one-more-of row f i h =
    let room : length (tabulate i f) < length row = rw (length-tabulate i f) h in
    ap (λ k. set (in_first_places (tabulate i f) row) k (f i)) (sym (length-tabulate i f))
    ∙ one_more (tabulate i f) row (f i) room ∙ ap (λ k. in_first_places (tabulate k f) row) (sym (add-one i))

-- The numbers replaced among the first listed blocks of a row.
module _ (addr old : ℕ → ℕ) (dirty : List ℕ) where
  -- A block written adds its old number.
  pub replaced-written :
      (i : ℕ) → get_or dirty (addr i) 0 ≡ 2
      → replaced addr old dirty (i + 1) ≡ replaced addr old dirty i ++ (old i ∷ [])
  replaced-written i h = rw (add-one, eq-eqb (get_or dirty (addr i) 0) 2 h)

  -- A block not written adds none.
  pub replaced-unwritten :
      (i : ℕ) → (get_or dirty (addr i) 0 ≡ 2 → ⊥) → replaced addr old dirty (i + 1) ≡ replaced addr old dirty i
  replaced-unwritten i h =
      rw (add-one, ne_eqb (get_or dirty (addr i) 0) 2 h) (append-nil (replaced addr old dirty i))

  -- More listed blocks replace no fewer numbers.
  grows : (i n : ℕ) → i ≤ n → length (replaced addr old dirty i) ≤ length (replaced addr old dirty n)
  grows i zero h =
      let e : i ≡ zero = omega arith in
      rw e (omega arith)
  grows i (suc n) h = by (dec_lt i (suc n)) (grows i n)
    where
      by : Dec (i < suc n) → (i ≤ n → length (replaced addr old dirty i) ≤ length (replaced addr old dirty n))
          → length (replaced addr old dirty i) ≤ length (replaced addr old dirty (suc n))
      by (yes l) below =
          rw (length-append (replaced addr old dirty n) (cond (eqb (get_or dirty (addr n) 0) 2) (old n ∷ []) []))
          (omega (arith, below (omega arith)))
      by (no l) below =
          let e : i ≡ suc n = omega arith in
          rw e (omega arith)

  -- Where all the numbers have room, a block written has a place for its own.
  pub has-place :
      (i n : ℕ) → i < n → get_or dirty (addr i) 0 ≡ 2
      → length (replaced addr old dirty i) < length (replaced addr old dirty n)
  has-place i n h e =
      let one = ap length (replaced-written i e) ∙ length-append (replaced addr old dirty i) (old i ∷ []) in
      omega (arith, one, grows (i + 1) n (omega arith))
