-- Lists read by their places: a stored element, a filled list, a tabulated one, a copied part, and a list that is cut
-- into blocks of equal length. Assumes nothing.
--
-- A store into a list is a change of the function that reads it, at one place. In a list of blocks word i of block b
-- stands at b times the length plus i, and no other word does: so a word stored or a block copied changes one block.
use Prim.Native.Nat.{ℕ, zero, suc, ◌+◌, ◌*◌, ◌-◌, ◌≤◌, ◌<◌}
use mathlib.Core.Path.{◌≡◌, refl, sym, ◌∙◌, ap, fun_ext}
use mathlib.Core.Logic.{◌≢◌, ◌⊎◌, inl, inr}
use mathlib.Core.Bool.{cond}
use mathlib.Core.List.{List, ◌++◌, [], ◌∷◌}
use native.Mathlib.Nat.{mul-le-mul_right}
use native.Mathlib.Decide.{dec_lt}
use native.Mathlib.Omega.{arith}
use lib.Dec.{ltb}
use lib.ListN.{length, get_or, set, take, drop, replicate, length-drop, length-append}
use lib.ListN.{get_or-append, get_or-eq_default}
use lib.Seq.{
  paste,
  drop-nil,
  length-take-le,
  get_or-set_same,
  get_or-set_other,
  get_or-append-add,
  get_or-take,
  get_or-drop,
  take-paste,
  drop-paste,
}
use borrow.Author.Tests.{ltb-true, ltb-false, lt-ltb}
use Rattle.spec_text.proofs.Cases.{by-test}
use Rattle.spec_text.specs.FirstPlaces.{in_first_places}
use Rattle.spec_format.specs.Plan.{tabulate}
use Rattle.spec_format.proofs.Tabulated.{length-tabulate, get_d_tabulate}
use Rattle.spec_machine.proofs.ChangedAt.{upd, upd-elim}

-- A list with an element stored is the function that reads it, changed at that place.
pub get_d_set {ℓ} :
    {A : Type ℓ} (l : List A) (i : ℕ) (a d : A) → i < length l
    → (λ (k : ℕ). get_or (set l i a) k d) ≡ upd (λ k. get_or l k d) i a
get_d_set l i a d h =
    fun_ext
    (λ k.
    sym
    (upd-elim (λ x. x ≡ get_or (set l i a) k d) (λ k. get_or l k d) i a k (λ e. rw e (sym (get_or-set_same l i a d h)))
    (λ n. sym (get_or-set_other l i k a d n))))

-- The same where only the first n places are read from the list, and the others from a function.
pub get_d-set-below {ℓ} :
    {A : Type ℓ} (n : ℕ) (l : List A) (d : A) (f : ℕ → A) (i : ℕ) (a : A) → i < n → i < length l
    → (λ (k : ℕ). cond (ltb k n) (get_or (set l i a) k d) (f k)) ≡ upd (λ k. cond (ltb k n) (get_or l k d) (f k)) i a
get_d-set-below n l d f i a m h =
    fun_ext
    (λ k.
    sym
    (upd-elim (λ x. x ≡ cond (ltb k n) (get_or (set l i a) k d) (f k)) (λ k. cond (ltb k n) (get_or l k d) (f k)) i a k
    (λ e. rw (e, lt-ltb i n m, get_or-set_same l i a d h))
    (λ c. rw (get_or-set_other l i k a d c))))

-- A list of one element only, read with that element past its end, is that element everywhere.
pub get_d-all {ℓ} : {A : Type ℓ} (n k : ℕ) (a : A) → get_or (replicate n a) k a ≡ a
get_d-all zero k a = refl
get_d-all (suc n) zero a = refl
get_d-all (suc n) (suc k) a = get_d-all n k a

-- What stands at a place that a list has does not depend on what is read past its end.
pub get_d_any {ℓ} : {A : Type ℓ} (l : List A) (i : ℕ) (d e : A) → i < length l → get_or l i d ≡ get_or l i e
get_d_any [] i d e h = absurd (omega arith)
get_d_any (x ∷ l) zero d e h = refl
get_d_any (x ∷ l) (suc i) d e h = get_d_any l i d e (omega arith)

-- Numbers that take the first places of a list leave its length, where it has so many.
pub length-first-places :
    (ns l : List ℕ) → length ns ≤ length l → length (in_first_places ns l) ≡ length l
length-first-places ns l h =
    length-append ns (drop (length ns) l) ∙ rw (length-drop (length ns) l) (omega arith)

-- Numbers in the first places of a list, read at a place: the number there, else what the list has.
pub first-places-at :
    (ns list : List ℕ) (i : ℕ) → get_or (in_first_places ns list) i 0 ≡ get_or ns i (get_or list i 0)
first-places-at [] list i = refl
first-places-at (n ∷ ns) list zero = refl
first-places-at (n ∷ ns) [] (suc i) =
    ap (λ (l : List ℕ). get_or (ns ++ l) i 0) (sym (drop-nil (length ns))) ∙ first-places-at ns [] i
first-places-at (n ∷ ns) (x ∷ list) (suc i) = first-places-at ns list i

-- The same of tabulated numbers, at every place.
pub first-places :
    (n : ℕ) (f : ℕ → ℕ) (l : List ℕ)
    → ◌≡◌ {A = ℕ → ℕ} (λ i. get_or (in_first_places (tabulate n f) l) i 0) (λ i. cond (ltb i n) (f i) (get_or l i 0))
first-places n f l =
    fun_ext
    (λ i.
    first-places-at (tabulate n f) l i
    ∙ by-test (ltb i n) (λ t. rw t (get_d_tabulate n f (get_or l i 0) i (ltb-true i n t)))
    (λ t. let past = ltb-false i n t in
    rw t (get_or-eq_default (tabulate n f) (get_or l i 0) (omega (arith, length-tabulate n f)))))

module _ {ℓ} {A : Type ℓ} (l : List A) (at : ℕ) (part : List A) (n : ℕ) (d : A) where
  -- A list with a part of n elements copied into it at a place, read inside that part.
  pub paste-inside :
      at ≤ length l → n ≤ length part → (i : ℕ) → i < n → get_or (paste l at part n) (at + i) d ≡ get_or part i d
  paste-inside a b i h =
      sym (get_or-take (at + n) (paste l at part n) (at + i) d (omega arith))
      ∙ ap (λ x. get_or x (at + i) d) (take-paste l at part n a b)
      ∙ ap (λ k. get_or (take at l ++ take n part) (k + i) d) (sym (length-take-le at l a))
      ∙ get_or-append-add (take at l) (take n part) i d
      ∙ get_or-take n part i d h

  -- The same, read before and behind that part.
  pub paste-outside :
      at ≤ length l → n ≤ length part → (k : ℕ) → (k < at) ⊎ (at + n ≤ k) → get_or (paste l at part n) k d
      ≡ get_or l k d
  paste-outside a b k (inl h) =
      sym (get_or-take (at + n) (paste l at part n) k d (omega arith))
      ∙ ap (λ x. get_or x k d) (take-paste l at part n a b)
      ∙ get_or-append (take at l) (take n part) d k (rw (length-take-le at l a) h)
      ∙ get_or-take at l k d h
  paste-outside a b k (inr h) =
      ap (λ x. get_or (paste l at part n) x d) (omega arith)
      ∙ sym (get_or-drop (at + n) (paste l at part n) (k - (at + n)) d)
      ∙ ap (λ x. get_or x (k - (at + n)) d) (drop-paste l at part n a b)
      ∙ get_or-drop (at + n) l (k - (at + n)) d
      ∙ ap (λ x. get_or l x d) (omega arith)

-- A place has one block and one word in it.
pub digits : (s b c i j : ℕ) → i < s → j < s → b * s + i ≡ c * s + j → (b ≡ c) × (i ≡ j)
digits s b c i j hi hj e = go (dec_lt b c) (dec_lt c b)
  where
    go : Dec (b < c) → Dec (c < b) → (b ≡ c) × (i ≡ j)
    go (yes l) r = let z : suc b * s ≤ c * s = mul-le-mul_right s l in absurd (omega arith)
    go (no l) (yes r) = let z : suc c * s ≤ b * s = mul-le-mul_right s r in absurd (omega arith)
    go (no l) (no r) =
        let z : b ≡ c = omega arith in let y : b * s ≡ c * s = ap (λ x. x * s) z in (z, omega arith)

-- A list of blocks of s words, by block and word; behind its last word a block has 0.
abbrev pub in_blocks : ℕ → List ℕ → ℕ → ℕ → ℕ
in_blocks s l b i = cond (ltb i s) (get_or l (b * s + i) 0) 0

-- Two blocks agree at a place where their words do, if it is a word's.
same_word :
    (s : ℕ) (l m : List ℕ) (b c i : ℕ) → (i < s → get_or l (b * s + i) 0 ≡ get_or m (c * s + i) 0)
    → in_blocks s l b i ≡ in_blocks s m c i
same_word s l m b c i h = by-test (ltb i s) (λ t. rw t (h (ltb-true i s t))) (λ t. rw t)

-- A word stored changes that word of that block.
pub word-stored :
    (s : ℕ) (l : List ℕ) (b i x : ℕ) → i < s → b * s + i < length l
    → in_blocks s (set l (b * s + i) x) ≡ upd (in_blocks s l) b (upd (in_blocks s l b) i x)
word-stored s l b i x hi hl = fun_ext (λ c. fun_ext (λ j. sym (word c j)))
  where
    other : (c j : ℕ) → (j < s → c * s + j ≢ b * s + i)
        → in_blocks s l c j ≡ in_blocks s (set l (b * s + i) x) c j
    other c j n =
        same_word s l (set l (b * s + i) x) c c j (λ h. sym (get_or-set_other l (b * s + i) (c * s + j) x 0 (n h)))

    word : (c j : ℕ) → upd (in_blocks s l) b (upd (in_blocks s l b) i x) c j ≡ in_blocks s (set l (b * s + i) x) c j
    word c j =
        upd-elim (λ g. g j ≡ in_blocks s (set l (b * s + i) x) c j) (in_blocks s l) b (upd (in_blocks s l b) i x) c
        (λ e.
        upd-elim (λ y. y ≡ in_blocks s (set l (b * s + i) x) c j) (in_blocks s l b) i x j
        (λ f. rw (e, f, lt-ltb i s hi, get_or-set_same l (b * s + i) x 0 hl))
        (λ n. rw e (other b j (λ h z. n (digits s b b j i h hi z).1))))
        (λ n. other c j (λ h z. n (digits s c b j i h hi z).0))

-- A block copied into another changes that one.
pub block-copied :
    (s : ℕ) (l : List ℕ) (from to : ℕ) → from * s + s ≤ length l → to * s + s ≤ length l
    → in_blocks s (paste l (to * s) (drop (from * s) l) s) ≡ upd (in_blocks s l) to (in_blocks s l from)
block-copied s l from to hf ht = fun_ext (λ c. fun_ext (λ j. sym (word c j)))
  where
    long : s ≤ length (drop (from * s) l)
    long = rw (length-drop (from * s) l) (omega arith)

    copied : (j : ℕ) → j < s
        → get_or l (from * s + j) 0 ≡ get_or (paste l (to * s) (drop (from * s) l) s) (to * s + j) 0
    copied j h =
        sym
        (paste-inside l (to * s) (drop (from * s) l) s 0 (omega arith) long j h ∙ get_or-drop (from * s) l j 0)

    apart : (c j : ℕ) → c ≢ to → j < s → (c * s + j < to * s) ⊎ (to * s + s ≤ c * s + j)
    apart c j n h = go (dec_lt c to)
      where
        go : Dec (c < to) → (c * s + j < to * s) ⊎ (to * s + s ≤ c * s + j)
        go (yes m) = let z : suc c * s ≤ to * s = mul-le-mul_right s m in inl (omega arith)
        go (no m) =
            let y : to < c = omega arith in let z : suc to * s ≤ c * s = mul-le-mul_right s y in inr (omega arith)

    word : (c j : ℕ)
        → upd (in_blocks s l) to (in_blocks s l from) c j
        ≡ in_blocks s (paste l (to * s) (drop (from * s) l) s) c j
    word c j =
        upd-elim (λ g. g j ≡ in_blocks s (paste l (to * s) (drop (from * s) l) s) c j) (in_blocks s l) to
        (in_blocks s l from)
        c
        (λ e. rw e (same_word s l (paste l (to * s) (drop (from * s) l) s) from to j (copied j)))
        (λ n.
        same_word s l (paste l (to * s) (drop (from * s) l) s) c c j
        (λ h.
        sym
        (paste-outside l (to * s) (drop (from * s) l) s 0 (omega arith) long (c * s + j) (apart c j n h))))
