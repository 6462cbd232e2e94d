-- Lists by a test. Assumes nothing.
use Rattle.std.specs.Prelude.{Bool, cond, List, [], ◌∷◌}

-- The elements that pass a test, in order.
abbrev pub select : {A : Type 0} → (A → Bool) → List A → List A
select f [] = []
select f (x ∷ xs) = cond (f x) (x ∷ select f xs) (select f xs)

-- What comes before the first element that passes a test; all, where none does.
abbrev pub before_first : {A : Type 0} → (A → Bool) → List A → List A
before_first f [] = []
before_first f (x ∷ xs) = cond (f x) [] (x ∷ before_first f xs)

-- What comes after the first element that passes a test; nothing, where none does.
abbrev pub after_first : {A : Type 0} → (A → Bool) → List A → List A
after_first f [] = []
after_first f (x ∷ xs) = cond (f x) xs (after_first f xs)
