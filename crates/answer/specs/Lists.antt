-- Words about the elements of a list.
use Rattle.std.specs.Prelude.{ℕ, ◌+◌, Bool, cond, List, [], ◌∷◌, ◌++◌, ◌||◌, false, eqb, take, replicate}
use Rattle.std.specs.List.{list_any}

-- some element passes the test
abbrev pub some : {A : Type 0} → (A → Bool) → List A → Bool
some f xs = list_any f xs

-- a number is listed
abbrev pub member : ℕ → List ℕ → Bool
member i [] = false
member i (j ∷ js) = eqb i j || member i js

-- how many pass a test, for 'the count of live timers' and 'how many of its sixteen bytes .. were mended'
abbrev pub count : {A : Type 0} → (A → Bool) → List A → ℕ
count f [] = 0
count f (x ∷ xs) = cond (f x) 1 0 + count f xs

-- pieces put together
abbrev pub joined : List (List ℕ) → List ℕ
joined [] = []
joined (p ∷ ps) = p ++ joined ps

-- the first n of some elements, and others where there are fewer
abbrev pub filled : {A : Type 0} → ℕ → A → List A → List A
filled n z xs = take n (xs ++ replicate n z)
