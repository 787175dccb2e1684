-- A loop that replaces each element x of a list by f x, in order: after n turns the first n are replaced.
use Prim.Native.Nat.{ℕ, zero, suc, ◌+◌, ◌<◌}
use mathlib.Core.Path.{◌≡◌, refl, sym, ap, ◌∙◌}
use mathlib.Core.List.{List, [], ◌∷◌, map}
use lib.ListN.{length, get_or, set, get_or-map}
use lib.Seq.{set-get_or}
use native.Mathlib.Numerals.{add-one}
use native.Mathlib.Nat.{not-suc-le-zero, le_of_suc-le-suc}

module _ {A : Type 0} (f : A → A) where
  abbrev pub map_to : ℕ → List A → List A
  map_to zero xs = xs
  map_to (suc n) [] = []
  map_to (suc n) (x ∷ xs) = f x ∷ map_to n xs

  map_to_at : (n : ℕ) (xs : List A) (d : A) → get_or (map_to n xs) n d ≡ get_or xs n d
  map_to_at zero xs d = refl
  map_to_at (suc n) [] d = refl
  map_to_at (suc n) (x ∷ xs) d = map_to_at n xs d

  map_to_suc : (n : ℕ) (xs : List A) (d : A) → n < length xs → set (map_to n xs) n (f (get_or xs n d)) ≡ map_to (suc n) xs
  map_to_suc n [] d h = absurd (not-suc-le-zero h)
  map_to_suc zero (x ∷ xs) d h = refl
  map_to_suc (suc n) (x ∷ xs) d h = ap (λ (ys : List A). f x ∷ ys) (map_to_suc n xs d (le_of_suc-le-suc h))

  -- one turn: ys is the list so far, and v the new element at n
  pub map_to_more : (n : ℕ) (xs ys : List A) (d v : A) → n < length xs → ys ≡ map_to n xs → v ≡ f (get_or ys n d) → set ys n v ≡ map_to (n + 1) xs
  map_to_more n xs ys d v h e q = rw (q, e, map_to_at, add-one) (map_to_suc n xs d h)

  -- one turn that leaves the element at n as it is
  pub map_to_kept : (n : ℕ) (xs ys : List A) (d : A) → n < length xs → ys ≡ map_to n xs → f (get_or ys n d) ≡ get_or ys n d → ys ≡ map_to (n + 1) xs
  map_to_kept n xs ys d h e q = sym (set-get_or ys n d) ∙ map_to_more n xs ys d (get_or ys n d) h e (sym q)

  -- the element that a turn makes is that of the whole list's
  pub map_to_next : (n : ℕ) (xs ys : List A) (d v : A) → ys ≡ map_to n xs → v ≡ f (get_or ys n d) → v ≡ get_or (map f xs) n (f d)
  map_to_next n xs ys d v e q = rw (q, e, map_to_at, get_or-map f xs n d)
