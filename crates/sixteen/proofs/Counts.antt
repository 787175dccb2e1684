-- A loop that counts the elements of a list that pass a test: what is left to count from i on. And one that replaces each element on the way.
use Prim.Native.Nat.{ℕ, ◌+◌, ◌≤◌, ◌<◌}
use mathlib.Core.Path.{◌≡◌, refl, sym, ap, ◌∙◌}
use mathlib.Core.Bool.{Bool, true, false, cond}
use mathlib.Core.List.{List, map}
use native.Mathlib.Omega.{arith}
use native.Mathlib.Nat.{add_assoc}
use native.Mathlib.Numerals.{add-one}
use mir.Val.{bool_byte}
use lib.ListN.{length, get_or, drop, length-map}
use lib.Seq.{drop-cons}
use Rattle.answer.specs.Lists.{count}
use Rattle.sixteen.proofs.Mapped.{map_to, map_to_next}

bit : (b : Bool) → bool_byte b ≡ cond b 1 0
bit true = refl
bit false = refl

pub bit_le : (b : Bool) → bool_byte b ≤ 1
bit_le true = omega arith
bit_le false = omega arith

module _ {A : Type 0} (f : A → Bool) (xs : List A) (i : ℕ) where
  count_more : (d : A) {b : Bool} → i < length xs → b ≡ f (get_or xs i d) → count f (drop i xs) ≡ bool_byte b + count f (drop (i + 1) xs)
  count_more d {b} h e = rw (drop-cons xs i d h, bit b, ← e, add-one i)

-- n are counted before i, of those that f makes of xs; one turn, in which v is made at i, and counted where b says so
module _ {A : Type 0} (f : A → A) (g : A → Bool) (xs : List A) where
  abbrev pub CountedTo : ℕ → ℕ → Type 0
  CountedTo n i = count g (map f xs) ≡ n + count g (drop i (map f xs))

  pub mapped_more : (n i : ℕ) (ys : List A) (d v : A) {b : Bool} → i < length xs → CountedTo n i → ys ≡ map_to f i xs → v ≡ f (get_or ys i d) →
      b ≡ g v → CountedTo (n + bool_byte b) (i + 1)
  mapped_more n i ys d v {b} h k e q c =
      let l : i < length (map f xs) = omega (arith, length-map xs f) in
      k ∙ ap (λ x. n + x) (count_more g (map f xs) i (f d) l (c ∙ ap g (map_to_next f i xs ys d v e q))) ∙ sym (add_assoc n (bool_byte b) _)

  -- a turn that leaves the element at i as it is, and has none to count
  pub mapped_kept : (n i : ℕ) (ys : List A) (d : A) → i < length xs → CountedTo n i → ys ≡ map_to f i xs → f (get_or ys i d) ≡ get_or ys i d →
      g (get_or ys i d) ≡ false → CountedTo n (i + 1)
  mapped_kept n i ys d h k e q c = omega (arith, mapped_more n i ys d (get_or ys i d) h k e (sym q) (sym c))
