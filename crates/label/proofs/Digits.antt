-- A number and its bits.
use Prim.Native.Nat.{ℕ, zero, suc, ◌+◌, ◌*◌, ◌/◌, ◌%◌, ◌^◌, ◌<◌}
use mathlib.Core.Path.{◌≡◌, refl, sym, ap, ap₂, ◌∙◌}
use mathlib.Core.List.{List, [], ◌∷◌, ◌++◌, map}
use native.Mathlib.Omega.{arith}
use native.Mathlib.Nat.{pow-succ', add-mul, mul_assoc, mod-eq_of_lt}
use native.Mathlib.Numerals.{one-add}
use lib.Arith.{digits_lt}
use lib.ListN.{length}
use lib.Pow.{mod-pow-add, shr-shr, high, low}
use Rattle.label.specs.Layout.{number_from, bits}

-- ── from a number to its bits ──────────────────────────────────────────────────────────────────────────────────────
digit : (k m n : ℕ) → let b = n / 2 ^ k % 2 in (m * 2 + b) * 2 ^ k + n % 2 ^ k ≡ m * 2 ^ suc k + n % 2 ^ suc k
digit k m n =
    let b = n / 2 ^ k % 2 in
    let a = add-mul (m * 2) b (2 ^ k) in
    let c = mul_assoc m 2 (2 ^ k) in
    let d = ap (λ (x : ℕ). m * x) (pow-succ' 2 k) in
    let e : n % 2 ^ suc k ≡ b * 2 ^ k + n % 2 ^ k = ap (λ (x : ℕ). n % 2 ^ x) (sym (one-add k)) ∙ mod-pow-add n 1 k in
    omega arith

-- the number of the k lowest bits of n, after m
pub of_digits : (k m n : ℕ) → number_from m (bits k n) ≡ m * 2 ^ k + n % 2 ^ k
of_digits zero m n = omega arith
of_digits (suc k) m n = of_digits k (m * 2 + n / 2 ^ k % 2) n ∙ digit k m n

-- the bits of n from its bit j on, k of them
abbrev bits_from : ℕ → ℕ → ℕ → List ℕ
bits_from j zero n = []
bits_from j (suc k) n = n / 2 ^ (j + k) % 2 ∷ bits_from j k n

shifted : (j k n : ℕ) → bits k (n / 2 ^ j) ≡ bits_from j k n
shifted j zero n = refl
shifted j (suc k) n = ap₂ (λ (x : ℕ) (xs : List ℕ). x % 2 ∷ xs) (shr-shr n j k) (shifted j k n)

-- such bits after others
pub and_then : {m a : ℕ} → m ≡ a → (j k n : ℕ) → number_from m (bits_from j k n) ≡ a * 2 ^ k + n / 2 ^ j % 2 ^ k
and_then {a = a} e j k n = ap₂ number_from e (sym (shifted j k n)) ∙ of_digits k a (n / 2 ^ j)

pub and_low : {m a : ℕ} → m ≡ a → (k n : ℕ) → number_from m (bits k n) ≡ a * 2 ^ k + n % 2 ^ k
and_low {a = a} e k n = ap (λ (x : ℕ). number_from x (bits k n)) e ∙ of_digits k a n

-- a number of k bits is the number of these
pub number_of_bits : (k n : ℕ) → n < 2 ^ k → number_from 0 (bits k n) ≡ n
number_of_bits k n h = let e = mod-eq_of_lt h in of_digits k 0 n ∙ omega arith

-- ── from bits to their number ──────────────────────────────────────────────────────────────────────────────────────
module _ {A : Type 0} (f : A → ℕ) where
  -- what bits add to the number before them
  pub after : (xs : List A) (m : ℕ) → number_from m (map f xs) ≡ m * 2 ^ length xs + number_from 0 (map f xs)
  after [] m = omega arith
  after (x ∷ xs) m =
      let k = length xs in
      let p = after xs (m * 2 + f x) in
      let q = after xs (0 * 2 + f x) in
      let a = add-mul (m * 2) (f x) (2 ^ k) in
      let b = add-mul (0 * 2) (f x) (2 ^ k) in
      let c = mul_assoc m 2 (2 ^ k) in
      let d = ap (λ (x : ℕ). m * x) (pow-succ' 2 k) in
      omega arith

  pub in_turn : (xs ys : List A) (m : ℕ) → number_from m (map f (xs ++ ys)) ≡ number_from (number_from m (map f xs)) (map f ys)
  in_turn [] ys m = refl
  in_turn (x ∷ xs) ys m = in_turn xs ys (m * 2 + f x)

  module _ (h : (x : A) → f x < 2) where
    pub number_small : (xs : List A) → number_from 0 (map f xs) < 2 ^ length xs
    number_small [] = omega arith
    number_small (x ∷ xs) =
        let e = after xs (0 * 2 + f x) in
        let d = pow-succ' 2 (length xs) in
        let b = add-mul (0 * 2) (f x) (2 ^ length xs) in
        let l : f x * 2 ^ length xs + number_from 0 (map f xs) < 2 * 2 ^ length xs = digits_lt (h x) (number_small xs) in
        omega arith

    -- past the bits ys
    past : (ys : List A) (m : ℕ) → number_from m (map f ys) / 2 ^ length ys ≡ m
    past ys m = ap (λ (n : ℕ). n / 2 ^ length ys) (after ys m) ∙ high m (length ys) (number_small ys)

    -- bits are those of their number
    pub bits_of_number : (xs : List A) (m : ℕ) → bits (length xs) (number_from m (map f xs)) ≡ map f xs
    bits_of_number [] m = refl
    bits_of_number (x ∷ xs) m =
        let p = past xs (m * 2 + f x) in
        let l = h x in
        let g : number_from (m * 2 + f x) (map f xs) / 2 ^ length xs % 2 ≡ f x = omega arith in
        ap₂ (λ (y : ℕ) (ys : List ℕ). y ∷ ys) g (bits_of_number xs (m * 2 + f x))

    -- the bits in the midst of others have the number that is left of theirs between the two
    pub midst : (xs ys zs : List A) → number_from 0 (map f (xs ++ (ys ++ zs))) / 2 ^ length zs % 2 ^ length ys ≡ number_from 0 (map f ys)
    midst xs ys zs =
        let m = number_from 0 (map f xs) in
        ap (λ (n : ℕ). n / 2 ^ length zs % 2 ^ length ys) (in_turn xs (ys ++ zs) 0 ∙ in_turn ys zs m)
        ∙ ap (λ (n : ℕ). n % 2 ^ length ys) (past zs (number_from m (map f ys)) ∙ after ys m)
        ∙ low m (length ys) (number_small ys)
