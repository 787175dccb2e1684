-- Tests over lists, listed numbers, and what an answer by 'the first that applies' has passed.
use Prim.Native.Nat.{ℕ}
use mathlib.Core.Path.{◌≡◌, refl, sym, ap, ◌∙◌}
use mathlib.Core.Bool.{Bool, true, false, cond, ◌&&◌, ◌||◌, or-true, or-false, or_assoc}
use mathlib.Core.List.{List, [], ◌∷◌, ◌++◌, map}
use native.Mathlib.Omega.{arith}
use borrow.Author.Tests.{eqb-true, eq-eqb}
use lib.Dec.{eqb}
use Rattle.answer.specs.Answer.{Answer, refused, given, Row, first_of, and_then}
use Rattle.answer.specs.Lists.{some, member}
use Rattle.answer.proofs.Cases.{both_true, both_false}

pub no_way : {X : Type 0} → true ≡ false → X
no_way e = absurd (let z : ◌≡◌ {A = ℕ} 0 1 = cc in omega arith)

-- ── every element ──────────────────────────────────────────────────────────────────────────────────────────────────
abbrev pub All : {A : Type 0} → (A → Type 0) → List A → Type 0
All P [] = Unit {0}
All P (x ∷ xs) = P x × All P xs

pub all_of : {A : Type 0} {P : A → Type 0} → ((x : A) → P x) → (xs : List A) → All P xs
all_of h [] = tt
all_of h (x ∷ xs) = (h x, all_of h xs)

pub all_map : {A : Type 0} (P Q : A → Type 0) → ((x : A) → P x → Q x) → (xs : List A) → All P xs → All Q xs
all_map P Q h [] a = tt
all_map P Q h (x ∷ xs) a = (h x a.0, all_map P Q h xs a.1)

pub all_append : {A : Type 0} (P : A → Type 0) (xs ys : List A) → All P xs → All P ys → All P (xs ++ ys)
all_append P [] ys a b = b
all_append P (x ∷ xs) ys a b = (a.0, all_append P xs ys a.1 b)

-- a test that antt computes, and what follows from it
abbrev pub every : {A : Type 0} → (A → Bool) → List A → Bool
every f [] = true
every f (x ∷ xs) = f x && every f xs

pub tested : {A : Type 0} {P : A → Type 0} (f : A → Bool) → ((x : A) → f x ≡ true → P x) → (xs : List A) → every f xs ≡ true → All P xs
tested f h [] e = tt
tested f h (x ∷ xs) e = (h x (both_true (f x) (every f xs) e).0, tested f h xs (both_true (f x) (every f xs) e).1)

pub map_same : {A B : Type 0} (f g : A → B) (xs : List A) → All (λ x. f x ≡ g x) xs → map f xs ≡ map g xs
map_same f g [] a = refl
map_same f g (x ∷ xs) a = rw (a.0, map_same f g xs a.1)

pub map_all : {A B : Type 0} (f g : A → B) (xs : List A) → map f xs ≡ map g xs → All (λ x. f x ≡ g x) xs
map_all f g [] e = tt
map_all f g (x ∷ xs) e = (cc, map_all f g xs (cc))

-- ── listed numbers ─────────────────────────────────────────────────────────────────────────────────────────────────
pub listed : (P : ℕ → Type 0) (is : List ℕ) → All P is → (i : ℕ) → member i is ≡ true → P i
listed P [] a i m = no_way (sym m)
listed P (j ∷ is) a i m = go (eqb i j) refl m (listed P is a.1 i)
  where
    go : (t : Bool) → eqb i j ≡ t → (t || member i is) ≡ true → (member i is ≡ true → P i) → P i
    go true e h k = rw (eqb-true i j e) a.0
    go false e h k = k h

pub unlisted : {P : ℕ → Type 0} (is : List ℕ) → ((i : ℕ) → member i is ≡ true → P i) → All P is
unlisted [] h = tt
unlisted (j ∷ is) h = (h j (rw (eq-eqb j j refl)), unlisted is (λ i m. h i (rw m (or-true (eqb i j)))))

-- a test that antt computes over a list passes at each listed number
pub each_listed : (f : ℕ → Bool) (is : List ℕ) → every f is ≡ true → (i : ℕ) → member i is ≡ true → f i ≡ true
each_listed f is e = listed (λ i. f i ≡ true) is (tested f (λ i t. t) is e)

-- ── some element ───────────────────────────────────────────────────────────────────────────────────────────────────
pub some_same : {A : Type 0} (f g : A → Bool) (xs : List A) → All (λ x. f x ≡ g x) xs → some f xs ≡ some g xs
some_same f g [] a = refl
some_same f g (x ∷ xs) a = rw (a.0, some_same f g xs a.1)

pub some_none : {A : Type 0} (f : A → Bool) (xs : List A) → some f xs ≡ false → All (λ x. f x ≡ false) xs
some_none f [] e = tt
some_none f (x ∷ xs) e = let b = both_false (f x) (some f xs) e in (b.0, some_none f xs b.1)

pub none_some : {A : Type 0} (f : A → Bool) (xs : List A) → All (λ x. f x ≡ false) xs → some f xs ≡ false
none_some f [] a = refl
none_some f (x ∷ xs) a = rw a.0 (none_some f xs a.1)

pub some_one : (f : ℕ → Bool) (is : List ℕ) (i : ℕ) → member i is ≡ true → f i ≡ true → some f is ≡ true
some_one f [] i m e = no_way (sym m)
some_one f (j ∷ is) i m e = go (eqb i j) refl m (some_one f is i)
  where
    go : (s : Bool) → eqb i j ≡ s → (s || member i is) ≡ true → (member i is ≡ true → f i ≡ true → some f is ≡ true) → f j || some f is ≡ true
    go true q h k = let g : f j ≡ true = ap f (sym (eqb-true i j q)) ∙ e in rw g
    go false q h k = rw (k h e) (or-true (f j))

pub some_more : {A : Type 0} (f : A → Bool) (xs : List A) (y : A) → some f (xs ++ (y ∷ [])) ≡ some f xs || f y
some_more f [] y = or-false (f y)
some_more f (x ∷ xs) y = rw (some_more f xs y) (sym (or_assoc (f x) (some f xs) (f y)))

-- ── the first that applies ─────────────────────────────────────────────────────────────────────────────────────────
-- none applies
abbrev pub Passed : List Row → Type 0
Passed rows = All (λ row. row.0 ≡ false) rows

pub passed : {A : Type 0} (a : A) (rows : List Row) → Passed rows → first_of rows a ≡ given a
passed a [] t = refl
passed a (row ∷ rows) t = rw t.0 (passed a rows t.1)

pub accepted : {A : Type 0} (a b : A) (rows : List Row) → first_of rows a ≡ given b → Passed rows × (a ≡ b)
accepted a b [] e = (tt, cc)
accepted a b (row ∷ rows) e = go row.0 refl e (accepted a b rows)
  where
    go : (t : Bool) → row.0 ≡ t → cond t (refused row.1) (first_of rows a) ≡ given b → (first_of rows a ≡ given b → Passed rows × (a ≡ b)) →
        ((row.0 ≡ false) × Passed rows) × (a ≡ b)
    go true q h k = absurd (let z : ◌≡◌ {A = ℕ} 0 1 = cc in omega arith)
    go false q h k = let r = k h in ((q, r.0), r.1)

-- what holds of each row's refusal, and where no row applies of what is given, holds of the answer
pub first_holds : {A : Type 0} (P : Answer A → Type 0) (a : A) (rows : List Row) →
    All (λ row. P (refused row.1)) rows → (Passed rows → P (given a)) → P (first_of rows a)
first_holds P a [] h g = g tt
first_holds P a (row ∷ rows) h g = go row.0 refl (λ e. first_holds P a rows h.1 (λ none. g (e, none)))
  where
    go : (b : Bool) → row.0 ≡ b → (row.0 ≡ false → P (first_of rows a)) → P (cond b (refused row.1) (first_of rows a))
    go true e next = h.0
    go false e next = next e

-- what is given, changed by f
pub first_then : {A B : Type 0} (f : A → B) (a : A) (rows : List Row) → and_then (first_of rows a) (λ x. given (f x)) ≡ first_of rows (f a)
first_then f a [] = refl
first_then f a (row ∷ rows) = go row.0 (first_then f a rows)
  where
    go : (t : Bool) → and_then (first_of rows a) (λ x. given (f x)) ≡ first_of rows (f a) →
        and_then (cond t (refused row.1) (first_of rows a)) (λ x. given (f x)) ≡ cond t (refused row.1) (first_of rows (f a))
    go true k = refl
    go false k = k
