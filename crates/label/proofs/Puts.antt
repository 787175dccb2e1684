-- Elements put into a list: what stands there afterwards, and loops that store or test one after the other.
use Prim.Native.Nat.{ℕ, zero, suc, ◌+◌, ◌-◌, ◌≤◌, ◌<◌}
use mathlib.Core.Path.{◌≡◌, refl, sym, ap, ap₂, ◌∙◌}
use mathlib.Core.Bool.{Bool, true, false, cond, ◌||◌, or-false}
use mathlib.Core.List.{List, [], ◌∷◌, ◌++◌}
use native.Mathlib.Omega.{arith}
use borrow.Author.Tests.{eqb-true, eqb-false}
use lib.Dec.{eqb}
use lib.ListN.{length, get_or, set, length-set}
use lib.Seq.{get_or-set_same, get_or-set_other, lt-length-set}
use Rattle.answer.proofs.Cases.{both_false}
use Rattle.answer.specs.Lists.{some, member, count}
use Rattle.label.specs.Packet.{put}
use Rattle.answer.proofs.Every.{All, no_way, some_more}
use Rattle.answer.proofs.Counts.{bit_le, count_more}

-- ── what stands there ──────────────────────────────────────────────────────────────────────────────────────────────
pub put_length : (f : ℕ → ℕ) (is p : List ℕ) → length (put f is p) ≡ length p
put_length f [] p = refl
put_length f (j ∷ is) p = put_length f is (set p j (f j)) ∙ length-set p j (f j)

-- an element that is not listed is as it was, also past the end
pub put_other : (f : ℕ → ℕ) (is p : List ℕ) (i : ℕ) → member i is ≡ false → get_or (put f is p) i 0 ≡ get_or p i 0
put_other f [] p i m = refl
put_other f (j ∷ is) p i m =
    put_other f is (set p j (f j)) i (both_false (eqb i j) (member i is) m).1
    ∙ get_or-set_other p j i (f j) 0 (eqb-false i j (both_false (eqb i j) (member i is) m).0)

-- and one that is listed is the new one
pub put_in : (f : ℕ → ℕ) (is p : List ℕ) (i : ℕ) → member i is ≡ true → i < length p → get_or (put f is p) i 0 ≡ f i
put_in f [] p i m h = no_way (sym m)
put_in f (j ∷ is) p i m h = go (member i is) refl m (put_in f is (set p j (f j)) i)
  where
    go : (t : Bool) → member i is ≡ t → (eqb i j || t) ≡ true → (member i is ≡ true → i < length (set p j (f j)) → get_or (put f is (set p j (f j))) i 0 ≡ f i) →
        get_or (put f is (set p j (f j))) i 0 ≡ f i
    go true e k r = r e (lt-length-set p j (f j) h)
    go false e k r =
        let q = eqb-true i j (rw (or-false (eqb i j)) at k) in
        put_other f is (set p j (f j)) i e ∙ ap (λ (x : ℕ). get_or (set p j (f j)) x 0) q ∙ get_or-set_same p j (f j) 0 (rw q at h) ∙ ap f (sym q)

-- two functions that agree at the listed places put the same
pub put_same : (f g : ℕ → ℕ) (is p : List ℕ) → All (λ i. f i ≡ g i) is → put f is p ≡ put g is p
put_same f g [] p a = refl
put_same f g (j ∷ is) p a = rw a.0 (put_same f g is (set p j (g j)) a.1)

-- ── one after the other ────────────────────────────────────────────────────────────────────────────────────────────
put_more : (f : ℕ → ℕ) (is : List ℕ) (j : ℕ) (p : List ℕ) → put f (is ++ (j ∷ [])) p ≡ set (put f is p) j (f j)
put_more f [] j p = refl
put_more f (i ∷ is) j p = put_more f is j (set p i (f i))

-- equal elements stored in equal lists
pub stored : (i : ℕ) {p q : List ℕ} {a b : ℕ} → p ≡ q → a ≡ b → set p i a ≡ set q i b
stored i e h = ap₂ (λ (x : List ℕ) (y : ℕ). set x i y) e h

-- the n numbers from a on
abbrev pub run : ℕ → ℕ → List ℕ
run a zero = []
run a (suc n) = run a n ++ ((a + n) ∷ [])

pub run_more : (a i : ℕ) → a ≤ i → run a (i + 1 - a) ≡ run a (i - a) ++ (i ∷ [])
run_more a i h =
    let e : i + 1 - a ≡ suc (i - a) = omega arith in
    let g : a + (i - a) ≡ i = omega arith in
    rw e (ap (λ (n : ℕ). run a (i - a) ++ (n ∷ [])) g)

-- a loop over these numbers that stores at each, one that tests each, and one that counts
pub put_run : (f : ℕ → ℕ) (a i : ℕ) → a ≤ i → (p : List ℕ) {q : List ℕ} {b : ℕ} → q ≡ put f (run a (i - a)) p → b ≡ f i → set q i b ≡ put f (run a (i + 1 - a)) p
put_run f a i h p e g = stored i e g ∙ sym (put_more f (run a (i - a)) i p) ∙ ap (λ (is : List ℕ). put f is p) (sym (run_more a i h))

pub some_run : (f : ℕ → Bool) (a i : ℕ) → a ≤ i → {t b : Bool} → t ≡ some f (run a (i - a)) → b ≡ f i → t || b ≡ some f (run a (i + 1 - a))
some_run f a i h e g = ap₂ (λ (x : Bool) (y : Bool). x || y) e g ∙ sym (some_more f (run a (i - a)) i) ∙ ap (some f) (sym (run_more a i h))

pub count_run : (f : ℕ → Bool) (a i : ℕ) → a ≤ i → {n m : ℕ} → n ≡ count f (run a (i - a)) → m ≡ cond (f i) 1 0 → n + m ≡ count f (run a (i + 1 - a))
count_run f a i h e g = ap₂ (λ (x y : ℕ). x + y) e g ∙ sym (count_more f (run a (i - a)) i) ∙ ap (count f) (sym (run_more a i h))

pub count_room : (f : ℕ → Bool) (a k : ℕ) → count f (run a k) ≤ k
count_room f a zero = omega arith
count_room f a (suc k) =
    let m = count_more f (run a k) (a + k) in
    let b = bit_le (f (a + k)) in
    let r = count_room f a k in
    omega arith
