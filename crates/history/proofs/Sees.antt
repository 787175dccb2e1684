-- What a timer sees where each match has PRF 1: the lowest place that matches.
use Prim.Native.Nat.{ℕ, zero, suc, ◌+◌, ◌<◌}
use mathlib.Core.Path.{◌≡◌, refl, sym, ◌∙◌}
use mathlib.Core.Bool.{Bool, true, false, cond, not, ◌&&◌, true≢false}
use mathlib.Core.List.{List, [], ◌∷◌}
use native.Mathlib.Omega.{arith}
use lib.ListN.{get_or}
use Rattle.answer.proofs.Cases.{by_test}
use Rattle.places.specs.Places.{no_label, stands, nowhere, at, lowest_from, lowest}
use Rattle.matching.specs.Matching.{matches, sight_of}
use Rattle.places.specs.declared.Stamped.{Stamped}
use Rattle.matching.specs.declared.Booking.{Booking}
use Rattle.matching.specs.declared.Sight.{Sight}
use Rattle.matching.specs.declared.Sight.TheVariants.{Nothing, Prepare, Start}
use Rattle.matching.proofs.Sights.{seen_is}
use Rattle.desk.proofs.Settle.{start_matches, prepare_matches}
use Rattle.desk.proofs.Jump.{None}
use Rattle.history.specs.Prepared.{NoPrf0, OnlyPrf1, LowestMatch}

-- ── what is not found ──────────────────────────────────────────────────────────────────────────────────────────────
module _ {A : Type 0} (f : A → Bool) (z : A) where
  nowhere_none : f z ≡ false → (i : ℕ) (xs : List A) → lowest_from f i xs ≡ nowhere → None f z xs
  nowhere_none h i [] e = λ p. h
  nowhere_none h i (x ∷ xs) e = go (f x) refl e (nowhere_none h (suc i) xs)
    where
      go : (t : Bool) → f x ≡ t → cond t (at i) (lowest_from f (suc i) xs) ≡ nowhere → (lowest_from f (suc i) xs ≡ nowhere → None f z xs) →
          None f z (x ∷ xs)
      go true d k ih p = cc
      go false d k ih zero = d
      go false d k ih (suc p) = ih k p

  abbrev Below : ℕ → ℕ → List A → Type 0
  Below i q xs = (p : ℕ) → i + p < q → f (get_or xs p z) ≡ false

  lowest_below : (i q : ℕ) (xs : List A) → lowest_from f i xs ≡ at q → Below i q xs
  lowest_below i q [] e = λ p l. cc
  lowest_below i q (x ∷ xs) e = go (f x) refl e (lowest_below (suc i) q xs)
    where
      go : (t : Bool) → f x ≡ t → cond t (at i) (lowest_from f (suc i) xs) ≡ at q → (lowest_from f (suc i) xs ≡ at q → Below (suc i) q xs) →
          Below i q (x ∷ xs)
      go true d k ih p l = let r : i ≡ q = cc in absurd (omega arith)
      go false d k ih zero l = d
      go false d k ih (suc p) l = ih k p (omega arith)

-- ── what is seen ───────────────────────────────────────────────────────────────────────────────────────────────────
module _ (s : ℕ) (ls : List Stamped) (b : Booking) where
  pub no_start : NoPrf0 s ls b → (q : ℕ) → sight_of s ls b ≡ Start q → ⊥
  no_start none q e = let m = start_matches s ls b q e in true≢false (sym (none q m.0) ∙ m.1)

  pub sees_prepare : OnlyPrf1 s ls b → (q : ℕ) × (sight_of s ls b ≡ Prepare q) × LowestMatch s ls b q
  unfolding matches stands
  sees_prepare h = go (sight_of s ls b) refl
    where
      go : (g : Sight) → sight_of s ls b ≡ g → (q : ℕ) × (sight_of s ls b ≡ Prepare q) × LowestMatch s ls b q
      go (Start q) e = absurd (no_start h.only q e)
      go (Prepare q) e = (
        q,
        e,
        record {
          matching = prepare_matches s ls b q e;
          lower_not = λ p l. lowest_below (matches s b) no_label 0 q ls (seen_is s ls b (Prepare q) e).1 p (omega arith);
        },
      )
      go Nothing e =
          let none : None (matches s b) no_label ls = nowhere_none (matches s b) no_label refl 0 ls (seen_is s ls b Nothing e).1 in
          absurd (true≢false (sym h.matching ∙ none h.place))

  prf_1 : (l : Stamped) → (matches s b l && not l.prf) ≡ false → matches s b l ≡ true → l.prf ≡ true
  prf_1 l n m = by_test l.prf (λ e. e) (λ e. absurd (true≢false (rw (m, e) at n)))

  none_starts : lowest (λ l. matches s b l && not l.prf) ls ≡ nowhere → NoPrf0 s ls b
  unfolding matches stands
  none_starts e q = prf_1 (get_or ls q no_label) (nowhere_none (λ l. matches s b l && not l.prf) no_label refl 0 ls e q)

  pub prepare_only : (q : ℕ) → sight_of s ls b ≡ Prepare q → OnlyPrf1 s ls b
  prepare_only q e = record { place = q; matching = prepare_matches s ls b q e; only = none_starts (seen_is s ls b (Prepare q) e).0 }

  pub nothing_starts : sight_of s ls b ≡ Nothing → NoPrf0 s ls b
  nothing_starts e = none_starts (seen_is s ls b Nothing e).0
