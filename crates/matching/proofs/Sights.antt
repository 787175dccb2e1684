-- What a timer sees: its labels share the window's test, so a look may leave it out and add it at the end.
use Prim.Native.Nat.{ℕ, zero, suc, ◌+◌, ◌<◌}
use mathlib.Core.Path.{◌≡◌, refl, sym, ◌∙◌}
use mathlib.Core.Bool.{Bool, true, false, cond, not, ◌&&◌, and-true, and-false}
use mathlib.Core.List.{List, [], ◌∷◌}
use native.Mathlib.Omega.{arith}
use native.Mathlib.Nat.{zero-add, add-zero, add-suc, suc-add}
use lib.Dec.{eqb}
use lib.ListN.{get_or, drop}
use Rattle.std.specs.Prelude.{Some}
use Rattle.std.specs.List.{position}
use Rattle.std.specs.Option.{option_or}
use Rattle.std.proofs.lemmas.List.Quantifiers.{position-Some}
use Rattle.answer.proofs.Cases.{by_test}
use Rattle.places.proofs.Search.{position_is}
use Rattle.places.specs.Places.{no_label, Found, nowhere, at, lowest_from, lowest}
use Rattle.matching.specs.Matching.{sight_by, open_at, matches, sight_of}
use Rattle.matching.specs.Look.{named, look_of}
use Rattle.places.specs.declared.Stamped.{Stamped}
use Rattle.matching.specs.declared.Booking.{Booking}
use Rattle.matching.specs.declared.Sight.{Sight}
use Rattle.matching.specs.declared.Sight.TheVariants.{Nothing, Prepare, Start}

pub match_named : (s : ℕ) (b : Booking) (l : Stamped) → matches s b l ≡ (named s b l && open_at s b)
unfolding matches named
match_named s b l =
    by_test (eqb l.pil b.pil)
    (λ e. rw (e, and-true))
    (λ e. rw (e, and-false))

-- a label of another PIL is not named
pub named_other : (s : ℕ) (b : Booking) (l : Stamped) → eqb l.pil b.pil ≡ false → named s b l ≡ false
unfolding named
named_other s b l e = rw e

-- ── one look over the places ───────────────────────────────────────────────────────────────────────────────────────
-- nothing is found before place i where none before it passes
lowest_past : {A : Type 0} (f : A → Bool) (d : A) (j i : ℕ) (xs : List A) → ((k : ℕ) → k < i → f (get_or xs k d) ≡ false) →
    lowest_from f j xs ≡ lowest_from f (j + i) (drop i xs)
lowest_past f d j zero xs h = rw add-zero
lowest_past f d j (suc i) [] h = refl
lowest_past f d j (suc i) (x ∷ xs) h = rw (h 0 (omega arith), add-suc, ← suc-add) (lowest_past f d (suc j) i xs (λ k l. h (suc k) (omega arith)))

module _ (s : ℕ) (b : Booking) (ls : List Stamped) where
  -- what is seen from place i on, where a label of the programme was first seen at place `first`
  abbrev pub seen_from : ℕ → Found → Sight
  seen_from i first =
      sight_by (lowest_from (λ l. named s b l && not l.prf) i (drop i ls)) (option_or first (lowest_from (named s b) i (drop i ls)))

  module _ (i : ℕ) (e : Some i ≡ position (λ l. eqb l.pil b.pil) ls) where
    before : (k : ℕ) → k < i → named s b (get_or ls k no_label) ≡ false
    before k h = named_other s b (get_or ls k no_label) ((position-Some (λ l. eqb l.pil b.pil) ls i no_label (sym e)).2 k h)

    -- a look misses nothing before the first place with the PIL
    pub seen_first : look_of s ls b ≡ seen_from i nowhere
    unfolding look_of
    seen_first =
        rw (
          position_is (λ l. named s b l && not l.prf) ls,
          position_is (named s b) ls,
          lowest_past (λ l. named s b l && not l.prf) no_label 0 i ls (λ k h. rw (before k h)),
          lowest_past (named s b) no_label 0 i ls before,
          zero-add,
        )

-- ── the window, once for all places ────────────────────────────────────────────────────────────────────────────────
lowest_open : {A : Type 0} (f g : A → Bool) → ((x : A) → f x ≡ g x) → (i : ℕ) (xs : List A) → lowest_from f i xs ≡ lowest_from g i xs
lowest_open f g h i [] = refl
lowest_open f g h i (x ∷ xs) = rw (h x, lowest_open f g h (suc i) xs)

lowest_shut : {A : Type 0} (f : A → Bool) → ((x : A) → f x ≡ false) → (i : ℕ) (xs : List A) → lowest_from f i xs ≡ nowhere
lowest_shut f h i [] = refl
lowest_shut f h i (x ∷ xs) = rw (h x, lowest_shut f h (suc i) xs)

-- nothing is found where no element passes a wider test
none_lowest : {A : Type 0} (f g : A → Bool) → ((x : A) → f x ≡ false → g x ≡ false) → (i : ℕ) (xs : List A) → lowest_from f i xs ≡ nowhere →
    lowest_from g i xs ≡ nowhere
none_lowest f g wider i [] h = refl
none_lowest f g wider i (x ∷ xs) h =
    by_test (f x)
    (λ e. let k = rw e at h in cc)
    (λ e. rw (wider x e) (none_lowest f g wider (suc i) xs (rw e at h)))

module _ (s : ℕ) (ls : List Stamped) (b : Booking) where
  sight_open : open_at s b ≡ true → sight_of s ls b ≡ look_of s ls b
  unfolding sight_of look_of
  sight_open e =
      let m : (l : Stamped) → matches s b l ≡ named s b l = λ l. rw (match_named s b l, e, and-true) in
      rw (
        lowest_open (λ l. matches s b l && not l.prf) (λ l. named s b l && not l.prf) (λ l. rw (m l)) 0 ls,
        lowest_open (matches s b) (named s b) m 0 ls,
        ← position_is (λ l. named s b l && not l.prf) ls,
        ← position_is (named s b) ls,
      )

  pub sight_shut : open_at s b ≡ false → sight_of s ls b ≡ Nothing
  unfolding sight_of
  sight_shut e =
      let m : (l : Stamped) → matches s b l ≡ false = λ l. rw (match_named s b l, e, and-false) in
      rw (lowest_shut (λ l. matches s b l && not l.prf) (λ l. rw (m l)) 0 ls, lowest_shut (matches s b) m 0 ls)

  pub sight_look : sight_of s ls b ≡ cond (open_at s b) (look_of s ls b) Nothing
  sight_look = by_test (open_at s b) (λ o. rw o (sight_open o)) (λ o. rw o (sight_shut o))

  pub sight_nothing : look_of s ls b ≡ Nothing → sight_of s ls b ≡ Nothing
  sight_nothing e = by_test (open_at s b) (λ o. sight_open o ∙ e) (λ o. sight_shut o)

  -- where no place has the PIL nothing is seen
  pub sight_without : position (λ l. eqb l.pil b.pil) ls ≡ nowhere → sight_of s ls b ≡ Nothing
  unfolding look_of
  sight_without e =
      let f : Stamped → Bool = λ l. eqb l.pil b.pil in
      let h : lowest f ls ≡ nowhere = rw (← position_is f ls) e in
      sight_nothing
      (rw (
        position_is (λ l. named s b l && not l.prf) ls,
        position_is (named s b) ls,
        none_lowest f (λ l. named s b l && not l.prf) (λ l e. rw (named_other s b l e)) 0 ls h,
        none_lowest f (named s b) (named_other s b) 0 ls h,
      ))

-- ── what was found, by what is seen ────────────────────────────────────────────────────────────────────────────────
-- of a search for PRF 0 and one for any match
abbrev Seen : Found → Found → Sight → Type 0
Seen f g (Start q) = f ≡ at q
Seen f g (Prepare q) = (f ≡ nowhere) × (g ≡ at q)
Seen f g Nothing = (f ≡ nowhere) × (g ≡ nowhere)

seen_by : (f g : Found) → Seen f g (sight_by f g)
seen_by (at q) g = refl
seen_by nowhere (at q) = (refl, refl)
seen_by nowhere nowhere = (refl, refl)

pub seen_is : (s : ℕ) (ls : List Stamped) (b : Booking) (g : Sight) → sight_of s ls b ≡ g →
    Seen (lowest (λ l. matches s b l && not l.prf) ls) (lowest (matches s b) ls) g
unfolding sight_of
seen_is s ls b g e = rw e at (seen_by (lowest (λ l. matches s b l && not l.prf) ls) (lowest (matches s b) ls))
