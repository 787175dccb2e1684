-- The programmes of fields, taken one after the other.
use Prim.Native.Nat.{ℕ, suc, ◌+◌, ◌*◌, ◌≤◌, ◌<◌}
use mathlib.Core.Path.{◌≡◌, refl, sym, ◌∙◌}
use mathlib.Core.List.{List}
use native.Mathlib.Numerals.{add-one}
use native.Mathlib.Omega.{arith}
use lib.ListN.{length, take, set, length-set}
use lib.Seq.{take-suc-set, take_all}
use Rattle.programmes.specs.declared.Programme.{Programme}
use Rattle.fields.specs.Fields.{programme_at, programmes_to}

-- the first i are there
pub record Taken (f : List ℕ) (qs : List Programme) (i : ℕ) : Type 0 where
  pub within : i ≤ 103
  pub long : length f ≡ 1650
  pub many : length qs ≡ 103
  pub first : take i qs ≡ programmes_to f i

module _ (f : List ℕ) (qs : List Programme) where
  pub taken_none : length f ≡ 1650 → length qs ≡ 103 → Taken f qs 0
  unfolding programmes_to
  taken_none h k = record { within = omega arith; long = h; many = k; first = refl }

  pub taken_more : {q : Programme} {i : ℕ} → Taken f qs i → i < 103 → q ≡ programme_at f (2 + 16 * i) → Taken f (set qs i q) (i + 1)
  unfolding programmes_to
  taken_more {q} {i} t h e =
      let m = t.many in
      let more : take (suc i) (set qs i q) ≡ programmes_to f (suc i) = rw (take-suc-set qs i q (omega arith), t.first, e) refl in
      record {
        within = omega arith;
        long = t.long;
        many = length-set qs i q ∙ m;
        first = rw add-one more;
      }

  pub taken_all : {i : ℕ} → Taken f qs i → 103 ≤ i → qs ≡ programmes_to f 103
  taken_all {i} t h =
      let w = t.within in
      let e : i ≡ 103 = omega arith in
      let m = t.many in
      sym (take_all 103 qs (omega arith)) ∙ rw e at t.first
