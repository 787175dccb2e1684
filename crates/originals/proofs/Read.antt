-- The data taken one at a time read as what they must read as.
use Prim.Native.Nat.{ℕ}
use mathlib.Core.Bool.{Bool, true, false, not, true≢false}
use mathlib.Core.Path.{◌≡◌, refl, sym, ap, subst, ◌∙◌}
use mathlib.Core.List.{List, [], ◌∷◌}
use Rattle.answer.proofs.Cases.{by_test}
use Rattle.originals.specs.declared.InForce.{InForce}
use Rattle.originals.specs.declared.Original.{Original}
use Rattle.originals.specs.declared.Data.{Data}
use Rattle.originals.specs.Data.{Datum, N, A, O, Y, Two, with_network, with_date, with_offset, with_type, original_by, is_complete, nothing, Gives, network, date, offset, type, last, next}
use Rattle.originals.specs.Taken.{data_start, data_after, may_end, data_from, originals_from}

abbrev along : InForce → Bool → Bool → Bool → Data
along f typed ended wrong = record { force = f; typed = typed; ended = ended; wrong = wrong }

-- what the data to come, and the original times to come, are: none where the page may end, or what is given
data Means (typed : Bool) (f : InForce) : Bool → List Datum → List Original → Type 0 where
  none : Means typed f true [] []
  some : {ended : Bool} {ds : List Datum} {os : List Original} → Gives typed f ds os → Means typed f ended ds os

no_way_back : (ds : List Datum) (f : InForce) (typed ended : Bool) → may_end (data_from (along f typed ended true) ds) ≡ false
unfolding data_from
no_way_back [] f typed ended = refl
no_way_back (N n ∷ ds) f typed ended = no_way_back ds _ _ _
no_way_back (A d m y ∷ ds) f typed ended = no_way_back ds _ _ _
no_way_back (O o ∷ ds) f typed ended = no_way_back ds _ _ _
no_way_back (Y n ∷ ds) f typed ended = no_way_back ds _ _ _
no_way_back (Two h m ∷ ds) f typed ended = no_way_back ds _ _ _

lost : {P : Type 0} (ds : List Datum) (f : InForce) (typed ended : Bool) → may_end (data_from (along f typed ended true) ds) ≡ true → P
lost ds f typed ended e = absurd (true≢false (sym e ∙ no_way_back ds f typed ended))

-- a value makes the page not end
given : {typed : Bool} {f : InForce} {ds : List Datum} {os : List Original} → Means typed f false ds os → Gives typed f ds os
given (some w) = w

-- after an original time the page may end, or more is given
originals_next : {typed : Bool} {f : InForce} (h m : ℕ) {ds : List Datum} {os : List Original} → is_complete f ≡ true → Means false (with_type 0 f) true ds os →
    Gives typed f (Two h m ∷ ds) (original_by f h m ∷ os)
originals_next h m c none = last c
originals_next h m c (some w) = next c w

-- the state after an original time that has its network and date, and after one that has not
after_original_lem : (f : InForce) (typed ended : Bool) (h m : ℕ) (t : Bool) → is_complete f ≡ t →
    data_after (along f typed ended false) (Two h m) ≡ along (with_type 0 f) false true (not t)
after_original_lem f typed ended h m t c = ap (λ (x : Bool). along (with_type 0 f) false true (not x)) c

sound : (ds : List Datum) (f : InForce) (typed ended : Bool) → may_end (data_from (along f typed ended false) ds) ≡ true →
    Means typed f ended ds (originals_from (along f typed ended false) ds)
unfolding data_from originals_from
sound [] f typed true e = none
sound [] f typed false e = absurd (true≢false (sym e))
sound (N n ∷ ds) f true ended e = lost ds _ _ _ e
sound (N n ∷ ds) f false ended e = some (network (given (sound ds (with_network n f) false false e)))
sound (A d m y ∷ ds) f typed ended e = some (date (given (sound ds (with_date d m y f) typed false e)))
sound (O o ∷ ds) f typed ended e = some (offset (given (sound ds (with_offset o f) typed false e)))
sound (Y n ∷ ds) f typed ended e = some (type (given (sound ds (with_type n f) true false e)))
sound (Two h m ∷ ds) f typed ended e =
    by_test (is_complete f)
    (λ c.
    let to : data_after (along f typed ended false) (Two h m) ≡ along (with_type 0 f) false true false = after_original_lem f typed ended h m true c in
    let end : may_end (data_from (along (with_type 0 f) false true false) ds) ≡ true = ap (λ (x : Data). may_end (data_from x ds)) (sym to) ∙ e in
    some
    (subst
    (λ (x : Data). Gives typed f (Two h m ∷ ds) (original_by f h m ∷ originals_from x ds))
    (sym to)
    (originals_next h m c (sound ds (with_type 0 f) false true end))))
    (λ c. lost ds (with_type 0 f) false true (ap (λ (x : Data). may_end (data_from x ds)) (sym (after_original_lem f typed ended h m false c)) ∙ e))

pub taken_read : (ds : List Datum) → may_end (data_from data_start ds) ≡ true → Gives false nothing ds (originals_from data_start ds)
taken_read ds e = given (sound ds nothing false false e)

complete : (ds : List Datum) (f : InForce) (typed ended : Bool) (os : List Original) → Means typed f ended ds os →
    (may_end (data_from (along f typed ended false) ds) ≡ true) × (os ≡ originals_from (along f typed ended false) ds)
unfolding data_from originals_from
complete [] f typed ended os none = (refl, refl)
complete [] f typed ended os (some w) = elim w [ ]
complete (N n ∷ ds) f typed ended os (some (network w)) = complete ds (with_network n f) false false os (some w)
complete (A d m y ∷ ds) f typed ended os (some (date w)) = complete ds (with_date d m y f) typed false os (some w)
complete (O o ∷ ds) f typed ended os (some (offset w)) = complete ds (with_offset o f) typed false os (some w)
complete (Y n ∷ ds) f typed ended os (some (type w)) = complete ds (with_type n f) true false os (some w)
complete (Two h m ∷ ds) f typed ended os (some (last c)) = rw c (refl, refl)
complete (Two h m ∷ ds) f typed ended os (some (next {os = ps} c w)) =
    let more = complete ds (with_type 0 f) false true ps (some w) in
    let to : data_after (along f typed ended false) (Two h m) ≡ along (with_type 0 f) false true false = after_original_lem f typed ended h m true c in (
      ap (λ (x : Data). may_end (data_from x ds)) to ∙ more.0,
      ap (λ (xs : List Original). original_by f h m ∷ xs) (more.1 ∙ ap (λ (x : Data). originals_from x ds) (sym to)),
    )

pub read_taken : (ds : List Datum) (os : List Original) → Gives false nothing ds os →
    (may_end (data_from data_start ds) ≡ true) × (os ≡ originals_from data_start ds)
read_taken ds os w = complete ds nothing false false os (some w)
