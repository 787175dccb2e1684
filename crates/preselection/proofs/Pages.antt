-- The programmes so far as a page: one more of them, and the last made anew.
use Prim.Native.Nat.{ℕ, suc, ◌+◌, ◌-◌, ◌≤◌}
use mathlib.Core.Path.{◌≡◌, refl, sym, ap, ◌∙◌}
use mathlib.Core.Bool.{Bool, true, false, cond}
use mathlib.Core.List.{List, [], ◌∷◌, ◌++◌}
use native.Mathlib.Omega.{arith}
use native.Mathlib.Decide.{dec_lt}
use mathlib.Core.Logic.{◌⊎◌, inl, inr}
use borrow.Author.Tests.{ne_eqb}
use lib.Dec.{eqb}
use lib.ListN.{length, get_or, set, replicate, length-append, length-take, length-replicate}
use lib.Seq.{set_out, set-set, get_or-set_same}
use Rattle.programmes.specs.declared.Programme.{Programme}
use Rattle.programmes.specs.declared.Page.{Page}
use Rattle.programmes.specs.Page.{most, blank, page_of}
use Rattle.answer.specs.Lists.{filled}
use Rattle.answer.proofs.Filled.{filled_more}
use Rattle.sequence.specs.Sequence.{on_last}
use Rattle.sequence.proofs.Made.{last_more}

abbrev places : List Programme → List Programme
places qs = filled most blank qs

pub filled_length : {A : Type 0} (n : ℕ) (z : A) (xs : List A) → length (filled n z xs) ≡ n
filled_length n z xs =
    let a = length-take n (xs ++ replicate n z) in
    let b = length-append xs (replicate n z) in
    let c = length-replicate n z in
    omega arith

-- one more
pub more : (page : Page) (qs : List Programme) (q : Programme) → page ≡ page_of qs →
    record { count = page.count + 1; programmes = set page.programmes page.count q } ≡ page_of (qs ++ (q ∷ []))
unfolding page_of
more page qs q e =
    rw e
    (λ i. record { count = sym (length-append qs (q ∷ [])) i; programmes = sym (filled_more blank most qs q) i })

-- a list is empty, or has a last element
last_of : (qs : List Programme) → (qs ≡ []) ⊎ ((rs : List Programme) × (q : Programme) × (qs ≡ rs ++ (q ∷ [])))
last_of [] = inl refl
last_of (q ∷ qs) =
    elim (last_of qs) [
      | inl e ↦ inr ([], q, ap (λ (xs : List Programme). q ∷ xs) e)
      | inr r ↦ inr (q ∷ r.0, r.1, ap (λ (xs : List Programme). q ∷ xs) r.2)
    ]

-- the last programme, as it stands in its place
abbrev last_in : Page → Programme
last_in page = cond (eqb page.count 0) blank (get_or page.programmes (page.count - 1) blank)

abbrev with_last : Page → Programme → Page
with_last page q = cond (eqb page.count 0) page (record { count = page.count; programmes = set page.programmes (page.count - 1) q })

pub count_kept : (page : Page) (q : Programme) → (with_last page q).count ≤ page.count + 1
count_kept page q = go (eqb page.count 0)
  where
    go : (t : Bool) → (cond t page (record { count = page.count; programmes = set page.programmes (page.count - 1) q })).count ≤ page.count + 1
    go true = omega arith
    go false = omega arith

remade_at : (f : Programme → Programme) (rs : List Programme) (q : Programme) →
    set (places (rs ++ (q ∷ []))) (length rs) (f (get_or (places (rs ++ (q ∷ []))) (length rs) blank)) ≡ places (rs ++ (f q ∷ []))
remade_at f rs q =
    let p = places rs in
    let n = filled_length most blank rs in
    let m = filled_more blank most rs q in
    elim (dec_lt (length rs) most) [
      | yes h ↦
          let g : get_or (set p (length rs) q) (length rs) blank ≡ q = get_or-set_same p (length rs) q blank (omega arith) in
          rw (m, g) (set-set p (length rs) q (f q) ∙ sym (filled_more blank most rs (f q)))
      | no h ↦
          let far = filled_length most blank (rs ++ (q ∷ [])) in
          set_out (places (rs ++ (q ∷ []))) (length rs) _ (omega arith)
          ∙ m ∙ set_out p (length rs) q (omega arith)
          ∙ sym (set_out p (length rs) (f q) (omega arith))
          ∙ sym (filled_more blank most rs (f q))
    ]

-- the last made anew
pub remade : (f : Programme → Programme) (page : Page) (qs : List Programme) → page ≡ page_of qs →
    with_last page (f (last_in page)) ≡ page_of (on_last f qs)
unfolding page_of
remade f page qs e =
    elim (last_of qs) [
      | inl z ↦ rw (e, z) refl
      | inr r ↦
          let rs = r.0 in
          let q = r.1 in
          let l = length-append rs (q ∷ []) in
          let n : length (rs ++ (q ∷ [])) ≡ suc (length rs) = omega arith in
          let k = length-append rs (f q ∷ []) in
          let m : length (rs ++ (f q ∷ [])) ≡ suc (length rs) = omega arith in
          let z : eqb (suc (length rs)) 0 ≡ false = ne_eqb (suc (length rs)) 0 (λ x. absurd (omega arith)) in
          let w : suc (length rs) - 1 ≡ length rs = omega arith in
          rw (e, r.2, last_more f rs q, n, z, w)
          (λ i. record { count = sym m i; programmes = remade_at f rs q i })
    ]
