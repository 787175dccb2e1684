-- Programmes paired one after the other.
use Prim.Native.Nat.{ℕ, suc, ◌<◌}
use mathlib.Core.Path.{◌≡◌, refl, ap, ◌∙◌}
use mathlib.Core.List.{List, [], ◌∷◌, ◌++◌}
use native.Mathlib.Omega.{arith}
use lib.ListN.{length, get_or, take, set}
use lib.Seq.{take-suc, length-take-le}
use Rattle.answer.specs.Lists.{filled}
use Rattle.answer.proofs.Filled.{filled_more}
use Rattle.announced.specs.declared.Announcement.{Announcement}
use Rattle.originals.specs.declared.Original.{Original}
use Rattle.table.specs.Table.{most}
use Rattle.preview.specs.declared.Programme.{Programme}
use Rattle.preview.specs.Page.{programme_by, programmes_by}
use Rattle.preview.specs.Taken.{blank}
use Rattle.preview.proofs.Whole.{programmes_many}

pairs_more : (xs : List Announcement) (ys : List Original) (x : Announcement) (y : Original) → length xs ≡ length ys →
    programmes_by (xs ++ (x ∷ [])) (ys ++ (y ∷ [])) ≡ programmes_by xs ys ++ (programme_by x y ∷ [])
pairs_more [] [] x y e = refl
pairs_more [] (o ∷ ys) x y e = absurd (omega (arith, e))
pairs_more (a ∷ xs) [] x y e = absurd (omega (arith, e))
pairs_more (a ∷ xs) (o ∷ ys) x y e = ap (λ (qs : List Programme). programme_by a o ∷ qs) (pairs_more xs ys x y (omega (arith, e)))

-- the first i, where there are more
abbrev pub first_by : List Announcement → List Original → ℕ → List Programme
first_by a o i = filled most blank (programmes_by (take i a) (take i o))

pub first_more : (a : List Announcement) (o : List Original) (i : ℕ) (x : Announcement) (y : Original) → i < length a → i < length o →
    set (first_by a o i) i (programme_by (get_or a i x) (get_or o i y)) ≡ first_by a o (suc i)
first_more a o i x y h k =
    let xs = length-take-le i a (omega (arith, h)) in
    let ys = length-take-le i o (omega (arith, k)) in
    let many : length (programmes_by (take i a) (take i o)) ≡ i = programmes_many (take i a) (take i o) (omega (arith, xs, ys)) ∙ xs in
    rw (
      take-suc a i x h,
      take-suc o i y k,
      pairs_more (take i a) (take i o) (get_or a i x) (get_or o i y) (omega (arith, xs, ys)),
      filled_more blank most (programmes_by (take i a) (take i o)) (programme_by (get_or a i x) (get_or o i y)),
      many,
    )
    refl
