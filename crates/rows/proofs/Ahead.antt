-- What a row contains, as it is found by looking ahead from each code.
use Prim.Native.Nat.{ℕ, suc, ◌+◌}
use mathlib.Core.Bool.{Bool, true, false, cond, not, ◌&&◌}
use mathlib.Core.List.{List, [], ◌∷◌}
use Rattle.codes.specs.declared.Colour.{Colour}
use Rattle.codes.specs.Codes.{colour_by}
use Rattle.formats.specs.Formats.{pattern, figures_by}
use Rattle.formats.specs.Taken.{is_text}
use Rattle.formats.proofs.Standing.{until, kind_at}
use Rattle.rows.specs.declared.Reading.{Reading}
use Rattle.rows.specs.declared.Reading.TheVariants.{Opened}
use Rattle.rows.specs.Title.{is_opening, is_forbidden, begins_pair}
use Rattle.rows.specs.Row.{Content, format, title}
use Rattle.rows.specs.Taken.{is_filled, advanced}

-- a title being read ends as one
unfoldable pub ends : Reading → Colour → List ℕ → Bool
ends t k [] = is_filled t
ends t k (c ∷ cs) =
    cond (begins_pair (c ∷ cs)) (is_filled t)
    (not (is_forbidden c) && (is_text (kind_at k (c ∷ cs)) && ends (advanced t) (colour_by k c) cs))

unfoldable pub title_at : Colour → List ℕ → Bool
title_at k [] = false
title_at k (c ∷ cs) = begins_pair (c ∷ cs) && (is_opening k c && ends Opened (colour_by k c) cs)

unfoldable pub contents : ℕ → Bool → Colour → ℕ → List ℕ → List Content
contents row had k p [] = []
contents row had k p (c ∷ cs) =
    cond (is_text (kind_at k (c ∷ cs)))
    (cond (not had && title_at k (c ∷ cs))
    (title row (2 + p) ∷ contents row true (colour_by k c) (suc p) cs)
    (contents row had (colour_by k c) (suc p) cs))
    (format (kind_at k (c ∷ cs)) (figures_by (pattern (kind_at k (c ∷ cs))) (until cs)) ∷ contents row had (colour_by k c) (suc p) cs)
