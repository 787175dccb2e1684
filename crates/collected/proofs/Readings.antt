-- What a reading of the bytes held has: a number, or at most 24 programmes, at its first places.
use Prim.Native.Nat.{ℕ, ◌≤◌}
use mathlib.Core.Path.{◌≡◌, refl, ◌∙◌}
use mathlib.Core.Bool.{false}
use mathlib.Core.List.{List, ◌++◌}
use lib.Dec.{eqb}
use lib.ListN.{length, take, replicate}
use lib.Seq.{take-take, take-append_seam}
use Rattle.answer.specs.Answer.{Answer, refused, given}
use Rattle.preview.specs.declared.Programme.{Programme}
use Rattle.preview.specs.Page.{Answers, wrong_length, no_reading, wrong_word, read}
use Rattle.preview.specs.Taken.{blank, page_of}
use Rattle.preview.proofs.Proved as preview
use Rattle.table.specs.Table.{most}

-- a refusal has a number, and a page at most 24 programmes
abbrev pub Sound : Answer (List Programme) → Type 0
Sound (refused n) = eqb n 0 ≡ false
Sound (given qs) = length qs ≤ most

pub sound : (p : List ℕ) (a : Answer (List Programme)) → Answers p a → Sound a
sound p a (wrong_length h) = refl
sound p a (no_reading l h) = refl
sound p a (wrong_word r l w e) = refl
sound p a (read r l w e) = (preview.laws).at_most_24 p _ (read r l w e)

-- the programmes of a page stand at its first places
pub first_places : (qs : List Programme) → length qs ≤ most → take (page_of qs).count (page_of qs).programmes ≡ qs
unfolding page_of
first_places qs h = take-take (length qs) most (qs ++ replicate most blank) h ∙ take-append_seam qs (replicate most blank)
