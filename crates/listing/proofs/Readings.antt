-- A page as the reader gives it prints what its bytes mean.
use Rattle.std.specs.Prelude.{Result, Ok, Err}
use Prim.Native.Nat.{ℕ, ◌≤◌}
use mathlib.Core.Path.{◌≡◌, refl, ap, ◌∙◌}
use mathlib.Core.List.{List, ◌++◌}
use native.Mathlib.Omega.{arith}
use lib.ListN.{length, replicate, length-append}
use lib.Seq.{take-take, take-append_seam}
use Rattle.answer.specs.Answer.{Answer, refused, given, and_then}
use Rattle.programmes.specs.declared.Programme.{Programme}
use Rattle.programmes.specs.declared.Page.{Page}
use Rattle.programmes.specs.declared.Refusal.{Refusal}
use Rattle.programmes.specs.Page.{reading_of, most, blank, page_of, reading_answer}
use Rattle.programmes.specs.Written.{programmes_of}
use Rattle.programmes.proofs.Proved.{laws}
use Rattle.listing.specs.Listing.{programme_lines, count_line, refusal_line, listing, listing_of}
use Rattle.listing.specs.Pieces.{longest, ReadAs, read_lines}
use Rattle.listing.proofs.Rooms.{lines_short, count_short, refusal_short}

-- a page has at most 103 programmes
abbrev Sound : Answer (List Programme) → Type 0
Sound (refused n) = Unit {0}
Sound (given qs) = length qs ≤ most

sound : (p : List ℕ) → Sound (reading_of p)
sound p = go (reading_of p) refl
  where
    go : (a : Answer (List Programme)) → reading_of p ≡ a → Sound a
    go (refused n) e = tt
    go (given qs) e = laws.at_most_103 p qs e

-- the programmes of a page stand at its first places
first_places : (qs : List Programme) → length qs ≤ most → programmes_of (page_of qs) ≡ qs
unfolding page_of
first_places qs h = take-take (length qs) most (qs ++ replicate most blank) h ∙ take-append_seam qs (replicate most blank)

-- what is printed of a page that is given
abbrev lines_of : Answer Page → List ℕ
lines_of (refused n) = refusal_line n
lines_of (given page) = programme_lines (programmes_of page) ++ count_line page.count

as_read : (r : Result Page Refusal) → read_lines r ≡ lines_of (reading_answer r)
unfolding read_lines
as_read (Err r) = refl
as_read (Ok page) = refl

same_lines : (a : Answer (List Programme)) → Sound a → lines_of (and_then a (λ qs. given (page_of qs))) ≡ listing a
unfolding page_of
same_lines (refused n) s = refl
same_lines (given qs) s = rw (first_places qs s) refl

pub read_lines_lem : (p : List ℕ) (r : Result Page Refusal) → ReadAs p r → read_lines r ≡ listing_of p
unfolding listing_of
read_lines_lem p r e = as_read r ∙ ap lines_of e ∙ same_lines (reading_of p) (sound p)

short : (a : Answer (List Programme)) → Sound a → length (listing a) ≤ longest
short (refused n) s = omega (arith, refusal_short n)
short (given qs) s = omega (arith, lines_short qs, count_short (length qs), length-append (programme_lines qs) (count_line (length qs)))

pub room : (p : List ℕ) → length (listing_of p) ≤ longest
unfolding listing_of
room p = short (reading_of p) (sound p)
