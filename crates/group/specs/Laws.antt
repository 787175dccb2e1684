-- What is claimed of the group. Proved in proofs/Proved.antt.
use Rattle.std.specs.Prelude.{ℕ, ◌<◌, ◌^◌, ◌≡◌, Bool, true, ◌&&◌, leb}
use Rattle.answer.specs.Answer.{Unique}
use Rattle.group.specs.Group.{group_of, bits_of}
use Rattle.group.specs.declared.Offset.{Offset}
use Rattle.group.specs.declared.Offset.TheVariants.{East, West}
use Rattle.group.specs.declared.Group.{Group}
use Rattle.group.specs.declared.Group.TheVariants as group

abbrev pub is_row_number : ℕ → Bool
is_row_number row = leb 1 row && leb row 24

-- an offset that six bits and a sign can tell; west 0 is sent as east 0
abbrev pub fits_offset : Offset → Bool
fits_offset (East q) = leb q 63
fits_offset (West q) = leb 1 q && leb q 63

-- the numbers of a group fit its bits
abbrev pub fits : Group → Bool
fits group.Other = true
fits (group.Source country source) = leb country 15 && leb source 127
fits (group.Date month day) = leb month 15 && leb day 39
fits (group.Offset row o) = is_row_number row && fits_offset o
fits (group.Start row hour controlled) = is_row_number row && leb hour 39
fits (group.Minutes column minute) = leb column 39 && leb minute 79
fits (group.Finish row hour duration) = is_row_number row && leb hour 39
fits (group.Series code) = leb code 127
fits group.Terminator = true

pub record Laws : Type 0 where
  -- what fits is sent in eighteen bits, and they are that group
  pub small : (g : Group) → fits g ≡ true → bits_of g < 2 ^ 18
  pub back : (g : Group) → fits g ≡ true → group_of (bits_of g) ≡ g
  -- each call's promise allows one outcome
  pub group_unique : (v : ℕ) → Unique (λ r. r ≡ group_of v)
  pub bits_unique : (g : Group) → Unique (λ r. r ≡ bits_of g)
