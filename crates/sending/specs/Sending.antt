-- Programmes as the triplets that they are sent in (document 02, #103): the eighteen bits of each group of `programmes`, Written.antt.
use Rattle.std.specs.Prelude.{ℕ, ◌+◌, List, [], ◌∷◌, map, length, set}
use Rattle.group.specs.declared.Group.{Group}
use Rattle.group.specs.declared.Group.TheVariants as group
use Rattle.group.specs.Group.{bits_of}
use Rattle.programmes.specs.declared.Programme.{Programme}
use Rattle.answer.specs.Lists.{filled}
use Rattle.programmes.specs.Written.{groups_for}
use Rattle.sending.specs.declared.Words.{Words}

-- 'at most sixteen packets' have 208 triplets
abbrev pub room : ℕ
room = 208

-- 'then terminators (all eighteen bits 1)'
unfoldable pub words_of : List Programme → Words
words_of qs = let gs = groups_for qs in record { count = length gs; bits = filled room (bits_of group.Terminator) (map bits_of gs) }

-- ── one after the other ────────────────────────────────────────────────────────────────────────────────────────────
-- a group after those that are there, its bits kept where there is room
abbrev pub more : Words → Group → Words
more w g = record { count = w.count + 1; bits = set w.bits w.count (bits_of g) }

-- groups after those that are there
unfoldable pub sent : Words → List Group → Words
sent w [] = w
sent w (g ∷ gs) = sent (more w g) gs
