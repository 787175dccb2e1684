-- The bytes of a page, one after the other.
use Prim.Native.Nat.{ℕ, zero, suc, ◌+◌, ◌/◌, ◌%◌, ◌<◌}
use mathlib.Core.Path.{◌≡◌, refl, sym, ap, ◌∙◌}
use mathlib.Core.Bool.{false}
use mathlib.Core.List.{List, [], ◌∷◌, map}
use native.Mathlib.Numerals.{add-one}
use native.Mathlib.Omega.{arith}
use lib.ListN.{length, get_or, set, length-append, get_or-map}
use lib.Seq.{sets}
use Rattle.answer.specs.Lists.{some}
use Rattle.answer.proofs.Every.{All}
use Rattle.answer.proofs.Texts.{sets_append}
use Rattle.label.proofs.Puts.{stored}
use Rattle.group.specs.declared.Group.{Group}
use Rattle.group.specs.declared.Group.TheVariants as group
use Rattle.group.specs.Group.{bits_of}
use Rattle.group.proofs.Proved as groups
use Rattle.programmes.specs.declared.Programme.{Programme}
use Rattle.programmes.specs.Written.{groups_for, bits_at, byte_in, bytes_to, outside}
use Rattle.programmes.specs.Meaning.{nothing}
use Rattle.answer.proofs.Filled.{filled_at}
use Rattle.programmes.proofs.Ranges.{Sendable, sendable}
use Rattle.sending.specs.Sending.{room, words_of}

-- ── the triplets ───────────────────────────────────────────────────────────────────────────────────────────────────
pub count_of : (qs : List Programme) → (words_of qs).count ≡ length (groups_for qs)
unfolding words_of
count_of qs = refl

-- a triplet of the page, a terminator where no group is
pub bits_of_lem : (qs : List Programme) (n : ℕ) → n < room → get_or (words_of qs).bits n 0 ≡ bits_at (groups_for qs) n
unfolding words_of
bits_of_lem qs n h =
    filled_at (bits_of group.Terminator) room (map bits_of (groups_for qs)) n 0 h ∙ get_or-map bits_of (groups_for qs) n group.Terminator

small_at : (gs : List Group) (n : ℕ) → All Sendable gs → bits_at gs n < 262144
small_at [] n a = (groups.laws).small group.Terminator refl
small_at (g ∷ gs) zero a = (groups.laws).small g a.0.2
small_at (g ∷ gs) (suc n) a = small_at gs n a.1

-- what is not outside fits eighteen bits
pub bits_small : (qs : List Programme) (n : ℕ) → some outside qs ≡ false → bits_at (groups_for qs) n < 262144
unfolding groups_for
bits_small qs n e = small_at (groups_for qs) n (sendable nothing qs e)

-- ── the bytes ──────────────────────────────────────────────────────────────────────────────────────────────────────
module _ (m : ℕ) (gs : List Group) where
  bytes_length : (i : ℕ) → length (bytes_to m gs i) ≡ i
  unfolding bytes_to
  bytes_length zero = refl
  bytes_length (suc i) =
      let r = bytes_length i in
      omega (arith, length-append (bytes_to m gs i) (byte_in m gs (i / 42) (i % 42) ∷ []))

  -- one byte more
  pub bytes_more : (i : ℕ) (buf : List ℕ) {now : List ℕ} {b : ℕ} →
      now ≡ sets buf 0 (bytes_to m gs i) → b ≡ byte_in m gs (i / 42) (i % 42) → set now i b ≡ sets buf 0 (bytes_to m gs (i + 1))
  unfolding bytes_to
  bytes_more i buf e h =
      let b = byte_in m gs (i / 42) (i % 42) in
      let at : 0 + length (bytes_to m gs i) ≡ i = omega (arith, bytes_length i) in
      let one = sets_append buf 0 (bytes_to m gs i) (b ∷ []) ∙ ap (λ (k : ℕ). set (sets buf 0 (bytes_to m gs i)) k b) at in
      stored i e h ∙ rw add-one (sym one)
