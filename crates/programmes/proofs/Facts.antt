-- What is taken from the layers below: a byte, a triplet and a group are read as they were sent.
use Prim.Native.Nat.{ℕ, ◌/◌, ◌%◌, ◌^◌, ◌<◌}
use mathlib.Core.Path.{◌≡◌}
use mathlib.Core.Bool.{true}
use native.Mathlib.Omega.{arith}
use Rattle.hamming.specs.Byte as byte
use Rattle.hamming.specs.declared.Nibble.TheVariants as nibble
use Rattle.hamming.proofs.Proved as hamming
use Rattle.triplet.specs.Word.{word_of, good, triplet_of}
use Rattle.triplet.specs.declared.Triplet.TheVariants.{Clean}
use Rattle.triplet.proofs.Proved as triplet
use Rattle.group.specs.declared.Group.{Group}
use Rattle.group.specs.Group.{group_of, bits_of}
use Rattle.group.specs.Laws.{fits}
use Rattle.group.proofs.Proved as group

pub byte_sent : (v : ℕ) → v < 16 → byte.nibble_of (byte.good v) ≡ nibble.Clean v
byte_sent = (hamming.laws).sent

pub triplet_sent : (v : ℕ) → v < 262144 → triplet_of (good v) ≡ Clean v
triplet_sent = (triplet.laws).sent

pub triplet_small : (v : ℕ) → v < 262144 → good v < 2 ^ 24
triplet_small v h = ((triplet.laws).equations v h).0

-- the three bytes of a word are that word
pub word_bytes : (w : ℕ) → w < 2 ^ 24 → word_of (w % 256) (w / 256 % 256) (w / 65536 % 256) ≡ w
word_bytes w h = omega arith

pub group_small : (g : Group) → fits g ≡ true → bits_of g < 2 ^ 18
group_small = (group.laws).small

pub group_back : (g : Group) → fits g ≡ true → group_of (bits_of g) ≡ g
group_back = (group.laws).back
