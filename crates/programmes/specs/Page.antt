-- A page's packets X/26 (document 02, #103; EN 300 231 clause 7.3.2.3 a)): what the reader gives.
use Rattle.std.specs.Prelude.{ℕ, zero, suc, ◌+◌, ◌*◌, ◌/◌, Bool, true, false, not, ◌&&◌, ◌||◌, List, [], ◌∷◌, ◌++◌, map, ltb, eqb, length, get_or, None, Result, Ok, Err}
use Rattle.answer.specs.Answer.{Answer, refused, given, Row, first_of}
use Rattle.answer.specs.Lists.{some, filled}
use Rattle.hamming.specs.Byte.{nibble_of}
use Rattle.hamming.specs.declared.Nibble.{Nibble}
use Rattle.label.specs.Packet.{damaged, value_of}
use Rattle.triplet.specs.Word.{word_of, triplet_of}
use Rattle.triplet.specs.declared.Triplet.{Triplet}
use Rattle.triplet.specs.declared.Triplet.TheVariants as triplet
use Rattle.group.specs.declared.Group.{Group}
use Rattle.group.specs.Group.{group_of}
use Rattle.group.specs.declared.Offset.TheVariants.{East}
use Rattle.programmes.specs.declared.Finish.TheVariants as finish
use Rattle.programmes.specs.declared.Programme.{Programme}
use Rattle.programmes.specs.declared.Page.{Page}
use Rattle.programmes.specs.declared.Refusal.{Refusal}
use Rattle.programmes.specs.declared.Refusal.TheVariants.{Length, Damaged, OtherPacket, Lacking}
use Rattle.programmes.specs.Meaning.{active, nothing, lacks, programmes_in}

-- ── the packets ────────────────────────────────────────────────────────────────────────────────────────────────────
-- 'packet k is its bytes 42k to 42k+41'
abbrev pub byte_at : List ℕ → ℕ → ℕ → ℕ
byte_at p k i = get_or p (42 * k + i) 0

-- 'and a last one that is shorter'
abbrev pub packets_of : List ℕ → ℕ
packets_of p = (length p + 41) / 42

-- 'magazine and packet address, followed by a designation code': bytes 0 to 2
abbrev pub nibble_at : List ℕ → ℕ → ℕ → Nibble
nibble_at p k i = nibble_of (byte_at p k i)

-- 'and 13 groups of 3 bytes'
abbrev pub triplet_at : List ℕ → ℕ → ℕ → Triplet
triplet_at p k j = triplet_of (word_of (byte_at p k (3 + 3 * j)) (byte_at p k (4 + 3 * j)) (byte_at p k (5 + 3 * j)))

abbrev pub addressed : List ℕ
addressed = 0 ∷ 1 ∷ 2 ∷ []

abbrev pub thirteen : List ℕ
thirteen = 0 ∷ 1 ∷ 2 ∷ 3 ∷ 4 ∷ 5 ∷ 6 ∷ 7 ∷ 8 ∷ 9 ∷ 10 ∷ 11 ∷ 12 ∷ []

abbrev pub damaged_triplet : Triplet → Bool
damaged_triplet triplet.Damaged = true
damaged_triplet (triplet.Clean v) = false
damaged_triplet (triplet.Mended v) = false

-- a damaged triplet has no value, and 0, which is no group, stands for it
abbrev pub bits_in : Triplet → ℕ
bits_in triplet.Damaged = 0
bits_in (triplet.Clean v) = v
bits_in (triplet.Mended v) = v

abbrev pub value_at : List ℕ → ℕ → ℕ → ℕ
value_at p k i = value_of (nibble_at p k i)

unfoldable pub groups_in : List ℕ → ℕ → List Group
groups_in p k = map (λ j. group_of (bits_in (triplet_at p k j))) thirteen

-- those of the first n packets
unfoldable pub groups_to : List ℕ → ℕ → List Group
groups_to p zero = []
groups_to p (suc k) = groups_to p k ++ groups_in p k

-- ── the reader ─────────────────────────────────────────────────────────────────────────────────────────────────────
-- '20 packet not 42 bytes'
abbrev pub is_short : List ℕ → ℕ → Bool
is_short p k = ltb (length p) (42 * k + 42)

-- '21 an address byte, designation or triplet damaged'
unfoldable pub is_damaged : List ℕ → ℕ → Bool
is_damaged p k = some (λ i. damaged (nibble_at p k i)) addressed || some (λ j. damaged_triplet (triplet_at p k j)) thirteen

-- 'byte 0's value is the magazine, 0 to 7 (8 is sent as 0), with D4 0, byte 1's is 13; the magazine is the first packet's; the
-- designation is k'
unfoldable pub is_addressed : List ℕ → ℕ → Bool
is_addressed p k = ltb (value_at p k 0) 8 && eqb (value_at p k 0) (value_at p 0 0) && eqb (value_at p k 1) 13 && eqb (value_at p k 2) k

-- '20 .., 21 .., 18 .., 22 .., in that order within a packet'. Up to packet k: what an earlier packet lacks is that packet's refusal.
abbrev pub packet_rows : List ℕ → ℕ → List Row
packet_rows p k =
    (is_short p k, 20)  -- packet not 42 bytes
    ∷ (is_damaged p k, 21)  -- an address byte, designation or triplet damaged
    ∷ (not (is_addressed p k), 18)  -- not packet 26, another magazine than the first's, or designations not running up from 0
    ∷ (lacks nothing (active (groups_to p (suc k))), 22)  -- a group without the date or network it needs
    ∷ []

-- 'lowest packet first': those of the first n packets
unfoldable pub rows_to : List ℕ → ℕ → List Row
rows_to p zero = []
rows_to p (suc k) = rows_to p k ++ packet_rows p k

-- the programmes of the first n packets
unfoldable pub programmes_to : List ℕ → ℕ → List Programme
programmes_to p n = programmes_in nothing (active (groups_to p n))

-- 'read one page's into its programmes in page order'
unfoldable pub reading_of : List ℕ → Answer (List Programme)
reading_of p = first_of (rows_to p (packets_of p)) (programmes_to p (packets_of p))

-- ── as the reader gives it ─────────────────────────────────────────────────────────────────────────────────────────
-- what stands where a page has no programme
abbrev pub blank : Programme
blank = record {
  row = 0;
  column = 0;
  day = 0;
  month = 0;
  hour = 0;
  minute = 0;
  finish = finish.Absent;
  country = 0;
  source = 0;
  offset = East 0;
  controlled = false;
  series = None;
}

-- Why no page has more than 103: sixteen packets have 208 triplets, as a seventeenth has no designation left; two of them are the
-- source and the date, without which no programme is, and each programme takes two (law `at_most_103`).
abbrev pub most : ℕ
most = 103

unfoldable pub page_of : List Programme → Page
page_of qs = record { count = length qs; programmes = filled most blank qs }

-- the paper's numbers
abbrev pub read_number : Refusal → ℕ
read_number Length = 20
read_number Damaged = 21
read_number OtherPacket = 18
read_number Lacking = 22

-- a page that is read, or why it is not: of a refused one no programme is told
abbrev pub reading_answer : Result Page Refusal → Answer Page
reading_answer (Err r) = refused (read_number r)
reading_answer (Ok page) = given page
