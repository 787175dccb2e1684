-- The bytes of a written page read as its groups, and terminators after them.
use Prim.Native.Nat.{ℕ, zero, suc, ◌+◌, ◌-◌, ◌*◌, ◌/◌, ◌%◌, ◌≤◌, ◌<◌}
use mathlib.Core.Path.{◌≡◌, refl, sym, ap, ap₂, ◌∙◌}
use mathlib.Core.Bool.{true}
use mathlib.Core.List.{List, [], ◌∷◌, ◌++◌, map, map-append}
use native.Mathlib.Decide.{dec_lt}
use native.Mathlib.Omega.{arith}
use borrow.Author.Tests.{ltb-true}
use lib.Dec.{ltb}
use lib.ListN.{length, get_or, take, drop, replicate, length-append, length-drop, length-replicate, get_or-append}
use lib.Seq.{take-suc, take_all, take-add, get_or-drop, get_or_at}
use Rattle.answer.proofs.Every.{All, map_same, each_listed, unlisted}
use Rattle.label.proofs.Puts.{run}
use Rattle.group.specs.declared.Group.{Group}
use Rattle.group.specs.declared.Group.TheVariants as group
use Rattle.group.specs.Group.{group_of}
use Rattle.group.specs.Laws.{fits}
use Rattle.triplet.specs.Word.{good, triplet_of}
use Rattle.triplet.specs.declared.Triplet.{Triplet}
use Rattle.triplet.specs.declared.Triplet.TheVariants.{Clean}
use Rattle.programmes.specs.Meaning.{active}
use Rattle.programmes.specs.Page.{byte_at, triplet_at, thirteen, bits_in, groups_in, groups_to}
use Rattle.programmes.specs.Written.{bits_at, byte_of, byte_in, bytes_to}
use Rattle.programmes.proofs.Facts.{triplet_sent, triplet_small, group_small, group_back, word_bytes}
use Rattle.programmes.proofs.Ranges.{Sendable}
use Rattle.programmes.proofs.Active.{before_end}

-- ── the bytes ──────────────────────────────────────────────────────────────────────────────────────────────────────
module _ (m : ℕ) (gs : List Group) where
  -- the first n bytes of a page are n, and byte i of them is that of packet i / 42
  pub bytes_length : (n : ℕ) → length (bytes_to m gs n) ≡ n
  unfolding bytes_to
  bytes_length zero = refl
  bytes_length (suc n) =
      let r = bytes_length n in
      omega (arith, length-append (bytes_to m gs n) (byte_in m gs (n / 42) (n % 42) ∷ []))

  byte_to : (n i : ℕ) → i < n → get_or (bytes_to m gs n) i 0 ≡ byte_in m gs (i / 42) (i % 42)
  unfolding bytes_to
  byte_to zero i h = absurd (omega arith)
  byte_to (suc n) i h =
      let last = byte_in m gs (n / 42) (n % 42) in
      elim (dec_lt i n) [
        | yes l ↦ get_or-append (bytes_to m gs n) (last ∷ []) 0 i (rw (bytes_length n) l) ∙ byte_to n i l
        | no l ↦ let e : i ≡ n = omega arith in rw e (get_or_at (bytes_to m gs n) last [] 0 n (bytes_length n))
      ]

  -- byte i of packet k
  pub byte_at_lem : (n k i : ℕ) → k < n → i < 42 → byte_at (bytes_to m gs (42 * n)) k i ≡ byte_in m gs k i
  byte_at_lem n k i h l =
      let d : (42 * k + i) / 42 ≡ k = omega arith in
      let r : (42 * k + i) % 42 ≡ i = omega arith in
      byte_to (42 * n) (42 * k + i) (omega arith) ∙ ap₂ (λ (a b : ℕ). byte_in m gs a b) d r

  -- byte r of triplet j
  triplet_byte : (k i j r : ℕ) → i ≡ 3 + (3 * j + r) → r < 3 → byte_in m gs k i ≡ byte_of (good (bits_at gs (13 * k + j))) r
  triplet_byte k i j r e h =
      let s : i ≡ suc (suc (suc (3 * j + r))) = omega arith in
      let d : (3 * j + r) / 3 ≡ j = omega arith in
      let t : (3 * j + r) % 3 ≡ r = omega arith in
      ap (λ (x : ℕ). byte_in m gs k x) s ∙ ap₂ (λ (a b : ℕ). byte_of (good (bits_at gs (13 * k + a))) b) d t

-- ── the groups ─────────────────────────────────────────────────────────────────────────────────────────────────────
-- groups, and n terminators after them
abbrev pub ended : List Group → ℕ → List Group
ended gs n = gs ++ replicate n group.Terminator

-- past its groups a page has terminators anyway
ended_at : (gs : List Group) (n i : ℕ) → get_or (ended gs n) i group.Terminator ≡ get_or gs i group.Terminator
ended_at [] zero i = refl
ended_at [] (suc n) zero = refl
ended_at [] (suc n) (suc i) = ended_at [] n i
ended_at (g ∷ gs) n zero = refl
ended_at (g ∷ gs) n (suc i) = ended_at gs n i

-- every group of a page fits, a terminator too
fits_at : (gs : List Group) (i : ℕ) → All Sendable gs → fits (get_or gs i group.Terminator) ≡ true
fits_at [] i a = refl
fits_at (g ∷ gs) zero a = a.0.2
fits_at (g ∷ gs) (suc i) a = fits_at gs i a.1

-- the first n of some groups, one after the other
first_run : (gs : List Group) (n : ℕ) → n ≤ length gs → map (λ j. get_or gs j group.Terminator) (run 0 n) ≡ take n gs
first_run gs zero h = refl
first_run gs (suc n) h =
    let f : ℕ → Group = λ j. get_or gs j group.Terminator in
    let s : 0 + n ≡ n = omega arith in
    map-append f (run 0 n) ((0 + n) ∷ [])
    ∙ ap₂ (λ (x y : List Group). x ++ y) (first_run gs n (omega arith)) (ap (λ (j : ℕ). f j ∷ []) s)
    ∙ sym (take-suc gs n group.Terminator h)

module _ (m : ℕ) (gs : List Group) (n : ℕ) (sendable : All Sendable gs) (room : length gs ≤ 13 * n) where
  -- triplet j of packet k has the bits of its group
  pub clean_at : (k j : ℕ) → k < n → j < 13 → triplet_at (bytes_to m gs (42 * n)) k j ≡ Clean (bits_at gs (13 * k + j))
  clean_at k j h l =
      let v = bits_at gs (13 * k + j) in
      let small = group_small (get_or gs (13 * k + j) group.Terminator) (fits_at gs (13 * k + j) sendable) in
      let a = byte_at_lem m gs n k (3 + 3 * j) h (omega arith) ∙ triplet_byte m gs k (3 + 3 * j) j 0 (omega arith) (omega arith) in
      let b = byte_at_lem m gs n k (4 + 3 * j) h (omega arith) ∙ triplet_byte m gs k (4 + 3 * j) j 1 (omega arith) (omega arith) in
      let c = byte_at_lem m gs n k (5 + 3 * j) h (omega arith) ∙ triplet_byte m gs k (5 + 3 * j) j 2 (omega arith) (omega arith) in
      ap triplet_of (rw (a, b, c) (word_bytes (good v) (triplet_small v small))) ∙ triplet_sent v small

  -- and reads as it
  group_at : (k j : ℕ) → k < n → j < 13 →
      group_of (bits_in (triplet_at (bytes_to m gs (42 * n)) k j)) ≡ get_or gs (13 * k + j) group.Terminator
  group_at k j h l =
      ap (λ (t : Triplet). group_of (bits_in t)) (clean_at k j h l)
      ∙ group_back (get_or gs (13 * k + j) group.Terminator) (fits_at gs (13 * k + j) sendable)

  -- the groups of a written page to the end of its packets
  abbrev page : List Group
  page = ended gs (13 * n - length gs)

  -- it fills the packets, thirteen groups to each
  page_length : length page ≡ 13 * n
  page_length =
      omega (arith, length-append gs (replicate (13 * n - length gs) group.Terminator), length-replicate (13 * n - length gs) group.Terminator)

  packet_groups : (k : ℕ) → k < n → groups_in (bytes_to m gs (42 * n)) k ≡ take 13 (drop (13 * k) page)
  unfolding groups_in
  packet_groups k h =
      let rest = drop (13 * k) page in
      let room : 13 ≤ length rest = omega (arith, length-drop (13 * k) page, page_length) in
      map_same (λ j. group_of (bits_in (triplet_at (bytes_to m gs (42 * n)) k j))) (λ j. get_or rest j group.Terminator) thirteen
      (unlisted thirteen (λ j i.
      let l = ltb-true j 13 (each_listed (λ j. ltb j 13) thirteen refl j i) in
      group_at k j h l ∙ sym (get_or-drop (13 * k) page j group.Terminator ∙ ended_at gs (13 * n - length gs) (13 * k + j))))
      ∙ first_run rest 13 room

  groups_to_lem : (k : ℕ) → k ≤ n → groups_to (bytes_to m gs (42 * n)) k ≡ take (13 * k) page
  unfolding groups_to
  groups_to_lem zero h = refl
  groups_to_lem (suc k) h =
      let s : 13 * k + 13 ≡ 13 * suc k = omega arith in
      ap₂ (λ (x y : List Group). x ++ y) (groups_to_lem k (omega arith)) (packet_groups k (omega arith))
      ∙ sym (take-add (13 * k) 13 page) ∙ ap (λ (i : ℕ). take i page) s

  -- the page's groups that count are those written
  pub active_groups : active (groups_to (bytes_to m gs (42 * n)) n) ≡ gs
  active_groups =
      let whole : groups_to (bytes_to m gs (42 * n)) n ≡ page =
      groups_to_lem n (omega arith) ∙ take_all (13 * n) page (omega (arith, page_length)) in
      ap active whole ∙ before_end gs (13 * n - length gs) sendable
