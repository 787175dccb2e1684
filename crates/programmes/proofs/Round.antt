-- What is written is read back, and written again is the same bytes; the writer keeps the rest.
use Prim.Native.Nat.{ℕ, zero, suc, ◌+◌, ◌*◌, ◌≤◌, ◌<◌}
use mathlib.Core.Path.{◌≡◌, refl, ap, ◌∙◌}
use mathlib.Core.Bool.{true, false, ◌||◌}
use mathlib.Core.List.{List, [], ◌∷◌}
use native.Mathlib.Omega.{arith}
use borrow.Author.Tests.{eq-eqb, eqb-true, ltb-true, ltb-false, lt-ltb, le-ltb, not-false}
use lib.Dec.{eqb, ltb}
use lib.ListN.{length, get_or, take, drop, set}
use lib.Seq.{sets, length-sets, sets-eq, take_at, get_or-set_other}
use Rattle.answer.specs.Answer.{given, first_of}
use Rattle.answer.specs.Lists.{some}
use Rattle.answer.proofs.Cases.{both_false}
use Rattle.answer.proofs.Every.{All, all_append, each_listed, unlisted, none_some, Passed, passed, accepted}
use Rattle.hamming.specs.Byte.{nibble_of}
use Rattle.hamming.specs.declared.Nibble.TheVariants as nibble
use Rattle.group.specs.declared.Group.{Group}
use Rattle.programmes.specs.declared.Programme.{Programme}
use Rattle.programmes.specs.Meaning.{nothing, active, lacks, programmes_in}
use Rattle.label.specs.Packet.{damaged}
use Rattle.programmes.specs.Page.{packets_of, nibble_at, triplet_at, addressed, thirteen, damaged_triplet, groups_in, groups_to, is_damaged, is_addressed, packet_rows, rows_to, programmes_to, reading_of}
use Rattle.programmes.specs.Written.{groups_for, packets_for, bytes_to, outside, unfit, writer_rows, Wrote, writing_of}
use Rattle.programmes.proofs.Facts.{byte_sent}
use Rattle.programmes.proofs.Meant.{meant, lacks_none}
use Rattle.programmes.proofs.Ranges.{Sendable, sendable}
use Rattle.programmes.proofs.Active.{lacks_less}
use Rattle.programmes.proofs.Sent.{bytes_length, byte_at_lem, clean_at, active_groups}

-- ── a written page is not refused ──────────────────────────────────────────────────────────────────────────────────
module _ (m : ℕ) (gs : List Group) (n : ℕ) (magazine : m < 8) (few : n ≤ 16) (sent : All Sendable gs) (room : length gs ≤ 13 * n) where
  -- the magazine, 13 and the designation
  address : (k : ℕ) → k < n →
      let p = bytes_to m gs (42 * n) in
      (nibble_at p k 0 ≡ nibble.Clean m) × (nibble_at p k 1 ≡ nibble.Clean 13) × (nibble_at p k 2 ≡ nibble.Clean k)
  address k h = (
    ap nibble_of (byte_at_lem m gs n k 0 h (omega arith)) ∙ byte_sent m (omega arith),
    ap nibble_of (byte_at_lem m gs n k 1 h (omega arith)) ∙ byte_sent 13 (omega arith),
    ap nibble_of (byte_at_lem m gs n k 2 h (omega arith)) ∙ byte_sent k (omega arith),
  )

  -- no byte and no triplet is damaged
  undamaged : (k : ℕ) → k < n → is_damaged (bytes_to m gs (42 * n)) k ≡ false
  unfolding is_damaged
  undamaged k h =
      let p = bytes_to m gs (42 * n) in
      let a = address k h in
      let bytes : some (λ i. damaged (nibble_at p k i)) addressed ≡ false =
      none_some (λ i. damaged (nibble_at p k i)) addressed (ap damaged a.0, (ap damaged a.1, (ap damaged a.2, tt))) in
      let triplets : some (λ j. damaged_triplet (triplet_at p k j)) thirteen ≡ false =
      none_some (λ j. damaged_triplet (triplet_at p k j)) thirteen
      (unlisted thirteen (λ j i. ap damaged_triplet (clean_at m gs n sent room k j h (ltb-true j 13 (each_listed (λ j. ltb j 13) thirteen refl j i))))) in
      rw (bytes, triplets)

  -- and the address is the page's
  well_addressed : (k : ℕ) → k < n → is_addressed (bytes_to m gs (42 * n)) k ≡ true
  unfolding is_addressed
  well_addressed k h =
      let a = address k h in
      let first = (address 0 (omega arith)).0 in
      rw (a.0, first, a.1, a.2, lt-ltb m 8 magazine, eq-eqb m m refl, eq-eqb k k refl)

  -- no row of a packet applies where none of the first packets lacks anything
  packet_passed : (k : ℕ) → k < n → lacks nothing (active (groups_to (bytes_to m gs (42 * n)) (suc k))) ≡ false → Passed (packet_rows (bytes_to m gs (42 * n)) k)
  packet_passed k h e = (
    le-ltb (length (bytes_to m gs (42 * n))) (42 * k + 42) (omega (arith, bytes_length m gs (42 * n))),
    (undamaged k h, (rw (well_addressed k h), (e, tt))),
  )

  -- nor of the first k packets
  rows_passed : (k : ℕ) → k ≤ n → lacks nothing (active (groups_to (bytes_to m gs (42 * n)) k)) ≡ false → Passed (rows_to (bytes_to m gs (42 * n)) k)
  unfolding rows_to
  rows_passed zero h e = tt
  rows_passed (suc k) h e =
      let p = bytes_to m gs (42 * n) in
      let less : lacks nothing (active (groups_to p k)) ≡ false = lacks_less nothing (groups_to p k) (groups_in p k) (unfold groups_to in e) in
      all_append (λ row. row.0 ≡ false) (rows_to p k) (packet_rows p k) (rows_passed k (omega arith) less) (packet_passed k (omega arith) e)

  -- it reads as what its groups mean
  reads : lacks nothing gs ≡ false → reading_of (bytes_to m gs (42 * n)) ≡ given (programmes_in nothing gs)
  unfolding reading_of programmes_to
  reads e =
      let p = bytes_to m gs (42 * n) in
      let all : active (groups_to p n) ≡ gs = active_groups m gs n sent room in
      let count : packets_of p ≡ n = rw (bytes_length m gs (42 * n)) (omega arith) in
      ap (λ (x : ℕ). first_of (rows_to p x) (programmes_to p x)) count
      ∙ passed (programmes_to p n) (rows_to p n) (rows_passed n (omega arith) (ap (lacks nothing) all ∙ e))
      ∙ ap (λ (x : List Group). given (programmes_in nothing x)) all

-- ── a buffer that is written ───────────────────────────────────────────────────────────────────────────────────────
-- the first bytes are those written
taken : (buf vs : List ℕ) → length vs ≤ length buf → take (length vs) (sets buf 0 vs) ≡ vs
taken buf vs h = ap (λ (l : List ℕ). take (length vs) l) (sets-eq vs buf 0 (omega arith)) ∙ take_at vs (drop (0 + length vs) buf) (length vs) refl

-- those after them are as they were
past : (vs buf : List ℕ) (at i : ℕ) → at + length vs ≤ i → get_or (sets buf at vs) i 0 ≡ get_or buf i 0
past [] buf at i h = refl
past (v ∷ vs) buf at i h = past vs (set buf at v) (suc at) i (omega arith) ∙ get_or-set_other buf at i v 0 (λ e. omega arith)

-- ── the laws ───────────────────────────────────────────────────────────────────────────────────────────────────────
module _ (m : ℕ) (qs : List Programme) (p : List ℕ) (w : Wrote) (e : writing_of m qs p ≡ given w) where
  -- what is accepted was not refused, and is what is written
  written : Passed (writer_rows m qs p)
      × (record { packets = packets_for (groups_for qs); bytes = sets p 0 (bytes_to m (groups_for qs) (42 * packets_for (groups_for qs))) } ≡ w)
  unfolding writing_of
  written =
      accepted
      (record { packets = packets_for (groups_for qs); bytes = sets p 0 (bytes_to m (groups_for qs) (42 * packets_for (groups_for qs))) }) w (writer_rows m qs p) e

  -- magazine, fields and number of packets are in their ranges
  fit : (ltb 7 m ≡ false) × (some outside qs ≡ false) × (ltb 16 (packets_for (groups_for qs)) ≡ false)
  unfolding unfit
  fit =
      let a = both_false (ltb 7 m) (some outside qs || ltb 16 (packets_for (groups_for qs))) written.0.1.0 in
      let b = both_false (some outside qs) (ltb 16 (packets_for (groups_for qs))) a.1 in
      (a.0, b.0, b.1)

  -- the bytes fit the buffer
  fit_length : length (bytes_to m (groups_for qs) (42 * packets_for (groups_for qs))) ≤ length p
  fit_length =
      let size = eqb-true (length p) 672 (not-false (eqb (length p) 672) written.0.0) in
      let few = ltb-false 16 (packets_for (groups_for qs)) fit.2 in
      omega (arith, bytes_length m (groups_for qs) (42 * packets_for (groups_for qs)))

  -- what is written is read back
  pub back : reading_of (take (42 * w.packets) w.bytes) ≡ given qs
  unfolding groups_for
  back =
      let gs = groups_for qs in
      let n = packets_for gs in
      let vs = bytes_to m gs (42 * n) in
      let first : take (42 * n) (sets p 0 vs) ≡ vs = rw (bytes_length m gs (42 * n)) at (taken p vs fit_length) in
      let few = ltb-false 16 n fit.2 in
      let magazine = ltb-false 7 m fit.0 in
      rw (← written.1)
      (ap reading_of first
      ∙ reads m gs n (omega arith) few (sendable nothing qs fit.1) (omega arith) (lacks_none nothing qs) ∙ ap given (meant nothing qs))

  -- the length and every byte past the packets are kept
  pub kept : (length w.bytes ≡ length p) × ((i : ℕ) → 42 * w.packets ≤ i → get_or w.bytes i 0 ≡ get_or p i 0)
  kept =
      let vs = bytes_to m (groups_for qs) (42 * packets_for (groups_for qs)) in
      let size : length vs ≡ 42 * packets_for (groups_for qs) = bytes_length m (groups_for qs) (42 * packets_for (groups_for qs)) in
      rw (← written.1) (length-sets p 0 vs, λ i h. past vs p 0 i (omega arith))

-- what is read back is written as the same bytes
pub again : (m : ℕ) (qs rs : List Programme) (p : List ℕ) (w : Wrote) → writing_of m qs p ≡ given w →
    reading_of (take (42 * w.packets) w.bytes) ≡ given rs → writing_of m rs p ≡ given w
again m qs rs p w e r =
    let b = back m qs p w e in
    let same : rs ≡ qs = cc in
    ap (λ (x : List Programme). writing_of m x p) same ∙ e
