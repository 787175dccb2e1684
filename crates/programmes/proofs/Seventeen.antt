-- A seventeenth packet has no designation left.
use Prim.Native.Nat.{ℕ, ◌+◌, ◌*◌, ◌≤◌, ◌<◌}
use mathlib.Core.Path.{◌≡◌, refl, sym, ap, ◌∙◌}
use mathlib.Core.Bool.{true, false, ◌&&◌}
use mathlib.Core.List.{List}
use native.Mathlib.Omega.{arith}
use borrow.Author.Tests.{eqb-true, ltb-true, le-ltb, not-false}
use lib.Dec.{eqb, ltb}
use lib.ListN.{length, take}
use lib.Seq.{length-take-le, get_or-take}
use Rattle.answer.specs.Answer.{first_of}
use Rattle.answer.specs.Lists.{some}
use Rattle.answer.proofs.Cases.{both_true, both_false}
use Rattle.answer.proofs.Every.{Passed, each_listed, some_none, no_way}
use Rattle.hamming.specs.Byte.{nibble_of}
use Rattle.hamming.specs.declared.Nibble.{Nibble}
use Rattle.hamming.specs.declared.Nibble.TheVariants as nibble
use Rattle.hamming.proofs.Nearest.{only_clean, only_mended}
use Rattle.label.specs.Packet.{damaged, value_of}
use Rattle.programmes.specs.Page.{byte_at, packets_of, nibble_at, triplet_at, addressed, thirteen, damaged_triplet, bits_in, value_at}
use Rattle.programmes.specs.Page.{is_short, is_damaged, is_addressed, packet_rows, rows_to, programmes_to, reading_of}
use Rattle.programmes.proofs.Rows.{settled}
use Rattle.programmes.proofs.Damage.{wrong_byte, wrong_triplet, SamePacket, same_packet, same_answer}

-- ── the seventeenth ────────────────────────────────────────────────────────────────────────────────────────────────
-- a value has four bits
small : (b : ℕ) → damaged (nibble_of b) ≡ false → value_of (nibble_of b) < 16
small b = go (nibble_of b) refl
  where
    go : (n : Nibble) → nibble_of b ≡ n → damaged n ≡ false → value_of n < 16
    go nibble.Damaged e d = no_way d
    go (nibble.Clean v) e d = (only_clean b v e).0
    go (nibble.Mended v) e d = (only_mended b v e).0

pub never_17 : (p : List ℕ) → Passed (packet_rows p 16) → ⊥
unfolding is_damaged is_addressed
never_17 p t =
    let clean = some_none (wrong_byte p 16) addressed (both_false (some (wrong_byte p 16) addressed) (some (wrong_triplet p 16) thirteen) t.1.0).0 in
    let below = small (byte_at p 16 2) clean.1.1.0 in
    let others = ltb (value_at p 16 0) 8 && eqb (value_at p 16 0) (value_at p 0 0) && eqb (value_at p 16 1) 13 in
    let is : is_addressed p 16 ≡ true = not-false (is_addressed p 16) t.1.1.0 in
    let designation : value_at p 16 2 ≡ 16 = eqb-true (value_at p 16 2) 16 (both_true others (eqb (value_at p 16 2) 16) is).1 in
    omega arith

-- ── the first seventeen ────────────────────────────────────────────────────────────────────────────────────────────
-- a packet of the same bytes
same_bytes : (p q : List ℕ) (k : ℕ) → ((i : ℕ) → i < 42 → byte_at p k i ≡ byte_at q k i) → is_short p k ≡ is_short q k → SamePacket p q k
same_bytes p q k e =
    same_packet p q k
    (λ i m.
    let l = ltb-true i 3 (each_listed (λ i. ltb i 3) addressed refl i m) in
    let f : nibble_at p k i ≡ nibble_at q k i = ap nibble_of (e i (omega arith)) in
    (ap damaged f, ap value_of f))
    (λ j m. let f = at j (ltb-true j 13 (each_listed (λ j. ltb j 13) thirteen refl j m)) in (ap damaged_triplet f, ap bits_in f))
  where
    at : (j : ℕ) → j < 13 → triplet_at p k j ≡ triplet_at q k j
    at j l = rw (e (3 + 3 * j) (omega arith), e (4 + 3 * j) (omega arith), e (5 + 3 * j) (omega arith))

pub first_17 : (p : List ℕ) → 714 ≤ length p → reading_of p ≡ reading_of (take 714 p)
unfolding reading_of
first_17 p l =
    let q = take 714 p in
    let size = length-take-le 714 p l in
    let n : packets_of q ≡ 17 = omega arith in
    settled p (programmes_to p (packets_of p)) (programmes_to p 17) 16 (packets_of p) (omega arith) (never_17 p)
    ∙ same_answer p q 17 (λ k m. same_bytes p q k (λ i h. sym (get_or-take 714 p (42 * k + i) 0 (omega arith))) (whole k m size))
    ∙ ap (λ (n : ℕ). first_of (rows_to q n) (programmes_to q n)) (sym n)
  where
    whole : (k : ℕ) → k < 17 → length (take 714 p) ≡ 714 → is_short p k ≡ is_short (take 714 p) k
    whole k m size = le-ltb (length p) (42 * k + 42) (omega arith) ∙ sym (le-ltb (length (take 714 p)) (42 * k + 42) (omega arith))
