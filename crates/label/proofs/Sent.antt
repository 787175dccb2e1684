-- Bytes 9 to 21 as one number: how the reader comes by it, what it takes from it, and the same for the writer.
use Prim.Native.Nat.{ℕ, zero, suc, ◌+◌, ◌-◌, ◌*◌, ◌/◌, ◌%◌, ◌^◌, ◌<◌, ◌≤◌}
use mathlib.Core.Path.{◌≡◌, refl, sym, ap, ap₂, ◌∙◌}
use mathlib.Core.List.{List, [], ◌∷◌, ◌++◌, map}
use native.Mathlib.Omega.{arith}
use native.Mathlib.Nat.{pow-succ', pow-le-pow_right, lt_of_lt_of_le, mod-eq_of_lt}
use lib.ListN.{length, take, drop, take-append-drop}
use Rattle.hamming.specs.Byte.{D, good}
use Rattle.label.specs.declared.Label.{Label}
use Rattle.label.specs.Layout.{cni, Position, number_from, bit_at, field_by, sent_at, sent_in}
use Rattle.label.specs.Number.{in_order, number_by}
use Rattle.label.specs.Packet.{byte_for, label_bytes}
use Rattle.label.proofs.Digits.{and_then, and_low, after, in_turn, number_small, midst}
use Rattle.answer.proofs.Every.{All}
use Rattle.label.proofs.Nibbles.{low_four, four_number, turned, turned_back}
use Rattle.label.proofs.Places.{bit_in, sent_small}
use Rattle.label.proofs.Puts.{run, run_more}

-- the number of one byte's bits
abbrev number_at : (Position → ℕ) → ℕ → ℕ
number_at b i = number_from 0 (b (i, 1) ∷ b (i, 2) ∷ b (i, 3) ∷ b (i, 4) ∷ [])

module _ (b : Position → ℕ) (small : (s : Position) → b s < 2) where
  order_more : (is : List ℕ) (j : ℕ) → in_order (is ++ (j ∷ [])) ≡ in_order is ++ in_order (j ∷ [])
  order_more [] j = refl
  order_more (i ∷ is) j = rw (order_more is j)

  number_more : (is : List ℕ) (j : ℕ) → number_by b (is ++ (j ∷ [])) ≡ number_by b is * 16 + number_at b j
  unfolding number_by
  number_more is j =
      ap (λ (ss : List Position). number_from 0 (map b ss)) (order_more is j)
      ∙ in_turn b (in_order is) (in_order (j ∷ [])) 0
      ∙ after b (in_order (j ∷ [])) (number_by b is)

  -- a loop over some numbers that adds the bits of each
  pub number_run : (a i : ℕ) → a ≤ i → {n m : ℕ} → n ≡ number_by b (run a (i - a)) → m ≡ number_at b i → n * 16 + m ≡ number_by b (run a (i + 1 - a))
  number_run a i h e g =
      ap₂ (λ (x y : ℕ). x * 16 + y) e g ∙ sym (number_more (run a (i - a)) i) ∙ ap (number_by b) (sym (run_more a i h))

  run_small : (a k : ℕ) → number_by b (run a k) < 16 ^ k
  unfolding number_by
  run_small a zero = omega arith
  run_small a (suc k) =
      let e = number_more (run a k) (a + k) in
      let t = number_small b small (in_order ((a + k) ∷ [])) in
      let r = run_small a k in
      let p = pow-succ' 16 k in
      omega arith

  -- twelve bytes leave room for another
  pub run_room : (a k : ℕ) → k ≤ 12 → number_by b (run a k) < 16 ^ 12
  run_room a k h = lt_of_lt_of_le (run_small a k) (pow-le-pow_right (omega arith) h)

  -- j bits of a packet's label after k others
  pub run_of : {n : ℕ} → n ≡ number_by b label_bytes → (k j : ℕ) →
      let ys = take j (drop k (in_order label_bytes)) in
      let zs = drop j (drop k (in_order label_bytes)) in
      n / 2 ^ length zs % 2 ^ length ys ≡ number_from 0 (map b ys)
  unfolding number_by
  run_of e k j =
      let ss = in_order label_bytes in
      let ys = take j (drop k ss) in
      let zs = drop j (drop k ss) in
      let split : ss ≡ take k ss ++ (ys ++ zs) = sym (ap (λ (r : List Position). take k ss ++ r) (take-append-drop j (drop k ss)) ∙ take-append-drop k ss) in
      ap (λ (n : ℕ). n / 2 ^ length zs % 2 ^ length ys) (e ∙ ap (λ (r : List Position). number_from 0 (map b r)) split)
      ∙ midst b small (take k ss) ys zs

-- ── read ───────────────────────────────────────────────────────────────────────────────────────────────────────────
-- the CNI is sent in four runs, its country first
pub cni_of : (v : ℕ → ℕ) {n : ℕ} → n ≡ number_by (bit_at v) label_bytes →
    let country = n / 2 ^ 40 % 16 * 16 + n / 2 ^ 14 % 16 in
    let network = n / 2 ^ 38 % 4 * 64 + n / 2 ^ 8 % 64 in
    country * 256 + network ≡ field_by v cni
cni_of v e =
    let a = run_of (bit_at v) (bit_in v) e 8 4 in
    let b = run_of (bit_at v) (bit_in v) e 34 4 in
    let c = run_of (bit_at v) (bit_in v) e 12 2 in
    let d = run_of (bit_at v) (bit_in v) e 38 6 in
    omega arith

-- ── written ────────────────────────────────────────────────────────────────────────────────────────────────────────
-- the designation is sent as a value
pub designation_sent : (l : Label) → l.designation % 16 ≡ sent_in l 2
unfolding D
designation_sent l = low_four l.designation ∙ four_number (sent_at l (2, 4)) (sent_at l (2, 3)) (sent_at l (2, 2)) (sent_at l (2, 1))

-- the bits of bytes 9 and 10
pub flags_sent : (l : Label) →
    ((l.lci % 4 * 2 + l.luf % 2) * 2 + l.prf % 2) * 16 + ((l.pcs % 4 * 2 + l.mi % 2) * 2 + l.spare % 2) ≡ number_by (sent_at l) (9 ∷ 10 ∷ [])
unfolding number_by
flags_sent l =
    regroup (l.lci % 4) (l.luf % 2) (l.prf % 2) (l.pcs % 4) (l.mi % 2) (l.spare % 2)
    ∙ sym (and_low (and_low (and_low (and_low (and_low (and_low {m = 0} refl 2 l.lci) 1 l.luf) 1 l.prf) 2 l.pcs) 1 l.mi) 1 l.spare)
  where
    regroup : (a b c d e f : ℕ) → ((a * 2 + b) * 2 + c) * 16 + ((d * 2 + e) * 2 + f) ≡ (((((0 * 4 + a) * 2 + b) * 2 + c) * 4 + d) * 2 + e) * 2 + f
    regroup a b c d e f = omega arith

-- the bits of all
pub number_sent : (l : Label) {f : ℕ} → f ≡ number_by (sent_at l) (9 ∷ 10 ∷ []) → l.cni < 65536 → l.pty < 256 →
    ((f * 64 + l.cni / 4096 * 4 + l.cni / 64 % 4) * 1048576 + l.pil % 1048576) * 262144 + (l.cni / 256 % 16 * 64 + l.cni % 64) * 256 + l.pty
    ≡ number_by (sent_at l) label_bytes
unfolding number_by
number_sent l {f} e p q =
    regroup f (l.cni / 64 % 4) (l.pil % 1048576) (l.cni / 256 % 16) (l.cni % 64) (high_four l.cni p) (sym (mod-eq_of_lt q))
    ∙ sym (and_low (and_low (and_then (and_low (and_then (and_then (sym e) 12 4 l.cni) 6 2 l.cni) 20 l.pil) 8 4 l.cni) 6 l.cni) 8 l.pty)
  where
    high_four : (n : ℕ) → n < 65536 → n / 4096 ≡ n / 4096 % 16
    high_four n h = omega arith

    regroup : (f b p c d : ℕ) {a x t y : ℕ} → a ≡ x → t ≡ y →
        ((f * 64 + a * 4 + b) * 1048576 + p) * 262144 + (c * 64 + d) * 256 + t ≡ (((((f * 16 + x) * 4 + b) * 1048576 + p) * 16 + c) * 64 + d) * 256 + y
    regroup f b p c d h k = omega arith

-- the byte of number i, made of its four bits of a packet's label
abbrev pub byte_of : ℕ → ℕ → ℕ
byte_of n i = good (turned (n / 2 ^ (84 - 4 * i) % 16) % 16)

-- it is that of the label
pub bytes_of : (l : Label) {n : ℕ} → n ≡ number_by (sent_at l) label_bytes → All (λ i. byte_of n i ≡ byte_for l i) label_bytes
unfolding byte_for
bytes_of l {n} e =
    let r = run_of (sent_at l) (sent_small l) e in (
      at 9 (r 0 4),
      (
        at 10 (r 4 4),
        (
          at 11 (r 8 4),
          (
            at 12 (r 12 4),
            (
              at 13 (r 16 4),
              (
                at 14 (r 20 4),
                (
                  at 15 (r 24 4),
                  (
                    at 16 (r 28 4),
                    (at 17 (r 32 4), (at 18 (r 36 4), (at 19 (r 40 4), (at 20 (r 44 4), (at 21 (r 48 4), tt))))),
                  ),
                ),
              ),
            ),
          ),
        ),
      ),
    )
  where
    at : (i : ℕ) → n / 2 ^ (84 - 4 * i) % 16 ≡ number_at (sent_at l) i → byte_of n i ≡ good (sent_in l i)
    at i h =
        let s = sent_at l in
        let small = sent_small l in
        ap (λ (m : ℕ). good (turned m % 16)) h
        ∙ ap good (turned_back (s (i, 1)) (s (i, 2)) (s (i, 3)) (s (i, 4)) (small (i, 1)) (small (i, 2)) (small (i, 3)) (small (i, 4)))
