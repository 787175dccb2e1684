-- `nibbles` goes through bytes 9 to 21, and stops at a damaged one.
use Rattle.std.proofs.Common.{rules, arith, ◌≡◌, ℕ, ◌+◌, ◌-◌, ◌^◌, ◌<◌, ◌≤◌, true, false, refl, sym, ap, ◌∙◌}
use Rattle.hamming.proofs.Nearest.{passes}
use Rattle.answer.proofs.All.{each}
use Rattle.answer.proofs.Counts.{bit_le}
use Rattle.answer.proofs.Every.{some_one}
use Rattle.answer.specs.Lists.{some, count, member}
use Rattle.label.specs.Layout.{bit_at}
use Rattle.label.specs.Number.{number_by}
use Rattle.label.specs.Packet.{value_at, damaged_at, mended_at, label_bytes}
use Rattle.label.proofs.Nibbles.{turned}
use Rattle.label.proofs.Places.{bit_in}
use Rattle.label.proofs.Sent.{number_run, run_room}
use Rattle.label.proofs.Puts.{run, some_run, count_run, count_room}
use Rattle.reader.proofs.nibbles.Goals as goal

among : (i : ℕ) → 9 ≤ i → i < 22 → member i label_bytes ≡ true
among i h l =
    let e : 9 + (i - 9) ≡ i = omega arith in
    rw e at (passes (member (9 + (i - 9)) label_bytes) (each (λ k. member (9 + k) label_bytes) 13 tt (i - 9) (omega arith)))

pub loop-i-init : goal.loop-i-init
unfolding number_by
loop-i-init c = (refl, refl, refl)

pub returns-in_err-v : goal.returns-in_err-v
returns-in_err-v c =
    let p = c.args.bytes.now in
    let s = c.loop-i in
    let d : damaged_at p s.i ≡ true = search rules in
    let t = some_one (damaged_at p) label_bytes s.i (among s.i s.auto.i c.loop-i-test.true) d in
    search rules

pub overflow_add-mended : goal.overflow_add-mended
overflow_add-mended c =
    let p = c.args.bytes.now in
    let s = c.loop-i in
    let r = count_room (mended_at p) 9 (s.i - 9) in
    let b = bit_le (mended_at p s.i) in
    let m = c.mends-mended.ensures _ c.decode-n.ensures in
    search rules

-- another nibble finds room
room : (p : _) (i : ℕ) {n : ℕ} → i < 22 → n ≡ number_by (bit_at (value_at p)) (run 9 (i - 9)) → n < 16 ^ 12
room p i h e = rw e (run_room (bit_at (value_at p)) (bit_in (value_at p)) 9 (i - 9) (omega arith))

pub overflow_mul-number : goal.overflow_mul-number
overflow_mul-number c = let r = room c.args.bytes.now c.loop-i.i c.loop-i-test.true c.loop-i.invariant.2 in search rules

pub overflow_add-number : goal.overflow_add-number
overflow_add-number c = let r = room c.args.bytes.now c.loop-i.i c.loop-i-test.true c.loop-i.invariant.2 in search rules

pub loop-i-preserved : goal.loop-i-preserved
loop-i-preserved c =
    let p = c.args.bytes.now in
    let s = c.loop-i in
    let d : damaged_at p s.i ≡ false = search rules in
    let v : c.in_ok-v.v ≡ value_at p s.i = search rules in (
      sym (some_run (damaged_at p) 9 s.i s.auto.i (sym s.invariant.0) (sym d)),
      count_run (mended_at p) 9 s.i s.auto.i s.invariant.1 (c.mends-mended.ensures _ c.decode-n.ensures),
      number_run (bit_at (value_at p)) (bit_in (value_at p)) 9 s.i s.auto.i s.invariant.2 (c.from.ensures ∙ c.turned.ensures.0 ∙ ap turned v),
    )

pub returns : goal.returns
returns c =
    let p = c.args.bytes.now in
    let s = c.loop-i in
    let l = s.auto.i-end (omega arith) in
    let e : 22 ≡ s.i = omega arith in (
      ap (λ n. some (damaged_at p) (run 9 (n - 9))) e ∙ s.invariant.0,
      s.invariant.1 ∙ ap (λ n. count (mended_at p) (run 9 (n - 9))) (sym e),
      s.invariant.2 ∙ ap (λ n. number_by (bit_at (value_at p)) (run 9 (n - 9))) (sym e),
    )
