-- The laws of packet and PIL.
use Prim.Native.Nat.{ℕ, ◌+◌, ◌*◌, ◌/◌, ◌%◌, ◌<◌}
use mathlib.Core.Path.{◌≡◌, refl, sym, ◌∙◌}
use mathlib.Core.Bool.{Bool, true, false, cond, ◌&&◌}
use mathlib.Core.List.{[], ◌∷◌}
use native.Mathlib.Omega.{arith}
use native.Mathlib.Nat.{div-add-mod', div-div-eq-div-mul, mod-eq_of_lt}
use borrow.Author.Tests.{eqb-true, ltb-true, ne_eqb}
use lib.Dec.{eqb}
use Rattle.answer.proofs.Answers.{equation}
use Rattle.label.specs.declared.pil.Service.TheVariants.{Programme}
use Rattle.hamming.specs.Byte.{D}
use Rattle.label.specs.Layout.{number_from}
use Rattle.label.specs.Packet.{refusal_number, write_refusal_number, written_number}
use Rattle.label.specs.Pil.{twenty_bits, day_of, month_of, hour_of, minute_of, parts_of, service_at, no_specific_value, service_of}
use Rattle.label.specs.Laws.{Laws}
use Rattle.label.proofs.Round.{back, right, kept}
use Rattle.label.proofs.Damage.{only, one, two, two_refused}
use Rattle.label.proofs.Mended.{same_label, counted, counted_0, back_clean, one_each, only_received, at_most_16}

-- ── a PIL is the number of its parts ───────────────────────────────────────────────────────────────────────────────
whole : (pil x y day month hour minute : ℕ) → x * 64 + minute ≡ pil → y * 32 + hour ≡ x → day * 16 + month ≡ y → pil < 1048576 →
    (day < 32) × (((day * 16 + month) * 32 + hour) * 64 + minute ≡ pil)
whole pil x y day month hour minute p q r h = (omega arith, omega arith)

of_parts : (pil : ℕ) → pil < 1048576 → ((day_of pil * 16 + month_of pil) * 32 + hour_of pil) * 64 + minute_of pil ≡ pil
of_parts pil h =
    let w = whole pil (pil / 64) (pil / 64 / 32) (pil / 64 / 32 / 16) (pil / 64 / 32 % 16) (pil / 64 % 32) (pil % 64)
    (div-add-mod' pil 64) (div-add-mod' (pil / 64) 32) (div-add-mod' (pil / 64 / 32) 16) h in
    let month : pil / 2048 ≡ pil / 64 / 32 = sym (div-div-eq-div-mul pil 64 32) in
    let day : pil / 32768 ≡ pil / 64 / 32 / 16 = sym (div-div-eq-div-mul (pil / 64) 32 16 ∙ div-div-eq-div-mul pil 64 512) in
    rw (month, day, mod-eq_of_lt w.0) w.1

module _ (pil : ℕ) (a : pil ≡ 0b00000_1111_11111_111111 → ⊥) (b : pil ≡ 0b00000_1111_11110_111111 → ⊥) (c : pil ≡ 0b00000_1111_11101_111111 → ⊥)
    (d : pil ≡ 0b00000_1111_11100_111111 → ⊥) (e : pil ≡ 0b11111_1111_11111_111111 → ⊥) where
  other_hour : (hour : ℕ) → ((0 * 16 + 15) * 32 + hour) * 64 + 63 ≡ pil → service_at hour ≡ Programme
  other_hour hour h = rw (ne_eqb hour 31 (omega arith), ne_eqb hour 30 (omega arith), ne_eqb hour 29 (omega arith), ne_eqb hour 28 (omega arith))

  programme : service_of pil ≡ Programme
  unfolding service_of
  programme = rw (ne_eqb pil no_specific_value e) (go (twenty_bits pil) (eqb (day_of pil) 0) (eqb (month_of pil) 15) (eqb (minute_of pil) 63) refl refl refl refl)
    where
      go : (w x y z : Bool) → twenty_bits pil ≡ w → eqb (day_of pil) 0 ≡ x → eqb (month_of pil) 15 ≡ y → eqb (minute_of pil) 63 ≡ z →
          cond (w && x && y && z) (service_at (hour_of pil)) Programme ≡ Programme
      go true true true true p q r s =
          other_hour (hour_of pil)
          (rw (eqb-true (day_of pil) 0 q, eqb-true (month_of pil) 15 r, eqb-true (minute_of pil) 63 s) at (of_parts pil (ltb-true pil 1048576 p)))
      go true true true false p q r s = refl
      go true true false z p q r s = refl
      go true false y z p q r s = refl
      go false x y z p q r s = refl

pub laws : Laws
laws = record {
  back = back;
  right = right;
  kept = kept;
  only = only;
  one = one;
  two = two;
  two_refused = two_refused;
  same_label = same_label;
  counted = counted;
  counted_0 = counted_0;
  back_clean = back_clean;
  one_each = one_each;
  only_received = only_received;
  at_most_16 = at_most_16;
  timer_control_lem = unfold service_of in refl;
  inhibit_terminate_lem = unfold service_of in refl;
  interruption = unfold service_of in refl;
  continuation = unfold service_of in refl;
  no_specific_value_lem = unfold service_of in refl;
  programme = programme;
  turned_unique = λ v r s p q. equation (number_from 0 (D 1 v ∷ D 2 v ∷ D 3 v ∷ D 4 v ∷ [])) r s p.0 q.0;
  refusal_number_unique = λ r. equation (refusal_number r);
  write_refusal_number_unique = λ r. equation (write_refusal_number r);
  written_number_unique = λ w. equation (written_number w);
  parts_unique = λ pil. equation (parts_of pil);
  service_unique = λ pil. equation (service_of pil);
}
