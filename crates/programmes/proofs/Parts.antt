-- The PIL of a programme.
use Prim.Native.Nat.{ℕ, ◌+◌, ◌*◌, ◌^◌, ◌<◌, ◌≤◌, ◌/◌, ◌%◌}
use mathlib.Core.Path.{◌≡◌, refl, ap}
use mathlib.Core.Bool.{Bool, true, false, cond, ◌||◌}
use native.Mathlib.Omega.{arith}
use borrow.Author.Tests.{ltb-false, le-ltb}
use lib.Dec.{ltb}
use Rattle.answer.proofs.Cases.{both_false}
use Rattle.label.specs.Pil.{parts_of}
use Rattle.programmes.specs.declared.Programme.{Programme}
use Rattle.std.specs.Prelude.{None, Some}
use Rattle.programmes.specs.Timer.{spills, labelled, pil_of}

abbrev Parts : Programme → ℕ → Type 0
Parts q pil = parts_of pil ≡ record { day = q.day; month = q.month; hour = q.hour; minute = q.minute }

-- its four numbers are no wider than their bits
record Narrow (q : Programme) : Type 0 where
  day : q.day ≤ 31
  month : q.month ≤ 15
  hour : q.hour ≤ 31
  minute : q.minute ≤ 63

narrow : (q : Programme) → spills q ≡ false → Narrow q
narrow q e =
    let d = both_false (ltb 31 q.day) (ltb 15 q.month || (ltb 31 q.hour || ltb 63 q.minute)) e in
    let m = both_false (ltb 15 q.month) (ltb 31 q.hour || ltb 63 q.minute) d.1 in
    let h = both_false (ltb 31 q.hour) (ltb 63 q.minute) m.1 in
    record {
      day = ltb-false 31 q.day d.0;
      month = ltb-false 15 q.month m.0;
      hour = ltb-false 31 q.hour h.0;
      minute = ltb-false 63 q.minute h.1;
    }

pub parts : (q : Programme) (pil : ℕ) → pil_of q ≡ Some pil →
    (pil < 1048576) × (parts_of pil ≡ record { day = q.day; month = q.month; hour = q.hour; minute = q.minute })
unfolding pil_of
parts q pil = go (spills q) refl
  where
    go : (t : Bool) → spills q ≡ t → cond t None (Some (labelled q)) ≡ Some pil → (pil < 1048576) × Parts q pil
    go true s e = absurd (let z : ◌≡◌ {A = ℕ} 0 1 = cc in omega arith)
    go false t e =
        let f : labelled q ≡ pil = cc in
        let s : pil ≡ q.day * 32768 + q.month * 2048 + q.hour * 64 + q.minute = omega arith in
        let n = narrow q t in
        let d : pil / 2 ^ 15 % 2 ^ 5 ≡ q.day = omega arith in
        let m : pil / 2 ^ 11 % 2 ^ 4 ≡ q.month = omega arith in
        let h : pil / 2 ^ 6 % 2 ^ 5 ≡ q.hour = omega arith in
        let i : pil % 2 ^ 6 ≡ q.minute = omega arith in
        (omega arith, rw (d, m, h, i))

-- and where it has none, no PIL has its parts
pub no_parts : (q : Programme) → pil_of q ≡ None → (pil : ℕ) →
    (parts_of pil ≡ record { day = q.day; month = q.month; hour = q.hour; minute = q.minute }) → ⊥
unfolding pil_of
no_parts q e pil h = go (fits (ap (λ a. a.day) h) (ap (λ a. a.month) h) (ap (λ a. a.hour) h) (ap (λ a. a.minute) h))
  where
    fits : pil / 2 ^ 15 % 2 ^ 5 ≡ q.day → pil / 2 ^ 11 % 2 ^ 4 ≡ q.month → pil / 2 ^ 6 % 2 ^ 5 ≡ q.hour → pil % 2 ^ 6 ≡ q.minute →
        spills q ≡ false
    fits d m h i =
        let within-day = le-ltb 31 q.day (omega arith) in
        let within-month = le-ltb 15 q.month (omega arith) in
        let within-hour = le-ltb 31 q.hour (omega arith) in
        rw (within-day, within-month, within-hour) (le-ltb 63 q.minute (omega arith))

    go : spills q ≡ false → ⊥
    go s = let f : cond false None (Some (labelled q)) ≡ None = rw s at e in let z : ◌≡◌ {A = ℕ} 0 1 = cc in omega arith
