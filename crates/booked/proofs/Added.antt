-- A timer of a programme that a page gives.
use Prim.Native.Nat.{ℕ, ◌^◌, ◌<◌, ◌≤◌}
use mathlib.Core.Path.{◌≡◌, refl}
use mathlib.Core.Bool.{Bool, true, false, cond, ◌||◌}
use mathlib.Core.List.{List}
use native.Mathlib.Omega.{arith}
use borrow.Author.Tests.{leb-false}
use lib.Dec.{leb}
use Rattle.answer.specs.Answer.{given}
use Rattle.answer.proofs.Cases.{by_test}
use Rattle.label.specs.Pil.{parts_of}
use Rattle.calendar.specs.declared.Window.{Window}
use Rattle.calendar.specs.Calendar.{window_at, window_in}
use Rattle.figures.specs.Permitted.{is_time, is_not_recorded}
use Rattle.announced.specs.declared.Time.{Time}
use Rattle.preview.specs.declared.Programme.{Programme}
use Rattle.preview.specs.Page.{Answers}
use Rattle.booked.specs.declared.Booked.{Booked}
use Rattle.std.proofs.Common.{None, Some}
use Rattle.booked.specs.Timer.{minutes_of, length_of, pil_of, booked_by, timer_of}
use Rattle.booked.specs.Laws.{Member}
use Rattle.booked.proofs.Data.{Timely}
use Rattle.booked.proofs.Times.{OfDay}
use Rattle.booked.proofs.Programmes.{Good, programme_good}
use Rattle.booked.proofs.Real.{Exists, date_exists, Parts, pil_parts, time_parts, window}

abbrev Recorded : Programme → Type 0
Recorded q = is_not_recorded q.original.hour q.original.minute ≡ false

timed : (q : Programme) (b : Booked) → timer_of q ≡ Some b → Recorded q × (b ≡ booked_by q)
unfolding timer_of
timed q b e = go (is_not_recorded q.original.hour q.original.minute) e
  where
    go : (t : Bool) → cond t None (Some (booked_by q)) ≡ Some b → (t ≡ false) × (b ≡ booked_by q)
    go true f = absurd (let z : ◌≡◌ {A = ℕ} 0 1 = cc in omega arith)
    go false f = (refl, cc)

timely : (hour minute : ℕ) → Timely hour minute → is_not_recorded hour minute ≡ false → is_time hour minute ≡ true
timely hour minute e f = go (is_time hour minute) (rw f at e)
  where
    go : (t : Bool) → (t || false) ≡ true → t ≡ true
    go true e = refl
    go false e = e

-- what is had of such a programme
record Had (q : Programme) : Type 0 where
  hour : q.original.hour < 24
  minute : q.original.minute < 60
  exists : Exists q.day q.month q.year
  year : q.year ≤ 99
  parts : Parts q

had : (q : Programme) → Good q → Recorded q → Had q
had q g r =
    let t = time_parts q.original.hour q.original.minute (timely q.original.hour q.original.minute g.original r) in
    let x = date_exists q.day q.month q.year g.dated.0 in
    record { hour = t.0; minute = t.1; exists = x; year = g.dated.1; parts = pil_parts q x.day_to x.month_to t.0 t.1 }

of_day : (t : Time) → OfDay t → minutes_of t < 1440
of_day t e = let p = time_parts t.hour t.minute e in omega (arith, p.0, p.1)

length_short : (start finish : Time) → OfDay start → OfDay finish → length_of start finish < 1440
unfolding length_of
length_short start finish s f =
    let a = of_day start s in
    let z = of_day finish f in
    by_test (leb (minutes_of start) (minutes_of finish))
    (λ e. rw e (omega (arith, a, z)))
    (λ e. let h = leb-false (minutes_of start) (minutes_of finish) e in rw e (omega (arith, a, z, h)))

-- ── of a page ──────────────────────────────────────────────────────────────────────────────────────────────────────
module _ (page : List ℕ) (qs : List Programme) (q : Programme) (b : Booked) (w : Answers page (given qs)) (m : Member q qs) (e : timer_of q ≡ Some b) where
  good : Good q
  good = programme_good page qs q w m

  had_given : Had q
  had_given = had q good (timed q b e).0

  pub real : (w : Window) × (window_in b.pil b.year ≡ given w)
  real =
      let h = had_given in
      rw (timed q b e).1 (window_at (pil_of q) q.year, window q h.parts h.exists h.hour h.minute h.year)

  pub parts : parts_of b.pil ≡ record { day = q.day; month = q.month; hour = q.original.hour; minute = q.original.minute }
  parts =
      let p = had_given.parts in
      rw ((timed q b e).1, p.day, p.month, p.hour, p.minute) refl

  pub length_below : b.length < 1440
  length_below = rw (timed q b e).1 (length_short q.start q.finish good.start good.finish)

  pub cni_below : b.cni < 65536
  cni_below = rw (timed q b e).1 good.network

  pub pil_below : b.pil < 2 ^ 20
  pil_below = rw (timed q b e).1 had_given.parts.narrow
