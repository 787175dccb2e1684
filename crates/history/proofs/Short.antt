-- A wait never walks more than 36 seconds.
use Prim.Native.Nat.{ℕ, suc, ◌+◌, ◌-◌, ◌≤◌, ◌<◌}
use mathlib.Core.Path.{◌≡◌, refl, sym, ◌∙◌}
use mathlib.Core.Bool.{Bool, true, false, and-false, true≢false}
use mathlib.Core.List.{List}
use native.Mathlib.Omega.{arith}
use borrow.Author.Tests.{lt-leb}
use lib.ListN.{get_or}
use Rattle.places.specs.Places.{no_label, stand_for, stands}
use Rattle.matching.specs.Matching.{matches}
use Rattle.rule.specs.Rule.{run_for, by_labels}
use Rattle.places.specs.declared.Stamped.{Stamped}
use Rattle.matching.specs.declared.Booking.{Booking}
use Rattle.rule.specs.declared.Copy.{Copy}
use Rattle.rule.specs.declared.Copy.TheVariants.{Free, Waiting, Prepared, Recording, RunningOn, ByTheClock}
use Rattle.desk.specs.declared.Desk.{Desk}
use Rattle.desk.specs.Moments.{moment, clocked_at, next_second, walk, quiet, walked_in}
use Rattle.desk.specs.Calls.{timer_at}
use Rattle.desk.proofs.Settle.{walk_keeps}
use Rattle.desk.proofs.Jump.{NoneStands, none_stands_next, none_matches, is_quiet, walk_add, walk_clock, walk_places}
use Rattle.history.specs.Laws.{SinceBy, Sound}
use Rattle.history.proofs.Walked.{walked_in_le}
use Rattle.history.proofs.Next.{Next, free, waits, by_clock, prepares, still, at_last, starts, stays, leaves, runs, next_since, since_later}
use Rattle.history.proofs.Keeps.{copy_moment}

-- where no label stands: no copy records, and each run-on is from u or before
abbrev Spent : ℕ → Copy → Type 0
Spent u Free = Unit {0}
Spent u Waiting = Unit {0}
Spent u (Prepared v) = Unit {0}
Spent u (Recording p mi) = ⊥
Spent u (RunningOn p v) = v ≤ u
Spent u ByTheClock = Unit {0}

module _ (s : ℕ) (ls : List Stamped) (b : Booking) (none : NoneStands s ls) where
  none_here : {P : Type 0} (q : ℕ) → matches s b (get_or ls q no_label) ≡ true → P
  none_here q m = absurd (true≢false (sym m ∙ none_matches s ls none b q))

  -- a copy that leaves now or before, and one that runs on from then
  next_spent : (u : ℕ) {c n : Copy} → Next s ls b c n → ((p : ℕ) (mi : Bool) → c ≡ Recording p mi → s ≤ u) →
      ((p v : ℕ) → c ≡ RunningOn p v → v ≤ u) → Spent u n
  next_spent u (free e) x y = tt
  next_spent u (waits f k) x y = tt
  next_spent u (by_clock f k n) x y = tt
  next_spent u (prepares f g k i) x y = tt
  next_spent u (still v f g e k) x y = tt
  next_spent u (at_last q v e k m) x y = none_here q m
  next_spent u (starts q k m z) x y = none_here q m
  next_spent u (stays q mi e m) x y = none_here q m
  next_spent u (leaves p mi e o) x y = x p mi e
  next_spent u (runs p v e o r) x y = y p v e

  spent_dead : (u : ℕ) → u + run_for ≤ s → {c n : Copy} → Next s ls b c n → Spent u c → by_labels n ≡ false
  spent_dead u l (free e) h = refl
  spent_dead u l (waits f k) h = refl
  spent_dead u l (by_clock f k n) h = refl
  spent_dead u l (prepares f g k i) h = refl
  spent_dead u l (still v f g e k) h = refl
  spent_dead u l (at_last q v e k m) h = none_here q m
  spent_dead u l (starts q k m z) h = none_here q m
  spent_dead u l (stays q mi e m) h = none_here q m
  spent_dead u l (leaves p mi e o) h = absurd (rw e at h)
  spent_dead u l (runs p v e o r) h = let k : v ≤ u = rw e at h in absurd (omega arith)

-- ── the desk ───────────────────────────────────────────────────────────────────────────────────────────────────────
copy_second : (d : Desk) (slot : ℕ) →
    Next (suc d.clock) d.places (timer_at d slot).booking (timer_at d slot).copy (timer_at (next_second d) slot).copy
unfolding next_second
copy_second d slot = copy_moment (clocked_at (suc d.clock) d) slot

abbrev Since : Desk → Type 0
Since d = (slot : ℕ) → SinceBy d.clock (timer_at d slot).copy

-- none stands, and each run-on is from u or before
abbrev AllSpent : ℕ → Desk → Type 0
AllSpent u d = NoneStands d.clock d.places × ((slot : ℕ) → Spent u (timer_at d slot).copy)

since_tick : (d : Desk) → Since d → (slot : ℕ) → SinceBy (suc d.clock) (timer_at d slot).copy
since_tick d h slot = since_later d.clock (suc d.clock) (omega arith) (timer_at d slot).copy (h slot)

since_second : (d : Desk) → Since d → Since (next_second d)
unfolding next_second moment
since_second d h slot = next_since _ _ _ (copy_second d slot) (since_tick d h slot)

-- the first second at which none stands
spent_first : (d : Desk) → NoneStands (suc d.clock) d.places → Since d → AllSpent (suc d.clock) (next_second d)
unfolding next_second moment
spent_first d none h =
    (none, λ slot. next_spent _ _ _ none (suc d.clock) (copy_second d slot) (λ p mi e. omega arith) (λ p v e. rw e at (since_tick d h slot)))

spent_second : (u : ℕ) (d : Desk) → AllSpent u d → AllSpent u (next_second d)
unfolding next_second moment
spent_second u d h =
    let none = none_stands_next d h.0 in
    (none, λ slot. next_spent _ _ _ none u (copy_second d slot) (λ p mi e. absurd (rw e at (h.1 slot))) (λ p v e. rw e at (h.1 slot)))

-- six seconds after the last stamp no label stands
lapsed : (c s : ℕ) (ls : List Stamped) → ((p : ℕ) → (get_or ls p no_label).stamp ≤ c) → c + stand_for < s → NoneStands s ls
unfolding stands
lapsed c s ls h l p =
    let x = get_or ls p no_label in
    rw (lt-leb (s - x.stamp) stand_for (omega (arith, h p))) (and-false x.heard)

-- then the copies run on for less than thirty
spent_quiet : (u : ℕ) (d : Desk) → AllSpent u d → u + run_for ≤ suc d.clock → quiet (next_second d) ≡ true
unfolding next_second moment
spent_quiet u d h l =
    let none = none_stands_next d h.0 in
    is_quiet (next_second d) (record { none_stands = none; none_by_labels = λ slot. spent_dead _ _ _ none u l (copy_second d slot) (h.1 slot) })

walk_36 : (d : Desk) → walk 36 d ≡ next_second (walk 29 (next_second (walk 5 d)))
unfolding walk
walk_36 d = walk_add 5 31 d ∙ walk_add 29 1 (next_second (walk 5 d))

quiet_36 : (d : Desk) → Sound d → quiet (walk 36 d) ≡ true
unfolding next_second moment
quiet_36 d h =
    let e = walk 5 d in
    let s = suc e.clock in
    let f = next_second e in
    let e-clock : e.clock ≡ d.clock + 5 = walk_clock 5 d in
    let none : NoneStands s e.places = rw (walk_places 5 d) (lapsed d.clock s d.places h.stamps (omega arith)) in
    let first = spent_first e none (walk_keeps Since since_second 5 d h.seconds) in
    let last = walk_keeps (AllSpent s) (spent_second s) 29 f first in
    rw (walk_36 d) (spent_quiet s (walk 29 f) last (omega (arith, walk_clock 29 f)))

pub walked_short : (n : ℕ) (d : Desk) → Sound d → walked_in n d ≤ 36
walked_short n d h = walked_in_le n 36 d (quiet_36 d h)
