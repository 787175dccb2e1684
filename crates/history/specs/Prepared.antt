-- Being prepared, through a sequence of calls (document 02, #101).
use Rattle.std.specs.Prelude.{ℕ, zero, suc, ◌+◌, ◌-◌, ◌≤◌, ◌<◌, ◌≡◌, true, false, List, [], ◌∷◌, ◌++◌, get_or}
use Rattle.places.specs.Places.{no_label}
use Rattle.matching.specs.Matching.{matches}
use Rattle.clocked.specs.Clocked.{clocked}
use Rattle.rule.specs.Rule.{recording_at}
use Rattle.places.specs.declared.Stamped.{Stamped}
use Rattle.matching.specs.declared.Booking.{Booking}
use Rattle.rule.specs.declared.Copy.{Copy}
use Rattle.rule.specs.declared.Copy.TheVariants.{Free, Waiting, Prepared, Recording, RunningOn, ByTheClock}
use Rattle.desk.specs.declared.Desk.{Desk}
use Rattle.desk.specs.Moments.{next_second}
use Rattle.desk.specs.Calls.{timer_at}
use Rattle.history.specs.Run.{Call, outcome, left}

-- ── the moments of a sequence of calls ─────────────────────────────────────────────────────────────────────────────
-- the desks of the next n seconds, in order
unfoldable pub seconds_of : ℕ → Desk → List Desk
seconds_of zero d = []
seconds_of (suc n) d = next_second d ∷ seconds_of n (next_second d)

-- 'each whole second is a moment, and so is each accepted call': the desks of all moments, in order. A call that is refused or only asks
-- leaves the desk of the moment before, which stands in the list again
unfoldable pub moments_in : List Call → Desk → List Desk
moments_in [] d = []
moments_in (c ∷ cs) d = let e = left d (outcome c d) in seconds_of (e.clock - d.clock) d ++ e ∷ moments_in cs e

-- ── what keeps a copy prepared, and what starts it ─────────────────────────────────────────────────────────────────
-- no match with PRF 0: each label that matches has PRF 1
abbrev pub NoPrf0 : ℕ → List Stamped → Booking → Type 0
NoPrf0 s ls b = (q : ℕ) → matches s b (get_or ls q no_label) ≡ true → (get_or ls q no_label).prf ≡ true

-- 'a match of PRF 1 only': the label of some place matches, and each that matches has PRF 1
pub record OnlyPrf1 (s : ℕ) (ls : List Stamped) (b : Booking) : Type 0 where
  pub place : ℕ
  pub matching : matches s b (get_or ls place no_label) ≡ true
  pub only : NoPrf0 s ls b

-- 'the lowest place that matches'
pub record LowestMatch (s : ℕ) (ls : List Stamped) (b : Booking) (q : ℕ) : Type 0 where
  pub matching : matches s b (get_or ls q no_label) ≡ true
  pub lower_not : (p : ℕ) → p < q → matches s b (get_or ls p no_label) ≡ false

-- a slot's timer records at place q from the first of these moments on, as long as the label there matches
abbrev pub RecordsFrom : ℕ → Booking → ℕ → List Desk → Type 0
RecordsFrom slot b q [] = Unit {0}
RecordsFrom slot b q (e ∷ es) = matches e.clock b (get_or e.places q no_label) ≡ true →
    (timer_at e slot ≡ record { booking = b; copy = recording_at e.places q }) × RecordsFrom slot b q es

-- as long as at each of these moments some place matches and none with PRF 0, and the clock does not record the timer, which 'comes before
-- prepared, and before the start after its 60 seconds' (02, #105): a slot's timer is prepared since v at those up to v+60; the first after
-- that is at v+61, and from it on the timer records at the lowest place that matches then
abbrev pub PreparedThenRecords : ℕ → Booking → ℕ → List Desk → Type 0
PreparedThenRecords slot b v [] = Unit {0}
PreparedThenRecords slot b v (e ∷ es) = OnlyPrf1 e.clock e.places b → clocked e.clock e.places b ≡ false →
    (e.clock ≤ v + 60 → (timer_at e slot ≡ record { booking = b; copy = Prepared v }) × PreparedThenRecords slot b v es)
    × (v + 60 < e.clock → (e.clock ≡ v + 61) × ((q : ℕ) × LowestMatch e.clock e.places b q × RecordsFrom slot b q (e ∷ es)))

-- 'the second at which it became prepared', for a copy that is prepared at second s: this one, unless it was prepared before
abbrev pub prepared_since : ℕ → Copy → ℕ
prepared_since s Free = s
prepared_since s Waiting = s
prepared_since s (Prepared v) = v
prepared_since s (Recording p mi) = s
prepared_since s (RunningOn p v) = s
prepared_since s ByTheClock = s
