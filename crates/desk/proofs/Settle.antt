-- A second moment at the same second changes nothing, so that every moment leaves a settled desk, and one that keeps the count.
use Prim.Native.Nat.{ℕ, zero, suc, ◌-◌}
use mathlib.Core.Path.{◌≡◌, refl, ◌∙◌}
use mathlib.Core.Bool.{Bool, true, false, cond, not, ◌&&◌, and-false}
use mathlib.Core.List.{List, [], ◌∷◌, map}
use native.Mathlib.Omega.{arith}
use borrow.Author.Tests.{lt-ltb, le-ltb, not-true}
use lib.Dec.{ltb}
use lib.ListN.{get_or}
use Rattle.answer.proofs.Cases.{both_true}
use Rattle.places.specs.Places.{no_label}
use Rattle.places.proofs.Search.{lowest_passes}
use Rattle.matching.specs.Matching.{open_at, matches, sight_of}
use Rattle.clocked.specs.Clocked.{clocked}
use Rattle.rule.specs.Rule.{recording_at, clock_or, not_live, prepare_for, from_prepared, moves_or, from_recording, run_for, from_running_on, goes_on, held, next_copy, next_timer}
use Rattle.places.specs.declared.Stamped.{Stamped}
use Rattle.matching.specs.declared.Booking.{Booking}
use Rattle.rule.specs.declared.Copy.{Copy}
use Rattle.rule.specs.declared.Copy.TheVariants.{Free, Waiting, Prepared, Recording, RunningOn, ByTheClock}
use Rattle.rule.specs.declared.Timer.{Timer}
use Rattle.matching.specs.declared.Sight.{Sight}
use Rattle.matching.specs.declared.Sight.TheVariants.{Nothing, Prepare, Start}
use Rattle.matching.proofs.Sights.{seen_is}
use Rattle.rule.proofs.Steps.{free_copy}
use Rattle.desk.specs.Moments.{moment, clocked_at, next_second, walk, live_count}
use Rattle.desk.specs.declared.Desk.{Desk}

-- ── one timer's copy, at a second s ────────────────────────────────────────────────────────────────────────────────
module _ (s : ℕ) (ls : List Stamped) (b : Booking) where
  -- what starts a copy matches, with PRF 0
  abbrev pub Starts : ℕ → Type 0
  Starts q = (matches s b (get_or ls q no_label) ≡ true) × ((get_or ls q no_label).prf ≡ false)

  pub start_matches : (q : ℕ) → sight_of s ls b ≡ Start q → Starts q
  start_matches q e =
      let l = get_or ls q no_label in
      let k = both_true (matches s b l) (not l.prf) (lowest_passes (λ x. matches s b x && not x.prf) no_label ls q (seen_is s ls b (Start q) e)) in
      (k.0, not-true l.prf k.1)

  -- a place seen where none starts a copy matches
  pub prepare_matches : (q : ℕ) → sight_of s ls b ≡ Prepare q → matches s b (get_or ls q no_label) ≡ true
  prepare_matches q e = lowest_passes (matches s b) no_label ls q (seen_is s ls b (Prepare q) e).1

  abbrev Stays : Copy → Type 0
  Stays c = goes_on s ls b c ≡ c

  stays_at : (q : ℕ) → matches s b (get_or ls q no_label) ≡ true → Stays (recording_at ls q)
  unfolding recording_at from_recording
  stays_at q m = rw m

  -- where nothing starts a copy it is by the clock, or as is said next
  stays_clock : (other next : Copy) → not_live s ls b (sight_of s ls b) ≡ clock_or s ls b other → (clocked s ls b ≡ false → Stays next) →
      Stays (clock_or s ls b next)
  unfolding clock_or
  stays_clock other next e h = go (clocked s ls b) refl
    where
      go : (t : Bool) → clocked s ls b ≡ t → Stays (cond t ByTheClock next)
      go true k = e ∙ rw k
      go false k = h k

  stays_waiting : sight_of s ls b ≡ Nothing → Stays (clock_or s ls b Waiting)
  unfolding clock_or
  stays_waiting e = stays_clock Waiting Waiting (rw e) (λ k. rw (e, k))

  stays_not_live : (g : Sight) → sight_of s ls b ≡ g → Stays (not_live s ls b g)
  unfolding clock_or
  stays_not_live (Start q) e = stays_at q (start_matches q e).0
  stays_not_live (Prepare q) e = stays_clock (Prepared s) (Prepared s) (rw e) (λ k. rw (e, k, le-ltb prepare_for (s - s) (omega arith)))
  stays_not_live Nothing e = stays_waiting e

  stays_prepared : (v : ℕ) (g : Sight) → sight_of s ls b ≡ g → Stays (from_prepared s ls b v g)
  unfolding clock_or
  stays_prepared v (Start q) e = stays_at q (start_matches q e).0
  stays_prepared v (Prepare q) e = stays_clock (Prepared s) _ (rw e) (λ k. go k (ltb prepare_for (s - v)) refl)
    where
      go : clocked s ls b ≡ false → (t : Bool) → ltb prepare_for (s - v) ≡ t → Stays (cond t (recording_at ls q) (Prepared v))
      go k true d = stays_at q (prepare_matches q e)
      go k false d = rw (e, k, d)
  stays_prepared v Nothing e = stays_waiting e

  -- nothing starts it
  abbrev NoStart : Type 0
  NoStart = (next : Copy) → moves_or ls (sight_of s ls b) next ≡ next

  stays_moves : (g : Sight) → sight_of s ls b ≡ g → (next : Copy) → (NoStart → Stays next) → Stays (moves_or ls g next)
  stays_moves (Start q) e next h = stays_at q (start_matches q e).0
  stays_moves (Prepare q) e next h = h (λ c. rw e)
  stays_moves Nothing e next h = h (λ c. rw e)

  stays_running : (p v : ℕ) (t : Bool) → ltb (s - v) run_for ≡ t → NoStart → Stays (cond t (RunningOn p v) (not_live s ls b (sight_of s ls b)))
  unfolding from_running_on
  stays_running p v true e h = rw e (h (RunningOn p v))
  stays_running p v false e h = stays_not_live (sight_of s ls b) refl

  stays_left : (p : ℕ) (mi : Bool) → NoStart → Stays (cond mi (not_live s ls b (sight_of s ls b)) (RunningOn p s))
  stays_left p true h = stays_not_live (sight_of s ls b) refl
  stays_left p false h = stays_running p s true (lt-ltb (s - s) run_for (omega arith)) h

  goes_on_stays : (c : Copy) → Stays (goes_on s ls b c)
  unfolding from_recording from_running_on
  goes_on_stays Free = refl
  goes_on_stays Waiting = stays_not_live (sight_of s ls b) refl
  goes_on_stays (Prepared v) = stays_prepared v (sight_of s ls b) refl
  goes_on_stays (Recording p mi) = go (matches s b (get_or ls p no_label)) refl
    where
      next : Copy
      next = cond mi (not_live s ls b (sight_of s ls b)) (RunningOn p s)

      go : (t : Bool) → matches s b (get_or ls p no_label) ≡ t → Stays (cond t (recording_at ls p) (moves_or ls (sight_of s ls b) next))
      go true e = stays_at p e
      go false e = stays_moves (sight_of s ls b) refl next (stays_left p mi)
  goes_on_stays ByTheClock = stays_not_live (sight_of s ls b) refl
  goes_on_stays (RunningOn p v) =
      stays_moves (sight_of s ls b) refl (cond (ltb (s - v) run_for) (RunningOn p v) (not_live s ls b (sight_of s ls b)))
      (stays_running p v (ltb (s - v) run_for) refl)

  pub next_copy_open : open_at s b ≡ true → (c : Copy) → next_copy s ls b c ≡ goes_on s ls b c
  unfolding next_copy
  next_copy_open e c = rw (e, and-false)

  pub next_copy_shut : open_at s b ≡ false → (c : Copy) → held c ≡ true → next_copy s ls b c ≡ Waiting
  unfolding next_copy
  next_copy_shut e c h = rw (h, e)

  next_copy_twice : (c : Copy) → next_copy s ls b (next_copy s ls b c) ≡ next_copy s ls b c
  next_copy_twice c = go (open_at s b) (held c) refl refl
    where
      go : (t h : Bool) → open_at s b ≡ t → held c ≡ h → next_copy s ls b (next_copy s ls b c) ≡ next_copy s ls b c
      go true h e k = rw (next_copy_open e (next_copy s ls b c), next_copy_open e c) (goes_on_stays c)
      go false true e k = rw (next_copy_shut e c k) (next_copy_shut e Waiting refl)
      go false false e k = rw (free_copy s ls b c k) (free_copy s ls b c k)

-- ── the desk ───────────────────────────────────────────────────────────────────────────────────────────────────────
next_timer_twice : (s : ℕ) (ls : List Stamped) (t : Timer) → next_timer s ls (next_timer s ls t) ≡ next_timer s ls t
unfolding next_timer
next_timer_twice s ls t = rw (next_copy_twice s ls t.booking t.copy)

map_twice : {A : Type 0} (f : A → A) → ((x : A) → f (f x) ≡ f x) → (xs : List A) → map f (map f xs) ≡ map f xs
map_twice f h [] = refl
map_twice f h (x ∷ xs) = rw (h x, map_twice f h xs)

abbrev pub Settled : Desk → Type 0
Settled d = moment d ≡ d

pub moment_settled : (d : Desk) → Settled (moment d)
unfolding moment
moment_settled d = rw (map_twice (next_timer d.clock d.places) (next_timer_twice d.clock d.places) d.timers)

-- and it keeps the full count
abbrev pub Counted : Desk → Type 0
Counted d = d.live ≡ live_count d

pub moment_counted : (d : Desk) → Counted (moment d)
unfolding moment live_count
moment_counted d = refl

pub settled_counted : (d : Desk) → Settled d → Counted d
settled_counted d h = rw h at (moment_counted d)

pub next_second_settled : (d : Desk) → Settled (next_second d)
unfolding next_second
next_second_settled d = moment_settled (clocked_at (suc d.clock) d)

-- what a second keeps, a walk keeps
pub walk_keeps : (P : Desk → Type 0) → ((d : Desk) → P d → P (next_second d)) → (n : ℕ) (d : Desk) → P d → P (walk n d)
unfolding walk
walk_keeps P h zero d p = p
walk_keeps P h (suc n) d p = walk_keeps P h n (next_second d) (h d p)

pub walk_settled : (n : ℕ) (d : Desk) → Settled d → Settled (walk n d)
walk_settled = walk_keeps Settled (λ d h. next_second_settled d)
