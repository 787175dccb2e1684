-- From one moment of a sequence of calls to the next: what becomes of a slot's timer, and that each is a desk which calls and seconds reach.
use Prim.Native.Nat.{ℕ, zero, suc, ◌+◌, ◌-◌, ◌≤◌}
use mathlib.Core.Path.{◌≡◌, refl, sym, ap, ◌∙◌}
use mathlib.Core.Bool.{true, false}
use mathlib.Core.List.{List, [], ◌∷◌, ◌++◌}
use mathlib.Core.Logic.{◌⊎◌, inl, inr}
use native.Mathlib.Omega.{arith}
use lib.ListN.{take}
use Rattle.rule.specs.Rule.{by_labels, next_timer}
use Rattle.matching.specs.declared.Booking.{Booking}
use Rattle.rule.specs.declared.Timer.{Timer}
use Rattle.moving.specs.Moving.{moves}
use Rattle.sixteen.specs.Sixteen.{no_timer, active}
use Rattle.desk.specs.declared.Desk.{Desk}
use Rattle.desk.specs.Moments.{fresh, moment, clocked_at, next_second, walk, pass_to}
use Rattle.desk.specs.Calls.{with_label, with_timer, timer_at}
use Rattle.desk.proofs.Settle.{Settled, moment_settled, next_second_settled}
use Rattle.desk.proofs.Jump.{timer_at_moment, walk_clock}
use Rattle.history.specs.Run.{Call, cancel, outcome, left, desk_after, reached}
use Rattle.history.specs.Update.{Asks}
use Rattle.history.specs.Prepared.{seconds_of, moments_in}
use Rattle.history.specs.Laws.{Each}
use Rattle.history.proofs.Lists.{get_d_set}
use Rattle.history.proofs.Steps.{Step, same, hears, waits, passes, adds, cancels, updates, Put, freed, moved, step, room_apart}

-- ── a slot's timer ─────────────────────────────────────────────────────────────────────────────────────────────────
-- Freed is what follows if the slot's timer is cancelled or updated
module _ (slot : ℕ) (Freed : Type 0) where
  -- a timer new in this slot, which held none, or one that had ended, is cancelled, or is updated and keeps its copy
  abbrev New : Desk → Timer → Type 0
  New d t = ((by_labels t.copy ≡ false) ⊎ (t.copy ≡ (timer_at d slot).copy)) × (active d.clock (timer_at d slot) ≡ true → Freed)

  abbrev SameOrNew : Desk → Timer → Type 0
  SameOrNew d t = (t ≡ timer_at d slot) ⊎ New d t

  -- the timer that this slot held before, or a new one, goes on by the rule, and no second is left out
  pub record GoesOn (d e : Desk) : Type 0 where
    pub was : Timer
    pub before : SameOrNew d was
    pub timer : timer_at e slot ≡ next_timer e.clock e.places was
    pub onward : d.clock ≤ e.clock
    pub next_clock : e.clock ≤ suc d.clock

  abbrev pub Chain : Desk → List Desk → Type 0
  Chain d [] = Unit {0}
  Chain d (e ∷ es) = GoesOn d e × Chain e es

  goes_second : (d : Desk) → GoesOn d (next_second d)
  unfolding next_second moment
  goes_second d = record {
    was = timer_at d slot;
    before = inl refl;
    timer = timer_at_moment (clocked_at (suc d.clock) d) slot;
    onward = omega arith;
    next_clock = omega arith;
  }

  -- a moment of the same second
  goes_now : (d x : Desk) → x.clock ≡ d.clock → SameOrNew d (timer_at x slot) → GoesOn d (moment x)
  unfolding moment
  goes_now d x e k = record { was = timer_at x slot; before = k; timer = timer_at_moment x slot; onward = omega arith; next_clock = omega arith }

  settled_goes : (d : Desk) → Settled d → GoesOn d d
  settled_goes d h = rw h at (goes_now d d refl (inl refl))

  -- a timer that neither records nor runs on, or has the copy that was there, is put into a slot
  put_in : (i : ℕ) (t : Timer) (d : Desk) → (by_labels t.copy ≡ false) ⊎ (t.copy ≡ (timer_at d i).copy) →
      (slot ≡ i → active d.clock (timer_at d slot) ≡ true → Freed) → SameOrNew d (timer_at (with_timer i t d) slot)
  put_in i t d n k = elim (get_d_set no_timer t d.timers i slot) [
    | inl e ↦ rw e.1 (inr (rw e.0 n, k e.0))
    | inr e ↦ inl e
  ]

  -- and so is what an update leaves
  put_copy : {t : Timer} (i : ℕ) (b : Booking) (d : Desk) → Put i b d t → (by_labels t.copy ≡ false) ⊎ (t.copy ≡ (timer_at d i).copy)
  put_copy i b d (freed e) = inl refl
  put_copy i b d (moved e) = inr refl

  -- what follows from a call that cancels or updates the slot's timer
  abbrev Touches : Call → Desk → Type 0
  Touches c d = (c ≡ cancel slot → Freed) × ((b : Booking) → Asks (moves slot b) c d → Freed)

  abbrev pub AllTouch : List Call → Desk → Type 0
  AllTouch [] d = Unit {0}
  AllTouch (c ∷ cs) d = Touches c d × AllTouch cs (left d (outcome c d))

  chain_seconds : (n : ℕ) (d : Desk) (es : List Desk) → Chain (walk n d) es → Chain d (seconds_of n d ++ es)
  unfolding seconds_of walk
  chain_seconds zero d es c = c
  chain_seconds (suc n) d es c = (goes_second d, chain_seconds n (next_second d) es c)

  -- the seconds that a call passes, and its own moment
  chain_after : (n : ℕ) (d e : Desk) (es : List Desk) → e.clock ≡ d.clock + n → GoesOn (walk n d) e → Chain e es →
      Chain d (seconds_of (e.clock - d.clock) d ++ e ∷ es)
  chain_after n d e es k g c = let z : e.clock - d.clock ≡ n = omega arith in rw z (chain_seconds n d (e ∷ es) (g, c))

  chain_step : {c : Call} (d : Desk) {e : Desk} → Settled d → Touches c d → Step d c e → (es : List Desk) → Chain e es →
      Chain d (seconds_of (e.clock - d.clock) d ++ e ∷ es)
  unfolding moment next_second walk pass_to
  chain_step d h n same es c = chain_after 0 d d es (omega arith) (settled_goes d h) c
  chain_step d h n (hears tuner t l r k m) es c =
      let x = pass_to t d in chain_after (t - d.clock) d _ es (walk_clock (t - d.clock) d) (goes_now x (with_label tuner l x) refl (inl refl)) c
  chain_step d h n (waits t k m) es c =
      let x = pass_to t d in chain_after (t - d.clock) d _ es (walk_clock (t - d.clock) d) (goes_now x x refl (inl refl)) c
  chain_step d h n (passes k) es c = chain_after 1 d _ es (omega arith) (settled_goes (next_second d) (next_second_settled d)) c
  chain_step d h n (adds b w i e range alone room) es c =
      chain_after 0 d _ es (omega arith) (goes_now d (with_timer i _ d) refl (put_in i _ d (inl refl) (λ k a. absurd (room_apart slot i d room a k)))) c
  chain_step d h n (cancels i e) es c =
      chain_after 0 d _ es (omega arith) (goes_now d (with_timer i no_timer d) refl (put_in i no_timer d (inl refl) (λ k a. n.0 (e ∙ ap cancel (sym k))))) c
  chain_step d h n (updates i b a p) es k =
      let x = pass_to a.t d in
      chain_after (a.t - d.clock) d _ es (walk_clock (a.t - d.clock) d)
      (goes_now x (with_timer i _ x) refl (put_in i _ x (put_copy i b x p) (λ e l. n.1 b (rw e a)))) k

  settled_step : {c : Call} (d : Desk) {e : Desk} → Settled d → Step d c e → Settled e
  settled_step d h same = h
  settled_step d h (hears tuner t l r k m) = moment_settled _
  settled_step d h (waits t k m) = moment_settled _
  settled_step d h (passes k) = next_second_settled d
  settled_step d h (adds b w i e range alone room) = moment_settled _
  settled_step d h (cancels i e) = moment_settled _
  settled_step d h (updates i b a p) = moment_settled _

  pub chain_calls : (cs : List Call) (d : Desk) → Settled d → AllTouch cs d → Chain d (moments_in cs d)
  unfolding moments_in
  chain_calls [] d h n = tt
  chain_calls (c ∷ cs) d h n =
      chain_step d h n.0 (step d c) _ (chain_calls cs (left d (outcome c d)) (settled_step d h (step d c)) n.1)

-- ── each moment ────────────────────────────────────────────────────────────────────────────────────────────────────
pub each_of : {A : Type 0} {P : A → Type 0} → ((x : A) → P x) → (xs : List A) → Each P xs
each_of f [] = tt
each_of f (x ∷ xs) = (f x, each_of f xs)

each_map : {A : Type 0} {P Q : A → Type 0} → ((x : A) → P x → Q x) → (xs : List A) → Each P xs → Each Q xs
each_map f [] h = tt
each_map f (x ∷ xs) h = (f x h.0, each_map f xs h.1)

-- what holds after any number of seconds holds at each of those that pass
pub each_second : (P : Desk → Type 0) (n : ℕ) (d : Desk) (es : List Desk) → ((k : ℕ) → P (walk k d)) → Each P es → Each P (seconds_of n d ++ es)
unfolding seconds_of walk
each_second P zero d es p h = h
each_second P (suc n) d es p h = (p 1, each_second P n (next_second d) es (λ k. p (suc k)) h)

-- it is reached by the first of some calls and seconds after them
abbrev From : Desk → List Call → Desk → Type 0
From d cs e = (i : ℕ) × (n : ℕ) × (e ≡ walk n (desk_after (take i cs) d))

each_from : (cs : List Call) (d : Desk) → Each (From d cs) (moments_in cs d)
unfolding moments_in desk_after walk
each_from [] d = tt
each_from (c ∷ cs) d =
    let e = left d (outcome c d) in
    each_second (From d (c ∷ cs)) (e.clock - d.clock) d (e ∷ moments_in cs e) (λ n. (0, n, refl))
    ((1, 0, refl), each_map (λ x h. (suc h.0, h.1, h.2)) (moments_in cs e) (each_from cs e))

desk_after_append : (cs ds : List Call) (d : Desk) → desk_after (cs ++ ds) d ≡ desk_after ds (desk_after cs d)
unfolding desk_after
desk_after_append [] ds d = refl
desk_after_append (c ∷ cs) ds d = desk_after_append cs ds (left d (outcome c d))

pub each_moment : (cs later : List Call) →
    Each (λ e. (i : ℕ) × (n : ℕ) × (e ≡ walk n (reached (cs ++ take i later)))) (moments_in later (reached cs))
each_moment cs later =
    each_map (λ e h. (h.0, h.1, h.2 ∙ ap (walk h.1) (sym (desk_after_append cs (take h.0 later) fresh)))) (moments_in later (reached cs))
    (each_from later (reached cs))
