-- A quiet desk stays quiet, and its seconds can be passed at once.
use Prim.Native.Nat.{ℕ, zero, suc, ◌+◌, ◌-◌, ◌≤◌}
use mathlib.Core.Path.{◌≡◌, refl, ap, ◌∙◌}
use mathlib.Core.Bool.{Bool, true, false, cond, not, ◌&&◌, true≢false}
use mathlib.Core.List.{List, [], ◌∷◌, map}
use native.Mathlib.Nat.{zero-add, suc-add}
use native.Mathlib.Omega.{arith}
use borrow.Author.Tests.{leb-false, lt-leb, not-true}
use lib.Dec.{leb}
use lib.ListN.{get_or, get_or-map}
use Rattle.answer.proofs.Cases.{both_true, both_false}
use Rattle.answer.specs.Lists.{some, count}
use Rattle.places.specs.Places.{no_label, stand_for, stands, nowhere, lowest_from}
use Rattle.matching.specs.Matching.{open_at, matches, sight_of}
use Rattle.clocked.specs.Clocked.{clocked}
use Rattle.rule.specs.Rule.{clock_or, held, next_copy, next_timer, by_labels, by_labels_timer, live_timer}
use Rattle.places.specs.declared.Stamped.{Stamped}
use Rattle.matching.specs.declared.Booking.{Booking}
use Rattle.rule.specs.declared.Copy.{Copy}
use Rattle.rule.specs.declared.Copy.TheVariants.{Free, Waiting, Prepared, Recording, RunningOn, ByTheClock}
use Rattle.rule.specs.declared.Timer.{Timer}
use Rattle.matching.specs.declared.Sight.TheVariants.{Nothing}
use Rattle.sixteen.specs.Sixteen.{no_timer}
use Rattle.desk.specs.Moments.{moment, clocked_at, next_second, walk, quiet, walked_in}
use Rattle.desk.specs.Calls.{timer_at}
use Rattle.desk.specs.declared.Desk.{Desk}
use Rattle.desk.proofs.Settle.{walk_keeps}

-- ── a test that no element passes ──────────────────────────────────────────────────────────────────────────────────
module _ {A : Type 0} (f : A → Bool) (z : A) where
  abbrev pub None : List A → Type 0
  None xs = (i : ℕ) → f (get_or xs i z) ≡ false

  pub none_at : f z ≡ false → (xs : List A) → some f xs ≡ false → None xs
  none_at h [] e i = h
  none_at h (x ∷ xs) e zero = (both_false (f x) (some f xs) e).0
  none_at h (x ∷ xs) e (suc i) = none_at h xs (both_false (f x) (some f xs) e).1 i

  pub at_none : (xs : List A) → None xs → some f xs ≡ false
  at_none [] n = refl
  at_none (x ∷ xs) n = rw (n 0) (at_none xs (λ i. n (suc i)))

  none_lowest : (i : ℕ) (xs : List A) → None xs → lowest_from f i xs ≡ nowhere
  none_lowest i [] n = refl
  none_lowest i (x ∷ xs) n = rw (n 0) (none_lowest (suc i) xs (λ j. n (suc j)))

-- ── a moment at which no label stands ──────────────────────────────────────────────────────────────────────────────
abbrev pub NoneStands : ℕ → List Stamped → Type 0
NoneStands s ls = None (stands s) no_label ls

pub none_stands_later : (s s' : ℕ) (ls : List Stamped) → s ≤ s' → NoneStands s ls → NoneStands s' ls
unfolding stands
none_stands_later s s' ls h n p = go (get_or ls p no_label) (n p)
  where
    go : (l : Stamped) → stands s l ≡ false → stands s' l ≡ false
    go l = by l.heard
      where
        by : (b : Bool) → (b && leb (s - l.stamp) stand_for) ≡ false → (b && leb (s' - l.stamp) stand_for) ≡ false
        by true e = let k = leb-false (s - l.stamp) stand_for e in lt-leb (s' - l.stamp) stand_for (omega arith)
        by false e = refl

module _ (s : ℕ) (ls : List Stamped) (none : NoneStands s ls) (b : Booking) where
  pub none_matches : None (matches s b) no_label ls
  unfolding matches
  none_matches p = rw (none p)

  none_sight : sight_of s ls b ≡ Nothing
  unfolding sight_of
  none_sight =
      rw (none_lowest (λ l. matches s b l && not l.prf) no_label 0 ls (λ p. rw (none_matches p)))
      (rw (none_lowest (matches s b) no_label 0 ls none_matches))

  -- what a copy that is neither recording nor running on becomes, held or free: it 'follows from the time alone'
  abbrev rested : Bool → Copy
  rested h = cond h (cond (not (open_at s b)) Waiting (clock_or s ls b Waiting)) Free

  waits_or_clocked : (e c : Bool) → let r = cond e Waiting (cond c ByTheClock Waiting) in (by_labels r ≡ false) × (held r ≡ true)
  waits_or_clocked true c = (refl, refl)
  waits_or_clocked false true = (refl, refl)
  waits_or_clocked false false = (refl, refl)

  rested_dead : (h : Bool) → by_labels (rested h) ≡ false
  unfolding clock_or
  rested_dead true = (waits_or_clocked (not (open_at s b)) (clocked s ls b)).0
  rested_dead false = refl

  rested_held : (h : Bool) → held (rested h) ≡ h
  unfolding clock_or
  rested_held true = (waits_or_clocked (not (open_at s b)) (clocked s ls b)).1
  rested_held false = refl

  next_copy_rested : (c : Copy) → by_labels c ≡ false → next_copy s ls b c ≡ rested (held c)
  unfolding next_copy
  next_copy_rested Free e = refl
  next_copy_rested Waiting e = rw none_sight
  next_copy_rested (Prepared v) e = rw none_sight
  next_copy_rested (Recording p mi) e = absurd (true≢false e)
  next_copy_rested (RunningOn p v) e = absurd (true≢false e)
  next_copy_rested ByTheClock e = rw none_sight

  rested_next : (c : Copy) → by_labels c ≡ false → (by_labels (next_copy s ls b c) ≡ false) × (held (next_copy s ls b c) ≡ held c)
  rested_next c e = rw (next_copy_rested c e) (rested_dead (held c), rested_held (held c))

-- of two moments at which no label stands the later one is enough
module _ (s s' : ℕ) (ls : List Stamped) (n : NoneStands s ls) (n' : NoneStands s' ls) where
  next_copy_skip : (b : Booking) (c : Copy) → by_labels c ≡ false → next_copy s' ls b (next_copy s ls b c) ≡ next_copy s' ls b c
  next_copy_skip b c e =
      let k = rested_next s ls n b c e in
      rw (next_copy_rested s' ls n' b (next_copy s ls b c) k.0, next_copy_rested s' ls n' b c e, k.1)

  skip : (ts : List Timer) → None by_labels_timer no_timer ts → map (next_timer s' ls) (map (next_timer s ls) ts) ≡ map (next_timer s' ls) ts
  unfolding next_timer
  skip [] h = refl
  skip (t ∷ ts) h = rw (next_copy_skip t.booking t.copy (h 0), skip ts (λ i. h (suc i)))

-- ── a quiet desk ───────────────────────────────────────────────────────────────────────────────────────────────────
pub timer_at_moment : (d : Desk) (slot : ℕ) → timer_at (moment d) slot ≡ next_timer d.clock d.places (timer_at d slot)
unfolding moment next_timer next_copy
timer_at_moment d slot = get_or-map (next_timer d.clock d.places) d.timers slot no_timer

-- no label stands, and nothing is recording or running on
pub record Quiet (d : Desk) : Type 0 where
  pub none_stands : NoneStands d.clock d.places
  pub none_by_labels : None by_labels_timer no_timer d.timers

pub quiet_is : (d : Desk) → quiet d ≡ true → Quiet d
unfolding quiet stands
quiet_is d q =
    let k = both_true (not (some (stands d.clock) d.places)) (not (some by_labels_timer d.timers)) q in
    record {
      none_stands = none_at (stands d.clock) no_label refl d.places (not-true _ k.0);
      none_by_labels = none_at by_labels_timer no_timer refl d.timers (not-true _ k.1);
    }

pub is_quiet : (d : Desk) → Quiet d → quiet d ≡ true
unfolding quiet
is_quiet d q = rw (at_none (stands d.clock) no_label d.places q.none_stands, at_none by_labels_timer no_timer d.timers q.none_by_labels)

-- a second later, too
pub none_stands_next : (d : Desk) → NoneStands d.clock d.places → NoneStands (suc d.clock) d.places
none_stands_next d n = none_stands_later d.clock (suc d.clock) d.places (omega arith) n

next_second_quiet : (d : Desk) → Quiet d → Quiet (next_second d)
unfolding next_second moment next_timer
next_second_quiet d q =
    let s = suc d.clock in
    let n = none_stands_next d q.none_stands in
    record {
      none_stands = n;
      none_by_labels =
          λ slot.
          let t = timer_at d slot in
          rw (timer_at_moment (clocked_at s d) slot) (rested_next s d.places n t.booking t.copy (q.none_by_labels slot)).0;
    }

-- its seconds pass at once, as a moment at the last of them
walk_jump : (n : ℕ) (d : Desk) → Quiet d → walk (suc n) d ≡ moment (clocked_at (d.clock + suc n) d)
unfolding walk next_second moment
walk_jump zero d q = let e : d.clock + 1 ≡ suc d.clock = omega arith in rw e
walk_jump (suc n) d q =
    let c = d.clock in
    let s = c + suc (suc n) in
    let e : suc c + suc n ≡ s = omega arith in
    let p = none_stands_next d q.none_stands in
    let p' : NoneStands s d.places = none_stands_later c s d.places (omega arith) q.none_stands in
    walk_jump n (next_second d) (next_second_quiet d q)
    ∙ ap (λ x. moment (clocked_at x (next_second d))) e
    ∙ ap (λ ts. record { clock = s; live = count live_timer ts; places = d.places; timers = ts }) (skip (suc c) s d.places p p' d.timers q.none_by_labels)

pub quiet_walk : (n : ℕ) (d : Desk) → quiet d ≡ true → quiet (walk n d) ≡ true
quiet_walk n d q = is_quiet (walk n d) (walk_keeps Quiet next_second_quiet n d (quiet_is d q))

pub quiet_jump : (n : ℕ) (d : Desk) → quiet d ≡ true → walk (suc n) d ≡ moment (clocked_at (d.clock + suc n) d)
quiet_jump n d q = walk_jump n d (quiet_is d q)

pub walked_in_quiet : (n : ℕ) (d : Desk) → quiet d ≡ true → walked_in n d ≡ 0
unfolding walked_in
walked_in_quiet zero d q = refl
walked_in_quiet (suc n) d q = rw q

-- ── walks ──────────────────────────────────────────────────────────────────────────────────────────────────────────
pub walk_add : (m n : ℕ) (d : Desk) → walk (m + n) d ≡ walk n (walk m d)
unfolding walk
walk_add zero n d = rw zero-add
walk_add (suc m) n d = rw suc-add (walk_add m n (next_second d))

pub walk_clock : (n : ℕ) (d : Desk) → (walk n d).clock ≡ d.clock + n
unfolding walk next_second moment
walk_clock zero d = omega arith
walk_clock (suc n) d = walk_clock n (next_second d) ∙ omega arith

pub walk_places : (n : ℕ) (d : Desk) → (walk n d).places ≡ d.places
unfolding next_second moment
walk_places n d = walk_keeps (λ e. e.places ≡ d.places) (λ e h. h) n d refl
