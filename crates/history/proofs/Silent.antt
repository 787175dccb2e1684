-- A timer whose home tuner is silent is live by the time alone, and a tuner that never hears a packet is silent.
use Prim.Native.Nat.{ℕ, ◌+◌, ◌*◌, ◌<◌}
use mathlib.Core.Path.{◌≡◌, refl, sym, ap, ◌∙◌}
use mathlib.Core.Bool.{true, false, true≢false}
use mathlib.Core.List.{List, [], ◌∷◌}
use mathlib.Core.Logic.{inl, inr}
use native.Mathlib.Omega.{arith}
use lib.ListN.{get_or}
use Rattle.answer.specs.Answer.{given}
use Rattle.answer.proofs.Cases.{by_test}
use Rattle.places.specs.Places.{no_label, stands, heard_at, labels_fail, at}
use Rattle.matching.specs.Matching.{matches}
use Rattle.clocked.specs.Clocked.{on_time, clocked}
use Rattle.rule.specs.Rule.{recording_at, held, next_timer, by_labels, is_live}
use Rattle.places.specs.declared.Stamped.{Stamped}
use Rattle.matching.specs.declared.Booking.{Booking}
use Rattle.rule.specs.declared.Copy.{Copy}
use Rattle.rule.specs.declared.Copy.TheVariants.{Free, Waiting, Prepared, Recording, RunningOn, ByTheClock}
use Rattle.desk.specs.declared.Desk.{Desk}
use Rattle.desk.specs.Moments.{fresh, moment, next_second, walk, pass_to}
use Rattle.desk.specs.Calls.{Told, place_of, room_in, add_of, timer_at}
use Rattle.desk.proofs.Jump.{walk_places}
use Rattle.history.specs.Run.{Call, packet, add, outcome, left, desk_after, reached}
use Rattle.history.specs.Prepared.{moments_in}
use Rattle.history.specs.Clock.{Silent, LiveByTime}
use Rattle.history.specs.Laws.{Each, Sound}
use Rattle.history.proofs.Lists.{get_d_set, get_d_same}
use Rattle.history.proofs.Next as next
use Rattle.history.proofs.Next.{Next, next_is}
use Rattle.history.proofs.Steps.{Step, same, hears, waits, passes, adds, cancels, updates, step, room_apart, added_room}
use Rattle.history.proofs.OneCopy.{live_active}
use Rattle.history.proofs.Chain.{Chain, AllTouch, chain_calls}

-- ── one copy ───────────────────────────────────────────────────────────────────────────────────────────────────────
module _ (s : ℕ) (ls : List Stamped) (b : Booking) (none : (q : ℕ) → matches s b (get_or ls q no_label) ≡ false) where
  -- where nothing matches, what neither records nor runs on does not begin to, and is live exactly where the clock records
  pub next_unheard : {c n : Copy} → Next s ls b c n → by_labels c ≡ false → (by_labels n ≡ false) × (held n ≡ true → is_live n ≡ clocked s ls b)
  unfolding recording_at
  next_unheard (next.free e) k = (refl, λ h. absurd (true≢false (sym h)))
  next_unheard (next.waits f h) k = (refl, λ x. sym f)
  next_unheard (next.by_clock f h n) k = (refl, λ x. sym f)
  next_unheard (next.prepares f g h i) k = (refl, λ x. sym f)
  next_unheard (next.still v f g e l) k = (refl, λ x. sym f)
  next_unheard (next.at_last q v e l m) k = absurd (true≢false (sym m ∙ none q))
  next_unheard (next.starts q h m z) k = absurd (true≢false (sym m ∙ none q))
  next_unheard (next.stays q mi e m) k = absurd (true≢false (sym m ∙ none q))
  next_unheard (next.leaves p mi e o) k = absurd (true≢false (rw e at k))
  next_unheard (next.runs p v e o r) k = absurd (true≢false (rw e at k))

-- where the home tuner is silent, the clock records by the time alone
silent_clocked : (d : Desk) (b : Booking) → Silent b.tuner d → clocked d.clock d.places b ≡ on_time d.clock b
unfolding clocked labels_fail
silent_clocked d b h = rw h

by_labels_live : (c : Copy) → by_labels c ≡ true → is_live c ≡ true
by_labels_live Free e = e
by_labels_live Waiting e = e
by_labels_live (Prepared v) e = e
by_labels_live (Recording p mi) e = e
by_labels_live (RunningOn p v) e = e
by_labels_live ByTheClock e = refl

-- ── a slot ─────────────────────────────────────────────────────────────────────────────────────────────────────────
module _ (slot : ℕ) where
  live_by_time : (b : Booking) (es : List Desk) (d : Desk) → by_labels (timer_at d slot).copy ≡ false → Chain slot (Unit {0}) d es →
      LiveByTime slot b es
  unfolding next_timer
  live_by_time b [] d n c = tt
  live_by_time b (e ∷ es) d n c = λ h.
      let g = c.0 in
      let not-was : by_labels g.was.copy ≡ false = elim g.before [ inl w ↦ rw w n | inr w ↦ elim w.0 [ inl k ↦ k | inr k ↦ rw k n ] ] in
      let goes : Next e.clock e.places (timer_at e slot).booking g.was.copy (timer_at e slot).copy = rw g.timer (next_is _ _ _ _) in
      let k = next_unheard e.clock e.places b h.no_match (rw h.booked at goes) not-was in
      (k.1 h.is_held ∙ silent_clocked e b h.silent, live_by_time b es e k.0 c.1)

  -- the slot that adding uses neither records nor runs on
  room_quiet : (d : Desk) → Sound d → room_in d ≡ at slot → by_labels (timer_at d slot).copy ≡ false
  room_quiet d h e =
      let c = (timer_at d slot).copy in
      by_test (by_labels c) (λ l. absurd (room_apart slot slot d e (live_active d h slot (by_labels_live c l)) refl)) (λ l. l)

whatever : (slot : ℕ) (cs : List Call) (d : Desk) → AllTouch slot (Unit {0}) cs d
whatever slot [] d = tt
whatever slot (c ∷ cs) d = ((λ e. tt, λ b a. tt), whatever slot cs (left d (outcome c d)))

pub silent_home : (d : Desk) → Sound d → (b : Booking) (o : Told) (later : List Call) → add_of b d ≡ given o →
    LiveByTime o.says b (moments_in (add b ∷ later) d)
silent_home d h b o later e =
    let slot = o.says in
    live_by_time slot b (moments_in (add b ∷ later) d) d (room_quiet slot d h (added_room b d o e))
    (chain_calls slot (Unit {0}) (add b ∷ later) d h.settled (whatever slot (add b ∷ later) d))

-- ── a tuner ────────────────────────────────────────────────────────────────────────────────────────────────────────
module _ (tuner : ℕ) where
  abbrev NotHeard : Desk → Type 0
  NotHeard d = (k : ℕ) → k < 4 → (get_or d.places (tuner * 4 + k) no_label).heard ≡ false

  abbrev Elsewhere : Call → Type 0
  Elsewhere c = (t : ℕ) (bytes : List ℕ) → c ≡ packet tuner t bytes → ⊥

  step_not_heard : {c : Call} (d : Desk) {e : Desk} → NotHeard d → Elsewhere c → Step d c e → NotHeard e
  unfolding moment next_second pass_to
  step_not_heard d h n same = h
  step_not_heard d h n (hears other t l r from to) = λ k m.
      let places = (pass_to t d).places in
      let p = place_of other l in
      elim (get_d_set no_label (heard_at (pass_to t d).clock l (get_or places p no_label)) places p (tuner * 4 + k)) [
        | inl e ↦ absurd (let z : other ≡ tuner = omega (arith, e.0, r.lci) in n t r.bytes (r.call ∙ ap (λ x. packet x t r.bytes) z))
        | inr e ↦ rw (e, walk_places) (h k m)
      ]
  step_not_heard d h n (waits t from to) = λ k m. rw walk_places (h k m)
  step_not_heard d h n (passes to) = h
  step_not_heard d h n (adds b w i e range alone room) = h
  step_not_heard d h n (cancels i e) = h
  step_not_heard d h n (updates i b a p) = λ k m. rw walk_places (h k m)

  not_heard : (cs : List Call) (d : Desk) → NotHeard d → Each Elsewhere cs → NotHeard (desk_after cs d)
  unfolding desk_after
  not_heard [] d h n = h
  not_heard (c ∷ cs) d h n = not_heard cs (left d (outcome c d)) (step_not_heard d h n.0 (step d c)) n.1

  pub never_hears : (cs : List Call) (n : ℕ) → Each Elsewhere cs → Silent tuner (walk n (reached cs))
  unfolding stands
  never_hears cs n e =
      let h = not_heard cs fresh (λ k m. rw (get_d_same no_label 16 (tuner * 4 + k))) e in
      rw (walk_places n (reached cs), h 0 (omega arith), h 1 (omega arith), h 2 (omega arith), h 3 (omega arith))
