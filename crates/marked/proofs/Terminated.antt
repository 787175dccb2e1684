-- Example 9 for every desk, slot, place and second, through later calls: RI/T over a recording.
use Prim.Native.Nat.{ℕ, zero, suc, ◌+◌, ◌-◌, ◌≤◌}
use mathlib.Core.Path.{◌≡◌, refl, sym, ◌∙◌}
use mathlib.Core.Bool.{Bool, true, false, true≢false}
use mathlib.Core.List.{List, [], ◌∷◌}
use mathlib.Core.Logic.{◌⊎◌, inl, inr}
use native.Mathlib.Omega.{arith}
use native.Mathlib.Decide.{dec_le}
use borrow.Author.Tests.{lt-ltb, le-ltb, eqb-true, eqb-false}
use lib.Dec.{eqb}
use lib.ListN.{get_or, set}
use Rattle.answer.specs.Answer.{given}
use Rattle.answer.proofs.Cases.{by_test}
use Rattle.label.specs.declared.Label.{Label}
use Rattle.label.specs.declared.pil.Service.TheVariants.{Programme, InhibitTerminate}
use Rattle.label.specs.Packet.{reading_of}
use Rattle.label.specs.Pil.{service_of}
use Rattle.places.specs.Places.{no_label, flag, stands, stamped, heard_at, labels_fail}
use Rattle.matching.specs.Matching.{open_at, ended_at, matches, sight_of}
use Rattle.matching.proofs.Codes.{codes_match_nothing}
use Rattle.clocked.proofs.Parts.{clocked_labelled}
use Rattle.moving.proofs.Update.{codes_refused}
use Rattle.rule.specs.Rule.{clock_or, from_recording, run_for, from_running_on, next_copy, next_timer, by_labels, live_timer}
use Rattle.places.specs.declared.Stamped.{Stamped}
use Rattle.matching.specs.declared.Booking.{Booking}
use Rattle.rule.specs.declared.Copy.{Copy}
use Rattle.rule.specs.declared.Copy.TheVariants.{Waiting, Recording, RunningOn}
use Rattle.matching.specs.declared.Sight.{Sight}
use Rattle.matching.specs.declared.Sight.TheVariants.{Nothing, Prepare, Start}
use Rattle.desk.specs.declared.Desk.{Desk}
use Rattle.desk.specs.Moments.{moment, pass_to}
use Rattle.desk.specs.Calls.{place_of, with_label, hearing_at, updating, obeying, packet_of, timer_at}
use Rattle.desk.proofs.Settle.{next_copy_open, start_matches, prepare_matches, moment_settled}
use Rattle.desk.proofs.Jump.{timer_at_moment}
use Rattle.history.proofs.Waits.{pass_to_clock}
use Rattle.history.proofs.Windows.{open_not_ended}
use Rattle.history.specs.Run.{Call}
use Rattle.history.specs.Update.{AllSpare}
use Rattle.history.specs.Prepared.{moments_in, NoPrf0}
use Rattle.history.proofs.Next.{next_is, next_held}
use Rattle.history.proofs.Chain.{Chain, chain_calls}
use Rattle.history.proofs.Prepared.{Has, goes_to, all_touch}
use Rattle.history.proofs.Silent.{next_unheard}
use Rattle.history.proofs.Updates.{packet_obeyed}
use Rattle.marked.specs.Marked.{Terminated, NothingElse, Labelled, Undisturbed, RunsOut}
use Rattle.marked.proofs.Prepared.{moves_not, starts_not}

-- ── RI/T matches no timer ──────────────────────────────────────────────────────────────────────────────────────────
no_programme : (pil : ℕ) → service_of pil ≡ InhibitTerminate → service_of pil ≡ Programme → ⊥
no_programme pil code e = absurd (let z : ◌≡◌ {A = ℕ} 0 1 = cc in omega arith)

code_matches_not : (s : ℕ) (b : Booking) (l : Stamped) → service_of l.pil ≡ InhibitTerminate → matches s b l ≡ false
code_matches_not s b l code = codes_match_nothing s b l (no_programme l.pil code)

-- ── what an accepted packet leaves ─────────────────────────────────────────────────────────────────────────────────
-- what is stored at a place stands there, if there is such a place
stored_or : {A : Type 0} (z v : A) (xs : List A) (i : ℕ) → (get_or (set xs i v) i z ≡ v) ⊎ (get_or (set xs i v) i z ≡ z)
stored_or z v [] i = inr refl
stored_or z v (x ∷ xs) zero = inl refl
stored_or z v (x ∷ xs) (suc i) = stored_or z v xs i

-- with LUF 1 a code is never accepted
code_heard : (tuner t : ℕ) (l : Label) (d e : Desk) → service_of l.pil ≡ InhibitTerminate → obeying tuner t l d ≡ given e → e ≡ hearing_at tuner t l d
unfolding obeying updating
code_heard tuner t l d e code g =
    by_test (flag l.luf)
    (λ f. let k = rw (f, codes_refused t (get_or d.places (place_of tuner l) no_label) l d.timers (no_programme l.pil code)) at g in
    absurd (let z : ◌≡◌ {A = ℕ} 0 1 = cc in omega arith))
    (λ f. let k = rw f at g in cc)

packet_given : (tuner t : ℕ) (bytes : List ℕ) (l : Label) (d e : Desk) → service_of l.pil ≡ InhibitTerminate → reading_of bytes ≡ given l →
    packet_of tuner t bytes d ≡ given e → (d.clock ≤ t) × (e ≡ moment (with_label tuner l (pass_to t d)))
unfolding hearing_at
packet_given tuner t bytes l d e code r g =
    let o = packet_obeyed tuner t bytes l d e r g in
    (o.0.1, code_heard tuner t l d e code o.1)

-- ── the moments of a run-on ────────────────────────────────────────────────────────────────────────────────────────
module _ (t slot p : ℕ) (b : Booking) where
  nothing_seen : (e : Desk) → Undisturbed b e → sight_of e.clock e.places b ≡ Nothing
  nothing_seen e u = go (sight_of e.clock e.places b) refl
    where
      go : (g : Sight) → sight_of e.clock e.places b ≡ g → g ≡ Nothing
      go (Start q) k = absurd (true≢false (sym (start_matches e.clock e.places b q k).0 ∙ u.none_matches q))
      go (Prepare q) k = absurd (true≢false (sym (prepare_matches e.clock e.places b q k) ∙ u.none_matches q))
      go Nothing k = refl

  none_starts_at : (e : Desk) → Undisturbed b e → NoPrf0 e.clock e.places b
  none_starts_at e u q m = absurd (true≢false (sym m ∙ u.none_matches q))

  -- once it neither records nor runs on it is not live
  over : (es : List Desk) (d : Desk) (c : Copy) → Has slot b c d → by_labels c ≡ false → t + 30 ≤ d.clock → Chain slot ⊥ d es → RunsOut t slot b es
  over [] d c h n k r = tt
  over (e ∷ es) d c h n k r = λ u.
      let next = next_is e.clock e.places b c in
      let at-e = goes_to slot b d e h r.0 refl in
      let dead = next_unheard e.clock e.places b u.none_matches next n in
      let holds = next_held _ _ _ next ∙ h.held_now in
      let lasts = open_not_ended b e.clock u.open_window in (
        λ l. absurd (omega (arith, r.0.onward)),
        λ l. rw at-e (dead.1 holds ∙ clocked_labelled e.clock e.places b u.labelled),
        over es e _ (record { timer = at-e; lasts = lasts; held_now = holds }) dead.0 (omega (arith, r.0.onward)) r.1,
      )

  module _ (e : Desk) (u : Undisturbed b e) where
    abbrev next : Copy
    next = next_copy e.clock e.places b (RunningOn p t)

    lasts_e : ended_at e.clock b ≡ false
    lasts_e = open_not_ended b e.clock u.open_window

    runs_still : e.clock ≤ t + 29 → next ≡ RunningOn p t
    unfolding from_running_on
    runs_still l =
        next_copy_open e.clock e.places b u.open_window (RunningOn p t)
        ∙ rw (moves_not e.clock e.places b (none_starts_at e u), lt-ltb (e.clock - t) run_for (omega arith))

    run_over : t + 30 ≤ e.clock → next ≡ Waiting
    unfolding from_running_on clock_or
    run_over l =
        next_copy_open e.clock e.places b u.open_window (RunningOn p t)
        ∙ rw (
          nothing_seen e u,
          le-ltb (e.clock - t) run_for (omega arith),
          clocked_labelled e.clock e.places b u.labelled,
        )

  runs_out : (es : List Desk) (d : Desk) → Has slot b (RunningOn p t) d → d.clock ≤ t + 29 → Chain slot ⊥ d es → RunsOut t slot b es
  runs_out [] d h k r = tt
  runs_out (e ∷ es) d h k r = λ u. elim (dec_le e.clock (t + 29)) [
    | yes l ↦
        let at-e = goes_to slot b d e h r.0 (runs_still e u l) in
        (λ m. rw at-e, λ m. absurd (omega arith), runs_out es e (record { timer = at-e; lasts = lasts_e e u; held_now = refl }) l r.1)
    | no l ↦
        let at-e = goes_to slot b d e h r.0 (run_over e u (omega arith)) in
        (λ m. absurd (omega arith), λ m. rw at-e, over es e Waiting (record { timer = at-e; lasts = lasts_e e u; held_now = refl }) refl (omega arith) r.1)
  ]

-- ── RI/T at t ──────────────────────────────────────────────────────────────────────────────────────────────────────
module _ (t slot p : ℕ) (b : Booking) (mi : Bool) (d : Desk) (h : Terminated t slot p b mi d) where
  -- the desk at second t, before the packet
  abbrev then : Desk
  then = pass_to t h.before

  left : (h.before.clock ≤ t) × (d ≡ moment (with_label h.tuner h.label then))
  left = packet_given h.tuner t h.bytes h.label h.before d h.code h.read h.accepted

  clock_then : then.clock ≡ t
  clock_then = pass_to_clock h.before t left.0

  clock_now : d.clock ≡ t
  unfolding moment
  clock_now = rw left.1 clock_then

  places_now : d.places ≡ set then.places p (stamped t h.label)
  unfolding moment heard_at
  places_now = rw (left.1, h.code, clock_then, h.place)

  copy_now : timer_at d slot ≡ record { booking = b; copy = next_copy t d.places b (Recording p mi) }
  unfolding moment next_timer
  copy_now = rw left.1 (timer_at_moment (with_label h.tuner h.label then) slot ∙ rw (h.recording, clock_then))

  leaves : (s : ℕ) → matches s b (get_or d.places p no_label) ≡ false
  unfolding matches stands
  leaves s =
      rw places_now (elim (stored_or no_label (stamped t h.label) then.places p) [
        | inl e ↦ rw e (code_matches_not s b (stamped t h.label) h.code)
        | inr e ↦ rw e
      ])

  none_starts : (s : ℕ) → NothingElse s p b d → NoPrf0 s d.places b
  none_starts s none q m = absurd (true≢false (sym m ∙ by_test (eqb q p) (λ e. rw (eqb-true q p e) (leaves s)) (λ e. none q (eqb-false q p e))))

  -- with MI 1
  pub stops : mi ≡ true → NothingElse t p b d → Labelled b d → live_timer (timer_at d slot) ≡ false
  unfolding next_copy from_recording
  stops one none labelled =
      let n = none_starts t none in
      let l : labels_fail t d.places b.tuner ≡ false = rw clock_now at labelled in
      rw copy_now (by_test (open_at t b) (λ e. rw (e, leaves t, one, moves_not t d.places b n) (starts_not t d.places b n l)) (λ e. rw e))

-- with MI 0
module _ (t slot p : ℕ) (b : Booking) (d : Desk) (h : Terminated t slot p b false d) (none : NothingElse t p b d) (opened : open_at t b ≡ true) where
  lasts_now : ended_at t b ≡ false
  lasts_now = open_not_ended b t opened

  runs_first : timer_at d slot ≡ record { booking = b; copy = RunningOn p t }
  unfolding from_recording
  runs_first =
      copy_now t slot p b false d h
      ∙ rw (
        next_copy_open t d.places b opened (Recording p false),
        leaves t slot p b false d h t,
        moves_not t d.places b (none_starts t slot p b false d h t none),
      )

  pub runs : (later : List Call) → AllSpare slot later d → (live_timer (timer_at d slot) ≡ true) × RunsOut t slot b (moments_in later d)
  runs later kept =
      let now = clock_now t slot p b false d h in (
        rw runs_first,
        runs_out t slot p b (moments_in later d) d (record { timer = runs_first; lasts = rw now lasts_now; held_now = refl }) (omega arith)
            (chain_calls slot ⊥ later d (rw (left t slot p b false d h).1 (moment_settled _)) (all_touch slot later d kept)),
      )
