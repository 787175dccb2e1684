-- Demand 3 (document 01, 'The second-by-second rule' and 'How tight the statements are'; 02, #101, #105, #106 and #107). Proved in proofs/Proved.antt.
use Rattle.std.specs.Prelude.{ℕ, ◌+◌, ◌-◌, ◌≤◌, ◌<◌, ◌≡◌, Bool, true, false, cond, ◌&&◌, List, [], ◌∷◌, ◌++◌, map, ◌⊎◌, ltb, eqb, length, get_or, take}
use Rattle.answer.specs.Answer.{Answer, refused, given}
use Rattle.answer.specs.Lists.{count}
use Rattle.label.specs.declared.Label.{Label}
use Rattle.label.specs.Packet.{reading_of}
use Rattle.calendar.specs.Calendar.{clock_end, window_in}
use Rattle.calendar.specs.declared.Window.{Window}
use Rattle.places.specs.Places.{no_label, flag, labels_fail}
use Rattle.matching.specs.Matching.{open_at, matches, sight_of}
use Rattle.clocked.specs.Clocked.{out_of_range, in_length, clocked}
use Rattle.rule.specs.Rule.{recording_at, not_live, moves_or, next_copy, next_timer, held, is_live, live_timer}
use Rattle.places.specs.declared.Stamped.{Stamped}
use Rattle.matching.specs.declared.Booking.{Booking}
use Rattle.rule.specs.declared.Copy.{Copy}
use Rattle.rule.specs.declared.Copy.TheVariants.{Free, Waiting, Prepared, Recording, RunningOn, ByTheClock}
use Rattle.rule.specs.declared.Timer.{Timer}
use Rattle.matching.specs.declared.Sight.TheVariants.{Start}
use Rattle.desk.specs.declared.Desk.{Desk}
use Rattle.sixteen.specs.Sixteen.{no_timer, active, same_booking}
use Rattle.moving.specs.Moving.{Update, repeats, moves, year_for}
use Rattle.desk.specs.Moments.{fresh, moment, walk, quiet, walked_in, walked_to, live_count}
use Rattle.desk.specs.Calls.{Told, updating_at, packet_of, add_of, ask_of, timer_at}
use Rattle.history.specs.Run.{Call, packet, wait, add, outcome, desk_after, answers_of, reached, accepted, given_ones}
use Rattle.history.specs.Prepared.{moments_in, NoPrf0, OnlyPrf1, PreparedThenRecords, prepared_since}
use Rattle.history.specs.Clock.{ClockRecords, Silent, LiveByTime}
use Rattle.history.specs.Update.{standing_at, Asks, OtherHolds, Spares, AllSpare}

abbrev pub Each : {A : Type 0} → (A → Type 0) → List A → Type 0
Each P [] = Unit {0}
Each P (x ∷ xs) = P x × Each P xs

-- the sum of the numbers that are told
abbrev pub tell : List ℕ → ℕ
tell [] = 0
tell (n ∷ ns) = n + tell ns

abbrev pub told : Answer (List ℕ) → ℕ
told (refused n) = 0
told (given ns) = tell ns

abbrev pub told_in_all : List (Answer (List ℕ)) → ℕ
told_in_all [] = 0
told_in_all (a ∷ rest) = told a + told_in_all rest

-- k is 'the least number after which no label stands and' nothing is recording or running on (02, #105), 'or the whole wait if that is less',
-- of a wait of n seconds
pub record Walked (n : ℕ) (d : Desk) (k : ℕ) : Type 0 where
  pub within : k ≤ n
  pub before : (j : ℕ) → j < k → quiet (walk j d) ≡ false
  pub then_quiet : k < n → quiet (walk k d) ≡ true

-- a live copy of a programme
abbrev pub copy_of : ℕ → ℕ → Timer → Bool
copy_of cni pil t = live_timer t && eqb t.booking.cni cni && eqb t.booking.pil pil

-- the second since which a copy is prepared or runs on is not after s
abbrev pub SinceBy : ℕ → Copy → Type 0
SinceBy s Free = Unit {0}
SinceBy s Waiting = Unit {0}
SinceBy s (Prepared v) = v ≤ s
SinceBy s (Recording p mi) = Unit {0}
SinceBy s (RunningOn p v) = v ≤ s
SinceBy s ByTheClock = Unit {0}

-- a copy that is prepared at second s became so at most 60 seconds before
abbrev pub PreparedWithin : ℕ → Copy → Type 0
PreparedWithin s Free = Unit {0}
PreparedWithin s Waiting = Unit {0}
PreparedWithin s (Prepared v) = s ≤ v + 60
PreparedWithin s (Recording p mi) = Unit {0}
PreparedWithin s (RunningOn p v) = Unit {0}
PreparedWithin s ByTheClock = Unit {0}

-- what every reachable desk keeps
pub record Sound (d : Desk) : Type 0 where
  pub sixteen : (length d.places ≡ 16) × (length d.timers ≡ 16)
  -- no stamp lies after the clock, and no second since which a copy is prepared or runs on
  pub stamps : (p : ℕ) → (get_or d.places p no_label).stamp ≤ d.clock
  pub seconds : (slot : ℕ) → SinceBy d.clock (timer_at d slot).copy
  -- nor does a prepared copy's lie more than 60 seconds back
  pub prepared : (slot : ℕ) → PreparedWithin d.clock (timer_at d slot).copy
  -- a live copy's window is open
  pub open_window : (slot : ℕ) → is_live (timer_at d slot).copy ≡ true → open_at d.clock (timer_at d slot).booking ≡ true
  -- and a clock copy's second lies within the announced second and the end of its length
  pub in_length_lem : (slot : ℕ) → (timer_at d slot).copy ≡ ByTheClock → in_length d.clock (timer_at d slot).booking ≡ true
  -- no two timers that are held and not ended are the same
  pub no_twins : (i j : ℕ) → i < j → active d.clock (timer_at d i) ≡ true → active d.clock (timer_at d j) ≡ true →
      same_booking (timer_at d i).booking (timer_at d j).booking ≡ false
  -- every timer's PIL is real in its year
  pub real : (slot : ℕ) → held (timer_at d slot).copy ≡ true → (w : Window) × (window_in (timer_at d slot).booking.pil (timer_at d slot).booking.year ≡ given w)
  -- and it has 'a home tuner and a length of 1 to 1,440 minutes'
  pub in_range : (slot : ℕ) → held (timer_at d slot).copy ≡ true → out_of_range (timer_at d slot).booking ≡ false
  -- one more moment changes nothing
  pub settled : moment d ≡ d

-- a copy records at a place
abbrev pub records_at : ℕ → Copy → Bool
records_at q Free = false
records_at q Waiting = false
records_at q (Prepared v) = false
records_at q (Recording p mi) = eqb p q
records_at q (RunningOn p v) = false
records_at q ByTheClock = false

-- at second s a copy has been prepared for more than 60 seconds
abbrev pub long_prepared : ℕ → Copy → Bool
long_prepared s Free = false
long_prepared s Waiting = false
long_prepared s (Prepared v) = ltb 60 (s - v)
long_prepared s (Recording p mi) = false
long_prepared s (RunningOn p v) = false
long_prepared s ByTheClock = false

pub record Laws : Type 0 where
  -- the desk after the calls, what it says of every slot and every answer are those of the rule on the accepted calls alone
  pub accepted_alone : (cs : List Call) → (reached (accepted cs fresh) ≡ reached cs)
      × (answers_of (accepted cs fresh) fresh ≡ given_ones (answers_of cs fresh))
      × ((slot : ℕ) → ask_of slot (reached (accepted cs fresh)) ≡ ask_of slot (reached cs))
  -- a wait cut anywhere, any number of times, changes no later answer and not the desk, and the walked counts add up
  pub cut : (cs : List Call) (us : List ℕ) (t : ℕ) (later : List Call) → Each (λ u. u ≤ t) us → (reached cs).clock ≤ t → t ≤ clock_end →
      let parts = map wait us ++ wait t ∷ [] in
      (desk_after parts (reached cs) ≡ desk_after (wait t ∷ []) (reached cs))
      × (answers_of later (desk_after parts (reached cs)) ≡ answers_of later (desk_after (wait t ∷ []) (reached cs)))
      × (told_in_all (answers_of parts (reached cs)) ≡ walked_to t (reached cs))
  -- nor does a wait put before a packet, up to its second
  pub wait_before : (cs : List Call) (u tuner t : ℕ) (bytes : List ℕ) → u ≤ t →
      packet_of tuner t bytes (desk_after (wait u ∷ []) (reached cs)) ≡ packet_of tuner t bytes (reached cs)
  -- no programme ever has two live copies, clock copies counted: after every call, and at every second that passes, past the clock's end too
  pub one_copy : (cs : List Call) (n cni pil : ℕ) → count (copy_of cni pil) (walk n (reached cs)).timers ≤ 1
  pub no_two : (cs : List Call) (n i j : ℕ) → i < j →
      let t = timer_at (walk n (reached cs)) i in let u = timer_at (walk n (reached cs)) j in
      live_timer t ≡ true → live_timer u ≡ true → t.booking.cni ≡ u.booking.cni → t.booking.pil ≡ u.booking.pil → ⊥
  -- 'keep the number with the desk; it equals the full count, clock recordings included, after every call, refused or not' (02, #106), and at
  -- every second that passes
  pub live_kept : (cs : List Call) (n : ℕ) → (walk n (reached cs)).live ≡ live_count (walk n (reached cs))
  -- the walked count is that least number, no other number is, and it is never more than 36
  pub walked_least : (n : ℕ) (d : Desk) → Walked n d (walked_in n d)
  pub walked_unique : (n k : ℕ) (d : Desk) → Walked n d k → k ≡ walked_in n d
  pub walked_short : (cs : List Call) (t : ℕ) → walked_to t (reached cs) ≤ 36
  -- every reachable desk, after every call and at every second that passes
  pub sound : (cs : List Call) (n : ℕ) → Sound (walk n (reached cs))
  -- and each moment of further calls is such a desk: some of these, and seconds after them, reach it
  pub each_moment : (cs later : List Call) →
      Each (λ e. (i : ℕ) × (n : ℕ) × (e ≡ walk n (reached (cs ++ take i later)))) (moments_in later (reached cs))
  -- no call passes the clock's end
  pub clock_within : (cs : List Call) → (reached cs).clock ≤ clock_end
  -- a recording stays with its place while its own label stands there, whatever is heard elsewhere, but for its cancelling and an accepted update
  -- of its timer (02, #107)
  pub stays : (cs : List Call) (c : Call) (slot place : ℕ) (mi : Bool) → Spares slot c (reached cs) →
      let d = reached cs in let e = desk_after (c ∷ []) d in let b = (timer_at d slot).booking in
      (timer_at d slot).copy ≡ Recording place mi → matches e.clock b (get_or d.places place no_label) ≡ true →
      matches e.clock b (get_or e.places place no_label) ≡ true →
      timer_at e slot ≡ record { booking = b; copy = recording_at e.places place }
  -- only a label with PRF 0 starts or moves a copy, or more than 60 seconds of being prepared start it
  pub starts : (s q : ℕ) (ls : List Stamped) (b : Booking) (c : Copy) (mi : Bool) → next_copy s ls b c ≡ Recording q mi →
      (matches s b (get_or ls q no_label) ≡ true) × (((get_or ls q no_label).prf ≡ false) ⊎ (records_at q c ≡ true) ⊎ (long_prepared s c ≡ true))
  -- 'a timer that has been prepared without a break for more than 60 seconds now starts recording at the lowest place that matches': from every
  -- call and every second that passes, whatever else is heard, while the timer is neither cancelled nor updated
  pub after_60 : (cs : List Call) (n slot v : ℕ) (later : List Call) → let d = walk n (reached cs) in
      (timer_at d slot).copy ≡ Prepared v → AllSpare slot later d →
      PreparedThenRecords slot (timer_at d slot).booking v (moments_in later d)
  -- and nothing but a match of PRF 1, with none of PRF 0, makes or keeps a copy prepared, and nothing does where the clock records it
  pub prepares : (s v : ℕ) (ls : List Stamped) (b : Booking) (c : Copy) → next_copy s ls b c ≡ Prepared v →
      OnlyPrf1 s ls b × (clocked s ls b ≡ false)
  -- 'the copy keeps the second at which it became prepared', whichever place matches and however often the label is sent
  pub since : (s v : ℕ) (ls : List Stamped) (b : Booking) (c : Copy) → next_copy s ls b c ≡ Prepared v → v ≡ prepared_since s c
  -- 'without a break': after a moment at which a copy is not prepared no moment, of that second or a later one, finds it prepared since an
  -- earlier second
  pub break : (d : Desk) (slot : ℕ) (later : List Call) → ((u : ℕ) → (timer_at d slot).copy ≡ Prepared u → ⊥) →
      Each (λ e. (v : ℕ) → (timer_at e slot).copy ≡ Prepared v → d.clock ≤ v) (moments_in later d)
  -- at every second of every reachable desk a timer is 'by the clock' exactly if it neither records nor runs on, no label with PRF 0 matches, its
  -- home tuner is without labels or has timer-control, and the second lies in its length and window
  pub by_the_clock : (cs : List Call) (n slot : ℕ) → let d = walk n (reached cs) in
      ((timer_at d slot).copy ≡ ByTheClock → ClockRecords d slot) × (ClockRecords d slot → (timer_at d slot).copy ≡ ByTheClock)
  -- a timer whose home tuner is silent, with no match anywhere, is live, from its adding on and while it is held, exactly at the seconds of its
  -- length inside its window, through waits of any length
  pub silent_home : (cs : List Call) (b : Booking) (o : Told) (later : List Call) → add_of b (reached cs) ≡ given o →
      LiveByTime o.says b (moments_in (add b ∷ later) (reached cs))
  -- and a tuner that never hears a packet is silent
  pub never_hears : (cs : List Call) (n tuner : ℕ) → Each (λ c. (t : ℕ) (bytes : List ℕ) → c ≡ packet tuner t bytes → ⊥) cs →
      Silent tuner (walk n (reached cs))
  -- whatever a timer that is held was doing before: where its home tuner is without labels or has timer-control, and the second lies in its length
  -- and window, it is live
  pub no_gap : (cs : List Call) (n slot : ℕ) → let d = walk n (reached cs) in let t = timer_at d slot in let b = t.booking in
      held t.copy ≡ true → labels_fail d.clock d.places b.tuner ≡ true → in_length d.clock b ≡ true →
      open_at d.clock b ≡ true → live_timer t ≡ true
  -- 'under Moments the timer is treated as not live, so a match with PRF 0 makes it recording', at the lowest such place
  pub taken_over_lem : (s q : ℕ) (ls : List Stamped) (b : Booking) → sight_of s ls b ≡ Start q → next_copy s ls b ByTheClock ≡ recording_at ls q
  -- else the clock 'comes before prepared, and before the start after its 60 seconds, and ends it': by `break` its second is lost
  pub clock_ends_prepared : (s v : ℕ) (ls : List Stamped) (b : Booking) → NoPrf0 s ls b → clocked s ls b ≡ true →
      next_copy s ls b (Prepared v) ≡ ByTheClock
  -- ── label updates (02, #107) ─────────────────────────────────────────────────────────────────────────────────────
  -- what a packet with LUF 1 asks for is done, and tells no number
  pub update_does : (u : Update) (c : Call) (d : Desk) (a : Asks u c d) → outcome c d ≡ given (record { tells = []; desk = updating_at a.t u d })
  -- and each that is accepted asks for something
  pub update_asks : (tuner t : ℕ) (bytes : List ℕ) (l : Label) (d e : Desk) → reading_of bytes ≡ given l → flag l.luf ≡ true →
      packet_of tuner t bytes d ≡ given e → (u : Update) × Asks u (packet tuner t bytes) d
  -- 'a packet repeating the standing label is accepted and only moves the clock': it is exactly a wait to its second
  pub repeat_waits : (c : Call) (d : Desk) (a : Asks repeats c d) → desk_after (c ∷ []) d ≡ desk_after (wait a.t ∷ []) d
  -- a call that is refused leaves everything
  pub refused_leaves : (c : Call) (d : Desk) (n : ℕ) → outcome c d ≡ refused n → desk_after (c ∷ []) d ≡ d
  -- an update leaves the clock, every place and every other slot as a wait to its second would
  pub update_elsewhere : (c : Call) (d : Desk) (slot : ℕ) (b : Booking) (a : Asks (moves slot b) c d) →
      let e = desk_after (c ∷ []) d in let w = desk_after (wait a.t ∷ []) d in
      (e.clock ≡ w.clock) × (e.places ≡ w.places) × ((i : ℕ) → (i ≡ slot → ⊥) → timer_at e i ≡ timer_at w i)
  -- the timer that it means is the only one that the standing label matches
  pub update_only : (cs : List Call) (c : Call) (slot : ℕ) (b : Booking) (a : Asks (moves slot b) c (reached cs)) →
      let d = reached cs in let old = standing_at a.tuner a.label d in
      (i : ℕ) → held (timer_at d i).copy ≡ true → matches a.t (timer_at d i).booking old ≡ true → i ≡ slot
  -- 'that timer takes the new CNI and PIL in its own year, or in the next year if the month goes from 12 to 1. It keeps its slot, home tuner and length'
  pub update_takes : (c : Call) (d : Desk) (slot : ℕ) (b : Booking) (a : Asks (moves slot b) c d) →
      let was = (timer_at d slot).booking in
      (b.cni ≡ a.label.cni) × (b.pil ≡ a.label.pil) × (b.year ≡ year_for was a.label.pil) × (b.tuner ≡ was.tuner) × (b.length ≡ was.length)
  -- its slot is free 'if another timer held the new label in that year', ..
  pub update_twin : (c : Call) (d : Desk) (slot : ℕ) (b : Booking) (a : Asks (moves slot b) c d) → OtherHolds slot b a.t d →
      timer_at (desk_after (c ∷ []) d) slot ≡ no_timer
  -- .. and else, whatever it was doing, its copy goes on at that second by the rule
  pub update_moves : (cs : List Call) (c : Call) (slot : ℕ) (b : Booking) (a : Asks (moves slot b) c (reached cs)) →
      (OtherHolds slot b a.t (reached cs) → ⊥) →
      let e = desk_after (c ∷ []) (reached cs) in let w = desk_after (wait a.t ∷ []) (reached cs) in
      timer_at e slot ≡ next_timer a.t w.places (record { booking = b; copy = (timer_at w slot).copy })
  -- 'a recording under the old one leaves by the ordinary rule': to the lowest match with PRF 0 of the new label; else it runs on from that second,
  -- or, where the remembered MI is 1, goes on in that moment as a timer that is not live. 'Where the new window isn't open yet, the copy ends at once
  -- and the timer waits'
  pub update_leaves : (cs : List Call) (c : Call) (slot place : ℕ) (mi : Bool) (b : Booking) (a : Asks (moves slot b) c (reached cs)) →
      (OtherHolds slot b a.t (reached cs) → ⊥) →
      let e = desk_after (c ∷ []) (reached cs) in let w = desk_after (wait a.t ∷ []) (reached cs) in
      let seen = sight_of a.t w.places b in
      (timer_at w slot).copy ≡ Recording place mi →
      (timer_at e slot).copy
      ≡ cond (open_at a.t b) (moves_or w.places seen (cond mi (not_live a.t w.places b seen) (RunningOn place a.t))) Waiting
