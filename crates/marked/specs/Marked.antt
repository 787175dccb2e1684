-- The marked examples of document 01, the eleventh as 02 amends it (#101): what the definitions give, beside what the paper says. Proved in
-- proofs/Proved.antt.
use Rattle.std.specs.Prelude.{ℕ, zero, suc, ◌+◌, ◌-◌, ◌*◌, ◌≤◌, Bool, true, false, ◌≡◌, List, [], ◌∷◌, ◌++◌, map, replicate, get_or}
use Rattle.answer.specs.Answer.{Answer, refused, given, after}
use Rattle.hamming.specs.Byte.{nibble_of}
use Rattle.calendar.specs.declared.Window.{Window}
use Rattle.calendar.specs.Calendar.{window_in}
use Rattle.label.specs.declared.Label.{Label}
use Rattle.label.specs.declared.pil.Service.TheVariants.{InhibitTerminate, Continuation}
use Rattle.label.specs.Packet.{value_of, reading_of, writing_of}
use Rattle.label.specs.Pil.{parts_of, service_of}
use Rattle.places.specs.Places.{no_label, stands, heard_at, labels_fail}
use Rattle.matching.specs.Matching.{open_at, matches}
use Rattle.rule.specs.Rule.{next_copy, is_live, live_timer}
use Rattle.places.specs.declared.Stamped.{Stamped}
use Rattle.matching.specs.declared.Booking.{Booking}
use Rattle.rule.specs.declared.Copy.{Copy}
use Rattle.rule.specs.declared.Copy.TheVariants.{Waiting, Prepared, Recording, RunningOn, ByTheClock}
use Rattle.desk.specs.declared.Desk.{Desk}
use Rattle.desk.specs.Moments.{fresh, walk, pass_to, live_count}
use Rattle.reply.specs.Numbers.{Says}
use Rattle.desk.specs.Calls.{place_of, packet_of, timer_at, ask_of}
use Rattle.sheet.specs.Sheet.{sheet_of}
use Rattle.history.specs.Update.{AllSpare}
use Rattle.history.specs.Run.{Call, packet, wait, add, ask, live, answers_of, reached}
use Rattle.history.specs.Prepared.{moments_in, OnlyPrf1}
use Rattle.history.specs.Laws.{Each}

pub record Example : Type 0 where
  pub gives : List ℕ
  pub paper : List ℕ

-- a refusal's number alone, or a label's fields
abbrev pub fields_or : Answer Label → List ℕ
fields_or (refused n) = n ∷ []
fields_or (given l) =
    l.designation ∷ l.lci ∷ l.luf ∷ l.prf ∷ l.pcs ∷ l.mi ∷ l.spare ∷ l.cni ∷ l.pil ∷ l.pty ∷ []

-- day, month, hour and minute of a PIL
abbrev pub announced : ℕ → List ℕ
announced pil = let parts = parts_of pil in parts.day ∷ parts.month ∷ parts.hour ∷ parts.minute ∷ []

-- packet A of 'the sheet program'
abbrev pub packet_a : List ℕ
packet_a =
    0x15 ∷ 0xEA ∷ 0x49 ∷ (replicate 6 0x15 ++ (0x15 ∷ 0x15 ∷ 0xD0 ∷ 0x8C ∷ 0x2F ∷ 0xEA ∷ 0xA1 ∷ 0xFD ∷ 0xB6 ∷ 0x38 ∷ 0x8C ∷ 0x15 ∷ 0x15 ∷ replicate 20 0x20))

-- the PIL of a day, month, hour and minute
abbrev pub pil_of : ℕ → ℕ → ℕ → ℕ → ℕ
pil_of day month hour minute = ((day * 16 + month) * 32 + hour) * 64 + minute

-- a refusal's number alone, or the opening and the close
abbrev pub window_or : Answer Window → List ℕ
window_or (refused n) = n ∷ []
window_or (given w) = w.opens ∷ w.closes ∷ []

-- a refusal's number alone, or the close
abbrev pub close_or : Answer Window → List ℕ
close_or (refused n) = n ∷ []
close_or (given w) = w.closes ∷ []

-- the number by which a nibble says that its byte is damaged
abbrev pub is_damaged : ℕ
is_damaged = 16

-- a label as it is sent, in 42 bytes
abbrev pub sent : Label → List ℕ
sent l = after (replicate 42 0) (writing_of l (replicate 42 0))

-- the programme of these examples: announced for 00:00 of the clock's first day, so that its window is open, and its length runs, from 0 on; its
-- home tuner is 0
abbrev pub pil_here : ℕ
pil_here = pil_of 1 1 0 0

abbrev pub here : Booking
here = record { cni = 0x1D65; pil = pil_here; year = 0; tuner = 0; length = 60 }

abbrev pub label_with : ℕ → ℕ → ℕ → Label
label_with pil prf mi = record { designation = 2; lci = 0; luf = 0; prf = prf; pcs = 0; mi = mi; spare = 0; cni = 0x1D65; pil = pil; pty = 0 }

abbrev pub label_here : Label
label_here = label_with pil_here 0 0

-- the second of the examples
abbrev pub t : ℕ
t = 50

-- day 0, month 15, minute 63: hour 30 is RI/T, 28 continuation
abbrev pub inhibit_terminate : ℕ
inhibit_terminate = pil_of 0 15 30 63

abbrev pub continuation : ℕ
continuation = pil_of 0 15 28 63

-- a recording with this MI, and RI/T at t
abbrev pub stopped : ℕ → List Call
stopped mi = add here ∷ packet 0 (t - 1) (sent (label_with pil_here 0 mi)) ∷ packet 0 t (sent (label_with inhibit_terminate 0 0)) ∷ []

-- RI/T again, n times every five seconds from s on: 'a label, and no timer-control, standing on the home tuner throughout' (02, #105)
abbrev pub again_from : ℕ → ℕ → List Call
again_from s zero = []
again_from s (suc n) = packet 0 s (sent (label_with inhibit_terminate 0 0)) ∷ again_from (s + 5) n

-- a label at t, and continuation n seconds later
abbrev pub continued : ℕ → List Call
continued n = packet 0 t (sent label_here) ∷ packet 0 (t + n) (sent (label_with continuation 0 0)) ∷ []

abbrev pub bit : Bool → ℕ
bit true = 1
bit false = 0

-- after these calls on a fresh desk: whether the label of place 0 stands at second s, how many timers are live, and what slot 0 says
unfoldable pub stands_after : List Call → ℕ → ℕ
stands_after cs s = bit (stands s (get_or (reached cs).places 0 no_label))

unfoldable pub live_after : List Call → ℕ
live_after cs = live_count (reached cs)

abbrev pub says_or : Answer Says → List ℕ
says_or (refused n) = n ∷ []
says_or (given s) = s.state ∷ s.place ∷ []

unfoldable pub says_after : List Call → List ℕ
says_after cs = says_or (ask_of 0 (reached cs))

-- what slot 0 says, and how many timers are live
abbrev pub state_after : List Call → List ℕ
state_after cs = says_after cs ++ live_after cs ∷ []

-- its label with PRF 1 at s and n times again, every five seconds
abbrev pub flagged_from : ℕ → ℕ → List Call
flagged_from s zero = packet 0 s (sent (label_with pil_here 1 0)) ∷ []
flagged_from s (suc n) = packet 0 s (sent (label_with pil_here 1 0)) ∷ flagged_from (s + 5) n

-- a timer, and its label so from t on
abbrev pub flagged : ℕ → List Call
flagged n = add here ∷ flagged_from t n

-- the calls of the sheet, with questions between them
abbrev pub taken_over : List Call
taken_over =
    add (record { cni = 0x1D65; pil = 0x7BCDE; year = 2; tuner = 0; length = 60 })
    ∷ packet 0 0x04C5DF38 packet_a ∷ live ∷ packet 4 0x04C5DF3D packet_a ∷ live
    ∷ wait 0x04C5DF42 ∷ ask 0 ∷ packet 1 0x04C5DF42 packet_a ∷ ask 0 ∷ live ∷ []

-- the whole case of 'the sheet program', with home tuner 0 and a length of an hour (02, #105)
abbrev pub whole_case : List ℕ
whole_case =
    0x01 ∷ 0x1D ∷ 0x65 ∷ 0x07 ∷ 0xBC ∷ 0xDE ∷ 0x02 ∷ 0x00 ∷ 0x00 ∷ 0x3C ∷ 0x00 ∷ 0x03
    ∷ 0x04 ∷ 0xC5 ∷ 0xDF ∷ 0x38 ∷ 0 ∷ packet_a
    ++ (0x04 ∷ 0xC5 ∷ 0xDF ∷ 0x3D ∷ 4 ∷ packet_a)
    ++ (0x04 ∷ 0xC5 ∷ 0xDF ∷ 0x42 ∷ 1 ∷ packet_a)

-- a timer announced for an hour and minute of the clock's first day, with a length, and none of whose labels is ever heard
abbrev pub silent : ℕ → ℕ → ℕ → Call
silent hour minute minutes = add (record { cni = 0x1D65; pil = pil_of 1 1 hour minute; year = 0; tuner = 0; length = minutes })

-- what it says, and how many are live, at each of these seconds
abbrev pub asked_at : List ℕ → List Call
asked_at [] = []
asked_at (s ∷ rest) = wait s ∷ ask 0 ∷ live ∷ asked_at rest

-- answers as numbers: a refusal's, what is told, or 0
abbrev pub plain : Answer (List ℕ) → List ℕ
plain (refused n) = n ∷ []
plain (given []) = 0 ∷ []
plain (given (n ∷ ns)) = n ∷ ns

abbrev pub plainly : List (Answer (List ℕ)) → List ℕ
plainly [] = []
plainly (a ∷ rest) = plain a ++ plainly rest

unfoldable pub examples : List Example
examples =
    -- 1. 'in hex, bytes 15 and 14 have value 0; 16 is damaged'
    record {
      gives = value_of (nibble_of 0x15) ∷ value_of (nibble_of 0x14) ∷ value_of (nibble_of 0x16) ∷ [];
      paper = 0 ∷ 0 ∷ is_damaged ∷ [];
    }
    -- 2. 'packet A is CNI 1D65, PIL 7BCDE (15 July 19:30), all other fields 0'; its designation is 2
    ∷ record {
      gives = fields_or (reading_of packet_a) ++ announced 0x7BCDE;
      paper = (2 ∷ 0 ∷ 0 ∷ 0 ∷ 0 ∷ 0 ∷ 0 ∷ 0x1D65 ∷ 0x7BCDE ∷ 0 ∷ []) ++ (15 ∷ 7 ∷ 19 ∷ 30 ∷ []);
    }
    -- 3. 'that PIL in 2002: window 80,006,400 to 80,107,200'
    ∷ record { gives = window_or (window_in 0x7BCDE 2); paper = 80006400 ∷ 80107200 ∷ [] }
    -- 4. '3 September 2002, 02:30: 84,312,000 to 84,427,200'
    ∷ record { gives = window_or (window_in (pil_of 3 9 2 30) 2); paper = 84312000 ∷ 84427200 ∷ [] }
    -- 5. '29 February 04:00: 2000 gives 5,097,600 to 5,198,400; 2001 is refusal 11'
    ∷ record {
      gives = window_or (window_in (pil_of 29 2 4 0) 0) ++ window_or (window_in (pil_of 29 2 4 0) 1);
      paper = 5097600 ∷ 5198400 ∷ 11 ∷ [];
    }
    -- 6. '1 January 2000, 02:30: 0 to 100,800'
    ∷ record { gives = window_or (window_in (pil_of 1 1 2 30) 0); paper = 0 ∷ 100800 ∷ [] }
    -- 7. '31 December 2099, 20:00 closes at 3,155,774,400'
    ∷ record { gives = close_or (window_in (pil_of 31 12 20 0) 99); paper = 3155774400 ∷ [] }
    -- 8. 'a label stamped t stands at t+5, not at t+6'
    ∷ record {
      gives = stands_after (packet 0 t (sent label_here) ∷ []) (t + 5) ∷ stands_after (packet 0 t (sent label_here) ∷ []) (t + 6) ∷ [];
      paper = 1 ∷ 0 ∷ [];
    }
    -- 9. 'RI/T at t over a recording with MI 0, nothing else matching and the window open throughout: live at t+29, not at t+30; with MI 1 not
    -- live at t'; the recording started a second before, and RI/T, sent again, stands on the home tuner throughout
    ∷ record {
      gives =
          live_after (stopped 0 ++ again_from (t + 5) 5 ++ wait (t + 29) ∷ [])
          ∷ live_after (stopped 0 ++ again_from (t + 5) 5 ++ wait (t + 30) ∷ [])
          ∷ live_after (stopped 1) ∷ [];
      paper = 1 ∷ 0 ∷ 0 ∷ [];
    }
    -- 10. 'continuation at t+5 keeps a label to t+10; at t+6 it does nothing'
    ∷ record {
      gives = stands_after (continued 5) (t + 10) ∷ stands_after (continued 5) (t + 11) ∷ stands_after (continued 6) (t + 6) ∷ [];
      paper = 1 ∷ 0 ∷ 0 ∷ [];
    }
    -- 11. 'a timer not live, with a match of PRF 1 only: prepared, not live'; 02, #101: 'example 11 holds up to 60 seconds'. State, place and how
    -- many are live: 1, prepared, and none live, at t and at t+60; 2, recording, at place 0, and one live, at t+61. Its own label stands on the
    -- home tuner throughout
    ∷ record {
      gives = state_after (flagged 0) ++ state_after (flagged 12) ++ state_after (flagged 12 ++ wait (t + 61) ∷ []);
      paper = 1 ∷ 0 ∷ 0 ∷ 1 ∷ 0 ∷ 0 ∷ 2 ∷ 0 ∷ 1 ∷ [];
    }
    -- 12. 'the second tuner takes over the one copy from its run-on': between the packets the slot says 3, running on, at place 0, and after
    -- the last 2, recording, at place 4; one timer is live throughout
    ∷ record { gives = plainly (answers_of taken_over fresh); paper = 0 ∷ 0 ∷ 1 ∷ 8 ∷ 1 ∷ 10 ∷ 3 ∷ 0 ∷ 0 ∷ 2 ∷ 4 ∷ 1 ∷ [] }
    -- and as a sheet: T 0, P 0 1, P 8 1, P 0 1, Z 1
    ∷ record {
      gives = sheet_of whole_case;
      paper = 84 ∷ 32 ∷ 48 ∷ 10 ∷ 80 ∷ 32 ∷ 48 ∷ 32 ∷ 49 ∷ 10 ∷ 80 ∷ 32 ∷ 56 ∷ 32 ∷ 49 ∷ 10 ∷ 80 ∷ 32 ∷ 48 ∷ 32 ∷ 49 ∷ 10 ∷ 90 ∷ 32 ∷ 49 ∷ 10 ∷ [];
    }
    -- by the clock (02, #105), 'from its announced second until its length has passed': announced for second 60, with a length of a minute, and no
    -- label anywhere; the slot, and then of each second what is walked, the state, the place and how many are live: 0, waiting, at 59; 5, by the
    -- clock, at 60 and at 119; 0 at 120
    ∷ record {
      gives = plainly (answers_of (silent 0 1 1 ∷ asked_at (59 ∷ 60 ∷ 119 ∷ 120 ∷ [])) fresh);
      paper = 0 ∷ (0 ∷ 0 ∷ 0 ∷ 0 ∷ []) ++ (0 ∷ 5 ∷ 0 ∷ 1 ∷ []) ++ (0 ∷ 5 ∷ 0 ∷ 1 ∷ []) ++ (0 ∷ 0 ∷ 0 ∷ 0 ∷ []);
    }
    -- 'inside its window': announced for 23:59 with a length of a day, it is by the clock at 100,799, and ended, 4, at 100,800, where its window
    -- closes
    ∷ record {
      gives = plainly (answers_of (silent 23 59 1440 ∷ asked_at (100799 ∷ 100800 ∷ [])) fresh);
      paper = 0 ∷ (0 ∷ 5 ∷ 0 ∷ 1 ∷ []) ++ (0 ∷ 4 ∷ 0 ∷ 0 ∷ []);
    }
    -- a failing label leaves no gap: RI/T lapses at t+6 while the copy runs on, 3, up to t+29, and at t+30 it is by the clock, 5; with MI 1 it
    -- waits, 0, while RI/T stands, and is by the clock at t+6
    ∷ record {
      gives =
          state_after (stopped 0 ++ wait (t + 29) ∷ []) ++ state_after (stopped 0 ++ wait (t + 30) ∷ [])
          ++ state_after (stopped 1 ++ wait (t + 5) ∷ []) ++ state_after (stopped 1 ++ wait (t + 6) ∷ []);
      paper = (3 ∷ 0 ∷ 1 ∷ []) ++ (5 ∷ 0 ∷ 1 ∷ []) ++ (0 ∷ 0 ∷ 0 ∷ []) ++ (5 ∷ 0 ∷ 1 ∷ []);
    }
    ∷ []

-- ── 8 to 11 for every t, label and desk ────────────────────────────────────────────────────────────────────────────
-- 'a label stamped t'
abbrev pub StampedAt : ℕ → Stamped → Type 0
StampedAt t l = (l.heard ≡ true) × (l.stamp ≡ t)

-- the same label with another stamp
abbrev pub restamped : ℕ → Stamped → Stamped
restamped t l = record { heard = l.heard; stamp = t; cni = l.cni; pil = l.pil; prf = l.prf; mi = l.mi }

-- 'RI/T at t over a recording': when every second up to t has passed, the copy of a slot records booking b at place p and remembers
-- this MI, and then a packet is accepted that puts RI/T at p; d is the desk afterwards, at second t
pub record Terminated (t slot p : ℕ) (b : Booking) (mi : Bool) (d : Desk) : Type 0 where
  pub before : Desk
  pub recording : timer_at (pass_to t before) slot ≡ record { booking = b; copy = Recording p mi }
  pub tuner : ℕ
  pub bytes : List ℕ
  pub label : Label
  pub read : reading_of bytes ≡ given label
  pub code : service_of label.pil ≡ InhibitTerminate
  pub place : place_of tuner label ≡ p
  pub accepted : packet_of tuner t bytes before ≡ given d

-- 'nothing else matching': no label but that of place p, at second s
abbrev pub NothingElse : ℕ → ℕ → Booking → Desk → Type 0
NothingElse s p b d = (q : ℕ) → (q ≡ p → ⊥) → matches s b (get_or d.places q no_label) ≡ false

-- 'a label, and no timer-control, standing on the home tuner' (02, #105)
abbrev pub Labelled : Booking → Desk → Type 0
Labelled b e = labels_fail e.clock e.places b.tuner ≡ false

-- at a moment after t: 'nothing else matching and the window open', and such a label
pub record Undisturbed (b : Booking) (e : Desk) : Type 0 where
  pub none_matches : (q : ℕ) → matches e.clock b (get_or e.places q no_label) ≡ false
  pub open_window : open_at e.clock b ≡ true
  pub labelled : Labelled b e

-- 'throughout': as long as these moments are so, a slot's timer is 'live at t+29, not at t+30', and live at every moment before, too
abbrev pub RunsOut : ℕ → ℕ → Booking → List Desk → Type 0
RunsOut t slot b [] = Unit {0}
RunsOut t slot b (e ∷ es) = Undisturbed b e →
    (e.clock ≤ t + 29 → live_timer (timer_at e slot) ≡ true)
    × (t + 30 ≤ e.clock → live_timer (timer_at e slot) ≡ false)
    × RunsOut t slot b es

-- 'a timer not live' at second s, and the second since which it is prepared if it is so now: it waits, or was by the clock, which 'is treated as
-- not live', or is prepared since v and for no more than 60 seconds, or 'goes on in this same moment as a timer that is not live' from a
-- recording with MI 1 whose label matches no longer, or from a run-on of thirty seconds
pub data NotLive (s : ℕ) (ls : List Stamped) (b : Booking) : Copy → ℕ → Type 0 where
  waits : NotLive s ls b Waiting s
  by_clock : NotLive s ls b ByTheClock s
  is_prepared : (v : ℕ) → s ≤ v + 60 → NotLive s ls b (Prepared v) v
  recorded : (p : ℕ) → matches s b (get_or ls p no_label) ≡ false → NotLive s ls b (Recording p true) s
  ran_on : (p v : ℕ) → v + 30 ≤ s → NotLive s ls b (RunningOn p v) s

-- the timer of a slot is prepared since v, and not live
abbrev pub IsPrepared : ℕ → ℕ → Desk → Type 0
IsPrepared slot v d = ((timer_at d slot).copy ≡ Prepared v) × (live_timer (timer_at d slot) ≡ false)

-- the one statement
pub record Marked : Type 0 where
  -- 1 to 12, and by the clock, as a list: what the definitions give is what the paper says, in 8 to 11 at one t
  pub listed : map (λ e. e.gives) examples ≡ map (λ e. e.paper) examples
  -- 8. 'a label stamped t stands at t+5, not at t+6'
  pub eight : (t : ℕ) (l : Stamped) → StampedAt t l → (stands (t + 5) l ≡ true) × (stands (t + 6) l ≡ false)
  -- 9. 'RI/T at t over a recording with MI 0, nothing else matching and the window open throughout: live at t+29, not at t+30', 'with a label, and
  -- no timer-control, standing on the home tuner throughout', whatever else is heard, while the timer is neither cancelled nor updated
  pub nine : (t slot p : ℕ) (b : Booking) (d : Desk) (later : List Call) → Terminated t slot p b false d →
      NothingElse t p b d → open_at t b ≡ true → AllSpare slot later d →
      (live_timer (timer_at d slot) ≡ true) × RunsOut t slot b (moments_in later d)
  -- 'with MI 1 not live at t'
  pub nine_mi_1 : (t slot p : ℕ) (b : Booking) (d : Desk) → Terminated t slot p b true d → NothingElse t p b d → Labelled b d →
      live_timer (timer_at d slot) ≡ false
  -- 10. 'continuation at t+5 keeps a label to t+10; at t+6 it does nothing': the place holds the same label anew stamped, or what it held
  pub ten : (t : ℕ) (l : Stamped) (c : Label) → StampedAt t l → service_of c.pil ≡ Continuation →
      (heard_at (t + 5) c l ≡ restamped (t + 5) l)
      × ((s : ℕ) → s ≤ t + 10 → stands s (heard_at (t + 5) c l) ≡ true)
      × (stands (t + 11) (heard_at (t + 5) c l) ≡ false)
      × (heard_at (t + 6) c l ≡ l)
  -- 11. 'a timer not live, with a match of PRF 1 only: prepared, not live', with such a label on the home tuner, ..
  pub eleven : (s v : ℕ) (ls : List Stamped) (b : Booking) (c : Copy) → NotLive s ls b c v → OnlyPrf1 s ls b →
      labels_fail s ls b.tuner ≡ false →
      (next_copy s ls b c ≡ Prepared v) × (is_live (next_copy s ls b c) ≡ false)
  -- .. and 'example 11 holds up to 60 seconds': with such a match kept standing, at every moment up to v+60, whatever else is heard, while the
  -- timer is neither cancelled nor updated; v is t where it became prepared at t
  pub eleven_to_60 : (cs : List Call) (n slot v : ℕ) (later : List Call) → let d = walk n (reached cs) in
      (timer_at d slot).copy ≡ Prepared v → AllSpare slot later d →
      Each (λ e. (e.clock ≤ v + 60) × OnlyPrf1 e.clock e.places (timer_at d slot).booking × Labelled (timer_at d slot).booking e)
      (moments_in later d) →
      Each (IsPrepared slot v) (moments_in later d)
