-- Example 12: the seconds up to the first packet pass at once, since the desk is quiet; all else is computed.
use Prim.Native.Nat.{ℕ}
use mathlib.Core.Path.{◌≡◌, refl, sym, ap, ap₂, ◌∙◌}
use mathlib.Core.Bool.{true}
use mathlib.Core.List.{List, [], ◌∷◌, ◌++◌, append_assoc}
use Rattle.answer.specs.Answer.{Answer, given}
use Rattle.label.specs.Packet.{label_in}
use Rattle.matching.specs.declared.Booking.{Booking}
use Rattle.rule.specs.declared.Copy.TheVariants.{Waiting}
use Rattle.desk.specs.declared.Desk.{Desk}
use Rattle.desk.specs.Moments.{fresh, clocked_at, moment, walk, pass_to}
use Rattle.desk.specs.Calls.{with_label, with_timer, packet_of}
use Rattle.desk.proofs.Fast.{fast_to, fast_pass}
use Rattle.items.specs.Items as item
use Rattle.items.specs.Items.{Item}
use Rattle.sheet.specs.Sheet.{packet_line, packet_told, packet_left, lines_of, desk_left, last_line, sheet_of}
use Rattle.history.specs.Run.{Call, packet, wait, add, ask, live, Done, only_desk, outcome, answers_of}
use Rattle.marked.specs.Marked.{packet_a, taken_over, plainly, whole_case}
use Rattle.marked.proofs.Rules.{rules}

-- an accepted call's answer, and then the others'
pub after_given : (c : Call) (cs : List Call) (d : Desk) (o : Done) → outcome c d ≡ given o → answers_of (c ∷ cs) d ≡ given o.tells ∷ answers_of cs o.desk
unfolding answers_of
after_given c cs d o e = rw e

abbrev first : ℕ
first = 0x04C5DF38

abbrev booking : Booking
booking = record { cni = 0x1D65; pil = 0x7BCDE; year = 2; tuner = 0; length = 60 }

-- the desk with the timer, and with the first packet's label
abbrev booked : Desk
booked = moment (with_timer 0 (record { booking = booking; copy = Waiting }) fresh)

abbrev recording : Desk
recording = moment (with_label 0 (label_in packet_a) (moment (clocked_at first booked)))

at_first : fast_to 1 first booked ≡ moment (clocked_at first booked)
unfolding fast_to rules
at_first = refl

first_heard : packet_of 0 first packet_a booked ≡ given recording
unfolding rules
first_heard = ap (λ (d : Desk). given (moment (with_label 0 (label_in packet_a) d))) (sym (fast_pass 1 first booked) ∙ at_first)

-- ── as calls ───────────────────────────────────────────────────────────────────────────────────────────────────────
added : outcome (add booking) fresh ≡ given (record { tells = 0 ∷ []; desk = booked })
unfolding rules
added = refl

heard : outcome (packet 0 first packet_a) booked ≡ given (record { tells = []; desk = recording })
unfolding outcome
heard = ap only_desk first_heard

rest : List Call
rest = live ∷ packet 4 0x04C5DF3D packet_a ∷ live ∷ wait 0x04C5DF42 ∷ ask 0 ∷ packet 1 0x04C5DF42 packet_a ∷ ask 0 ∷ live ∷ []

said_then : plainly (answers_of rest recording) ≡ 1 ∷ 8 ∷ 1 ∷ 10 ∷ 3 ∷ 0 ∷ 0 ∷ 2 ∷ 4 ∷ 1 ∷ []
unfolding rest rules walk pass_to
said_then = refl

pub twelve : plainly (answers_of taken_over fresh) ≡ 0 ∷ 0 ∷ 1 ∷ 8 ∷ 1 ∷ 10 ∷ 3 ∷ 0 ∷ 0 ∷ 2 ∷ 4 ∷ 1 ∷ []
unfolding rest
twelve =
    ap plainly (after_given (add booking) (packet 0 first packet_a ∷ rest) fresh (record { tells = 0 ∷ []; desk = booked }) added)
    ∙ ap (λ (as' : List (Answer (List ℕ))). 0 ∷ plainly as') (after_given (packet 0 first packet_a) rest booked (record { tells = []; desk = recording }) heard)
    ∙ ap (λ (ns : List ℕ). 0 ∷ 0 ∷ ns) said_then

-- ── as a sheet ─────────────────────────────────────────────────────────────────────────────────────────────────────
-- what items print, from a desk on, and then the input's end
plays : List Item → Desk → List ℕ
plays is d = lines_of is d ++ last_line true (desk_left is d)

plays_first : (i : List ℕ) (is : List Item) (d : Desk) → plays (item.packet i ∷ is) d ≡ packet_told i d ++ plays is (packet_left i d)
unfolding plays lines_of desk_left
plays_first i is d = append_assoc (packet_told i d) (lines_of is (packet_left i d)) (last_line true (desk_left is (packet_left i d)))

abbrev first_item : List ℕ
first_item = 0x04 ∷ 0xC5 ∷ 0xDF ∷ 0x38 ∷ 0 ∷ packet_a

others : List Item
others = item.packet (0x04 ∷ 0xC5 ∷ 0xDF ∷ 0x3D ∷ 4 ∷ packet_a) ∷ item.packet (0x04 ∷ 0xC5 ∷ 0xDF ∷ 0x42 ∷ 1 ∷ packet_a) ∷ []

timer_told_lem : sheet_of whole_case ≡ 84 ∷ 32 ∷ 48 ∷ 10 ∷ plays (item.packet first_item ∷ others) booked
unfolding rules plays others
timer_told_lem = refl

first_left : packet_left first_item booked ≡ recording
unfolding packet_left
first_left = rw first_heard

first_told : packet_told first_item booked ≡ packet_line 0 recording.live
unfolding packet_told packet_left
first_told = rw first_heard

live_then : packet_line 0 recording.live ≡ 80 ∷ 32 ∷ 48 ∷ 32 ∷ 49 ∷ 10 ∷ []
unfolding rules
live_then = refl

others_told : plays others recording ≡ 80 ∷ 32 ∷ 56 ∷ 32 ∷ 49 ∷ 10 ∷ 80 ∷ 32 ∷ 48 ∷ 32 ∷ 49 ∷ 10 ∷ 90 ∷ 32 ∷ 49 ∷ 10 ∷ []
unfolding rules walk pass_to plays others
others_told = refl

pub twelve_sheet : sheet_of whole_case ≡
    84 ∷ 32 ∷ 48 ∷ 10 ∷ 80 ∷ 32 ∷ 48 ∷ 32 ∷ 49 ∷ 10 ∷ 80 ∷ 32 ∷ 56 ∷ 32 ∷ 49 ∷ 10 ∷ 80 ∷ 32 ∷ 48 ∷ 32 ∷ 49 ∷ 10 ∷ 90 ∷ 32 ∷ 49 ∷ 10 ∷ []
twelve_sheet =
    timer_told_lem
    ∙ ap (λ (l : List ℕ). 84 ∷ 32 ∷ 48 ∷ 10 ∷ l)
    (plays_first first_item others booked
    ∙ ap₂ (λ (l : List ℕ) (d : Desk). l ++ plays others d) (first_told ∙ live_then) first_left
    ∙ ap (λ (l : List ℕ). 80 ∷ 32 ∷ 48 ∷ 32 ∷ 49 ∷ 10 ∷ l) others_told)
