-- The definitions that the examples compute with, named once: to unfold `rules` is to unfold them all. Walking is not among them, so
-- that the seconds of a long wait are not passed one by one where they pass at once.
use Rattle.hamming.specs.Byte.{D, good, distance, away, nearest, nibble_of}
use Rattle.calendar.specs.Calendar.{leap, days_in, day_exists, real_in, sum_below, days_before_month, days_of_year, days_before_year, day_number, opening, closing, opens_at, closes_at, announced_at, window_in}
use Rattle.label.specs.Packet.{reading_of, byte_for, writing_of}
use Rattle.label.specs.Pil.{service_of}
use Rattle.places.specs.Places.{stands, heard_at, timer_control, labels_fail}
use Rattle.matching.specs.Matching.{open_at, ended_at, matches, sight_of}
use Rattle.clocked.specs.Clocked.{out_of_range, in_length, on_time, clocked}
use Rattle.rule.specs.Rule.{recording_at, clock_or, from_recording, from_running_on, next_copy, next_timer}
use Rattle.desk.specs.Moments.{moment, next_second, quiet, walked_in, walked_to, live_count}
use Rattle.desk.specs.Calls.{hearing_at, obeying, packet_of, wait_of, room_in, add_of, ask_of}
use Rattle.answer.specs.Text.{decimal_in}
use Rattle.items.specs.Items.{packets_from, timers_from, items_of}
use Rattle.sheet.specs.Sheet.{decimal, timer_told, timer_left, packet_told, packet_left, lines_of, desk_left, sheet_of}
use Rattle.history.specs.Run.{outcome, answers_of, desk_after}

unfoldable pub rules : Unit {0}
unfolding D good distance away nearest nibble_of leap days_in day_exists real_in sum_below days_before_month days_of_year days_before_year day_number opening closing opens_at closes_at announced_at window_in reading_of byte_for writing_of service_of stands heard_at timer_control labels_fail open_at ended_at matches sight_of out_of_range in_length on_time clocked recording_at clock_or from_recording from_running_on next_copy next_timer moment next_second quiet walked_in walked_to live_count hearing_at packet_of obeying wait_of room_in add_of ask_of decimal_in packets_from timers_from items_of decimal timer_told timer_left packet_told packet_left lines_of desk_left sheet_of outcome answers_of desk_after
rules = tt
