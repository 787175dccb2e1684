-- `timer`: the numbers of the nine bytes, what the desk answers to them, and its line.
use borrow.Author.Rules.{rules}
use mathlib.Core.Path.{◌≡◌, refl}
use lib.ListN.{take, get_or}
use Rattle.desk.specs.Calls.{add_of}
use Rattle.desk.specs.Numbers.{said_by, left_by}
use Rattle.reply.specs.Numbers.{add_answer}
use Rattle.sheet.specs.Sheet.{booking_in, timer_told, timer_left}
use Rattle.sheet.proofs.Numbers.{booking}
use Rattle.sheet.proofs.acts.timer.Goals as goal

pub returns : goal.returns
unfolding timer_told timer_left
returns c =
    let a = c.args in
    let l = a.held in
    -- the numbers that were read
    let read : record { cni = c.pair-cni.result; pil = c.triple-pil.result; year = get_or l 5 0; tuner = get_or l 6 0; length = c.pair-length.result } ≡ booking_in (take 9 l) =
    booking l c.pair-cni.result c.triple-pil.result c.pair-length.result (search rules) c.pair-cni.ensures c.triple-pil.ensures c.pair-length.ensures in
    -- what the desk answers to them
    let o = add_of (booking_in (take 9 l)) a.desk in
    let e : (add_answer c.add-added.result.answer ≡ said_by o) × (c.add-added.result.desk ≡ left_by a.desk o) = rw (← read) c.add-added.ensures in
    rw (← e.0, ← e.1, c.timer_line-at.ensures.0) (refl, c.timer_line-at.ensures.1)
