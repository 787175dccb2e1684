-- `packet`: the numbers and the bytes of the 47, what the desk answers to them, and its line.
use borrow.Author.Rules.{rules}
use mathlib.Core.Path.{◌≡◌, refl}
use lib.ListN.{take, drop, get_or}
use Rattle.desk.specs.Calls.{packet_of}
use Rattle.sheet.specs.Sheet.{packet_in, packet_told, packet_left}
use Rattle.sheet.proofs.Numbers.{packet_bytes}
use Rattle.sheet.proofs.acts.packet.Goals as goal

pub returns : goal.returns
unfolding packet_told packet_left
returns c =
    let a = c.args in
    -- what the desk was asked
    let asked : packet_of (get_or a.held 4 0) c.four-time.result (take 42 (drop 5 a.held)) a.desk ≡ packet_in (take 47 a.held) a.desk =
    packet_bytes a.held c.four-time.result a.desk (search rules) c.four-time.ensures in
    let after_it : c.live.result ≡ c.packet-heard.result.desk.live = c.live.ensures in
    rw (
      ← asked,
      ← c.packet-heard.ensures.answer_value.1,
      ← c.packet-heard.ensures.answer_value.0,
      ← c.number-number.ensures,
      ← after_it,
      c.packet_line-at.ensures.0,
    )
    (refl, c.packet_line-at.ensures.1)
