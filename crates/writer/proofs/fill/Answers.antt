-- Past byte 21 all thirteen are the label's.
use Rattle.std.proofs.Common.{arith, ◌≡◌, ◌-◌, ap, ◌∙◌}
use Rattle.label.specs.Packet.{put, byte_for, label_bytes}
use Rattle.label.proofs.Puts.{run, put_same}
use Rattle.label.proofs.Sent.{byte_of, bytes_of}
use Rattle.writer.proofs.fill.Goals as goal

pub returns : goal.returns
returns c =
    let a = c.args in
    let n = c.number_of-number in
    let s = c.loop-i in
    let l = s.auto.i-end (omega arith) in
    let e : s.i ≡ 22 = omega arith in
    s.invariant
    ∙ ap (λ k. put (byte_of n.result) (run 9 (k - 9)) a.buf.now) e
    ∙ put_same (byte_of n.result) (byte_for a.l) label_bytes a.buf.now (bytes_of a.l n.ensures)
