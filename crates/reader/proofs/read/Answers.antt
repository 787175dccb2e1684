-- The sixteen bytes are mended once each at most.
use Rattle.std.proofs.Common.{rules, arith, ◌≡◌}
use Rattle.answer.specs.Lists.{count}
use Rattle.label.specs.Packet.{mended_at, label_bytes}
use Rattle.label.proofs.Mended.{mended_sum, few_mended}
use Rattle.reader.proofs.read.Goals as goal

pub overflow_add-mended : goal.overflow_add-mended
overflow_add-mended c =
    let p = c.args.bytes.now in
    let n : c.in_ok-sent.sent.mended ≡ count (mended_at p) label_bytes = search rules in
    let m = mended_sum p (c.mends.ensures _ c.decode-n0.ensures) (c.mends-2.ensures _ c.decode-n1.ensures) (c.mends-3.ensures _ c.decode-n2.ensures) n in
    let s = few_mended p in
    record { fits = omega arith }
