-- The loop's invariant: the first i timers have gone on, those of them that are live are counted, and the others are as they were.
use Prim.Native.Nat.{◌<◌}
use mathlib.Core.Path.{sym, ◌∙◌}
use native.Mathlib.Omega.{arith}
use lib.ListN.{length, get_or}
use Rattle.std.proofs.Common.{rules}
use Rattle.rule.specs.Rule.{live_timer}
use Rattle.rule.proofs.Steps.{free_stays, free_not_live}
use Rattle.sixteen.specs.Sixteen.{no_timer}
use Rattle.sixteen.proofs.Mapped.{map_to_more, map_to_kept}
use Rattle.sixteen.proofs.Counts.{bit_le, mapped_more, mapped_kept}
use Rattle.sixteen.proofs.slots.all_next.Goals as goal
use Rattle.sixteen.proofs.slots.all_next.Goals.{then-is_held, else-is_held}

pub loop-i-preserved : goal.loop-i-preserved
loop-i-preserved c =
    let ts = c.args.timers in
    let i = c.loop-i.i in
    let ys = c.loop-i.out in
    let n = c.loop-i.live in
    let so = c.loop-i.invariant.0 in
    let h : i < length ts = search rules in (
      elim c.if-is_held.branch [
        | then-is_held w ↦ (
          w.out-is ∙ map_to_more _ i ts ys no_timer _ h so.0 w.next_timer-next.ensures,
          omega (arith, w.live-is, w.from-live.ensures, bit_le w.is_live.result),
          rw (w.live-is, w.from-live.ensures)
              (mapped_more _ live_timer ts n i ys no_timer _ h so.2 so.0 w.next_timer-next.ensures w.is_live.ensures),
        )
        | else-is_held w ↦
            let free = sym c.is_held.ensures ∙ w.if-is_held.false in
            let same = free_stays _ _ _ free in (
              w.out-is ∙ map_to_kept _ i ts ys no_timer h so.0 same,
              omega (arith, w.live-is),
              rw w.live-is (mapped_kept _ live_timer ts n i ys no_timer h so.2 so.0 same (free_not_live (get_or ys i no_timer) free)),
            )
      ],
      search rules,
    )
