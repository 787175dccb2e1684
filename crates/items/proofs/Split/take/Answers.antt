-- `take`'s loop: the bytes from here on, taken with what is held now, come to what all come to. The measure is what is left of the
-- piece.
use Rattle.std.proofs.Common.{◌∙◌, arith, sym, ◌≡◌, refl, length}
use Rattle.std.proofs.Math.ListN.{get_or}
use Rattle.std.proofs.lemmas.Bool.{ltb-true, ltb-false}
use Rattle.std.proofs.lemmas.List.{get_or_read_under}
use Rattle.items.specs.Pieces.{after_item}
use Rattle.items.proofs.Taking.{at_end, held_on, whole_at_lem}
use Rattle.items.proofs.Split.take.Goals as goal

pub returns-then-last-have-clause-value : goal.returns-then-last-have-clause-value
unfolding after_item
returns-then-last-have-clause-value c =
    let p = c.args.piece.now in
    let h = ltb-true _ _ (sym c.in-Some.ensures.lookup.0) in
    let b : c.in-Some.field-0.now ≡ get_or p c.loop-b.at 0 = get_or_read_under p c.loop-b.at (length p) _ 0 c.in-Some.ensures.lookup.1 h refl in
    let e = whole_at_lem p c.loop-b.at (record { stage = c.args.self.stage; have = c.loop-b.have; held = c.loop-b.held }) h (omega arith) in
    rw (c.found_at.ensures, c.stage_after.ensures, c.put-item.ensures, b) (e ∙ c.loop-b.invariant)

pub loop-b-preserved : goal.loop-b-preserved
loop-b-preserved c =
    let p = c.args.piece.now in
    let h = ltb-true _ _ (sym c.in-Some.ensures.lookup.0) in
    let b : c.in-Some.field-0.now ≡ get_or p c.loop-b.at 0 = get_or_read_under p c.loop-b.at (length p) _ 0 c.in-Some.ensures.lookup.1 h refl in
    rw b (held_on p c.loop-b.at (record { stage = c.args.self.stage; have = c.loop-b.have; held = c.loop-b.held }) h (omega arith) ∙ c.loop-b.invariant)

pub returns-clause-value : goal.returns-clause-value
returns-clause-value c =
    let h = ltb-false _ _ (sym c.in_default.ensures.lookup.0) in
    at_end c.args.piece.now c.loop-b.at (record { stage = c.args.self.stage; have = c.loop-b.have; held = c.loop-b.held }) h ∙ c.loop-b.invariant
