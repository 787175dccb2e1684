-- The loop's invariant: the groups of the programmes from the index on, sent after those that are there, are all of them.
use Rattle.std.proofs.Common.{rules, ◌≡◌, ◌≤◌, ap, ◌∙◌, length, take, arith}
use lib.ListN.{drop_of_length-le}
use lib.Seq.{length-take-le}
use Rattle.programmes.specs.Page.{blank}
use Rattle.programmes.specs.Written.{groups_for}
use Rattle.sending.specs.Sending.{words_of}
use Rattle.sending.proofs.Listed.{kept, next}
use Rattle.sending.proofs.Sends.{few, groups_few, turn, no_more, none_counted, all_sent}
use Rattle.sending.proofs.words_of.Goals as goal

pub loop-q-init : goal.loop-q-init
unfolding groups_for
loop-q-init c =
    let all = c.args.page.programmes in
    let l : length all ≡ 103 = search rules in
    let n : c.min.result ≤ 103 = omega (arith, c.min.ensures) in
    let none = none_counted c.terminators.ensures in
    (omega (arith, length-take-le c.min.result all (omega arith)), omega arith, rw (c.terminators.ensures, c.nothing.ensures) (all_sent _))

pub loop-q-preserved : goal.loop-q-preserved
loop-q-preserved c =
    let qs = take c.min.result c.args.page.programmes in
    let e = c.sent_after-s.ensures in
    let more = few _ _ 8 e.0 (groups_few _ _) in
    (c.loop-q.invariant.0, omega arith, turn _ _ _ _ _ (next qs c.loop-q.q-index blank (search rules)) e.0 e.1 ∙ c.loop-q.invariant.2)

pub returns : goal.returns
returns c =
    let a = c.args in
    let l : length a.page.programmes ≡ 103 = search rules in
    let all = kept a.page.programmes a.page.count 103 l c.min.ensures in
    let end = drop_of_length-le (take c.min.result a.page.programmes) {i = c.loop-q.q-index} (search rules) in
    no_more c.loop-q.s.words c.loop-q.s.force end ∙ c.loop-q.invariant.2 ∙ ap words_of all
