-- The loop's invariant: the groups of the programmes from the index on, sent after those that are there, are all of them.
use Rattle.std.proofs.Common.{◌≡◌, ◌*◌, ◌≤◌, length, drop}
use Rattle.programmes.specs.Written.{groups_from}
use Rattle.sending.specs.Sending.{words_of, sent}
use Rattle.sending.proofs.words_of.Given as goal

abbrev pub invariant-loop-q : goal.invariant-loop-q
invariant-loop-q l =
    (length l.q-items ≤ 103) × (l.s.words.count ≤ 8 * l.q-index)
    × (sent l.s.words (groups_from l.s.force (drop l.q-index l.q-items)) ≡ words_of l.q-items)
