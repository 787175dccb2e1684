-- Each exit is a case of the definition: whether the label there still matches comes first, and says that the window is open.
use mathlib.Core.Bool.{true, false}
use mathlib.Core.Path.{◌≡◌, refl, sym, ◌∙◌}
use lib.ListN.{get_or}
use Rattle.places.specs.Places.{no_label}
use Rattle.matching.specs.Matching.{open_at, matches}
use Rattle.rule.specs.Rule.{recording_at}
use Rattle.rule.proofs.Steps.{moves_not_live, live_shut, recording_stays, recording_leaves}
use Rattle.rule.proofs.copies.from_recording.Goals as goal

pub returns-then-matches : goal.returns-then-matches
unfolding recording_at
returns-then-matches c =
    let a = c.args in
    let there = c.label_at-own.ensures in
    let still : matches a.s a.b (get_or a.places a.p no_label) ≡ true = rw there at (sym c.matches.ensures ∙ c.if-matches.true) in
    rw (recording_stays a.s a.places a.b a.p a.mi still, there)

pub returns-then-not-open_at : goal.returns-then-not-open_at
returns-then-not-open_at c =
    let a = c.args in
    let shut : open_at a.s a.b ≡ false = sym c.open_at.ensures ∙ c.if-not-open_at.true in
    sym (live_shut a.s a.places a.b _ refl shut)

pub returns-then-mi : goal.returns-then-mi
returns-then-mi c =
    let a = c.args in
    let gone : matches a.s a.b (get_or a.places a.p no_label) ≡ false =
    rw c.label_at-own.ensures at (sym c.matches.ensures ∙ c.if-matches.false) in
    let opened : open_at a.s a.b ≡ true = sym c.open_at.ensures ∙ c.if-not-open_at.false in
    let remembered : a.mi ≡ true = c.if-mi.true in
    rw (recording_leaves a.s a.places a.b a.p a.mi gone opened, remembered, ← c.sight_of-seen.ensures, moves_not_live) c.not_live.ensures

pub returns : goal.returns
returns c =
    let a = c.args in
    let gone : matches a.s a.b (get_or a.places a.p no_label) ≡ false =
    rw c.label_at-own.ensures at (sym c.matches.ensures ∙ c.if-matches.false) in
    let opened : open_at a.s a.b ≡ true = sym c.open_at.ensures ∙ c.if-not-open_at.false in
    let remembered : a.mi ≡ false = c.if-mi.false in
    rw (recording_leaves a.s a.places a.b a.p a.mi gone opened, remembered, ← c.sight_of-seen.ensures) c.moves_or.ensures
