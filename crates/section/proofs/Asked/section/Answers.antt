-- `section`: the page is read, and its timers written.
use Prim.Native.Nat.{ℕ}
use mathlib.Core.Path.{◌≡◌, ap, ◌∙◌}
use Rattle.preview.specs.Taken.{reading_answer}
use Rattle.collected.specs.Collected.{held}
use Rattle.section.specs.Asked.{tuner_of}
use Rattle.section.specs.Taken.{section_read}
use Rattle.section.proofs.Entered.{read_section}
use Rattle.section.proofs.Asked.section.Goals as goal

pub returns : goal.returns
returns c =
    let k = c.args.self in
    let r = c.read.result in
    let (a, w, e) = read_section (tuner_of k) (held k.page) r c.read.ensures in
    let told : reading_answer c.section_of.result ≡ section_read (tuner_of k) (reading_answer r) =
    c.section_of.ensures ∙ ap (λ (t : ℕ). section_read t (reading_answer r)) c.unwrap_or.ensures in
    (a, w, told ∙ e)
