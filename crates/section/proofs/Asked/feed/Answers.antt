-- `feed`: by whether the tuner is known, and whether there is a byte.
use Prim.Native.Nat.{ℕ, ◌-◌}
use borrow.Author.Tests.{eqb-true, eqb-false}
use mathlib.Core.Bool.{true, false}
use mathlib.Core.Path.{◌≡◌, refl, sym, ◌∙◌}
use mathlib.Core.List.{List, [], ◌∷◌}
use native.Mathlib.Omega.{arith}
use lib.Dec.{eqb}
use lib.ListN.{length, get_or, take, drop}
use lib.Seq.{take_all}
use Rattle.std.proofs.Common.{None, Some}
use Rattle.collected.specs.declared.Collected.{Collected}
use Rattle.section.specs.declared.Asked.{Asked}
use Rattle.section.specs.Asked.{after_piece}
use Rattle.collected.specs.Collected as page
use Rattle.section.proofs.Asked.feed.Goals as goal

known : (k : Asked) (p : List ℕ) (c : Collected) (tuner : ℕ) → k.tuner ≡ Some tuner → c ≡ page.after_piece p k.page →
    record { tuner = k.tuner; page = c } ≡ after_piece p k
unfolding after_piece
known k p c tuner b e = rw (b, e) refl

no_byte : (p : List ℕ) (k : Asked) → k.tuner ≡ None → eqb (length p) 0 ≡ true → k ≡ after_piece p k
unfolding after_piece
no_byte [] k b e = rw b refl
no_byte (x ∷ p) k b e = absurd (omega (arith, eqb-true (length (x ∷ p)) 0 e))

first : (p : List ℕ) (k : Asked) (c : Collected) → k.tuner ≡ None → eqb (length p) 0 ≡ false → c ≡ page.after_piece (take (length p - 1) (drop 1 p)) k.page →
    record { tuner = Some (get_or p 0 0); page = c } ≡ after_piece p k
unfolding after_piece
first [] k c b h e = absurd (omega (arith, eqb-false (length {A = ℕ} []) 0 h))
first (x ∷ p) k c b h e = rw (b, e, take_all (length (x ∷ p) - 1) p (omega arith)) refl

pub returns-in-Some-clause-value : goal.returns-in-Some-clause-value
returns-in-Some-clause-value c =
    let a = c.args in
    known a.self a.piece.now c.feed.result c.in-Some.field-0 c.in-Some.is c.feed.ensures.value

pub returns-in-None-clause-value : goal.returns-in-None-clause-value
returns-in-None-clause-value c =
    let a = c.args in
    no_byte a.piece.now a.self c.in-None.is (sym c.is_empty.ensures ∙ c.if-is_empty.true)

pub returns-in-None-2-clause-value : goal.returns-in-None-2-clause-value
returns-in-None-2-clause-value c =
    let a = c.args in
    first a.piece.now a.self c.feed-in-None-2.result c.in-None-2.is (sym c.is_empty.ensures ∙ c.if-is_empty.false) c.feed-in-None-2.ensures.value
