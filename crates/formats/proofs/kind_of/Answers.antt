-- `kind_of`: what so many codes can only be, where they are its figures.
use borrow.Author.Rules.{rules}
use Prim.Native.Nat.{ℕ, zero, suc, ◌≤◌}
use mathlib.Core.Bool.{Bool, true, false, cond}
use mathlib.Core.List.{List, [], ◌∷◌}
use mathlib.Core.Path.{◌≡◌, refl, sym, ◌∙◌}
use native.Mathlib.Omega.{arith}
use borrow.Author.Tests.{le-leb, lt-leb, eqb-true}
use lib.Dec.{leb, eqb}
use lib.ListN.{length, take}
use lib.Seq.{length-take-le}
use Rattle.answer.proofs.Cases.{by_test}
use Rattle.formats.specs.declared.Start.{Start}
use Rattle.formats.specs.declared.Kind.{Kind}
use Rattle.formats.specs.Formats.{pattern, fits, at}
use Rattle.formats.specs.Taken.{either_by, kind_by, fitting, own_codes, kind_in, kind_from}
use Rattle.formats.specs.declared.Start.TheVariants as start
use Rattle.formats.specs.declared.Kind.TheVariants as kind
use Rattle.formats.proofs.kind_of.Goals as goal

-- where there is no code, none is asked for
none : (s : Start) (c d : ℕ) → kind_by s 0 c ≡ kind_by s 0 d
none start.Nothing c d = refl
none start.Colour c d = refl
none start.InPlain c d = refl
none start.Magenta c d = refl
none start.InMagenta c d = refl

first : (s : Start) (n : ℕ) (cs : List ℕ) → kind_by s n (at (take n cs) 0) ≡ kind_by s n (at cs 0)
first s zero cs = none s 0 (at cs 0)
first s (suc n) [] = refl
first s (suc n) (c ∷ cs) = refl

text : (b : Bool) → cond b kind.Text kind.Text ≡ kind.Text
text true = refl
text false = refl

-- n codes are as many as the signs of the kind that they can only be
module _ (n : ℕ) (cs : List ℕ) where
  abbrev Own : Kind → Type 0
  Own k = fitting k (take n cs) ≡ fitting k (own_codes k cs)

  sized : (k : Kind) → n ≡ length (pattern k) → Own k
  sized k e = rw e refl

  other : Own kind.Text
  other = text (fits [] (take n cs))

  -- as many codes as k has signs are k; r is for any other number
  chosen : (k r : Kind) → Own r → Own (cond (eqb n (length (pattern k))) k r)
  chosen k r o = by_test (eqb n (length (pattern k))) (λ e. rw e (sized k (eqb-true n (length (pattern k)) e))) (λ e. rw e o)

  either : Own (either_by n)
  either = chosen kind.Original _ (chosen kind.Date kind.Text other)

  own : (s : Start) (c : ℕ) → Own (kind_by s n c)
  own start.Nothing c = other
  own start.Colour c = chosen kind.Single _ (chosen kind.Double kind.Text other)
  own start.InPlain c = chosen kind.Single kind.Text other
  own start.Magenta c = either
  own start.InMagenta c =
      by_test (eqb c 70)
      (λ e. rw e (chosen kind.Word _ (chosen kind.Pty _ (chosen kind.Network _ either))))
      (λ e. rw e (chosen kind.Word _ (chosen kind.Offset _ (chosen kind.Network _ either))))

-- the kind k that n of eleven codes can only be, and whether they are its figures
found : (s : Start) (n : ℕ) (cs : List ℕ) {k : Kind} (b : Bool) → n ≤ 11 → length cs ≡ 11
    → k ≡ kind_by s n (at cs 0) → b ≡ fits (pattern k) (own_codes k cs) → cond b k kind.Text ≡ kind_from s n cs
unfolding kind_from kind_in
found s n cs b h e f g = rw (g, f, le-leb n 11 h, length-take-le n cs (omega arith), first s n cs) (sym (own n cs s (at cs 0)))

pub returns-then-n-gt11 : goal.returns-then-n-gt11
unfolding kind_from
returns-then-n-gt11 c =
    let n = c.args.n in
    let more : leb n 11 ≡ false = lt-leb n 11 (omega arith) in
    rw more refl

pub returns-then-shown : goal.returns-then-shown
returns-then-shown c =
    let a = c.args in
    let few : a.n ≤ 11 = omega arith in
    found a.s a.n a.codes true few (search rules) c.kind_by-kind.ensures (sym c.if-shown.true ∙ c.shown.ensures)

pub returns : goal.returns
returns c =
    let a = c.args in
    let few : a.n ≤ 11 = omega arith in
    found a.s a.n a.codes false few (search rules) c.kind_by-kind.ensures (sym c.if-shown.false ∙ c.shown.ensures)
