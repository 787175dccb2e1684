-- The figures of a date, whose year has two decimal ones, and of a network, whose country has two hexadecimal ones.
use Prim.Native.Nat.{ℕ, zero, suc, ◌≤◌}
use mathlib.Core.Path.{◌≡◌}
use mathlib.Core.Bool.{Bool, true, false, cond}
use mathlib.Core.List.{List, [], ◌∷◌}
use native.Mathlib.Omega.{arith}
use borrow.Author.Tests.{leb-true}
use lib.Dec.{leb}
use Rattle.answer.proofs.Cases.{both_true, by_test}
use Rattle.codes.specs.declared.Colour.{Colour}
use Rattle.codes.specs.Codes.{is_decimal, is_letter, figure}
use Rattle.formats.specs.declared.Sign.{Sign}
use Rattle.formats.specs.declared.Sign.TheVariants.{Decimal}
use Rattle.formats.specs.declared.Kind.{Kind}
use Rattle.formats.specs.declared.Kind.TheVariants as kind
use Rattle.formats.specs.Formats.{pattern, is_figure, fits, figures_by, Stands, at}
use Rattle.figures.specs.Permitted.{two, two_hexadecimal}

abbrev decimals : ℕ → List Sign
decimals zero = []
decimals (suc n) = Decimal ∷ decimals n

figure_small : (c : ℕ) → is_decimal c ≡ true → figure c ≤ 9
figure_small c e =
    let p = both_true (leb 48 c) (leb c 57) e in
    let h = leb-true c 57 p.1 in
    rw e (omega (arith, h))

small : (n : ℕ) (cs : List ℕ) (i : ℕ) → fits (decimals n) cs ≡ true → at (figures_by (decimals n) cs) i ≤ 9
small zero cs i e = omega arith
small (suc n) [] i e = omega arith
small (suc n) (c ∷ cs) zero e = figure_small c (both_true (is_decimal c) (fits (decimals n) cs) e).0
small (suc n) (c ∷ cs) (suc i) e = small n cs i (both_true (is_decimal c) (fits (decimals n) cs) e).1

-- 'zzzzzz'
pub year_small : {k : Colour} {codes : List ℕ} (a : Kind) (fs : List ℕ) → Stands k codes a fs → a ≡ kind.Date → two fs 4 ≤ 99
year_small a fs w e =
    let text = w.text in
    let shown : fits (decimals 6) text ≡ true = rw e at w.shown in
    let given : fs ≡ figures_by (decimals 6) text = rw e at w.given in
    rw given (omega (arith, small 6 text 4 shown, small 6 text 5 shown))

-- no figure is above F
figure_below : (c : ℕ) → figure c ≤ 15
figure_below c =
    by_test (is_decimal c)
    (λ e. omega (arith, figure_small c e))
    (λ e. rw e (by_test (is_letter c)
    (λ f. rw f (omega (arith, leb-true c 70 (both_true (leb 65 c) (leb c 70) f).1)))
    (λ f. rw f (omega arith))))

below_by : (t : Bool) (c : ℕ) (fs : List ℕ) (i : ℕ) → ((j : ℕ) → at fs j ≤ 15) → at (cond t (figure c ∷ fs) fs) i ≤ 15
below_by true c fs zero h = figure_below c
below_by true c fs (suc i) h = h i
below_by false c fs i h = h i

below : (signs : List Sign) (cs : List ℕ) (i : ℕ) → at (figures_by signs cs) i ≤ 15
below [] cs i = omega arith
below (s ∷ signs) [] i = omega arith
below (s ∷ signs) (c ∷ cs) i = below_by (is_figure s) c (figures_by signs cs) i (λ j. below signs cs j)

-- 'hh'
pub country_small : {k : Colour} {codes : List ℕ} (a : Kind) (fs : List ℕ) → Stands k codes a fs → two_hexadecimal fs 0 ≤ 255
country_small a fs w = rw w.given (omega (arith, below (pattern a) w.text 0, below (pattern a) w.text 1))
