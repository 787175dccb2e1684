-- Which format stands at a code: the kind that the codes up to the next mark have.
use Prim.Native.Nat.{ℕ, suc, ◌<◌}
use mathlib.Core.Path.{◌≡◌, refl, sym, ap, ◌∙◌}
use mathlib.Core.Bool.{true, false, cond, ◌||◌, true≢false}
use mathlib.Core.List.{List, [], ◌∷◌, ◌++◌}
use native.Mathlib.Omega.{arith}
use borrow.Author.Tests.{leb-true, eqb-true, ne_eqb, le-leb, lt-leb}
use lib.Dec.{leb, eqb}
use lib.ListN.{length, get_or, drop}
use Rattle.answer.proofs.Cases.{by_test, both_true, both_false, either_true}
use Rattle.codes.specs.declared.Colour.{Colour}
use Rattle.codes.specs.Codes.{is_colour, is_magenta, conceal, is_conceal, is_decimal, is_letter, is_mark}
use Rattle.formats.specs.declared.Start.{Start}
use Rattle.formats.specs.declared.Start.TheVariants as start
use Rattle.formats.specs.declared.Sign.{Sign}
use Rattle.formats.specs.declared.Sign.TheVariants.{Decimal, Hexadecimal, Point, Hyphen, PlusMinus, LetterF}
use Rattle.formats.specs.declared.Kind.{Kind}
use Rattle.formats.specs.declared.Kind.TheVariants as kind
use Rattle.formats.specs.Formats.{start_of, is_coloured, is_in_plain, is_magenta_start, is_in_magenta, starts, pattern, shows, fits, figures_by, is_end, Stands, at}
use Rattle.formats.specs.Taken.{either_by, kind_by, is_text, kind_in}

-- the codes up to the next mark, and those from it on
unfoldable pub until : List ℕ → List ℕ
until [] = []
until (c ∷ cs) = cond (is_mark c) [] (c ∷ until cs)

unfoldable pub from : List ℕ → List ℕ
from [] = []
from (c ∷ cs) = cond (is_mark c) (c ∷ cs) (from cs)

pub until_from : (cs : List ℕ) → cs ≡ until cs ++ from cs
unfolding until from
until_from [] = refl
until_from (c ∷ cs) = by_test (is_mark c) (λ m. rw m refl) (λ m. rw m (ap (λ (xs : List ℕ). c ∷ xs) (until_from cs)))

pub from_ends : (cs : List ℕ) → is_end (from cs) ≡ true
unfolding from
from_ends [] = refl
from_ends (c ∷ cs) = by_test (is_mark c) (λ m. rw m m) (λ m. rw m (from_ends cs))

-- ── no sign is a mark ──────────────────────────────────────────────────────────────────────────────────────────────
pub above_marks : (c : ℕ) → 27 < c → is_mark c ≡ false
unfolding is_mark
above_marks c h =
    rw (le-leb 1 c (omega (arith, h)), lt-leb c 7 (omega (arith, h)), ne_eqb c 5 (λ e. omega (arith, h, e)), ne_eqb c conceal (λ e. omega (arith, h, e))) refl

shown_above : (s : Sign) (c : ℕ) → shows s c ≡ true → 27 < c
shown_above Decimal c e = omega (arith, leb-true 48 c (both_true (leb 48 c) (leb c 57) e).0)
shown_above Hexadecimal c e =
    either_true (is_decimal c) (is_letter c) e
    (λ d. omega (arith, leb-true 48 c (both_true (leb 48 c) (leb c 57) d).0))
    (λ d. omega (arith, leb-true 65 c (both_true (leb 65 c) (leb c 70) d).0))
shown_above Point c e = omega (arith, eqb-true c 46 e)
shown_above Hyphen c e = omega (arith, eqb-true c 45 e)
shown_above PlusMinus c e =
    either_true (eqb c 48) (eqb c 57) e (λ d. omega (arith, eqb-true c 48 d)) (λ d. omega (arith, eqb-true c 57 d))
shown_above LetterF c e = omega (arith, eqb-true c 70 e)

-- so that the text of a format goes up to the next mark
fits_until : (ss : List Sign) (text rest : List ℕ) → fits ss text ≡ true → is_end rest ≡ true → until (text ++ rest) ≡ text
unfolding until
fits_until [] [] [] f e = refl
fits_until [] [] (c ∷ rest) f e = rw e refl
fits_until [] (c ∷ text) rest f e = cc
fits_until (s ∷ ss) [] rest f e = cc
fits_until (s ∷ ss) (c ∷ text) rest f e =
    let b = both_true (shows s c) (fits ss text) f in
    let plain : is_mark c ≡ false = above_marks c (shown_above s c b.0) in
    rw plain (ap (λ (xs : List ℕ). c ∷ xs) (fits_until ss text rest b.1 e))

pub fits_length : (ss : List Sign) (text : List ℕ) → fits ss text ≡ true → length text ≡ length ss
fits_length [] [] f = refl
fits_length [] (c ∷ text) f = cc
fits_length (s ∷ ss) [] f = cc
fits_length (s ∷ ss) (c ∷ text) f = ap suc (fits_length ss text (both_true (shows s c) (fits ss text) f).1)

-- ── the kind ───────────────────────────────────────────────────────────────────────────────────────────────────────
coloured : (s : Start) → is_coloured s ≡ true → s ≡ start.Colour
coloured start.Nothing e = cc
coloured start.Colour e = refl
coloured start.InPlain e = cc
coloured start.Magenta e = cc
coloured start.InMagenta e = cc

in_plain : (s : Start) → is_in_plain s ≡ true → s ≡ start.InPlain
in_plain start.Nothing e = cc
in_plain start.Colour e = cc
in_plain start.InPlain e = refl
in_plain start.Magenta e = cc
in_plain start.InMagenta e = cc

by_magenta : (s : Start) → is_magenta_start s ≡ true → s ≡ start.Magenta
by_magenta start.Nothing e = cc
by_magenta start.Colour e = cc
by_magenta start.InPlain e = cc
by_magenta start.Magenta e = refl
by_magenta start.InMagenta e = cc

in_magenta : (s : Start) → is_in_magenta s ≡ true → s ≡ start.InMagenta
in_magenta start.Nothing e = cc
in_magenta start.Colour e = cc
in_magenta start.InPlain e = cc
in_magenta start.Magenta e = cc
in_magenta start.InMagenta e = refl

sign_no_letter : (c : ℕ) → (eqb c 48 || eqb c 57) ≡ true → eqb c 70 ≡ false
sign_no_letter c e =
    either_true (eqb c 48) (eqb c 57) e
    (λ d. ne_eqb c 70 (λ x. omega (arith, x, eqb-true c 48 d)))
    (λ d. ne_eqb c 70 (λ x. omega (arith, x, eqb-true c 57 d)))

-- by what stands before a format, how many codes it has and which is the first, it can only be this one
kind_by_lem : (k : Kind) (s : Start) (text : List ℕ) → starts k s ≡ true → fits (pattern k) text ≡ true → kind_by s (length text) (at text 0) ≡ k
kind_by_lem kind.Text s text b f = cc
kind_by_lem kind.Single s text b f =
    either_true (is_coloured s) (is_in_plain s) b
    (λ e. rw (coloured s e, fits_length (pattern kind.Single) text f) refl)
    (λ e. rw (in_plain s e, fits_length (pattern kind.Single) text f) refl)
kind_by_lem kind.Double s text b f = rw (coloured s b, fits_length (pattern kind.Double) text f) refl
kind_by_lem kind.Original s text b f =
    either_true (is_magenta_start s) (is_in_magenta s) b
    (λ e. rw (by_magenta s e, fits_length (pattern kind.Original) text f) refl)
    (λ e. rw (in_magenta s e, fits_length (pattern kind.Original) text f) refl)
kind_by_lem kind.Date s text b f =
    either_true (is_magenta_start s) (is_in_magenta s) b
    (λ e. rw (by_magenta s e, fits_length (pattern kind.Date) text f) refl)
    (λ e. rw (in_magenta s e, fits_length (pattern kind.Date) text f) refl)
kind_by_lem kind.Network s text b f = rw (in_magenta s b, fits_length (pattern kind.Network) text f) refl
kind_by_lem kind.Offset s [] b f = cc
kind_by_lem kind.Offset s (c ∷ text) b f =
    let sign : (eqb c 48 || eqb c 57) ≡ true = (both_true (eqb c 48 || eqb c 57) _ f).0 in
    rw (in_magenta s b, fits_length (pattern kind.Offset) (c ∷ text) f, sign_no_letter c sign) refl
kind_by_lem kind.Pty s [] b f = cc
kind_by_lem kind.Pty s (c ∷ text) b f =
    let letter : eqb c 70 ≡ true = (both_true (eqb c 70) _ f).0 in
    rw (in_magenta s b, fits_length (pattern kind.Pty) (c ∷ text) f, letter) refl
kind_by_lem kind.Word s text b f = rw (in_magenta s b, fits_length (pattern kind.Word) text f) refl

-- ── what stands is what is taken, and the other way about ──────────────────────────────────────────────────────────
abbrev pub kind_at : Colour → List ℕ → Kind
kind_at k [] = kind.Text
kind_at k (c ∷ cs) = kind_in (start_of k c) (until cs)

pub stands_kind : (k : Colour) (c : ℕ) (cs : List ℕ) (a : Kind) (fs : List ℕ) → Stands k (c ∷ cs) a fs →
    (kind_at k (c ∷ cs) ≡ a) × (fs ≡ figures_by (pattern a) (until cs))
unfolding kind_in
stands_kind k c cs a fs w =
    let first : c ≡ w.before = ap (λ (xs : List ℕ). get_or xs 0 0) w.are in
    let others : cs ≡ w.text ++ w.rest = ap (λ (xs : List ℕ). drop 1 xs) w.are in
    let text : until cs ≡ w.text = ap until others ∙ fits_until (pattern a) w.text w.rest w.shown w.ends in
    let begins : starts a (start_of k c) ≡ true = ap (λ (x : ℕ). starts a (start_of k x)) first ∙ w.begins in
    let shown : fits (pattern a) (until cs) ≡ true = ap (fits (pattern a)) text ∙ w.shown in
    (rw (kind_by_lem a (start_of k c) (until cs) begins shown, shown) refl, w.given ∙ ap (figures_by (pattern a)) (sym text))

either_begins : (s : Start) (n : ℕ) → (is_magenta_start s || is_in_magenta s) ≡ true → is_text (either_by n) ≡ false → starts (either_by n) s ≡ true
either_begins s n b e =
    by_test (eqb n 4) (λ t. rw t b) (λ f. by_test (eqb n 6) (λ t. rw (f, t) b) (λ g. absurd (true≢false (rw (f, g) at e))))

-- a kind that codes can be may begin with what stands before them
begins_by : (s : Start) (n c : ℕ) → is_text (kind_by s n c) ≡ false → starts (kind_by s n c) s ≡ true
begins_by start.Nothing n c e = cc
begins_by start.Colour n c e =
    by_test (eqb n 5) (λ t. rw t refl) (λ f. by_test (eqb n 11) (λ t. rw (f, t) refl) (λ g. absurd (true≢false (rw (f, g) at e))))
begins_by start.InPlain n c e = by_test (eqb n 5) (λ t. rw t refl) (λ f. absurd (true≢false (rw f at e)))
begins_by start.Magenta n c e = either_begins start.Magenta n refl e
begins_by start.InMagenta n c e =
    by_test (eqb n 2) (λ t. rw t refl)
    (λ f. by_test (eqb n 3)
    (λ t. by_test (eqb c 70) (λ u. rw (f, t, u) refl) (λ u. rw (f, t, u) refl))
    (λ g. by_test (eqb n 5)
    (λ t. rw (f, g, t) refl)
    (λ h. rw (f, g, h) (either_begins start.InMagenta n refl (rw (f, g, h) at e)))))

pub kind_stands : (k : Colour) (c : ℕ) (cs : List ℕ) → is_text (kind_at k (c ∷ cs)) ≡ false →
    Stands k (c ∷ cs) (kind_at k (c ∷ cs)) (figures_by (pattern (kind_at k (c ∷ cs))) (until cs))
unfolding kind_in
kind_stands k c cs e = by_test (fits (pattern most) (until cs)) found (λ f. absurd (true≢false (rw f at e)))
  where
    most : Kind
    most = kind_by (start_of k c) (length (until cs)) (at (until cs) 0)

    found : fits (pattern most) (until cs) ≡ true → Stands k (c ∷ cs) (kind_at k (c ∷ cs)) (figures_by (pattern (kind_at k (c ∷ cs))) (until cs))
    found f =
        let this : kind_at k (c ∷ cs) ≡ most = rw f refl in
        rw this (record {
          before = c;
          text = until cs;
          rest = from cs;
          are = ap (λ (xs : List ℕ). c ∷ xs) (until_from cs);
          begins = begins_by (start_of k c) _ _ (ap is_text (sym this) ∙ e);
          shown = f;
          ends = from_ends cs;
          given = refl;
        })

-- ── one format ─────────────────────────────────────────────────────────────────────────────────────────────────────
pub none_stands : {P : Type 0} (k : Colour) (a : Kind) (fs : List ℕ) → Stands k [] a fs → P
none_stands k a fs w = absurd (let z : ◌≡◌ {A = ℕ} 0 (suc (length (w.text ++ w.rest))) = ap length w.are in omega (arith, z))

pub one_kind : (k : Colour) (cs : List ℕ) (a b : Kind) (fs gs : List ℕ) → Stands k cs a fs → Stands k cs b gs → a ≡ b
one_kind k [] a b fs gs v w = none_stands k a fs v
one_kind k (c ∷ cs) a b fs gs v w = sym (stands_kind k c cs a fs v).0 ∙ (stands_kind k c cs b gs w).0

pub one_figures : (k : Colour) (cs : List ℕ) (a b : Kind) (fs gs : List ℕ) → Stands k cs a fs → Stands k cs b gs → fs ≡ gs
one_figures k [] a b fs gs v w = none_stands k a fs v
one_figures k (c ∷ cs) a b fs gs v w =
    (stands_kind k c cs a fs v).1
    ∙ ap (λ (x : Kind). figures_by (pattern x) (until cs)) (one_kind k (c ∷ cs) a b fs gs v w)
    ∙ sym (stands_kind k c cs b gs w).1

-- the kind that is taken is no format exactly if none stands
pub text_none : {P : Type 0} (k : Colour) (cs : List ℕ) (a : Kind) (fs : List ℕ) → is_text (kind_at k cs) ≡ true → Stands k cs a fs → P
text_none k [] a fs e w = none_stands k a fs w
text_none k (c ∷ cs) a fs e w = never a w.begins (ap is_text (sym (stands_kind k c cs a fs w).0) ∙ e)
  where
    never : {P : Type 0} (x : Kind) → starts x (start_of k w.before) ≡ true → is_text x ≡ true → P
    never kind.Text b t = absurd (true≢false (sym b))
    never kind.Single b t = absurd (true≢false (sym t))
    never kind.Double b t = absurd (true≢false (sym t))
    never kind.Original b t = absurd (true≢false (sym t))
    never kind.Date b t = absurd (true≢false (sym t))
    never kind.Network b t = absurd (true≢false (sym t))
    never kind.Offset b t = absurd (true≢false (sym t))
    never kind.Pty b t = absurd (true≢false (sym t))
    never kind.Word b t = absurd (true≢false (sym t))

-- ── the codes of a kind ────────────────────────────────────────────────────────────────────────────────────────────
pub kind_fits : (s : Start) (text : List ℕ) → is_text (kind_in s text) ≡ false → fits (pattern (kind_in s text)) text ≡ true
unfolding kind_in
kind_fits s text e = by_test (fits (pattern most) text) (λ f. rw (f, f) refl) (λ f. absurd (true≢false (rw f at e)))
  where
    most : Kind
    most = kind_by s (length text) (at text 0)

-- more than eleven codes are no format
many_by : (s : Start) (n c : ℕ) → 11 < n → kind_by s n c ≡ kind.Text
many_by start.Nothing n c h = refl
many_by start.Colour n c h = rw (ne_eqb n 5 (λ e. omega (arith, h, e)), ne_eqb n 11 (λ e. omega (arith, h, e))) refl
many_by start.InPlain n c h = rw (ne_eqb n 5 (λ e. omega (arith, h, e))) refl
many_by start.Magenta n c h = rw (ne_eqb n 4 (λ e. omega (arith, h, e)), ne_eqb n 6 (λ e. omega (arith, h, e))) refl
many_by start.InMagenta n c h =
    rw (
      ne_eqb n 2 (λ e. omega (arith, h, e)),
      ne_eqb n 3 (λ e. omega (arith, h, e)),
      ne_eqb n 5 (λ e. omega (arith, h, e)),
      ne_eqb n 4 (λ e. omega (arith, h, e)),
      ne_eqb n 6 (λ e. omega (arith, h, e)),
    ) refl

pub many_text : (s : Start) (text : List ℕ) → 11 < length text → kind_in s text ≡ kind.Text
unfolding kind_in
many_text s text h = rw (many_by s (length text) (at text 0) h) (by_test (fits [] text) (λ f. rw f refl) (λ f. rw f refl))

-- a code that is no mark starts nothing
pub no_start : (k : Colour) (c : ℕ) → is_mark c ≡ false → start_of k c ≡ start.Nothing
unfolding is_mark start_of
no_start k c e =
    let m = both_false (is_colour c) (is_magenta c || is_conceal c) e in
    let n = both_false (is_magenta c) (is_conceal c) m.1 in
    rw (m.0, n.0, n.1) refl

pub nothing_text : (text : List ℕ) → kind_in start.Nothing text ≡ kind.Text
unfolding kind_in
nothing_text text = by_test (fits [] text) (λ f. rw f refl) (λ f. rw f refl)

pub empty_text : (s : Start) → kind_in s [] ≡ kind.Text
unfolding kind_in
empty_text start.Nothing = refl
empty_text start.Colour = refl
empty_text start.InPlain = refl
empty_text start.Magenta = refl
empty_text start.InMagenta = refl
