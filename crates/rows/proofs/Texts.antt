-- Characters without effect change nothing of what a row contains.
use Prim.Native.Nat.{ℕ, suc}
use mathlib.Core.Path.{◌≡◌, refl, sym, ap, ◌∙◌}
use mathlib.Core.Bool.{Bool, true, false, ◌||◌, true≢false}
use mathlib.Core.List.{List, [], ◌∷◌}
use mathlib.Core.Logic.{◌⊎◌, inl, inr}
use borrow.Author.Tests.{ne_eqb}
use lib.Dec.{ltb, eqb}
use lib.ListN.{length}
use Rattle.answer.proofs.Cases.{by_test, both_true, both_false}
use Rattle.codes.specs.declared.Colour.{Colour}
use Rattle.codes.specs.declared.Colour.TheVariants as colour
use Rattle.codes.specs.Codes.{is_colour, is_magenta, is_conceal, is_decimal, is_letter, is_hexadecimal, point, hyphen, is_graphics, is_mark, is_pair, has_effect, SameButText, colour_by}
use Rattle.formats.specs.declared.Start.{Start}
use Rattle.formats.specs.declared.Start.TheVariants as start
use Rattle.formats.specs.declared.Sign.{Sign}
use Rattle.formats.specs.declared.Sign.TheVariants.{Decimal, Hexadecimal, Point, Hyphen, PlusMinus, LetterF}
use Rattle.formats.specs.Formats.{start_of, pattern, shows, fits, at}
use Rattle.formats.specs.Taken.{is_text, kind_by, kind_in}
use Rattle.formats.proofs.Standing.{until, kind_at, kind_fits, no_start, nothing_text}
use Rattle.rows.specs.declared.Reading.{Reading}
use Rattle.rows.specs.Title.{is_forbidden, begins_pair}
use Rattle.rows.specs.Taken.{advanced, row_given}
use Rattle.rows.proofs.Ahead.{ends, title_at, contents}
use Rattle.rows.proofs.Given.{no_pair, row_given_lem}

-- ── a character without effect ─────────────────────────────────────────────────────────────────────────────────────
-- is none of what has an effect
pub record Plain (c : ℕ) : Type 0 where
  pub mark : is_mark c ≡ false
  pub graphics : is_graphics c ≡ false
  pub decimal : is_decimal c ≡ false
  pub letter : is_letter c ≡ false
  pub points : eqb c point ≡ false
  pub hyphens : eqb c hyphen ≡ false
  pub low : ltb 127 c ≡ false

pub plain : (c : ℕ) → has_effect c ≡ false → Plain c
unfolding has_effect
plain c e =
    let a = both_false (is_mark c) _ e in
    let b = both_false (is_graphics c) _ a.1 in
    let d = both_false (is_hexadecimal c) _ b.1 in
    let f = both_false (is_decimal c) (is_letter c) d.0 in
    let g = both_false (eqb c point) _ d.1 in
    let h = both_false (eqb c hyphen) (ltb 127 c) g.1 in
    record { mark = a.0; graphics = b.0; decimal = f.0; letter = f.1; points = g.0; hyphens = h.0; low = h.1 }

-- no sign stands for it
plain_sign : (s : Sign) (c : ℕ) → Plain c → shows s c ≡ false
plain_sign Decimal c p = p.decimal
plain_sign Hexadecimal c p = rw (p.decimal, p.letter) refl
plain_sign Point c p = p.points
plain_sign Hyphen c p = p.hyphens
plain_sign PlusMinus c p =
    rw (
      ne_eqb c 48 (λ e. true≢false (rw e at p.decimal)),
      ne_eqb c 57 (λ e. true≢false (rw e at p.decimal)),
    ) refl
plain_sign LetterF c p = ne_eqb c 70 (λ e. true≢false (rw e at p.letter))

plain_colour : (k : Colour) (c : ℕ) → Plain c → colour_by k c ≡ k
unfolding colour_by is_mark
plain_colour k c p =
    let m = both_false (is_colour c) (is_magenta c || is_conceal c) p.mark in
    rw (m.0, (both_false (is_magenta c) (is_conceal c) m.1).0, p.graphics) refl

plain_allowed : (c : ℕ) → Plain c → is_forbidden c ≡ false
unfolding is_mark
plain_allowed c p =
    let m = both_false (is_colour c) (is_magenta c || is_conceal c) p.mark in
    rw (p.graphics, (both_false (is_magenta c) (is_conceal c) m.1).0) refl

-- ── codes that are the same but for text ───────────────────────────────────────────────────────────────────────────
-- one code, and another in its place
abbrev pub SameCode : ℕ → ℕ → Type 0
SameCode c d = (c ≡ d) ⊎ ((has_effect c ≡ false) × (has_effect d ≡ false))

-- what is the same of a code and itself, and the same of every character without effect, is the same of both
pub either : {A : Type 0} (f : ℕ → A) (z : A) (c d : ℕ) → ((x : ℕ) → Plain x → f x ≡ z) → SameCode c d → f c ≡ f d
either f z c d h (inl e) = ap f e
either f z c d h (inr (a, b)) = h c (plain c a) ∙ sym (h d (plain d b))

pub same_length : (cs ds : List ℕ) → SameButText cs ds → length cs ≡ length ds
unfolding SameButText
same_length [] [] w = refl
same_length [] (d ∷ ds) w = absurd w
same_length (c ∷ cs) [] w = absurd w
same_length (c ∷ cs) (d ∷ ds) w = ap suc (same_length cs ds w.1)

same_until : (cs ds : List ℕ) → SameButText cs ds → SameButText (until cs) (until ds)
unfolding SameButText until
same_until [] [] w = tt
same_until [] (d ∷ ds) w = absurd w
same_until (c ∷ cs) [] w = absurd w
same_until (c ∷ cs) (d ∷ ds) w =
    let mark : is_mark c ≡ is_mark d = either is_mark false c d (λ x p. p.mark) w.0 in
    by_test (is_mark d)
    (λ m. rw (mark, m) tt)
    (λ m. rw (mark, m) (w.0, same_until cs ds w.1))

same_fits : (ss : List Sign) (cs ds : List ℕ) → SameButText cs ds → fits ss cs ≡ fits ss ds
unfolding SameButText
same_fits [] [] [] w = refl
same_fits [] [] (d ∷ ds) w = absurd w
same_fits [] (c ∷ cs) [] w = absurd w
same_fits [] (c ∷ cs) (d ∷ ds) w = refl
same_fits (s ∷ ss) [] [] w = refl
same_fits (s ∷ ss) [] (d ∷ ds) w = absurd w
same_fits (s ∷ ss) (c ∷ cs) [] w = absurd w
same_fits (s ∷ ss) (c ∷ cs) (d ∷ ds) w = rw (either (shows s) false c d (plain_sign s) w.0, same_fits ss cs ds w.1) refl

-- a text that fits has no character without effect
same_text : (ss : List Sign) (cs ds : List ℕ) → fits ss cs ≡ true → SameButText cs ds → cs ≡ ds
unfolding SameButText
same_text ss [] [] f w = refl
same_text ss [] (d ∷ ds) f w = absurd w
same_text ss (c ∷ cs) [] f w = absurd w
same_text [] (c ∷ cs) (d ∷ ds) f w = absurd (true≢false (sym f))
same_text (s ∷ ss) (c ∷ cs) (d ∷ ds) f (inl e, w) = rw (e, same_text ss cs ds (both_true (shows s c) (fits ss cs) f).1 w) refl
same_text (s ∷ ss) (c ∷ cs) (d ∷ ds) f (inr (a, b), w) =
    absurd (true≢false (sym (both_true (shows s c) (fits ss cs) f).0 ∙ plain_sign s c (plain c a)))

kind_letter : (s : Start) (n c d : ℕ) → eqb c 70 ≡ eqb d 70 → kind_by s n c ≡ kind_by s n d
kind_letter start.Nothing n c d e = refl
kind_letter start.Colour n c d e = refl
kind_letter start.InPlain n c d e = refl
kind_letter start.Magenta n c d e = refl
kind_letter start.InMagenta n c d e = rw e refl

same_first : (cs ds : List ℕ) → SameButText cs ds → eqb (at cs 0) 70 ≡ eqb (at ds 0) 70
unfolding SameButText
same_first [] [] w = refl
same_first [] (d ∷ ds) w = absurd w
same_first (c ∷ cs) [] w = absurd w
same_first (c ∷ cs) (d ∷ ds) w = either (λ x. eqb x 70) false c d (plain_sign LetterF) w.0

same_kind : (s : Start) (cs ds : List ℕ) → SameButText cs ds → kind_in s cs ≡ kind_in s ds
unfolding kind_in
same_kind s cs ds w =
    let most : kind_by s (length cs) (at cs 0) ≡ kind_by s (length ds) (at ds 0)
    = ap (λ (n : ℕ). kind_by s n (at cs 0)) (same_length cs ds w) ∙ kind_letter s (length ds) (at cs 0) (at ds 0) (same_first cs ds w) in
    rw (most, same_fits (pattern (kind_by s (length ds) (at ds 0))) cs ds w) refl

-- ── what is found ahead ────────────────────────────────────────────────────────────────────────────────────────────
module _ (k : Colour) (c d : ℕ) (cs ds : List ℕ) where
  same_at : SameCode c d → SameButText cs ds → kind_at k (c ∷ cs) ≡ kind_at k (d ∷ ds)
  same_at (inl e) w = rw (e, same_kind (start_of k d) (until cs) (until ds) (same_until cs ds w)) refl
  same_at (inr (a, b)) w = rw (no_start k c (plain c a).mark, no_start k d (plain d b).mark) (nothing_text (until cs) ∙ sym (nothing_text (until ds)))

  same_figures : SameButText cs ds → is_text (kind_in (start_of k c) (until cs)) ≡ false → until cs ≡ until ds
  same_figures w e = same_text (pattern (kind_in (start_of k c) (until cs))) (until cs) (until ds) (kind_fits (start_of k c) (until cs) e) (same_until cs ds w)

  same_colour : SameCode c d → colour_by k c ≡ colour_by k d
  same_colour w = either (colour_by k) k c d (plain_colour k) w

-- a character without effect is no second code of a pair
no_second : (c d : ℕ) → is_mark d ≡ false → is_pair c d ≡ false
no_second c d m =
    by_test (is_mark c) (λ n. rw (n, ne_eqb c d (λ e. true≢false (sym n ∙ ap is_mark e ∙ m))) refl) (λ n. rw n refl)

same_pair : (c d : ℕ) (cs ds : List ℕ) → SameCode c d → SameButText cs ds → begins_pair (c ∷ cs) ≡ begins_pair (d ∷ ds)
unfolding SameButText
same_pair c d [] [] x w = refl
same_pair c d [] (b ∷ ds) x w = absurd w
same_pair c d (a ∷ cs) [] x w = absurd w
same_pair c d (a ∷ cs) (b ∷ ds) (inr (p, q)) w = rw ((plain c p).mark, (plain d q).mark) refl
same_pair c d (a ∷ cs) (b ∷ ds) (inl e) (y, w) = ap (λ (z : ℕ). is_pair z a) e ∙ either (is_pair d) false a b (λ z p. no_second d z p.mark) y

same_ends : (cs ds : List ℕ) (t : Reading) (k : Colour) → SameButText cs ds → ends t k cs ≡ ends t k ds
unfolding SameButText ends
same_ends [] [] t k w = refl
same_ends [] (d ∷ ds) t k w = absurd w
same_ends (c ∷ cs) [] t k w = absurd w
same_ends (c ∷ cs) (d ∷ ds) t k (x, w) =
    rw (
      same_pair c d cs ds x w,
      either is_forbidden false c d plain_allowed x,
      same_at k c d cs ds x w,
      same_colour k c d cs ds x,
      same_ends cs ds (advanced t) (colour_by k d) w,
    ) refl

-- a pair of codes opens a title alike: they are the same code, or no pair begins
same_title : (k : Colour) (c d : ℕ) (cs ds : List ℕ) → SameCode c d → SameButText cs ds → title_at k (c ∷ cs) ≡ title_at k (d ∷ ds)
unfolding title_at
same_title k c d cs ds (inl e) w = rw (same_pair c d cs ds (inl e) w, e, same_ends cs ds _ (colour_by k d) w) refl
same_title k c d cs ds (inr (a, b)) w = rw (no_pair c cs (plain c a).mark, no_pair d ds (plain d b).mark) refl

same_contents : (cs ds : List ℕ) (row : ℕ) (had : Bool) (k : Colour) (p : ℕ) → SameButText cs ds → contents row had k p cs ≡ contents row had k p ds
unfolding SameButText contents
same_contents [] [] row had k p w = refl
same_contents [] (d ∷ ds) row had k p w = absurd w
same_contents (c ∷ cs) [] row had k p w = absurd w
same_contents (c ∷ cs) (d ∷ ds) row had k p (x, w) =
    let at_c : kind_at k (c ∷ cs) ≡ kind_at k (d ∷ ds) = same_at k c d cs ds x w in
    let colours : colour_by k c ≡ colour_by k d = same_colour k c d cs ds x in
    let others : (h : Bool) → contents row h (colour_by k d) (suc p) cs ≡ contents row h (colour_by k d) (suc p) ds
    = λ h. same_contents cs ds row h (colour_by k d) (suc p) w in
    by_test (is_text (kind_at k (d ∷ ds)))
    (λ t. rw (at_c, t, same_title k c d cs ds x w, colours, others had, others true) refl)
    (λ t. rw (at_c, t, same_figures k c d cs ds w (ap is_text at_c ∙ t), colours, others had) refl)

pub same_given : (row : ℕ) (cs ds : List ℕ) → SameButText cs ds → row_given row cs ≡ row_given row ds
same_given row cs ds w = row_given_lem row cs ∙ same_contents cs ds row false colour.Plain 0 w ∙ sym (row_given_lem row ds)
