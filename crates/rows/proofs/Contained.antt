-- What is found by looking ahead from each code is what a row contains, and nothing else.
use Prim.Native.Nat.{ℕ, suc, ◌≤◌}
use mathlib.Core.Path.{◌≡◌, refl, sym, ap, ◌∙◌}
use mathlib.Core.Bool.{Bool, true, false, not, ◌&&◌, true≢false, or-true}
use mathlib.Core.List.{List, [], ◌∷◌}
use native.Mathlib.Omega.{arith}
use borrow.Author.Tests.{leb-true, eqb-true, eq-eqb, lt-leb, not-true}
use lib.Dec.{leb, eqb}
use lib.ListN.{length}
use Rattle.answer.specs.Lists.{some}
use Rattle.answer.proofs.Cases.{by_test, both_true, both_false, either_true}
use Rattle.codes.specs.declared.Colour.{Colour}
use Rattle.codes.specs.Codes.{is_colour, is_magenta, conceal, is_conceal, is_mark, colour_by}
use Rattle.formats.specs.declared.Kind.{Kind}
use Rattle.formats.specs.Formats.{start_of, pattern, figures_by, Stands}
use Rattle.formats.specs.Taken.{is_text}
use Rattle.formats.proofs.Standing.{until, kind_at, stands_kind, kind_stands, text_none, empty_text}
use Rattle.rows.specs.declared.Reading.TheVariants.{Opened, Empty, Filled}
use Rattle.rows.specs.Title.{is_plain, is_opening, begins_with, begins_pair, text_of, is_forbidden, NoFormat, NoFormats, Title}
use Rattle.rows.specs.Row.{Content, Contains, end, figures, titled, text}
use Rattle.rows.proofs.Ahead.{ends, title_at, contents}

-- ── formats ────────────────────────────────────────────────────────────────────────────────────────────────────────
none_found : (k : Colour) (c : ℕ) (cs : List ℕ) → NoFormat k (c ∷ cs) → is_text (kind_at k (c ∷ cs)) ≡ true
none_found k c cs n = by_test (is_text (kind_at k (c ∷ cs))) (λ t. t) (λ t. absurd (n _ _ (kind_stands k c cs t)))

found_none : (k : Colour) (cs : List ℕ) → is_text (kind_at k cs) ≡ true → NoFormat k cs
found_none k cs t a fs w = text_none k cs a fs t w

one_found : (k : Colour) (c : ℕ) (cs : List ℕ) (a : Kind) (fs : List ℕ) → Stands k (c ∷ cs) a fs → is_text (kind_at k (c ∷ cs)) ≡ false
one_found k c cs a fs w = by_test (is_text (kind_at k (c ∷ cs))) (λ t. text_none k (c ∷ cs) a fs t w) (λ t. t)

-- ── the text of a title ────────────────────────────────────────────────────────────────────────────────────────────
-- a text that goes on ends as a title exactly if nothing in it is forbidden and no format begins there
ends_clear : (k : Colour) (cs : List ℕ) → ends Filled k cs ≡ true → (some is_forbidden (text_of cs) ≡ false) × NoFormats k (length (text_of cs)) cs
unfolding ends text_of NoFormats
ends_clear k [] e = (refl, tt)
ends_clear k (c ∷ cs) e =
    by_test (begins_pair (c ∷ cs))
    (λ b. rw b (refl, tt))
    (λ b.
    let x = both_true (not (is_forbidden c)) (is_text (kind_at k (c ∷ cs)) && ends Filled (colour_by k c) cs) (rw b at e) in
    let y = both_true (is_text (kind_at k (c ∷ cs))) (ends Filled (colour_by k c) cs) x.1 in
    let allowed : is_forbidden c ≡ false = not-true (is_forbidden c) x.0 in
    let more = ends_clear (colour_by k c) cs y.1 in
    rw (b, allowed) (more.0, (found_none k (c ∷ cs) y.0, more.1)))

clear_ends : (k : Colour) (cs : List ℕ) → some is_forbidden (text_of cs) ≡ false → NoFormats k (length (text_of cs)) cs → ends Filled k cs ≡ true
unfolding ends text_of NoFormats
clear_ends k [] f n = refl
clear_ends k (c ∷ cs) f n =
    by_test (begins_pair (c ∷ cs))
    (λ b. rw b refl)
    (λ b.
    let x = both_false (is_forbidden c) (some is_forbidden (text_of cs)) (rw b at f) in
    let m : NoFormat k (c ∷ cs) × NoFormats (colour_by k c) (length (text_of cs)) cs = rw b at n in
    rw (b, x.0, none_found k c cs m.0) (clear_ends (colour_by k c) cs x.1 m.1))

-- and one that is to begin, if it has a code
ends_begun : (k : Colour) (cs : List ℕ) → ends Empty k cs ≡ true →
    (text_of cs ≡ [] → ⊥) × ((some is_forbidden (text_of cs) ≡ false) × NoFormats k (length (text_of cs)) cs)
unfolding ends text_of
ends_begun k [] e = absurd (true≢false (sym e))
ends_begun k (c ∷ cs) e =
    by_test (begins_pair (c ∷ cs))
    (λ b. absurd (true≢false (sym (rw b at e))))
    (λ b. (rw b (λ z. not_empty z), ends_clear k (c ∷ cs) (rw b (rw b at e))))
  where
    not_empty : c ∷ text_of cs ≡ [] → ⊥
    not_empty z = let n : ◌≡◌ {A = ℕ} (suc (length (text_of cs))) 0 = ap length z in omega (arith, n)

begun_ends : (k : Colour) (cs : List ℕ) → (text_of cs ≡ [] → ⊥) → some is_forbidden (text_of cs) ≡ false → NoFormats k (length (text_of cs)) cs →
    ends Empty k cs ≡ true
unfolding ends text_of
begun_ends k [] n f w = absurd (n refl)
begun_ends k (c ∷ cs) n f w =
    by_test (begins_pair (c ∷ cs))
    (λ b. absurd (n (rw b refl)))
    (λ b. rw b (rw b at (clear_ends k (c ∷ cs) f w)))

-- ── a title ────────────────────────────────────────────────────────────────────────────────────────────────────────
opening_mark : (k : Colour) (c : ℕ) → is_opening k c ≡ true → is_mark c ≡ true
unfolding is_opening is_mark
opening_mark k c o =
    either_true (is_colour c) (is_conceal c && is_plain k) o
    (λ t. rw t refl)
    (λ t. rw ((both_true (is_conceal c) (is_plain k) t).0, or-true (is_magenta c), or-true (is_colour c)) refl)

opening_allowed : (k : Colour) (c : ℕ) → is_opening k c ≡ true → is_forbidden c ≡ false
unfolding is_opening
opening_allowed k c o =
    either_true (is_colour c) (is_conceal c && is_plain k) o
    (λ t.
    let x = both_true (leb 1 c && leb c 7) (not (eqb c 5)) t in
    let low : c ≤ 7 = leb-true c 7 (both_true (leb 1 c) (leb c 7) x.0).1 in
    rw (lt-leb 16 c (omega (arith, low)), not-true (eqb c 5) x.1) refl)
    (λ t. rw (eqb-true c conceal (both_true (is_conceal c) (is_plain k) t).0) refl)

-- the second code of a pair, and what follows it
pair_parts : (c : ℕ) (cs : List ℕ) → begins_pair (c ∷ cs) ≡ true → (rest : List ℕ) × (cs ≡ c ∷ rest)
pair_parts c [] b = absurd (true≢false (sym b))
pair_parts c (d ∷ rest) b = (rest, ap (λ (x : ℕ). x ∷ rest) (sym (eqb-true c d (both_true (is_mark c) (eqb c d) b).1)))

last_pair : (c : ℕ) (rest : List ℕ) → is_mark c ≡ true → begins_pair (c ∷ rest) ≡ begins_with c rest
last_pair c [] m = refl
last_pair c (d ∷ rest) m = rw m refl

opened_title : (k : Colour) (c : ℕ) (rest : List ℕ) → is_opening k c ≡ true → ends Opened (colour_by k c) (c ∷ rest) ≡ true → Title k (c ∷ c ∷ rest)
unfolding ends NoFormats
opened_title k c rest o e =
    by_test (begins_pair (c ∷ rest))
    (λ b. absurd (true≢false (sym (rw b at e))))
    (λ b.
    let x = both_true (not (is_forbidden c)) (is_text (kind_at (colour_by k c) (c ∷ rest)) && ends Empty (colour_by (colour_by k c) c) rest) (rw b at e) in
    let y = both_true (is_text (kind_at (colour_by k c) (c ∷ rest))) (ends Empty (colour_by (colour_by k c) c) rest) x.1 in
    let begun = ends_begun (colour_by (colour_by k c) c) rest y.1 in
    record {
      code = c;
      after = rest;
      pair = refl;
      opens = o;
      last = sym (last_pair c rest (opening_mark k c o)) ∙ b;
      shown = begun.0;
      plain = begun.1.0;
      free = (found_none (colour_by k c) (c ∷ rest) y.0, begun.1.1);
    })

ahead_title : (k : Colour) (c : ℕ) (cs : List ℕ) → title_at k (c ∷ cs) ≡ true → Title k (c ∷ cs)
unfolding title_at
ahead_title k c cs e =
    let x = both_true (begins_pair (c ∷ cs)) (is_opening k c && ends Opened (colour_by k c) cs) e in
    let y = both_true (is_opening k c) (ends Opened (colour_by k c) cs) x.1 in
    let second = pair_parts c cs x.0 in
    rw second.1 (opened_title k c second.0 y.0 (rw second.1 at y.1))

title_ahead : (k : Colour) (c : ℕ) (cs : List ℕ) → Title k (c ∷ cs) → title_at k (c ∷ cs) ≡ true
unfolding title_at ends NoFormats
title_ahead k c cs w =
    let mark = opening_mark k w.code w.opens in
    let again : begins_pair (w.code ∷ w.after) ≡ false = last_pair w.code w.after mark ∙ w.last in
    let free = w.free in
    ap (title_at k) w.pair
    ∙ rw (
      mark,
      eq-eqb w.code w.code refl,
      w.opens,
      again,
      opening_allowed k w.code w.opens,
      none_found (colour_by k w.code) w.code w.after free.0,
    ) (begun_ends _ w.after w.shown w.plain free.1)

title_text : (k : Colour) (c : ℕ) (cs : List ℕ) → Title k (c ∷ cs) → is_text (kind_at k (c ∷ cs)) ≡ true
unfolding until
title_text k c cs w =
    ap (λ (xs : List ℕ). is_text (kind_at k xs)) w.pair
    ∙ rw (opening_mark k w.code w.opens, empty_text (start_of k w.code)) refl

-- ── the row ────────────────────────────────────────────────────────────────────────────────────────────────────────
pub ahead_contained : (row : ℕ) (had : Bool) (k : Colour) (p : ℕ) (cs : List ℕ) → Contains row had k p cs (contents row had k p cs)
unfolding contents
ahead_contained row had k p [] = end
ahead_contained row had k p (c ∷ cs) =
    by_test (is_text (kind_at k (c ∷ cs)))
    (passed_over had (ahead_contained row true (colour_by k c) (suc p) cs) (ahead_contained row had (colour_by k c) (suc p) cs))
    (λ t. rw t (figures _ _ (kind_stands k c cs t) (ahead_contained row had (colour_by k c) (suc p) cs)))
  where
    Others : Bool → Type 0
    Others h = Contains row h (colour_by k c) (suc p) cs (contents row h (colour_by k c) (suc p) cs)

    passed_over : (h : Bool) → Others true → Others h → is_text (kind_at k (c ∷ cs)) ≡ true → Contains row h k p (c ∷ cs) (contents row h k p (c ∷ cs))
    passed_over true r o t = rw t (text (found_none k (c ∷ cs) t) (λ e. absurd (true≢false e)) r)
    passed_over false r o t =
        by_test (title_at k (c ∷ cs))
        (λ w. rw (t, w) (titled (ahead_title k c cs w) r))
        (λ w. rw (t, w) (text (found_none k (c ∷ cs) t) (λ e x. true≢false (sym (title_ahead k c cs x) ∙ w)) o))

pub contained_ahead : (row : ℕ) (had : Bool) (k : Colour) (p : ℕ) (cs : List ℕ) (xs : List Content) → Contains row had k p cs xs →
    xs ≡ contents row had k p cs
unfolding contents
contained_ahead row had k p [] xs end = refl
contained_ahead row had k p (c ∷ cs) xs (figures {xs = ys} a fs w r) =
    let found = stands_kind k c cs a fs w in
    let shown : fs ≡ figures_by (pattern (kind_at k (c ∷ cs))) (until cs) = found.1 ∙ ap (λ (x : Kind). figures_by (pattern x) (until cs)) (sym found.0) in
    rw (one_found k c cs a fs w, sym shown, found.0, contained_ahead row had (colour_by k c) (suc p) cs ys r) refl
contained_ahead row had k p (c ∷ cs) xs (titled {xs = ys} w r) =
    rw (title_text k c cs w, title_ahead k c cs w, contained_ahead row true (colour_by k c) (suc p) cs ys r) refl
contained_ahead row had k p (c ∷ cs) xs (text n w r) = passed_over had w (contained_ahead row had (colour_by k c) (suc p) cs xs r)
  where
    passed_over : (h : Bool) → (h ≡ false → Title k (c ∷ cs) → ⊥) → xs ≡ contents row h (colour_by k c) (suc p) cs → xs ≡ contents row h k p (c ∷ cs)
    passed_over true x e = rw (none_found k c cs n) e
    passed_over false x e =
        by_test (title_at k (c ∷ cs)) (λ y. absurd (x refl (ahead_title k c cs y))) (λ y. rw (none_found k c cs n, y) e)
