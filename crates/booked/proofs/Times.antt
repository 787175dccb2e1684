-- The announced times of a page whose figures are permitted are times of a day.
use Prim.Native.Nat.{ℕ}
use mathlib.Core.Path.{◌≡◌, refl}
use mathlib.Core.Bool.{true}
use mathlib.Core.List.{List, [], ◌∷◌, ◌++◌}
use Rattle.answer.proofs.Cases.{both_true}
use Rattle.formats.specs.declared.Kind.{Kind}
use Rattle.formats.specs.declared.Kind.TheVariants as kind
use Rattle.figures.specs.Permitted.{two, is_time, permitted, meant}
use Rattle.rows.specs.Row.{Content, format, title}
use Rattle.announced.specs.declared.Time.{Time}
use Rattle.announced.specs.declared.Announcement.{Announcement}
use Rattle.announced.specs.Times.{Mark, S, D, T, marks_of, times_in, Before, Announces, starts, lasts, part_single, part_double, finishes, ends}
use Rattle.preview.specs.Page.{all_permitted}
use Rattle.booked.proofs.Data.{value_meant}

abbrev pub OfDay : Time → Type 0
OfDay t = is_time t.hour t.minute ≡ true

abbrev GoodMarks : List Mark → Type 0
GoodMarks [] = Unit {0}
GoodMarks (S t ∷ ms) = OfDay t × GoodMarks ms
GoodMarks (D t u ∷ ms) = OfDay t × OfDay u × GoodMarks ms
GoodMarks (T r c ∷ ms) = GoodMarks ms

single_permitted : (fs : List ℕ) → permitted kind.Single fs ≡ true → is_time (two fs 0) (two fs 2) ≡ true
unfolding permitted
single_permitted fs e = e

double_permitted : (fs : List ℕ) → permitted kind.Double fs ≡ true → (is_time (two fs 0) (two fs 2) ≡ true) × (is_time (two fs 4) (two fs 6) ≡ true)
unfolding permitted
double_permitted fs e = both_true (is_time (two fs 0) (two fs 2)) (is_time (two fs 4) (two fs 6)) e

format_good : (a : Kind) (fs : List ℕ) (ms : List Mark) → permitted a fs ≡ true → GoodMarks ms → GoodMarks (marks_of (meant a fs) ++ ms)
format_good kind.Text fs ms e g = g
format_good kind.Single fs ms e g = (single_permitted fs e, g)
format_good kind.Double fs ms e g = let p = double_permitted fs e in (p.0, p.1, g)
format_good kind.Original fs ms e g = g
format_good kind.Date fs ms e g = g
format_good kind.Network fs ms e g = g
format_good kind.Offset fs ms e g = g
format_good kind.Pty fs ms e g = g
format_good kind.Word fs ms e g = g

marks_good : (xs : List Content) → all_permitted xs ≡ true → GoodMarks (times_in xs)
unfolding all_permitted times_in
marks_good [] e = Prim.tt {0}
marks_good (format a fs ∷ xs) e =
    let p = both_true (permitted a fs) (all_permitted xs) e in
    rw (value_meant a fs p.0) (format_good a fs (times_in xs) p.0 (marks_good xs p.1))
marks_good (title r c ∷ xs) e = marks_good xs e

abbrev pub GoodAnnounced : List Announcement → Type 0
GoodAnnounced [] = Unit {0}
GoodAnnounced (a ∷ xs) = OfDay a.start × OfDay a.finish × GoodAnnounced xs

announces_good : {b : Before} (t : Time) (ms : List Mark) (xs : List Announcement) → Announces b ms t xs → GoodMarks ms → OfDay t × GoodAnnounced xs
announces_good t ms xs (starts {z = z} {ms = ns} {xs = ys} w) g =
    let p = announces_good z ns ys w g.1 in
    (g.0, (g.0, p.0, p.1))
announces_good t ms xs (lasts {n = n} {ms = ns} {xs = ys} w) g =
    let p = announces_good n ns ys w g.2 in
    (g.0, (g.0, g.1, p.1))
announces_good t ms xs (part_single {ms = ns} w) g = announces_good t ns xs w g
announces_good t ms xs (part_double {ms = ns} w) g = announces_good t ns xs w g
announces_good t ms xs finishes g = (g.0, Prim.tt {0})
announces_good t ms xs ends g = (refl, Prim.tt {0})

pub announced_good : {b : Before} (t : Time) (xs : List Content) (ys : List Announcement) → all_permitted xs ≡ true → Announces b (times_in xs) t ys →
    GoodAnnounced ys
announced_good t xs ys e w = (announces_good t (times_in xs) ys w (marks_good xs e)).1
