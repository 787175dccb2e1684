-- The data of a page whose figures are permitted: its dates exist, its original times are times or 2500, and its networks have 16 bits.
use Rattle.std.specs.Prelude.{is_some, unwrap_or}
use Prim.Native.Nat.{ℕ, ◌≤◌, ◌<◌}
use mathlib.Core.Path.{◌≡◌, refl}
use mathlib.Core.Bool.{Bool, true, false, ◌||◌}
use mathlib.Core.List.{List, [], ◌∷◌, ◌++◌}
use native.Mathlib.Omega.{arith}
use borrow.Author.Tests.{ltb-true}
use Rattle.answer.proofs.Cases.{both_true}
use Rattle.formats.specs.declared.Kind.{Kind}
use Rattle.formats.specs.declared.Kind.TheVariants as kind
use Rattle.figures.specs.declared.Offset.{Offset}
use Rattle.figures.specs.Permitted.{two, three, two_hexadecimal, network_of, is_time, is_not_recorded, is_date, permitted, meant, value_of}
use Rattle.rows.specs.Row.{Content, format, title}
use Rattle.originals.specs.declared.Date.{Date}
use Rattle.originals.specs.declared.InForce.{InForce}
use Rattle.originals.specs.declared.Original.{Original}
use Rattle.originals.specs.Data.{Datum, N, A, O, Y, Two, data_of, data_in, nothing, date_by, with_network, with_date, with_offset, with_type, original_by, is_complete, Gives, network, date, offset, type, last, next}
use Rattle.preview.specs.Page.{all_permitted}
use Rattle.booked.proofs.Standing.{Small}

abbrev pub Dated : ℕ → ℕ → ℕ → Type 0
Dated d m y = (is_date d m y ≡ true) × (y ≤ 99)

abbrev pub Timely : ℕ → ℕ → Type 0
Timely h m = (is_time h m || is_not_recorded h m) ≡ true

-- a CNI has two bytes
abbrev pub Narrow : ℕ → Type 0
Narrow n = n < 65536

-- ── what a page's formats give ─────────────────────────────────────────────────────────────────────────────────────
abbrev GoodData : List Datum → Type 0
GoodData [] = Unit {0}
GoodData (N n ∷ ds) = Narrow n × GoodData ds
GoodData (A d m y ∷ ds) = Dated d m y × GoodData ds
GoodData (O o ∷ ds) = GoodData ds
GoodData (Y n ∷ ds) = GoodData ds
GoodData (Two h m ∷ ds) = Timely h m × GoodData ds

pub value_meant : (a : Kind) (fs : List ℕ) → permitted a fs ≡ true → value_of a fs ≡ meant a fs
unfolding value_of
value_meant a fs e = rw e refl

date_permitted : (fs : List ℕ) → permitted kind.Date fs ≡ true → is_date (two fs 0) (two fs 2) (two fs 4) ≡ true
unfolding permitted
date_permitted fs e = e

time_permitted : (fs : List ℕ) → permitted kind.Original fs ≡ true → Timely (two fs 0) (two fs 2)
unfolding permitted
time_permitted fs e = e

network_permitted : (fs : List ℕ) → permitted kind.Network fs ≡ true → two_hexadecimal fs 0 ≤ 255 → Narrow (network_of fs)
unfolding permitted
network_permitted fs e c = omega (arith, ltb-true (three fs 2) 256 e)

format_good : (a : Kind) (fs : List ℕ) (ds : List Datum) → permitted a fs ≡ true → (a ≡ kind.Date → two fs 4 ≤ 99) → two_hexadecimal fs 0 ≤ 255 →
    GoodData ds → GoodData (data_of (meant a fs) ++ ds)
format_good kind.Text fs ds e h c g = g
format_good kind.Single fs ds e h c g = g
format_good kind.Double fs ds e h c g = g
format_good kind.Original fs ds e h c g = (time_permitted fs e, g)
format_good kind.Date fs ds e h c g = ((date_permitted fs e, h refl), g)
format_good kind.Network fs ds e h c g = (network_permitted fs e c, g)
format_good kind.Offset fs ds e h c g = g
format_good kind.Pty fs ds e h c g = g
format_good kind.Word fs ds e h c g = g

data_good : (xs : List Content) → all_permitted xs ≡ true → Small xs → GoodData (data_in xs)
unfolding all_permitted data_in
data_good [] e s = Prim.tt {0}
data_good (format a fs ∷ xs) e s =
    let p = both_true (permitted a fs) (all_permitted xs) e in
    rw (value_meant a fs p.0) (format_good a fs (data_in xs) p.0 s.0 s.1 (data_good xs p.1 s.2))
data_good (title r c ∷ xs) e s = data_good xs e s

-- ── what they give as original times ───────────────────────────────────────────────────────────────────────────────
abbrev Good : Original → Type 0
Good o = Dated o.day o.month o.year × Timely o.hour o.minute × Narrow o.network

abbrev pub GoodOriginals : List Original → Type 0
GoodOriginals [] = Unit {0}
GoodOriginals (o ∷ os) = Good o × GoodOriginals os

-- a date in force exists, and a network has 16 bits
abbrev Exists : Date → Type 0
Exists a = Dated a.day a.month a.year

abbrev Sound : InForce → Type 0
Sound f = (is_some f.date ≡ true → Exists (unwrap_or f.date (date_by 0 0 0))) × Narrow (unwrap_or f.network 0)

with_network_lem : (n : ℕ) (f : InForce) → Narrow n → Sound f → Sound (with_network n f)
unfolding with_network
with_network_lem n f h s = (s.0, h)

with_date_lem : (d m y : ℕ) (f : InForce) → Dated d m y → Sound f → Sound (with_date d m y f)
unfolding with_date
with_date_lem d m y f h s = (λ e. h, s.1)

with_offset_lem : (o : Offset) (f : InForce) → Sound f → Sound (with_offset o f)
unfolding with_offset
with_offset_lem o f s = s

with_type_lem : (n : ℕ) (f : InForce) → Sound f → Sound (with_type n f)
unfolding with_type
with_type_lem n f s = s

timed : (f : InForce) (h m : ℕ) → Sound f → is_complete f ≡ true → Timely h m → Good (original_by f h m)
unfolding original_by
timed f h m s e t = (s.0 (both_true (is_some f.network) (is_some f.date) e).1, t, s.1)

nothing_sound : Sound nothing
nothing_sound = (λ e. absurd (let z : ◌≡◌ {A = ℕ} 0 1 = cc in omega arith), omega arith)

gives_good : (typed : Bool) (f : InForce) (ds : List Datum) (os : List Original) → Gives typed f ds os → Sound f → GoodData ds → GoodOriginals os
gives_good typed f ds os (network {n = n} {ds = es} w) s g = gives_good false (with_network n f) es os w (with_network_lem n f g.0 s) g.1
gives_good typed f ds os (date {d = d} {m = m} {y = y} {ds = es} w) s g =
    gives_good typed (with_date d m y f) es os w (with_date_lem d m y f g.0 s) g.1
gives_good typed f ds os (offset {o = o} {ds = es} w) s g = gives_good typed (with_offset o f) es os w (with_offset_lem o f s) g
gives_good typed f ds os (type {n = n} {ds = es} w) s g = gives_good true (with_type n f) es os w (with_type_lem n f s) g
gives_good typed f ds os (last {h = h} {m = m} e) s g = (timed f h m s e g.0, Prim.tt {0})
gives_good typed f ds os (next {h = h} {m = m} {ds = es} {os = ps} e w) s g =
    (timed f h m s e g.0, gives_good false (with_type 0 f) es ps w (with_type_lem 0 f s) g.1)

pub originals_good : (xs : List Content) (os : List Original) → all_permitted xs ≡ true → Small xs → Gives false nothing (data_in xs) os → GoodOriginals os
originals_good xs os e s w = gives_good false nothing (data_in xs) os w nothing_sound (data_good xs e s)
