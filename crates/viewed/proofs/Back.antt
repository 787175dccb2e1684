-- No two programmes have the same bytes; those of none are 0.
use Prim.Native.Nat.{ℕ, ◌+◌, ◌*◌, ◌/◌, ◌%◌, ◌<◌}
use mathlib.Core.List.{List}
use mathlib.Core.Path.{◌≡◌, refl, sym, ap, ◌∙◌}
use mathlib.Core.Bool.{cond}
use native.Mathlib.Omega.{arith}
use lib.Dec.{eqb}
use lib.ListN.{get_or, replicate}
use Rattle.figures.specs.declared.Offset.{Offset}
use Rattle.figures.specs.declared.Offset.TheVariants.{Plus, Minus}
use Rattle.announced.specs.Times.{time}
use Rattle.preview.specs.declared.Programme.{Programme}
use Rattle.preview.specs.Taken.{blank}
use Rattle.viewed.specs.Viewed.{side, quarters, programme_bytes}

abbrev offset_by : ℕ → ℕ → Offset
offset_by s n = cond (eqb s 0) (Plus n) (Minus n)

offset_back : (o : Offset) → offset_by (side o) (quarters o) ≡ o
offset_back (Plus n) = refl
offset_back (Minus n) = refl

-- the programme that sixteen bytes are
programme_at : List ℕ → Programme
programme_at f = record {
  row = get_or f 0 0;
  column = get_or f 1 0;
  start = time (get_or f 2 0) (get_or f 3 0);
  finish = time (get_or f 4 0) (get_or f 5 0);
  day = get_or f 6 0;
  month = get_or f 7 0;
  year = get_or f 8 0;
  network = get_or f 9 0 * 256 + get_or f 10 0;
  original = time (get_or f 11 0) (get_or f 12 0);
  offset = offset_by (get_or f 13 0) (get_or f 14 0);
  pty = get_or f 15 0;
}

both : (n : ℕ) → n < 65536 → n / 256 % 256 * 256 + n % 256 ≡ n
both n h = omega arith

back : (q : Programme) → q.network < 65536 → programme_at (programme_bytes q) ≡ q
unfolding programme_at programme_bytes
back q h = rw (offset_back q.offset, both q.network h) refl

pub apart : (p q : Programme) → p.network < 65536 → q.network < 65536 → programme_bytes p ≡ programme_bytes q → p ≡ q
apart p q h k e = sym (back p h) ∙ ap programme_at e ∙ back q k

pub none : programme_bytes blank ≡ replicate 16 0
unfolding programme_bytes
none = refl
