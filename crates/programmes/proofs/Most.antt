-- No page has more than 103 programmes.
use Prim.Native.Nat.{ℕ, zero, suc, ◌+◌, ◌*◌, ◌≤◌, ◌<◌}
use mathlib.Core.Path.{◌≡◌, refl}
use mathlib.Core.Bool.{Bool, true, false, cond, not, ◌&&◌}
use mathlib.Core.List.{List, [], ◌∷◌, ◌++◌}
use native.Mathlib.Omega.{arith}
use native.Mathlib.Decide.{dec_lt}
use borrow.Author.Tests.{not-false, ltb-false}
use lib.ListN.{length, length-append}
use Rattle.std.specs.Option.{is_some}
use Rattle.answer.specs.Answer.{given}
use Rattle.answer.proofs.Cases.{both_true, both_false}
use Rattle.answer.proofs.Counts.{bit_le}
use Rattle.answer.proofs.Every.{Passed, accepted}
use Rattle.group.specs.declared.Group.{Group}
use Rattle.group.specs.declared.Group.TheVariants as group
use Rattle.programmes.specs.declared.Programme.{Programme}
use Rattle.programmes.specs.declared.InForce.{InForce}
use Rattle.programmes.specs.Meaning.{is_terminator, is_other, active, nothing, in_force, lacks, Next, none, minutes, next_in, is_minutes, made_by, programmes_in}
use Rattle.programmes.specs.Page.{packets_of, groups_in, groups_to, rows_to, programmes_to, reading_of, most}
use Rattle.programmes.proofs.Rows.{passed_packet}
use Rattle.programmes.proofs.Seventeen.{never_17}

-- ── the groups of a page ───────────────────────────────────────────────────────────────────────────────────────────
thirteen_each : (p : List ℕ) (k : ℕ) → length (groups_to p k) ≡ 13 * k
unfolding groups_to groups_in
thirteen_each p zero = refl
thirteen_each p (suc k) = let r = thirteen_each p k in omega (arith, length-append (groups_to p k) (groups_in p k))

active_shorter : (gs : List Group) → length (active gs) ≤ length gs
unfolding active
active_shorter [] = omega arith
active_shorter (g ∷ gs) = go (is_terminator g) (is_other g) (active_shorter gs)
  where
    go : (t o : Bool) → length (active gs) ≤ length gs → length (cond t [] (cond o (active gs) (g ∷ active gs))) ≤ suc (length gs)
    go true o r = omega arith
    go false true r = omega arith
    go false false r = omega arith

-- ── what programmes take ───────────────────────────────────────────────────────────────────────────────────────────
abbrev bit : Bool → ℕ
bit t = cond t 1 0

-- how many of source and date have yet to come
abbrev yet : InForce → ℕ
yet f = bit (not (is_some f.source)) + bit (not (is_some f.date))

at_most_one : (f : InForce) → (bit (not (is_some f.source)) ≤ 1) × (bit (not (is_some f.date)) ≤ 1)
at_most_one f = (bit_le (not (is_some f.source)), bit_le (not (is_some f.date)))

-- n programmes, where there is one, take two groups each, and m others are needed
record Room (n m size : ℕ) : Type 0 where
  holds : 0 < n → 2 * n + m ≤ size

-- a group that begins no programme
pass : {n m m' size : ℕ} → m ≤ m' + 1 → Room n m' size → Room n m (suc size)
pass l r = record { holds = λ some. let h = r.holds some in omega arith }

-- one that begins a programme with the Minutes group that comes next, where source and date have come
pair : {n m m' size : ℕ} → m ≡ 0 → m' ≡ 1 → 1 ≤ size → Room n m' size → Room (suc n) m (suc size)
pair {n} a b l r =
    record {
      holds = λ some.
          elim (dec_lt 0 n) [
            | yes h ↦ let k = r.holds h in omega arith
            | no h ↦ omega arith
          ];
    }

-- a Minutes group that comes next is counted: no programme begins with it
abbrev Takes : InForce → List Group → Type 0
Takes f gs = Room (length (programmes_in f gs)) (yet f + bit (is_minutes (next_in gs))) (length gs)

next_in_lem : (gs : List Group) → bit (is_minutes (next_in gs)) ≤ length gs
next_in_lem [] = omega arith
next_in_lem (g ∷ gs) = omega (arith, bit_le (is_minutes (next_in (g ∷ gs))))

started : (f : InForce) (row hour : ℕ) (controlled : Bool) (gs : List Group) (next : Next) → yet f ≡ 0 → bit (is_minutes next) ≤ length gs →
    Room (length (programmes_in f gs)) (yet f + bit (is_minutes next)) (length gs) →
    Room (length (made_by f row hour controlled gs next ++ programmes_in f gs)) (yet f + 0) (suc (length gs))
started f row hour controlled gs none y l r = pass (omega arith) r
started f row hour controlled gs (minutes c m) y l r = pair (omega arith) (omega arith) l r

takes : (f : InForce) (gs : List Group) → lacks f gs ≡ false → Takes f gs
unfolding in_force lacks programmes_in
takes f [] e = record { holds = λ some. absurd (omega arith) }
takes f (group.Other ∷ gs) e = pass (omega (arith, at_most_one f)) (takes (in_force f group.Other) gs e)
takes f (group.Source c s ∷ gs) e = pass (omega (arith, at_most_one f)) (takes (in_force f (group.Source c s)) gs e)
takes f (group.Date m d ∷ gs) e = pass (omega (arith, at_most_one f)) (takes (in_force f (group.Date m d)) gs e)
takes f (group.Offset r o ∷ gs) e = pass (omega (arith, at_most_one f)) (takes (in_force f (group.Offset r o)) gs e)
takes f (group.Start r h c ∷ gs) e =
    let none-lacks = both_false (not (is_some f.source && is_some f.date)) (lacks f gs) e in
    let come = both_true (is_some f.source) (is_some f.date) (not-false (is_some f.source && is_some f.date) none-lacks.0) in
    started f r h c gs (next_in gs) (rw (come.0, come.1)) (next_in_lem gs) (takes f gs none-lacks.1)
takes f (group.Minutes c m ∷ gs) e = pass (omega (arith, at_most_one f)) (takes (in_force f (group.Minutes c m)) gs e)
takes f (group.Finish r h d ∷ gs) e = pass (omega (arith, at_most_one f)) (takes (in_force f (group.Finish r h d)) gs e)
takes f (group.Series k ∷ gs) e = pass (omega (arith, at_most_one f)) (takes (in_force f (group.Series k)) gs e)
takes f (group.Terminator ∷ gs) e = pass (omega (arith, at_most_one f)) (takes (in_force f group.Terminator) gs e)

-- ── a page that is read ────────────────────────────────────────────────────────────────────────────────────────────
at_most : {n m size : ℕ} → Room n m size → 2 ≤ m → size ≤ 208 → n ≤ most
at_most {n} r a b =
    elim (dec_lt 0 n) [
      | yes h ↦ let k = r.holds h in omega arith
      | no h ↦ omega arith
    ]

within : (p : List ℕ) (n : ℕ) → Passed (rows_to p n) → length (programmes_to p n) ≤ most
unfolding programmes_to groups_to active programmes_in
within p zero t = omega arith
within p (suc k) t =
    elim (dec_lt k 16) [
      | yes l ↦
          let gs = groups_to p (suc k) in
          let lacking : lacks nothing (active gs) ≡ false = (passed_packet p k (suc k) (omega arith) t).1.1.1.0 in
          at_most (takes nothing (active gs) lacking) (omega arith) (omega (arith, active_shorter gs, thirteen_each p (suc k)))
      | no l ↦ absurd (never_17 p (passed_packet p 16 (suc k) (omega arith) t))
    ]

pub at_most_103 : (p : List ℕ) (qs : List Programme) → reading_of p ≡ given qs → length qs ≤ most
unfolding reading_of
at_most_103 p qs e =
    let n = packets_of p in
    let a = accepted (programmes_to p n) qs (rows_to p n) e in
    rw (← a.1) (within p n a.0)

pub whole : (p : List ℕ) (qs : List Programme) → reading_of p ≡ given qs → (packets_of p ≤ 16) × (length p ≡ 42 * packets_of p)
unfolding reading_of
whole p qs e = full (packets_of p) refl (accepted (programmes_to p (packets_of p)) qs (rows_to p (packets_of p)) e).0
  where
    full : (n : ℕ) → packets_of p ≡ n → Passed (rows_to p n) → (packets_of p ≤ 16) × (length p ≡ 42 * packets_of p)
    full zero z t = (omega arith, omega arith)
    full (suc k) z t =
        let l : 42 * k + 42 ≤ length p = ltb-false (length p) (42 * k + 42) (passed_packet p k (suc k) (omega arith) t).0 in (
          elim (dec_lt k 16) [
            | yes h ↦ omega arith
            | no h ↦ absurd (never_17 p (passed_packet p 16 (suc k) (omega arith) t))
          ],
          omega arith,
        )
