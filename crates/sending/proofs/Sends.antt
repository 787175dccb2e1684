-- Groups sent one after the other: what is there then, and how many they are.
use Rattle.std.specs.Prelude.{Option, None, Some}
use Prim.Native.Nat.{ℕ, ◌+◌, ◌≤◌}
use mathlib.Core.Path.{◌≡◌, refl, sym, ap, ◌∙◌}
use mathlib.Core.Bool.{Bool, true, false, cond}
use mathlib.Core.List.{List, [], ◌∷◌, ◌++◌, map, append_assoc, append-nil}
use native.Mathlib.Omega.{arith}
use lib.ListN.{length, set, replicate, length-append, length-map}
use Rattle.group.specs.declared.Group.{Group}
use Rattle.group.specs.declared.Group.TheVariants as group
use Rattle.group.specs.Group.{bits_of}
use Rattle.programmes.specs.declared.Finish.{Finish}
use Rattle.programmes.specs.declared.Finish.TheVariants as finish
use Rattle.programmes.specs.declared.Programme.{Programme}
use Rattle.programmes.specs.declared.InForce.{InForce}
use Rattle.answer.specs.Lists.{filled}
use Rattle.programmes.specs.Written.{same_offset, same_source, same_date, source_sent, date_sent, offset_sent, pair_sent, finish_sent, series_sent, groups_of, force_of, groups_from, groups_for}
use Rattle.answer.proofs.Filled.{filled_none, filled_more}
use Rattle.sending.specs.declared.Words.{Words}
use Rattle.sending.specs.Sending.{room, words_of, more, sent}

-- ── one after the other ────────────────────────────────────────────────────────────────────────────────────────────
sent_append : (w : Words) (xs ys : List Group) → sent w (xs ++ ys) ≡ sent (sent w xs) ys
unfolding sent
sent_append w [] ys = refl
sent_append w (x ∷ xs) ys = sent_append (more w x) xs ys

-- groups, and then others
pub then : (w : Words) (xs ys : List Group) {r s : Words} → r ≡ sent w xs → s ≡ sent r ys → s ≡ sent w (xs ++ ys)
then w xs ys p q = q ∙ ap (λ (v : Words). sent v ys) p ∙ sym (sent_append w xs ys)

sent_count : (w : Words) (gs : List Group) → (sent w gs).count ≡ w.count + length gs
unfolding sent
sent_count w [] = omega arith
sent_count w (g ∷ gs) = let r = sent_count (more w g) gs in omega arith

-- ── the words of groups ────────────────────────────────────────────────────────────────────────────────────────────
abbrev pub words_for : List Group → Words
words_for gs = record { count = length gs; bits = filled room (bits_of group.Terminator) (map bits_of gs) }

map_more : (xs : List Group) (g : Group) → map bits_of (xs ++ (g ∷ [])) ≡ map bits_of xs ++ (bits_of g ∷ [])
map_more [] g = refl
map_more (x ∷ xs) g = rw (map_more xs g)

bits_more : (n z : ℕ) (xs : List Group) (g : Group) →
    set (filled n z (map bits_of xs)) (length xs) (bits_of g) ≡ filled n z (map bits_of (xs ++ (g ∷ [])))
bits_more n z xs g = rw (map_more xs g, filled_more z n (map bits_of xs) (bits_of g), length-map xs bits_of)

one_more : (xs : List Group) (g : Group) → more (words_for xs) g ≡ words_for (xs ++ (g ∷ []))
one_more xs g =
    let n : length xs + 1 ≡ length (xs ++ (g ∷ [])) = omega (arith, length-append xs (g ∷ [])) in
    let b = bits_more room (bits_of group.Terminator) xs g in
    λ i. record { count = n i; bits = b i }

sent_for : (xs gs : List Group) → sent (words_for xs) gs ≡ words_for (xs ++ gs)
unfolding sent
sent_for xs [] = ap words_for (sym (append-nil xs))
sent_for xs (g ∷ gs) =
    ap (λ (w : Words). sent w gs) (one_more xs g) ∙ sent_for (xs ++ (g ∷ [])) gs ∙ ap words_for (append_assoc xs (g ∷ []) gs)

-- before the first group there are terminators alone
pub none_sent : (bits : List ℕ) → bits ≡ replicate room (bits_of group.Terminator) → record { count = 0; bits = bits } ≡ words_of []
unfolding words_of groups_for groups_from
none_sent bits e =
    let b = e ∙ sym (filled_none (bits_of group.Terminator) room) in
    λ i. record { count = 0; bits = b i }

pub all_sent : (qs : List Programme) → sent (words_of []) (groups_for qs) ≡ words_of qs
unfolding words_of groups_for groups_from
all_sent qs = sent_for [] (groups_for qs)

-- ── how many ───────────────────────────────────────────────────────────────────────────────────────────────────────
pub few : (w : Words) (gs : List Group) (k : ℕ) {r : Words} → r ≡ sent w gs → length gs ≤ k → r.count ≤ w.count + k
few w gs k e h = let n = sent_count w gs in let m = ap (λ (v : Words). v.count) e in omega arith

one_at_most : (t : Bool) (g : Group) → length (cond t [] (g ∷ [])) ≤ 1
one_at_most true g = omega arith
one_at_most false g = omega arith

pub source_few : (f : InForce) (q : Programme) → length (source_sent f q) ≤ 1
source_few f q = one_at_most (same_source f q) (group.Source q.country q.source)

pub date_few : (f : InForce) (q : Programme) → length (date_sent f q) ≤ 1
date_few f q = one_at_most (same_date f q) (group.Date q.month q.day)

pub offset_few : (f : InForce) (q : Programme) → length (offset_sent f q) ≤ 1
offset_few f q = one_at_most (same_offset f.offset q.offset) (group.Offset q.row q.offset)

pub finish_few : (row column : ℕ) (x : Finish) → length (finish_sent row column x) ≤ 2
finish_few row column finish.Absent = omega arith
finish_few row column (finish.Time h m) = omega arith
finish_few row column (finish.Duration h m) = omega arith

series_few : (x : Option ℕ) → length (series_sent x) ≤ 1
series_few None = omega arith
series_few (Some k) = omega arith

both_few : (xs ys : List Group) {m n : ℕ} → length xs ≤ m → length ys ≤ n → length (xs ++ ys) ≤ m + n
both_few xs ys a b = omega (arith, length-append xs ys)

-- a programme has eight groups at most
pub groups_few : (f : InForce) (q : Programme) → length (groups_of f q) ≤ 8
unfolding groups_of
groups_few f q =
    let x = finish_sent q.row q.column q.finish in
    let s = series_sent q.series in
    both_few (source_sent f q) _ (source_few f q)
    (both_few (date_sent f q) _ (date_few f q)
    (both_few (offset_sent f q) (pair_sent q ++ (x ++ s)) (offset_few f q)
    (both_few (pair_sent q) (x ++ s) {m = 2} (omega arith)
    (both_few x s (finish_few q.row q.column q.finish) (series_few q.series)))))

-- ── the programmes ─────────────────────────────────────────────────────────────────────────────────────────────────
-- a programme's groups, and then those of the others
pub turn : (w : Words) (f : InForce) (q : Programme) (qs rest : List Programme) {r : Words} {g : InForce} →
    rest ≡ q ∷ qs → r ≡ sent w (groups_of f q) → g ≡ force_of q → sent r (groups_from g qs) ≡ sent w (groups_from f rest)
unfolding groups_from
turn w f q qs rest e p h = rw (e, p, h) (sym (sent_append w (groups_of f q) (groups_from (force_of q) qs)))

pub no_more : (w : Words) (f : InForce) {qs : List Programme} → qs ≡ [] → w ≡ sent w (groups_from f qs)
unfolding groups_from sent
no_more w f e = rw e refl

pub none_counted : {w : Words} → w ≡ words_of [] → w.count ≡ 0
unfolding words_of groups_for groups_from
none_counted e = ap (λ (w : Words). w.count) e
