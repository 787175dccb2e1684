-- The programmes' bytes stored one after the other.
use Prim.Native.Nat.{ℕ, ◌+◌, ◌-◌, ◌*◌, ◌≤◌, ◌<◌}
use mathlib.Core.Path.{◌≡◌, refl, sym, ap, ◌∙◌}
use mathlib.Core.List.{List, [], ◌∷◌, ◌++◌, append-nil, append_assoc}
use native.Mathlib.Numerals.{add-one}
use native.Mathlib.Omega.{arith}
use lib.ListN.{length, get_or, take, drop, set, length-append, length-set, drop_of_length-le}
use lib.Seq.{sets, sets-eq, length-sets, length-take-le, take-suc, take_all}
use borrow.Rule.Slice.PartMut.{post_of}
use Rattle.std.proofs.Common.{drop-drop}
use Rattle.answer.proofs.Texts.{sets_append}
use Rattle.programmes.specs.declared.Programme.{Programme}
use Rattle.fields.specs.Fields.{programme_bytes, bytes_of}

pub sixteen : (q : Programme) → length (programme_bytes q) ≡ 16
unfolding programme_bytes
sixteen q = refl

bytes_append : (xs ys : List Programme) → bytes_of (xs ++ ys) ≡ bytes_of xs ++ bytes_of ys
unfolding bytes_of
bytes_append [] ys = refl
bytes_append (x ∷ xs) ys = rw (bytes_append xs ys) (sym (append_assoc (programme_bytes x) (bytes_of xs) (bytes_of ys)))

bytes_length : (qs : List Programme) → length (bytes_of qs) ≡ 16 * length qs
unfolding bytes_of
bytes_length [] = refl
bytes_length (q ∷ qs) = omega (arith, length-append (programme_bytes q) (bytes_of qs), sixteen q, bytes_length qs)

bytes_one : (q : Programme) → bytes_of (q ∷ []) ≡ programme_bytes q
unfolding bytes_of
bytes_one q = append-nil (programme_bytes q)

-- the first i programmes stored from place 1 on
pub record Stored (was : List ℕ) (qs : List Programme) (out : List ℕ) (i : ℕ) : Type 0 where
  pub within : i ≤ 103
  pub room : length was ≡ 1649
  pub many : length qs ≡ 103
  pub now : out ≡ sets was 1 (bytes_of (take i qs))

module _ (was : List ℕ) (qs : List Programme) where
  pub stored_none : length was ≡ 1649 → length qs ≡ 103 → Stored was qs was 0
  unfolding bytes_of
  stored_none h k = record { within = omega arith; room = h; many = k; now = refl }

  pub stored_length : {out : List ℕ} {i : ℕ} → Stored was qs out i → length out ≡ length was
  stored_length {out} {i} s = ap length s.now ∙ length-sets was 1 (bytes_of (take i qs))

  -- and one more
  one_more : (i : ℕ) (d : Programme) → i < length qs →
      sets (sets was 1 (bytes_of (take i qs))) (1 + 16 * i) (programme_bytes (get_or qs i d)) ≡ sets was 1 (bytes_of (take (i + 1) qs))
  one_more i d h =
      let few : length (take i qs) ≡ i = length-take-le i qs (omega arith) in
      let n : 1 + 16 * i ≡ 1 + length (bytes_of (take i qs)) = omega (arith, bytes_length (take i qs)) in
      let b : bytes_of (take (i + 1) qs) ≡ bytes_of (take i qs) ++ programme_bytes (get_or qs i d) =
      rw (add-one, take-suc qs i d h, bytes_append, bytes_one) refl in
      rw (n, b) (sym (sets_append was 1 (bytes_of (take i qs)) (programme_bytes (get_or qs i d))))

  pub stored_more : {out next vs : List ℕ} {i : ℕ} → Stored was qs out i → (d : Programme) → i < 103 →
      vs ≡ programme_bytes (get_or qs i d) → next ≡ sets out (1 + 16 * i) vs → Stored was qs next (i + 1)
  stored_more {out} {next} {vs} {i} s d h v e = record {
    within = omega arith;
    room = s.room;
    many = s.many;
    now = e ∙ rw (s.now, v) (one_more i d (omega (arith, s.many)));
  }

-- a list in which every place is stored anew
filled : (l vs : List ℕ) → length l ≡ length vs → sets l 0 vs ≡ vs
filled l vs e =
    sets-eq vs l 0 (omega arith) ∙ ap (λ (r : List ℕ). vs ++ r) (drop_of_length-le l {i = 0 + length vs} (omega arith)) ∙ append-nil vs

-- all of them, after a number at place 0
pub stored_all : (was : List ℕ) (n : ℕ) (qs : List Programme) {out : List ℕ} {i : ℕ} → Stored (set was 0 n) qs out i → 103 ≤ i → out ≡ n ∷ bytes_of qs
stored_all was n qs {out} {i} s h =
    let r : length was ≡ 1649 = sym (length-set was 0 n) ∙ s.room in
    let m = s.many in
    let a : take i qs ≡ qs = take_all i qs (omega arith) in
    let e : out ≡ sets was 0 (n ∷ bytes_of qs) = s.now ∙ rw a refl in
    e ∙ filled was (n ∷ bytes_of qs) (omega (arith, bytes_length qs))

-- bytes that `copy_from_slice` stored at a place
pub stored_at : (l vs new : List ℕ) (at n : ℕ) → length vs ≡ n → at + n ≤ length l → new ≡ vs →
    take at l ++ (new ++ post_of at (at + n - at) l) ≡ sets l at vs
stored_at l vs new at n e h same =
    let gone : at + n - at ≡ length vs = omega arith in
    let rest : post_of at (length vs) l ≡ drop (at + length vs) l = rw (← drop-drop (length vs) at l) refl in
    rw (gone, rest, same) (sym (append_assoc (take at l) vs (drop (at + length vs) l)) ∙ sym (sets-eq vs l at (omega arith)))
