-- The bytes of a piece that are kept, and what is held after it.
use Prim.Native.Nat.{ℕ, ◌+◌, ◌-◌, ◌≤◌, min}
use mathlib.Core.Path.{◌≡◌, refl, sym, ap, ◌∙◌}
use mathlib.Core.List.{List, ◌++◌, append_assoc}
use native.Mathlib.Omega.{arith}
use native.Mathlib.Decide.{dec_lt}
use borrow.Author.Tests.{le-leb, lt-leb, eq-eqb, ne_eqb}
use borrow.Rule.Slice.PartMut.{post_of}
use mathlib.Core.Bool.{true, false}
use lib.Dec.{eqb, leb}
use lib.ListN.{length, take, drop, length-take, length-append}
use Rattle.std.proofs.Common.{drop-drop}
use lib.Seq.{sets, sets-eq, take_all, take_at, take-append-add, length-take-le}
use Rattle.held.specs.declared.Held.{Held}
use Rattle.held.specs.Held.{held_in, held, kept, after_piece}

-- bytes that `copy_from_slice` stored at a place
pub stored : (l vs new : List ℕ) (at n : ℕ) → length vs ≡ n → at + n ≤ length l → new ≡ vs → take at l ++ (new ++ post_of at (at + n - at) l) ≡ sets l at vs
stored l vs new at n e h same =
    let gone : at + n - at ≡ length vs = omega arith in
    let rest : post_of at (length vs) l ≡ drop (at + length vs) l = rw (← drop-drop (length vs) at l) refl in
    rw (gone, rest, same) (sym (append_assoc (take at l) vs (drop (at + length vs) l)) ∙ sym (sets-eq vs l at (omega arith)))

module _ (deciding : ℕ) where
  take_least : (k : ℕ) (p : List ℕ) → take (min k (length p)) p ≡ take k p
  take_least k p =
      elim (dec_lt k (length p)) [
        | yes l ↦ let e : min k (length p) ≡ k = omega arith in rw e
        | no l ↦ take_all (min k (length p)) p (omega arith) ∙ sym (take_all k p (omega arith))
      ]

  -- all that find room are stored behind those held
  pub all_kept : (p : List ℕ) (c : Held deciding) (start more : ℕ) (new : List ℕ) → length c.bytes ≡ deciding → start ≡ held_in deciding c.length →
      more ≡ min (deciding - start) (length p) → new ≡ take more p →
      record { length = start + more; bytes = take start c.bytes ++ (new ++ post_of start (start + more - start) c.bytes) } ≡ after_piece deciding p c
  unfolding after_piece
  all_kept p c start more new s e m b =
      let l : more ≡ length (kept deciding p start) = m ∙ sym (length-take (deciding - start) p) in
      let k : new ≡ kept deciding p start = b ∙ (rw m (take_least (deciding - start) p)) in
      let put : take start c.bytes ++ (new ++ post_of start (start + more - start) c.bytes) ≡ sets c.bytes start (kept deciding p start) =
      stored c.bytes (kept deciding p start) new start more (sym l) (omega arith) k in
      rw (put, ← e, l) refl

  -- what is held after a piece: the first bytes of what was held and the piece
  pub held_more : (p : List ℕ) (c : Held deciding) → length c.bytes ≡ deciding → held deciding (after_piece deciding p c) ≡ take deciding (held deciding c ++ p)
  unfolding held after_piece
  held_more p c e =
      let n = held_in deciding c.length in
      let more = kept deciding p n in
      let l : length (take n c.bytes) ≡ n = length-take-le n c.bytes (omega arith) in
      let few : n + length more ≤ deciding = omega (arith, length-take (deciding - n) p) in
      let sized : length (take n c.bytes ++ more) ≡ n + length more = rw (length-append, l) refl in
      let whole : held_in deciding (n + length more) ≡ n + length more = omega arith in
      let room : deciding ≡ length (take n c.bytes) + (deciding - n) = omega arith in
      rw (whole, sets-eq more c.bytes n (omega arith), take_at (take n c.bytes ++ more) (drop (n + length more) c.bytes) (n + length more) sized)
      (sym (ap (λ (k : ℕ). take k (take n c.bytes ++ p)) room ∙ take-append-add (take n c.bytes) p (deciding - n)))

  pub held_few : (c : Held deciding) → length (held deciding c) ≤ deciding
  unfolding held
  held_few c = omega (arith, length-take (held_in deciding c.length) c.bytes)

  pub length_more : (p : List ℕ) (c : Held deciding) → (after_piece deciding p c).length ≡ min (c.length + length p) deciding
  unfolding after_piece
  length_more p c = omega (arith, length-take (deciding - held_in deciding c.length) p)

-- no byte more decides anything, where none is left
pub none_left : (deciding n : ℕ) → leb deciding n ≡ eqb (deciding - n) 0
none_left deciding n =
    elim (dec_lt n deciding) [
      | yes l ↦
          let short : leb deciding n ≡ false = lt-leb _ _ l in
          let some : eqb (deciding - n) 0 ≡ false = ne_eqb _ _ (λ e. omega arith) in
          short ∙ sym some
      | no l ↦
          let full : leb deciding n ≡ true = le-leb _ _ (omega arith) in
          let none : eqb (deciding - n) 0 ≡ true = eq-eqb _ _ (omega arith) in
          full ∙ sym none
    ]
