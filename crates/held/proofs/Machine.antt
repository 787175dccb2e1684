-- An input fed piece by piece is held as the first bytes of the whole input are.
use Prim.Native.Nat.{ℕ, zero, suc, ◌+◌, ◌-◌, min}
use mathlib.Core.Path.{◌≡◌, refl, ap, ◌∙◌}
use mathlib.Core.Bool.{true}
use mathlib.Core.List.{List, [], ◌∷◌, ◌++◌, append-nil, append_assoc}
use native.Mathlib.Omega.{arith}
use borrow.Author.Tests.{leb-true, le-leb}
use lib.ListN.{length, take, length-replicate}
use lib.Seq.{take_all, length-sets}
use Rattle.answer.specs.Lists.{joined}
use Rattle.held.specs.declared.Held.{Held}
use Rattle.held.specs.Held.{held_in, held, kept, after_piece, blank, is_full}
use Rattle.held.specs.Laws.{after_pieces}
use Rattle.held.proofs.Keeping.{held_more, held_few}

-- some bytes, cut, and then others, are cut as all of them
pub cut_again : (n : ℕ) (xs ys : List ℕ) → take n (take n xs ++ ys) ≡ take n (xs ++ ys)
cut_again zero xs ys = refl
cut_again (suc n) [] ys = refl
cut_again (suc n) (x ∷ xs) ys = ap (λ (l : List ℕ). x ∷ l) (cut_again n xs ys)

module _ (deciding : ℕ) where
  same_size : (p : List ℕ) (c : Held deciding) → length c.bytes ≡ deciding → length (after_piece deciding p c).bytes ≡ deciding
  unfolding after_piece
  same_size p c e = length-sets c.bytes (held_in deciding c.length) (kept deciding p (held_in deciding c.length)) ∙ e

  -- what is held after pieces: the first bytes of what was held and of them
  from_held : (ps : List (List ℕ)) (c : Held deciding) → length c.bytes ≡ deciding →
      held deciding (after_pieces deciding ps c) ≡ take deciding (held deciding c ++ joined ps)
  from_held [] c e = rw (append-nil (held deciding c), take_all deciding (held deciding c) (held_few deciding c)) refl
  from_held (p ∷ ps) c e =
      from_held ps (after_piece deciding p c) (same_size p c e)
      ∙ rw (held_more deciding p c e, cut_again deciding (held deciding c ++ p) (joined ps), append_assoc (held deciding c) p (joined ps)) refl

  sized : length (blank deciding).bytes ≡ deciding
  unfolding blank
  sized = length-replicate {A = ℕ} deciding 0

  nothing : held deciding (blank deciding) ≡ []
  unfolding held blank
  nothing = let none : min 0 deciding ≡ 0 = omega arith in rw none refl

  pub pieces : (ps : List (List ℕ)) → held deciding (after_pieces deciding ps (blank deciding)) ≡ take deciding (joined ps)
  pieces ps = from_held ps (blank deciding) sized ∙ rw nothing refl

  -- a piece for which there is no room
  still_held : (p : List ℕ) (c : Held deciding) → is_full deciding c ≡ true →
      (is_full deciding (after_piece deciding p c) ≡ true) × (held deciding (after_piece deciding p c) ≡ held deciding c)
  unfolding after_piece held
  still_held p c e =
      let n : held_in deciding c.length ≡ deciding = omega (arith, leb-true deciding c.length e) in
      let none : deciding - deciding ≡ 0 = omega arith in
      let all : min (deciding + 0) deciding ≡ deciding = omega arith in
      (rw n (le-leb _ _ (omega arith)), rw (n, none, all) refl)

  pub settled : (ps : List (List ℕ)) (c : Held deciding) → is_full deciding c ≡ true → held deciding (after_pieces deciding ps c) ≡ held deciding c
  settled [] c e = refl
  settled (p ∷ ps) c e = settled ps (after_piece deciding p c) (still_held p c e).0 ∙ (still_held p c e).1
