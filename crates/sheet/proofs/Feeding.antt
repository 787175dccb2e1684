-- A piece, item by item: what the bytes up to the end of an item print and leave, and the invariant of the loop over them.
use Prim.Native.Nat.{ℕ, ◌+◌, ◌-◌, ◌*◌, ◌≤◌, ◌<◌}
use mathlib.Core.Path.{◌≡◌, sym, ◌∙◌}
use mathlib.Core.List.{List, [], ◌++◌}
use native.Mathlib.Nat.{add-zero}
use native.Mathlib.Omega.{arith}
use lib.ListN.{length, drop, length-append, drop_of_length-le}
use lib.Seq.{sets, length-sets}
use Rattle.answer.proofs.Texts.{sets_append}
use Rattle.desk.specs.declared.Desk.{Desk}
use Rattle.items.specs.declared.Taken.{Taken}
use Rattle.items.specs.Pieces.{items_found, split_after, piece_items, taken_from}
use Rattle.items.proofs.Taking.{Taking, taking}
use Rattle.sheet.specs.declared.Sheet.{Sheet}
use Rattle.sheet.specs.Sheet.{lines_of, desk_left}
use Rattle.sheet.specs.Pieces.{after_piece, piece_told, longest}
use Rattle.sheet.proofs.Machine.{lines_more, desk_more}
use Rattle.sheet.proofs.Rooms.{found_short}

-- what feeding a piece comes to
pub record Outcome : Type 0 where
  pub sheet : Sheet
  pub at : ℕ
  pub out : List ℕ

abbrev pub outcome : List ℕ → List ℕ → ℕ → Sheet → Outcome
outcome piece out at s = record { sheet = after_piece piece s; at = at + length (piece_told piece s); out = sets out at (piece_told piece s) }

none : (out : List ℕ) (at : ℕ) (s : Sheet) → outcome [] out at s ≡ record { sheet = s; at = at; out = out }
unfolding after_piece piece_told split_after piece_items lines_of desk_left
none out at s = rw add-zero

-- the bytes taken up to the end of an item, and then the others
one_more : (piece out : List ℕ) (i at : ℕ) (s : Sheet) (r : Taken) → Taking piece i s.split r →
    let is = items_found r.found r.split.held in
    let text = lines_of is s.desk in
    outcome (drop i piece) out at s ≡ outcome (drop r.at piece) (sets out at text) (at + length text) (record { desk = desk_left is s.desk; split = r.split })
unfolding after_piece piece_told
one_more piece out i at s r t =
    let d = s.desk in
    let is = items_found r.found r.split.held in
    let js = piece_items (drop r.at piece) r.split in
    let x = lines_of is d in
    let y = lines_of js (desk_left is d) in
    let e : at + length (x ++ y) ≡ at + length x + length y = omega (arith, length-append x y) in
    rw (t.items, t.after, lines_more is js d, desk_more is js d, e, sets_append out at x y)

-- at place i: what is left, fed from here, comes to what the whole piece comes to; and it finds room
pub record Along (piece out₀ : List ℕ) (at₀ : ℕ) (s₀ : Sheet) (out : List ℕ) (at : ℕ) (s : Sheet) (i : ℕ) : Type 0 where
  pub same : outcome (drop i piece) out at s ≡ outcome piece out₀ at₀ s₀
  pub within : i ≤ length piece
  pub room : at + longest * (length piece - i) ≤ length out
  pub long : length out ≡ length out₀

module _ {piece out₀ : List ℕ} {at₀ : ℕ} {s₀ : Sheet} {out : List ℕ} {at : ℕ} {s : Sheet} {i : ℕ} (along : Along piece out₀ at₀ s₀ out at s i) where
  -- past the bytes that `take` has taken, with what was found among them done
  pub further : (r : Taken) → r ≡ taken_from (drop i piece) i s.split → i < length piece →
      {o : List ℕ} {d : Desk} {a : ℕ} →
      let is = items_found r.found r.split.held in
      o ≡ sets out at (lines_of is s.desk) → d ≡ desk_left is s.desk → a ≡ at + length (lines_of is s.desk) →
      Along piece out₀ at₀ s₀ o a (record { desk = d; split = r.split }) r.at
  further r e h eo ed ea =
      let is = items_found r.found r.split.held in
      let text = lines_of is s.desk in
      let t : Taking piece i s.split r = rw e (taking piece i s.split along.within) in
      let m = one_more piece out i at s r t in
      rw (eo, ed, ea) (record {
        same = sym m ∙ along.same;
        within = t.within;
        room = omega (arith, found_short r.found r.split.held s.desk, t.on h, t.within, along.room, length-sets out at text);
        long = length-sets out at text ∙ along.long;
      })

  -- and at the end
  pub ended : length piece ≤ i → record { sheet = s; at = at; out = out } ≡ outcome piece out₀ at₀ s₀
  ended h = sym (none out at s) ∙ (rw (drop_of_length-le piece h) at along.same)
