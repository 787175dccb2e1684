-- Characters without effect change nothing of a page's answer.
use Prim.Native.Nat.{ℕ, zero, suc, ◌*◌}
use mathlib.Core.Path.{◌≡◌, refl, ◌∙◌}
use mathlib.Core.Bool.{false}
use mathlib.Core.List.{List, [], ◌∷◌}
use lib.Dec.{ltb}
use lib.ListN.{take, drop}
use Rattle.answer.specs.Answer.{Answer}
use Rattle.codes.specs.Codes.{SameButText}
use Rattle.rows.proofs.Texts.{either, same_length, same_given}
use Rattle.preview.specs.declared.Programme.{Programme}
use Rattle.preview.specs.Page.{row_of, too_high, Answers}
use Rattle.preview.specs.Taken.{given_to, answer_of}
use Rattle.preview.proofs.Readings.{answer_is, answered}

same_take : (n : ℕ) (cs ds : List ℕ) → SameButText cs ds → SameButText (take n cs) (take n ds)
unfolding SameButText
same_take zero cs ds w = tt
same_take (suc n) [] [] w = tt
same_take (suc n) [] (d ∷ ds) w = absurd w
same_take (suc n) (c ∷ cs) [] w = absurd w
same_take (suc n) (c ∷ cs) (d ∷ ds) w = (w.0, same_take n cs ds w.1)

same_drop : (n : ℕ) (cs ds : List ℕ) → SameButText cs ds → SameButText (drop n cs) (drop n ds)
unfolding SameButText
same_drop zero cs ds w = w
same_drop (suc n) [] [] w = tt
same_drop (suc n) [] (d ∷ ds) w = absurd w
same_drop (suc n) (c ∷ cs) [] w = absurd w
same_drop (suc n) (c ∷ cs) (d ∷ ds) w = same_drop n cs ds w.1

same_high : (cs ds : List ℕ) → SameButText cs ds → too_high cs ≡ too_high ds
unfolding SameButText too_high
same_high [] [] w = refl
same_high [] (d ∷ ds) w = absurd w
same_high (c ∷ cs) [] w = absurd w
same_high (c ∷ cs) (d ∷ ds) w = rw (either (λ x. ltb 127 x) false c d (λ x p. p.low) w.0, same_high cs ds w.1) refl

same_rows : (n : ℕ) (p q : List ℕ) → SameButText p q → given_to p n ≡ given_to q n
unfolding given_to
same_rows zero p q w = refl
same_rows (suc r) p q w =
    rw (same_rows r p q w, same_given r (row_of p r) (row_of q r) (same_take 40 (drop (40 * r) p) (drop (40 * r) q) (same_drop (40 * r) p q w))) refl

same_answer : (p q : List ℕ) → SameButText p q → answer_of p ≡ answer_of q
unfolding answer_of
same_answer p q w = rw (same_length p q w, same_high p q w, same_rows 24 p q w) refl

pub text_changes_nothing : (p q : List ℕ) (a : Answer (List Programme)) → SameButText p q → Answers p a → Answers q a
text_changes_nothing p q a w v = rw (answer_is p a v ∙ same_answer p q w) (answered q)
