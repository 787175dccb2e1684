-- What is collected, after a piece more.
use Rattle.std.proofs.Common.{ℕ, Option, ◌≡◌, List, [], ◌∷◌, ◌++◌, refl, sym, ap, ◌∙◌, subst, append_assoc, append-nil}
use Rattle.std.proofs.KnownBytes.{Consumes-trans}
use Rattle.std.specs.Io.KnownBytes.{Consumes}
use Rattle.answer.specs.Lists.{joined}
use Rattle.held.specs.Held.{after_all, Collects}

joined_more : (ps : List (List ℕ)) (p : List ℕ) → joined (ps ++ (p ∷ [])) ≡ joined ps ++ p
joined_more [] p = append-nil p
joined_more (q ∷ ps) p = ap (λ (l : List ℕ). q ++ l) (joined_more ps p) ∙ sym (append_assoc q (joined ps) p)

module _ {A : Type 0} (after : List ℕ → A → A) where
  after_more : (ps : List (List ℕ)) (p : List ℕ) (a : A) → after_all after (ps ++ (p ∷ [])) a ≡ after p (after_all after ps a)
  after_more [] p a = refl
  after_more (q ∷ ps) p a = after_more ps p (after q a)

  pub collects_more : (old mid new : Option (List ℕ)) (nothing c d : A) (p : List ℕ) → Collects after old mid nothing c → Consumes mid new p →
      d ≡ after p c → Collects after old new nothing d
  collects_more old mid new nothing c d p (ps, e, w) took f = (
    ps ++ (p ∷ []),
    f ∙ ap (after p) e ∙ sym (after_more ps p nothing),
    subst (Consumes old new) (sym (joined_more ps p)) (Consumes-trans old mid new (joined ps) p w took),
  )
