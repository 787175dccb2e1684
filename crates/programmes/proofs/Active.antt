-- The groups that count, of groups before terminators and of the first of some.
use Prim.Native.Nat.{ℕ, zero, suc}
use mathlib.Core.Path.{◌≡◌, refl}
use mathlib.Core.Bool.{Bool, true, false, cond, not, ◌&&◌}
use mathlib.Core.List.{List, [], ◌∷◌, ◌++◌}
use lib.ListN.{replicate}
use Rattle.std.specs.Option.{is_some}
use Rattle.answer.proofs.Cases.{both_false}
use Rattle.answer.proofs.Every.{All}
use Rattle.group.specs.declared.Group.{Group}
use Rattle.group.specs.declared.Group.TheVariants as group
use Rattle.programmes.specs.declared.InForce.{InForce}
use Rattle.programmes.specs.Meaning.{is_terminator, is_other, is_start, active, in_force, lacks}
use Rattle.programmes.proofs.Ranges.{Sendable}

-- before terminators each of them counts
pub before_end : (gs : List Group) (n : ℕ) → All Sendable gs → active (gs ++ replicate n group.Terminator) ≡ gs
unfolding active
before_end [] zero a = refl
before_end [] (suc n) a = refl
before_end (g ∷ gs) n a = rw (a.0.0, a.0.1, before_end gs n a.1)

-- where groups lack no source and no date, the first of them do not
pub lacks_less : (f : InForce) (xs ys : List Group) → lacks f (active (xs ++ ys)) ≡ false → lacks f (active xs) ≡ false
unfolding active lacks
lacks_less f [] ys e = refl
lacks_less f (g ∷ xs) ys e = go (is_terminator g) (is_other g) e (λ h k. lacks_less h xs ys k)
  where
    go : (t o : Bool) → lacks f (cond t [] (cond o (active (xs ++ ys)) (g ∷ active (xs ++ ys)))) ≡ false →
        ((h : InForce) → lacks h (active (xs ++ ys)) ≡ false → lacks h (active xs) ≡ false) → lacks f (cond t [] (cond o (active xs) (g ∷ active xs))) ≡ false
    go true o e k = refl
    go false true e k = k f e
    go false false e k =
        let b = both_false (is_start g && not (is_some f.source && is_some f.date)) (lacks (in_force f g) (active (xs ++ ys))) e in
        rw b.0 (k (in_force f g) b.1)

-- of a terminator nothing after it counts
pub nothing_after : (gs hs : List Group) → active (gs ++ (group.Terminator ∷ hs)) ≡ active gs
unfolding active
nothing_after [] hs = refl
nothing_after (g ∷ gs) hs = rw (nothing_after gs hs) refl
