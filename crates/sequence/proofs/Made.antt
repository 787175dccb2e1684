-- The groups taken one at a time make what they mean. A Starting or Finishing Hours group that is held is one not yet taken: what is
-- made so far and what is to come are those of the list that begins with it.
use mathlib.Core.Path.{◌≡◌, refl, sym, ap, ◌∙◌}
use mathlib.Core.Bool.{Bool, true, false, cond, ◌||◌, or-false, or_assoc}
use mathlib.Core.List.{List, [], ◌∷◌, ◌++◌, append-nil, append_assoc}
use Prim.Native.Nat.{ℕ}
use Rattle.group.specs.declared.Group.{Group}
use Rattle.group.specs.declared.Group.TheVariants as group
use Rattle.programmes.specs.declared.Programme.{Programme}
use Rattle.programmes.specs.declared.InForce.{InForce}
use Rattle.programmes.specs.Meaning.{active, nothing, in_force, lacks, is_minutes, next_in, Next, none, own, finish_by, finish_in, series_in, programmes_in}
use Rattle.sequence.specs.declared.State.{State}
use Rattle.sequence.specs.Sequence.{start, state_after, state_from, change_by, with_finish, with_series, on_last, programmes_from}

-- ── the last programme ─────────────────────────────────────────────────────────────────────────────────────────────
last_same : (f g : Programme → Programme) → ((q : Programme) → f q ≡ g q) → (qs : List Programme) → on_last f qs ≡ on_last g qs
last_same f g e [] = refl
last_same f g e (q ∷ []) = ap (λ (x : Programme). x ∷ []) (e q)
last_same f g e (q ∷ (r ∷ qs)) = ap (λ (xs : List Programme). q ∷ xs) (last_same f g e (r ∷ qs))

last_kept : (f : Programme → Programme) → ((q : Programme) → f q ≡ q) → (qs : List Programme) → on_last f qs ≡ qs
last_kept f e [] = refl
last_kept f e (q ∷ []) = ap (λ (x : Programme). x ∷ []) (e q)
last_kept f e (q ∷ (r ∷ qs)) = ap (λ (xs : List Programme). q ∷ xs) (last_kept f e (r ∷ qs))

last_twice : (f g : Programme → Programme) (qs : List Programme) → on_last g (on_last f qs) ≡ on_last (λ q. g (f q)) qs
last_twice f g [] = refl
last_twice f g (q ∷ []) = refl
last_twice f g (q ∷ (r ∷ [])) = refl
last_twice f g (q ∷ (r ∷ (s ∷ qs))) = ap (λ (xs : List Programme). q ∷ xs) (last_twice f g (r ∷ (s ∷ qs)))

pub last_more : (f : Programme → Programme) (qs : List Programme) (q : Programme) → on_last f (qs ++ (q ∷ [])) ≡ qs ++ (f q ∷ [])
last_more f [] q = refl
last_more f (r ∷ []) q = refl
last_more f (r ∷ (s ∷ qs)) q = ap (λ (xs : List Programme). r ∷ xs) (last_more f (s ∷ qs) q)

-- ── what is meant, with a group held ───────────────────────────────────────────────────────────────────────────────
-- a programme with the finish and the series that some groups give it
abbrev told : List Group → Programme → Programme
told gs q = with_series (series_in q.series gs) (with_finish (finish_in q.finish gs) q)

-- the programmes so far, the last with what belongs to it, and those to come
abbrev meant : List Programme → InForce → List Group → List Programme
meant qs f gs = on_last (told (own gs)) qs ++ programmes_in f gs

data Held : Group → Type 0 where
  no_group : Held group.Other
  starting : (r h : ℕ) (c : Bool) → Held (group.Start r h c)
  finishing : (r h : ℕ) (d : Bool) → Held (group.Finish r h d)

abbrev along : InForce → Group → Bool → State
along f h l = record { force = f; held = h; ended = false; lacking = l }

-- a group that is held alone makes nothing
alone : (qs : List Programme) (f : InForce) (h : Group) → Held h → qs ≡ meant qs f (h ∷ [])
unfolding own finish_in series_in programmes_in in_force
alone qs f h no_group = sym (append-nil _ ∙ last_kept _ (λ q. refl) qs)
alone qs f h (starting r k c) = sym (append-nil _ ∙ last_kept _ (λ q. refl) qs)
alone qs f h (finishing r k d) = sym (append-nil _ ∙ last_kept _ (λ q. refl) qs)

-- after a terminator nothing changes
ended : (f : InForce) (h : Group) (l : Bool) (qs : List Programme) (gs : List Group) →
    programmes_from (record { force = f; held = h; ended = true; lacking = l }) qs gs ≡ qs
unfolding programmes_from state_after change_by
ended f h l qs [] = refl
ended f h l qs (g ∷ gs) = ended f h l qs gs

-- what belongs to a programme does not go on with Minutes where a Starting Hours group follows
none_next : (r h : ℕ) (c : Bool) (gs : List Group) → next_in (own (group.Start r h c ∷ gs)) ≡ none
unfolding own
none_next r h c gs = go (is_minutes (next_in gs))
  where
    go : (t : Bool) → next_in (cond t [] (group.Start r h c ∷ own gs)) ≡ none
    go true = refl
    go false = refl

-- with what follows the programmes so far left as it is
before : {xs ys : List Programme} (rest : List Programme) → xs ≡ ys → xs ++ rest ≡ ys ++ rest
before rest e = ap (λ (zs : List Programme). zs ++ rest) e

-- a programme whose finish goes by the group that comes next
abbrev with_next : Programme → ℕ → Bool → List Group → Next → Programme
with_next q k d gs n = with_series (series_in q.series gs) (with_finish (finish_in (finish_by q.finish k d n) gs) q)

made_from : (gs : List Group) (f : InForce) (h : Group) → Held h → (l : Bool) (qs : List Programme) →
    programmes_from (along f h l) qs gs ≡ meant qs f (h ∷ active gs)
unfolding programmes_from active state_after change_by in_force own finish_in series_in programmes_in
made_from [] f h w l qs = alone qs f h w
made_from (group.Other ∷ gs) f h w l qs = made_from gs f h w _ qs
made_from (group.Terminator ∷ gs) f h w l qs = ended _ _ _ _ gs ∙ alone qs f h w
made_from (group.Source a b ∷ gs) f h no_group l qs = made_from gs _ group.Other no_group _ qs
made_from (group.Source a b ∷ gs) f h (starting r k c) l qs = made_from gs _ group.Other no_group _ qs
made_from (group.Source a b ∷ gs) f h (finishing r k d) l qs = made_from gs _ group.Other no_group _ qs
made_from (group.Date a b ∷ gs) f h no_group l qs = made_from gs _ group.Other no_group _ qs
made_from (group.Date a b ∷ gs) f h (starting r k c) l qs = made_from gs _ group.Other no_group _ qs
made_from (group.Date a b ∷ gs) f h (finishing r k d) l qs = made_from gs _ group.Other no_group _ qs
made_from (group.Offset a o ∷ gs) f h no_group l qs = made_from gs _ group.Other no_group _ qs
made_from (group.Offset a o ∷ gs) f h (starting r k c) l qs = made_from gs _ group.Other no_group _ qs
made_from (group.Offset a o ∷ gs) f h (finishing r k d) l qs = made_from gs _ group.Other no_group _ qs
made_from (group.Start a b e ∷ gs) f h no_group l qs = made_from gs _ _ (starting a b e) _ qs
made_from (group.Start a b e ∷ gs) f h (starting r k c) l qs = made_from gs _ _ (starting a b e) _ qs
made_from (group.Start a b e ∷ gs) f h (finishing r k d) l qs =
    made_from gs _ _ (starting a b e) _ qs
    ∙ before (programmes_in f (group.Start a b e ∷ active gs)) (last_same _ _ (λ q. ap (with_next q k d (own (group.Start a b e ∷ active gs))) (sym (none_next a b e (active gs)))) qs)
made_from (group.Minutes a b ∷ gs) f h no_group l qs = made_from gs _ group.Other no_group _ qs
made_from (group.Minutes a b ∷ gs) f h (starting r k c) l qs =
    made_from gs _ group.Other no_group _ _
    ∙ before (programmes_in f (active gs)) (last_more _ qs _)
    ∙ append_assoc qs _ _
    ∙ before _ (sym (last_kept (told []) (λ q. refl) qs))
made_from (group.Minutes a b ∷ gs) f h (finishing r k d) l qs = made_from gs _ group.Other no_group _ _ ∙ before _ (last_twice _ _ qs)
made_from (group.Finish a b e ∷ gs) f h no_group l qs = made_from gs _ _ (finishing a b e) _ qs
made_from (group.Finish a b e ∷ gs) f h (starting r k c) l qs = made_from gs _ _ (finishing a b e) _ qs
made_from (group.Finish a b e ∷ gs) f h (finishing r k d) l qs = made_from gs _ _ (finishing a b e) _ qs
made_from (group.Series a ∷ gs) f h no_group l qs = made_from gs _ group.Other no_group _ _ ∙ before _ (last_twice _ _ qs)
made_from (group.Series a ∷ gs) f h (starting r k c) l qs = made_from gs _ group.Other no_group _ _ ∙ before _ (last_twice _ _ qs)
made_from (group.Series a ∷ gs) f h (finishing r k d) l qs = made_from gs _ group.Other no_group _ _ ∙ before _ (last_twice _ _ qs)

pub made : (gs : List Group) → programmes_from start [] gs ≡ programmes_in nothing (active gs)
unfolding own programmes_in in_force
made gs = made_from gs nothing group.Other no_group false []

-- ── what is lacking ────────────────────────────────────────────────────────────────────────────────────────────────
lacking_ended : (f : InForce) (h : Group) (l : Bool) (gs : List Group) →
    (state_from (record { force = f; held = h; ended = true; lacking = l }) gs).lacking ≡ l
unfolding state_from state_after
lacking_ended f h l [] = refl
lacking_ended f h l (g ∷ gs) = lacking_ended f h l gs

lacking_from : (gs : List Group) (f : InForce) (h : Group) (l : Bool) → (state_from (along f h l) gs).lacking ≡ (l || lacks f (active gs))
unfolding state_from state_after active in_force lacks
lacking_from [] f h l = sym (or-false l)
lacking_from (group.Other ∷ gs) f h l = lacking_from gs _ _ _ ∙ ap (λ (t : Bool). t || lacks f (active gs)) (or-false l)
lacking_from (group.Terminator ∷ gs) f h l = lacking_ended _ _ _ gs
lacking_from (group.Source a b ∷ gs) f h l = lacking_from gs _ _ _ ∙ or_assoc l _ _
lacking_from (group.Date a b ∷ gs) f h l = lacking_from gs _ _ _ ∙ or_assoc l _ _
lacking_from (group.Offset a o ∷ gs) f h l = lacking_from gs _ _ _ ∙ or_assoc l _ _
lacking_from (group.Start a b e ∷ gs) f h l = lacking_from gs _ _ _ ∙ or_assoc l _ _
lacking_from (group.Minutes a b ∷ gs) f h l = lacking_from gs _ _ _ ∙ or_assoc l _ _
lacking_from (group.Finish a b e ∷ gs) f h l = lacking_from gs _ _ _ ∙ or_assoc l _ _
lacking_from (group.Series a ∷ gs) f h l = lacking_from gs _ _ _ ∙ or_assoc l _ _

pub lacking : (gs : List Group) → (state_from start gs).lacking ≡ lacks nothing (active gs)
lacking gs = lacking_from gs nothing group.Other false
