-- A packet's triplets taken one at a time: what the loop over them keeps.
use Prim.Native.Nat.{ℕ, ◌+◌, ◌-◌, ◌≤◌, ◌<◌}
use mathlib.Core.Path.{◌≡◌, refl, sym, ap, ap₂, ◌∙◌}
use mathlib.Core.Bool.{Bool, false, ◌||◌}
use mathlib.Core.List.{List, [], ◌∷◌, ◌++◌, map, map-append}
use native.Mathlib.Omega.{arith}
use Rattle.answer.specs.Lists.{some}
use Rattle.label.proofs.Puts.{run, run_more, some_run}
use Rattle.triplet.specs.declared.Triplet.{Triplet}
use Rattle.group.specs.declared.Group.{Group}
use Rattle.group.specs.Group.{group_of}
use Rattle.programmes.specs.declared.Programme.{Programme}
use Rattle.programmes.specs.declared.Page.{Page}
use Rattle.programmes.specs.Page.{triplet_at, damaged_triplet, bits_in, page_of}
use Rattle.sequence.specs.declared.Change.{Change}
use Rattle.sequence.specs.declared.State.{State}
use Rattle.sequence.specs.Sequence.{state_after, state_from, change_by, changed, programmes_from}
use Rattle.sequence.proofs.Along.{state_more, programmes_more}

module _ (p : List ℕ) (k : ℕ) where
  abbrev group_at : ℕ → Group
  group_at j = group_of (bits_in (triplet_at p k j))

  -- the groups of the first j triplets
  abbrev pub groups_by : ℕ → List Group
  groups_by j = map group_at (run 0 (j - 0))

  groups_more : (j : ℕ) → groups_by (j + 1) ≡ groups_by j ++ (group_at j ∷ [])
  groups_more j = ap (map group_at) (run_more 0 j (omega arith)) ∙ map-append group_at (run 0 (j - 0)) (j ∷ [])

  pub record Along (s₀ : State) (page₀ : Page) (damaged : Bool) (s : State) (page : Page) (j : ℕ) : Type 0 where
    pub within : j ≤ 13
    pub harmed : damaged ≡ some (λ i. damaged_triplet (triplet_at p k i)) (run 0 (j - 0))
    pub state : s ≡ state_from s₀ (groups_by j)
    pub few : page.count ≤ page₀.count + j
    pub made : (qs : List Programme) → page₀ ≡ page_of qs → page ≡ page_of (programmes_from s₀ qs (groups_by j))

  pub along_none : (s : State) (page : Page) → Along s page false s page 0
  unfolding state_from programmes_from
  along_none s page = record { within = omega arith; harmed = refl; state = refl; few = omega arith; made = λ qs e. e }

  pub along_more : {s₀ : State} {page₀ : Page} {d b : Bool} {s s' : State} {page page' : Page} {j : ℕ} {t : Triplet} {v : ℕ} {g : Group} {c : Change} →
      Along s₀ page₀ d s page j → j < 13 → t ≡ triplet_at p k j → b ≡ damaged_triplet t → v ≡ bits_in t → g ≡ group_of v → c ≡ change_by s g →
      page'.count ≤ page.count + 1 → ((qs : List Programme) → page ≡ page_of qs → page' ≡ page_of (changed c qs)) → s' ≡ state_after s g →
      Along s₀ page₀ (d || b) s' page' (j + 1)
  along_more {s₀} {page₀} {d} {b} {s} {s'} {page} {page'} {j} a l et eb ev eg ec few made es =
      let g : _ ≡ group_at j = eg ∙ ap group_of (ev ∙ ap bits_in et) in
      record {
        within = omega arith;
        harmed = some_run (λ i. damaged_triplet (triplet_at p k i)) 0 j (omega arith) a.harmed (eb ∙ ap damaged_triplet et);
        state = es ∙ ap₂ state_after a.state g ∙ sym (state_more s₀ (groups_by j) (group_at j)) ∙ ap (state_from s₀) (sym (groups_more j));
        few = let r = a.few in omega arith;
        made =
            λ qs e.
            made (programmes_from s₀ qs (groups_by j)) (a.made qs e)
            ∙ ap (λ (x : Change). page_of (changed x (programmes_from s₀ qs (groups_by j)))) (ec ∙ ap₂ change_by a.state g)
            ∙ ap page_of (sym (programmes_more s₀ qs (groups_by j) (group_at j)) ∙ ap (programmes_from s₀ qs) (sym (groups_more j)));
      }
