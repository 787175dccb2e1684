-- The one statement: the list by computing the definitions, example by example, and the twelfth by its own law.
use Prim.Native.Nat.{ℕ}
use mathlib.Core.Path.{◌≡◌, refl, ap, ap₂}
use mathlib.Core.List.{List, [], ◌∷◌, map}
use native.Mathlib.Omega.{arith}
use Rattle.rule.specs.Rule.{is_live}
use Rattle.desk.specs.Moments.{walk, pass_to}
use Rattle.marked.specs.Marked.{Example, stands_after, live_after, says_after, examples, Marked}
use Rattle.marked.proofs.Rules.{rules}
use Rattle.marked.proofs.Standing.{standing, lapsed, renews, renews_not, kept, kept_until}
use Rattle.marked.proofs.Terminated.{stops, runs}
use Rattle.marked.proofs.Prepared.{prepares, prepared_to_60}
use Rattle.marked.proofs.Twelve.{twelve, twelve_sheet}
use Rattle.marked.proofs.Close.{at_close}

-- what each example gives is what the paper says
abbrev Right : List Example → Type 0
Right [] = Unit {0}
Right (e ∷ es) = (e.gives ≡ e.paper) × Right es

listed : (es : List Example) → Right es → map (λ e. e.gives) es ≡ map (λ e. e.paper) es
listed [] r = refl
listed (e ∷ es) r = ap₂ (λ (ns : List ℕ) (rest : List (List ℕ)). ns ∷ rest) r.0 (listed es r.1)

right : Right examples
unfolding examples stands_after live_after says_after rules walk pass_to
right = (refl, (refl, (refl, (refl, (refl, (refl, (refl, (refl, (refl, (refl, (refl, (twelve, (twelve_sheet, (refl, (at_close, (refl, tt))))))))))))))))

pub marked : Marked
marked = record {
  listed = listed examples right;
  eight = λ t l h. (standing t _ l h (omega arith), lapsed t _ l h (omega arith));
  nine = λ t slot p b d later h none opened. runs t slot p b d h none opened later;
  nine_mi_1 = λ t slot p b d h none. stops t slot p b _ d h refl none;
  ten =
      λ t l c h code. (
        renews t _ l c h code (omega arith),
        λ s k. kept t _ l c h code s (omega arith) (omega arith),
        kept_until t _ l c h code _ (omega arith) (omega arith),
        renews_not t _ l c h code (omega arith),
      );
  eleven = λ s v ls b c n h l. let e = prepares s ls b h l n in (e, ap is_live e);
  eleven_to_60 = prepared_to_60;
}
