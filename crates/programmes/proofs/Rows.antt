-- The rows of a page's packets, one packet's after the other's.
use Prim.Native.Nat.{ℕ, zero, suc, ◌≤◌, ◌<◌}
use mathlib.Core.Path.{◌≡◌, refl, sym, ap, ◌∙◌}
use mathlib.Core.Bool.{Bool, true, false, cond}
use mathlib.Core.List.{List, [], ◌∷◌, ◌++◌, append_assoc, append-nil}
use native.Mathlib.Omega.{arith}
use native.Mathlib.Decide.{dec_lt}
use Rattle.answer.specs.Answer.{refused, Row, first_of, and_then}
use Rattle.answer.proofs.Every.{Passed}
use Rattle.programmes.specs.Page.{packet_rows, rows_to}

-- ── rows before others ─────────────────────────────────────────────────────────────────────────────────────────────
-- their refusal, or what the others answer
pub first_append : {A B : Type 0} (a : A) (b : B) (rows more : List Row) →
    first_of (rows ++ more) a ≡ and_then (first_of rows b) (λ u. first_of more a)
first_append a b [] more = refl
first_append a b (row ∷ rows) more = go row.0 (first_append a b rows more)
  where
    go : (t : Bool) → first_of (rows ++ more) a ≡ and_then (first_of rows b) (λ u. first_of more a) →
        cond t (refused row.1) (first_of (rows ++ more) a) ≡ and_then (cond t (refused row.1) (first_of rows b)) (λ u. first_of more a)
    go true k = refl
    go false k = k

-- where they refuse, neither the others nor what is given counts
pub first_refused : {A : Type 0} (a b : A) (rows more : List Row) → (Passed rows → ⊥) → first_of (rows ++ more) a ≡ first_of rows b
first_refused a b [] more n = absurd (n tt)
first_refused a b (row ∷ rows) more n = go row.0 refl (λ e. first_refused a b rows more (λ t. n (e, t)))
  where
    go : (t : Bool) → row.0 ≡ t → (row.0 ≡ false → first_of (rows ++ more) a ≡ first_of rows b) →
        cond t (refused row.1) (first_of (rows ++ more) a) ≡ cond t (refused row.1) (first_of rows b)
    go true e k = refl
    go false e k = k e

passed_both : (rows more : List Row) → Passed (rows ++ more) → Passed rows × Passed more
passed_both [] more t = (tt, t)
passed_both (row ∷ rows) more t = let r = passed_both rows more t.1 in ((t.0, r.0), r.1)

-- ── a packet's rows among a page's ─────────────────────────────────────────────────────────────────────────────────
module _ (p : List ℕ) where
  rows_suc : (k : ℕ) → rows_to p (suc k) ≡ rows_to p k ++ packet_rows p k
  unfolding rows_to
  rows_suc k = refl

  -- those of the first m packets, and others
  rows_from : (m n : ℕ) → m ≤ n → (more : List Row) × (rows_to p n ≡ rows_to p m ++ more)
  rows_from m zero l = let e : m ≡ 0 = omega arith in ([], rw e (sym (append-nil (rows_to p 0))))
  rows_from m (suc n) l =
      elim (dec_lt m (suc n)) [
        | yes h ↦
            let r = rows_from m n (omega arith) in
            (r.0 ++ packet_rows p n, rows_suc n ∙ ap (λ (rows : List Row). rows ++ packet_rows p n) r.1 ∙ append_assoc (rows_to p m) r.0 (packet_rows p n))
        | no h ↦ let e : m ≡ suc n = omega arith in ([], rw e (sym (append-nil (rows_to p (suc n)))))
      ]

  -- a page whose rows pass has no packet whose rows do not
  pub passed_packet : (k n : ℕ) → k < n → Passed (rows_to p n) → Passed (packet_rows p k)
  passed_packet k n l t =
      let r = rows_from (suc k) n l in
      let first : Passed (rows_to p (suc k)) = (passed_both (rows_to p (suc k)) r.0 (rw r.1 at t)).0 in
      (passed_both (rows_to p k) (packet_rows p k) (rw rows_suc at first)).1

  -- past a packet whose rows refuse nothing counts
  pub settled : {A : Type 0} (a b : A) (k n : ℕ) → k < n → (Passed (packet_rows p k) → ⊥) → first_of (rows_to p n) a ≡ first_of (rows_to p (suc k)) b
  settled a b k n l never =
      let r = rows_from (suc k) n l in
      rw r.1 (first_refused a b (rows_to p (suc k)) r.0 (λ t. never (passed_packet k (suc k) (omega arith) t)))

  -- up to packet k: the refusal of an earlier one, or what its own rows answer
  pub upto : {A : Type 0} (a : A) (k : ℕ) → first_of (rows_to p (suc k)) a ≡ and_then (first_of {A = ℕ} (rows_to p k) 0) (λ u. first_of (packet_rows p k) a)
  upto a k = rw rows_suc (first_append a 0 (rows_to p k) (packet_rows p k))
