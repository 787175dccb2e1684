-- What the writer answers, and the buffer after it, by the first row that applies.
use Prim.Native.Nat.{ℕ, ◌+◌, ◌*◌, ◌/◌, ◌≤◌}
use mathlib.Core.Path.{◌≡◌, ap}
use mathlib.Core.Bool.{Bool, true, false, ◌||◌, or_assoc}
use mathlib.Core.List.{List}
use borrow.Author.Tests.{ltb-false}
use lib.Dec.{ltb}
use lib.ListN.{length}
use lib.Seq.{sets}
use Rattle.answer.specs.Answer.{Answer, refused, given, after, and_then}
use Rattle.answer.specs.Lists.{some}
use Rattle.answer.proofs.Cases.{both_false}
use Rattle.label.proofs.Rows.{Passed, test_at, number_at, refused_at, given_past}
use Rattle.programmes.specs.declared.Programme.{Programme}
use Rattle.programmes.specs.Written.{groups_for, packets_for, bytes_to, outside, unfit, writer_rows, Wrote, writing_of}

abbrev pub told : Answer Wrote → Answer ℕ
told a = and_then a (λ w. given w.packets)

abbrev pub left : List ℕ → Answer Wrote → List ℕ
left p a = after p (and_then a (λ w. given w.bytes))

-- the row of what does not fit, by its three tests
pub unfit_by : (m : ℕ) (qs : List Programme) {t : Bool} {n : ℕ} → t ≡ some outside qs → n ≡ length (groups_for qs) →
    ltb 7 m || t || ltb 16 (n / 13 + 1) ≡ unfit m qs
unfolding unfit
unfit_by m qs e h = rw (e, h) (or_assoc (ltb 7 m) (some outside qs) (ltb 16 (packets_for (groups_for qs))))

-- where none of them applies
pub fit_by : (m : ℕ) (t : Bool) (n : ℕ) → ltb 7 m || t || ltb 16 n ≡ false → (m ≤ 7) × (t ≡ false) × (n ≤ 16)
fit_by m t n e =
    let last = both_false (ltb 7 m || t) (ltb 16 n) e in
    let first = both_false (ltb 7 m) t last.0 in
    (ltb-false 7 m first.0, first.1, ltb-false 16 n last.1)

module _ (m : ℕ) (qs : List Programme) (p : List ℕ) where
  abbrev wrote : Wrote
  wrote = let gs = groups_for qs in record { packets = packets_for gs; bytes = sets p 0 (bytes_to m gs (42 * packets_for gs)) }

  -- a refusal leaves the buffer as it was
  pub refusal : (k : ℕ) → Passed k (writer_rows m qs p) → test_at k (writer_rows m qs p) ≡ true →
      (refused (number_at k (writer_rows m qs p)) ≡ told (writing_of m qs p)) × (p ≡ left p (writing_of m qs p))
  unfolding writing_of
  refusal k h e = let r = refused_at k (writer_rows m qs p) wrote h e in (ap told r, ap (left p) r)

  pub acceptance : Passed 2 (writer_rows m qs p) →
      (given wrote.packets ≡ told (writing_of m qs p)) × (wrote.bytes ≡ left p (writing_of m qs p))
  unfolding writing_of
  acceptance h = let r = given_past (writer_rows m qs p) wrote h in (ap told r, ap (left p) r)
