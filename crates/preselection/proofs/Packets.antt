-- The packets of a page one after the other: what the loop over them keeps, where a packet is refused, and what is read at the end.
use Prim.Native.Nat.{ℕ, suc, ◌+◌, ◌*◌, ◌≤◌, ◌<◌}
use mathlib.Core.Path.{◌≡◌, refl, sym, ap, ap₂, ◌∙◌}
use mathlib.Core.Bool.{Bool, true, false, not, ◌||◌}
use mathlib.Core.List.{List, [], ◌∷◌, ◌++◌}
use native.Mathlib.Omega.{arith}
use native.Mathlib.Decide.{dec_lt}
use lib.ListN.{length}
use Rattle.answer.specs.Answer.{Answer, refused, given, Row, first_of, and_then}
use Rattle.answer.specs.Lists.{some}
use Rattle.answer.proofs.Every.{Passed, passed}
use Rattle.label.specs.Packet.{damaged}
use Rattle.programmes.specs.declared.Programme.{Programme}
use Rattle.programmes.specs.declared.Page.{Page}
use Rattle.programmes.specs.Meaning.{active, nothing, lacks}
use Rattle.programmes.specs.Page.{packets_of, nibble_at, triplet_at, addressed, thirteen, damaged_triplet, groups_in, groups_to, is_short, is_damaged, is_addressed, packet_rows, rows_to, programmes_to, reading_of, page_of}
use Rattle.programmes.proofs.Damage.{refused_at}
use Rattle.programmes.proofs.Seventeen.{never_17}
use Rattle.sequence.specs.declared.State.{State}
use Rattle.sequence.specs.Sequence.{start, state_from, programmes_from}
use Rattle.sequence.proofs.Along.{state_append, programmes_append}
use Rattle.sequence.proofs.Made.{made, lacking}

-- the page that is given, of the programmes
abbrev paged : Answer (List Programme) → Answer Page
paged a = and_then a (λ qs. given (page_of qs))

-- ── the rows ───────────────────────────────────────────────────────────────────────────────────────────────────────
passed_append : (rows more : List Row) → Passed rows → Passed more → Passed (rows ++ more)
passed_append [] more t u = u
passed_append (row ∷ rows) more t u = (t.0, passed_append rows more t.1 u)

module _ (p : List ℕ) where
  -- a page whose packets before k pass is refused as packet k is
  stopped : (k n : ℕ) → 42 * k < length p → Passed (rows_to p k) → first_of {A = List Programme} (packet_rows p k) [] ≡ refused n → reading_of p ≡ refused n
  stopped k n h t e =
      refused_at p k n (omega arith) e ∙ ap (λ (x : Answer ℕ). and_then {B = List Programme} x (λ u. refused n)) (passed 0 (rows_to p k) t)

  -- ── where a packet is refused ──────────────────────────────────────────────────────────────────────────────────────
  module _ (k : ℕ) (h : 42 * k < length p) (t : Passed (rows_to p k)) where
    pub short : is_short p k ≡ true → reading_of p ≡ refused 20
    short a = stopped k 20 h t (rw a refl)

    pub harmed : is_short p k ≡ false → is_damaged p k ≡ true → reading_of p ≡ refused 21
    harmed a b = stopped k 21 h t (rw (a, b) refl)

    pub other : is_short p k ≡ false → is_damaged p k ≡ false → is_addressed p k ≡ false → reading_of p ≡ refused 18
    other a b c = stopped k 18 h t (rw (a, b, c) refl)

    pub without : is_short p k ≡ false → is_damaged p k ≡ false → is_addressed p k ≡ true → lacks nothing (active (groups_to p (suc k))) ≡ true → reading_of p ≡ refused 22
    without a b c d = stopped k 22 h t (rw (a, b, c, d) refl)

  pub damaged_by : (k : ℕ) {a b : Bool} → a ≡ some (λ i. damaged (nibble_at p k i)) addressed → b ≡ some (λ j. damaged_triplet (triplet_at p k j)) thirteen →
      (a || b) ≡ is_damaged p k
  unfolding is_damaged
  damaged_by k e f = ap₂ (λ (x y : Bool). x || y) e f

  -- ── what the loop keeps ────────────────────────────────────────────────────────────────────────────────────────────
  pub record Sofar (s : State) (page : Page) (k : ℕ) : Type 0 where
    pub whole : 42 * k ≤ length p
    pub sixteen : k ≤ 16
    pub passing : Passed (rows_to p k)
    pub state : s ≡ state_from start (groups_to p k)
    pub few : page.count ≤ 13 * k
    pub made_of : page ≡ page_of (programmes_from start [] (groups_to p k))

  pub sofar_none : (page : Page) → page ≡ page_of [] → Sofar start page 0
  unfolding rows_to groups_to state_from programmes_from page_of
  sofar_none page e = record {
    whole = omega arith;
    sixteen = omega arith;
    passing = tt;
    state = refl;
    few = let c = ap (λ (x : Page). x.count) e in omega arith;
    made_of = e;
  }

  -- the seventeenth never passes
  next_16 : (k : ℕ) → k ≤ 16 → Passed (packet_rows p k) → suc k ≤ 16
  next_16 k l t =
      elim (dec_lt k 16) [
        | yes h ↦ omega arith
        | no h ↦ let e : k ≡ 16 = omega arith in absurd (never_17 p (rw e at t))
      ]

  module _ {s s' : State} {page : Page} {k : ℕ} (m : Sofar s page k) (es : s' ≡ state_from s (groups_in p k)) where
    state_next : s' ≡ state_from start (groups_to p (suc k))
    unfolding groups_to
    state_next = es ∙ ap (λ (x : State). state_from x (groups_in p k)) m.state ∙ sym (state_append start (groups_to p k) (groups_in p k))

    -- whether a group lacks what it needs, up to this packet
    pub lacking_next : s'.lacking ≡ lacks nothing (active (groups_to p (suc k)))
    lacking_next = ap (λ (x : State). x.lacking) state_next ∙ lacking (groups_to p (suc k))

    pub sofar_more : {page' : Page} → 42 * k + 42 ≤ length p → is_short p k ≡ false → is_damaged p k ≡ false → is_addressed p k ≡ true → s'.lacking ≡ false →
        page'.count ≤ page.count + 13 → ((qs : List Programme) → page ≡ page_of qs → page' ≡ page_of (programmes_from s qs (groups_in p k))) →
        Sofar s' page' (k + 1)
    unfolding rows_to groups_to
    sofar_more {page'} l a b c d few made_by =
        let e : k + 1 ≡ suc k = omega arith in
        let r : Passed (packet_rows p k) = (a, (b, (ap not c, (sym lacking_next ∙ d, tt)))) in
        rw e record {
          whole = omega arith;
          sixteen = next_16 k m.sixteen r;
          passing = passed_append (rows_to p k) (packet_rows p k) m.passing r;
          state = state_next;
          few = let z = m.few in omega arith;
          made_of =
              made_by (programmes_from start [] (groups_to p k)) m.made_of
              ∙ ap (λ (x : State). page_of (programmes_from x (programmes_from start [] (groups_to p k)) (groups_in p k))) m.state
              ∙ ap page_of (sym (programmes_append start [] (groups_to p k) (groups_in p k)));
        }

  -- ── at the end ─────────────────────────────────────────────────────────────────────────────────────────────────────
  pub read_all : {s : State} {page : Page} {k : ℕ} → Sofar s page k → length p ≤ 42 * k →
      given page ≡ and_then (reading_of p) (λ qs. given (page_of qs))
  unfolding reading_of programmes_to
  read_all {s} {page} {k} m h =
      let w = m.whole in
      let e : packets_of p ≡ k = omega arith in
      let g : reading_of p ≡ given (programmes_to p k) = rw e (passed (programmes_to p k) (rows_to p k) m.passing) in
      ap given (m.made_of ∙ ap page_of (made (groups_to p k))) ∙ sym (ap paged g)

  -- and where it is refused
  pub refused_as : {n : ℕ} → reading_of p ≡ refused n → refused n ≡ and_then (reading_of p) (λ qs. given (page_of qs))
  refused_as e = sym (ap paged e)
