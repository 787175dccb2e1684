-- How a copy can go on at a moment, by cases, and what they keep.
use Prim.Native.Nat.{ℕ, ◌-◌, ◌≤◌, ◌<◌}
use mathlib.Core.Path.{◌≡◌, refl, sym, ◌∙◌}
use mathlib.Core.Bool.{Bool, true, false, cond, true≢false}
use mathlib.Core.List.{List}
use native.Mathlib.Omega.{arith}
use borrow.Author.Tests.{ltb-true, ltb-false}
use lib.Dec.{ltb}
use lib.ListN.{get_or}
use Rattle.answer.proofs.Cases.{by_test}
use Rattle.places.specs.Places.{no_label}
use Rattle.matching.specs.Matching.{open_at, matches, sight_of}
use Rattle.clocked.specs.Clocked.{clocked}
use Rattle.clocked.proofs.Parts.{clocked_parts, clocked_shut}
use Rattle.rule.specs.Rule.{recording_at, clock_or, not_live, prepare_for, from_prepared, moves_or, from_recording, run_for, from_running_on, goes_on, held, next_copy, is_live}
use Rattle.places.specs.declared.Stamped.{Stamped}
use Rattle.matching.specs.declared.Booking.{Booking}
use Rattle.rule.specs.declared.Copy.{Copy}
use Rattle.rule.specs.declared.Copy.TheVariants.{Free, Waiting, Prepared, Recording, RunningOn, ByTheClock}
use Rattle.matching.specs.declared.Sight.{Sight}
use Rattle.matching.specs.declared.Sight.TheVariants.{Nothing, Prepare, Start}
use Rattle.rule.proofs.Steps.{not_held, free_copy}
use Rattle.desk.proofs.Settle.{start_matches, prepare_matches, next_copy_open, next_copy_shut}
use Rattle.history.specs.Prepared.{NoPrf0, prepared_since}
use Rattle.history.specs.Laws.{SinceBy, PreparedWithin}
use Rattle.history.proofs.Windows.{matches_open}
use Rattle.history.proofs.Sees.{prepare_only, nothing_starts}

-- ── the cases ──────────────────────────────────────────────────────────────────────────────────────────────────────
module _ (s : ℕ) (ls : List Stamped) (b : Booking) where
  abbrev pub label_at : ℕ → Stamped
  label_at q = get_or ls q no_label

  pub data Next (c : Copy) : Copy → Type 0 where
    free : c ≡ Free → Next c Free
    waits : clocked s ls b ≡ false → held c ≡ true → Next c Waiting
    -- the clock records it
    by_clock : clocked s ls b ≡ true → held c ≡ true → NoPrf0 s ls b → Next c ByTheClock
    -- it becomes prepared now, or still is
    prepares : {q : ℕ} → clocked s ls b ≡ false → sight_of s ls b ≡ Prepare q → held c ≡ true → prepared_since s c ≡ s → Next c (Prepared s)
    still : {q : ℕ} (v : ℕ) → clocked s ls b ≡ false → sight_of s ls b ≡ Prepare q → c ≡ Prepared v → s - v ≤ prepare_for → Next c (Prepared v)
    -- it has been for too long
    at_last : (q v : ℕ) → c ≡ Prepared v → prepare_for < s - v → matches s b (label_at q) ≡ true → Next c (recording_at ls q)
    -- a label with PRF 0 starts or moves it
    starts : (q : ℕ) → held c ≡ true → matches s b (label_at q) ≡ true → (label_at q).prf ≡ false → Next c (recording_at ls q)
    -- it stays at its place
    stays : (q : ℕ) (mi : Bool) → c ≡ Recording q mi → matches s b (label_at q) ≡ true → Next c (recording_at ls q)
    -- it runs on from now, or still does
    leaves : (p : ℕ) (mi : Bool) → c ≡ Recording p mi → open_at s b ≡ true → Next c (RunningOn p s)
    runs : (p v : ℕ) → c ≡ RunningOn p v → open_at s b ≡ true → s - v < run_for → Next c (RunningOn p v)

  next_clock_or : (c n : Copy) → held c ≡ true → NoPrf0 s ls b → (clocked s ls b ≡ false → Next c n) → Next c (clock_or s ls b n)
  unfolding clock_or
  next_clock_or c n h none k = by_test (clocked s ls b) (λ e. rw e (by_clock e h none)) (λ e. rw e (k e))

  next_not_live : (c : Copy) → held c ≡ true → prepared_since s c ≡ s → (g : Sight) → sight_of s ls b ≡ g → Next c (not_live s ls b g)
  next_not_live c h k (Start q) e = let m = start_matches s ls b q e in starts q h m.0 m.1
  next_not_live c h k (Prepare q) e = next_clock_or c (Prepared s) h (prepare_only s ls b q e).only (λ f. prepares f e h k)
  next_not_live c h k Nothing e = next_clock_or c Waiting h (nothing_starts s ls b e) (λ f. waits f h)

  next_prepared : (v : ℕ) (g : Sight) → sight_of s ls b ≡ g → Next (Prepared v) (from_prepared s ls b v g)
  next_prepared v (Start q) e = let m = start_matches s ls b q e in starts q refl m.0 m.1
  next_prepared v (Prepare q) e = next_clock_or (Prepared v) _ refl (prepare_only s ls b q e).only (λ f. go f (ltb prepare_for (s - v)) refl)
    where
      go : clocked s ls b ≡ false → (t : Bool) → ltb prepare_for (s - v) ≡ t → Next (Prepared v) (cond t (recording_at ls q) (Prepared v))
      go f true d = at_last q v refl (ltb-true prepare_for (s - v) d) (prepare_matches s ls b q e)
      go f false d = still v f e refl (ltb-false prepare_for (s - v) d)
  next_prepared v Nothing e = next_clock_or (Prepared v) Waiting refl (nothing_starts s ls b e) (λ f. waits f refl)

  next_moves : (c : Copy) → held c ≡ true → (g : Sight) → sight_of s ls b ≡ g → (n : Copy) → Next c n → Next c (moves_or ls g n)
  next_moves c h (Start q) e n k = let m = start_matches s ls b q e in starts q h m.0 m.1
  next_moves c h (Prepare q) e n k = k
  next_moves c h Nothing e n k = k

  next_open : open_at s b ≡ true → (c : Copy) → Next c (goes_on s ls b c)
  unfolding from_recording from_running_on
  next_open o Free = free refl
  next_open o Waiting = next_not_live Waiting refl refl (sight_of s ls b) refl
  next_open o (Prepared v) = next_prepared v (sight_of s ls b) refl
  next_open o (Recording p mi) = go (matches s b (label_at p)) refl
    where
      c : Copy
      c = Recording p mi

      left : (m : Bool) → Next c (cond m (not_live s ls b (sight_of s ls b)) (RunningOn p s))
      left true = next_not_live c refl refl (sight_of s ls b) refl
      left false = leaves p mi refl o

      go : (t : Bool) → matches s b (label_at p) ≡ t →
          Next c (cond t (recording_at ls p) (moves_or ls (sight_of s ls b) (cond mi (not_live s ls b (sight_of s ls b)) (RunningOn p s))))
      go true e = stays p mi refl e
      go false e = next_moves c refl (sight_of s ls b) refl _ (left mi)
  next_open o (RunningOn p v) = next_moves (RunningOn p v) refl (sight_of s ls b) refl _ (go (ltb (s - v) run_for) refl)
    where
      go : (t : Bool) → ltb (s - v) run_for ≡ t → Next (RunningOn p v) (cond t (RunningOn p v) (not_live s ls b (sight_of s ls b)))
      go true e = runs p v refl o (ltb-true (s - v) run_for e)
      go false e = next_not_live (RunningOn p v) refl refl (sight_of s ls b) refl
  next_open o ByTheClock = next_not_live ByTheClock refl refl (sight_of s ls b) refl

  pub next_is : (c : Copy) → Next c (next_copy s ls b c)
  next_is c = go (open_at s b) (held c) refl refl
    where
      go : (t h : Bool) → open_at s b ≡ t → held c ≡ h → Next c (next_copy s ls b c)
      go true h e k = rw (next_copy_open s ls b e c) (next_open e c)
      go false true e k = rw (next_copy_shut s ls b e c k) (waits (clocked_shut s ls b e) k)
      go false false e k = let f = not_held c k in rw (free_copy s ls b c k, f) (free refl)

  -- ── what is kept ─────────────────────────────────────────────────────────────────────────────────────────────────
  pub next_held : {c n : Copy} → Next c n → held n ≡ held c
  unfolding recording_at
  next_held (free e) = rw e
  next_held (waits f h) = sym h
  next_held (by_clock f h n) = sym h
  next_held (prepares f g h k) = sym h
  next_held (still v f g e k) = rw e
  next_held (at_last q v e k m) = rw e
  next_held (starts q h m z) = sym h
  next_held (stays q mi e m) = rw e
  next_held (leaves p mi e o) = rw e
  next_held (runs p v e o r) = rw e

  -- a live copy's window is open
  pub next_live : {c n : Copy} → Next c n → is_live n ≡ true → open_at s b ≡ true
  next_live (free e) l = absurd (true≢false (sym l))
  next_live (waits f k) l = absurd (true≢false (sym l))
  next_live (by_clock f k n) l = (clocked_parts s ls b f).2
  next_live (prepares f g k i) l = absurd (true≢false (sym l))
  next_live (still v f g e k) l = absurd (true≢false (sym l))
  next_live (at_last q v e k m) l = matches_open b s (label_at q) m
  next_live (starts q k m z) l = matches_open b s (label_at q) m
  next_live (stays q mi e m) l = matches_open b s (label_at q) m
  next_live (leaves p mi e o) l = o
  next_live (runs p v e o r) l = o

  -- no copy is prepared or runs on from after s
  pub next_since : {c n : Copy} → Next c n → SinceBy s c → SinceBy s n
  unfolding recording_at
  next_since (free e) h = tt
  next_since (waits f k) h = tt
  next_since (by_clock f k n) h = tt
  next_since (prepares f g k i) h = omega arith
  next_since (still v f g e k) h = rw e at h
  next_since (at_last q v e k m) h = tt
  next_since (starts q k m z) h = tt
  next_since (stays q mi e m) h = tt
  next_since (leaves p mi e o) h = omega arith
  next_since (runs p v e o r) h = rw e at h

  -- and none is prepared for more than 60 seconds
  pub next_within : {c n : Copy} → Next c n → PreparedWithin s n
  unfolding recording_at
  next_within (free e) = tt
  next_within (waits f k) = tt
  next_within (by_clock f k n) = tt
  next_within (prepares f g k i) = omega arith
  next_within (still v f g e k) = omega arith
  next_within (at_last q v e k m) = tt
  next_within (starts q k m z) = tt
  next_within (stays q mi e m) = tt
  next_within (leaves p mi e o) = tt
  next_within (runs p v e o r) = tt

  -- a prepared copy keeps its second, is not recorded by the clock, and sees what prepares it
  pub next_prepared_since : {c n : Copy} → Next c n → (v : ℕ) → n ≡ Prepared v →
      (v ≡ prepared_since s c) × (clocked s ls b ≡ false) × ((q : ℕ) × (sight_of s ls b ≡ Prepare q))
  unfolding recording_at
  next_prepared_since (free e) v k = (cc, cc, (0, cc))
  next_prepared_since (waits f h) v k = (cc, f, (0, cc))
  next_prepared_since (by_clock f h n) v k = (cc, cc, (0, cc))
  next_prepared_since (prepares f g h i) v k = let z : s ≡ v = cc in (sym z ∙ sym i, f, (_, g))
  next_prepared_since (still u f g e l) v k = let z : u ≡ v = cc in (rw e (sym z), f, (_, g))
  next_prepared_since (at_last q u e l m) v k = (cc, cc, (0, cc))
  next_prepared_since (starts q h m z) v k = (cc, cc, (0, cc))
  next_prepared_since (stays q mi e m) v k = (cc, cc, (0, cc))
  next_prepared_since (leaves p mi e o) v k = (cc, cc, (0, cc))
  next_prepared_since (runs p u e o r) v k = (cc, cc, (0, cc))

  -- a clock copy is held, sees no match with PRF 0, and has what the clock records by
  pub next_clocked : {c n : Copy} → Next c n → n ≡ ByTheClock → (held c ≡ true) × NoPrf0 s ls b × (clocked s ls b ≡ true)
  unfolding recording_at
  next_clocked (free e) k = (cc, (λ q m. cc), cc)
  next_clocked (waits f h) k = (h, (λ q m. cc), cc)
  next_clocked (by_clock f h n) k = (h, n, f)
  next_clocked (prepares f g h i) k = (h, (λ q m. cc), cc)
  next_clocked (still u f g e l) k = (cc, (λ q m. cc), cc)
  next_clocked (at_last q u e l m) k = (cc, (λ q m. cc), cc)
  next_clocked (starts q h m z) k = (h, (λ q m. cc), cc)
  next_clocked (stays q mi e m) k = (cc, (λ q m. cc), cc)
  next_clocked (leaves p mi e o) k = (cc, (λ q m. cc), cc)
  next_clocked (runs p u e o r) k = (cc, (λ q m. cc), cc)

pub since_later : (s s' : ℕ) → s ≤ s' → (c : Copy) → SinceBy s c → SinceBy s' c
since_later s s' k Free h = tt
since_later s s' k Waiting h = tt
since_later s s' k (Prepared v) h = omega arith
since_later s s' k (Recording p mi) h = tt
since_later s s' k (RunningOn p v) h = omega arith
since_later s s' k ByTheClock h = tt
