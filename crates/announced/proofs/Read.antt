-- Times and titles taken one at a time read as what they must read as, stage by stage.
use mathlib.Core.Bool.{Bool, true, false, true≢false}
use mathlib.Core.Path.{◌≡◌, refl, sym, ◌∙◌}
use mathlib.Core.List.{List, [], ◌∷◌}
use Rattle.announced.specs.declared.Time.{Time}
use Rattle.announced.specs.declared.Announcement.{Announcement}
use Rattle.announced.specs.declared.Stage.{Stage}
use Rattle.announced.specs.declared.Stage.TheVariants.{First, Single, Titled, Double, Ended, Wrong}
use Rattle.announced.specs.Times.{Mark, S, D, T, Before, nothing, single, double, no_time, announced, Announces, starts, lasts, part_single, part_double, finishes, ends}
use Rattle.announced.specs.Taken.{may_end, stage_from, announced_from}

-- what may stand before a single time that may be the last, and before one that may not
abbrev allows : Bool → Before
allows true = single
allows false = nothing

-- what the marks to come, and the announcements to come, are to a stage
abbrev Means : Stage → List Mark → List Announcement → Type 0
Means First ms xs = (t : Time) × Announces nothing ms t xs
Means (Single a f) ms xs = (t : Time) × Announces (allows f) (S a ∷ ms) t xs
Means (Titled a r c) ms xs = (t : Time) × (ys : List Announcement) × Announces single ms t ys × (xs ≡ announced r c a t ∷ ys)
Means (Double a z) ms xs = (t : Time) × Announces nothing (D a z ∷ ms) t xs
Means Ended ms xs = (t : Time) × Announces double ms t xs
Means Wrong ms xs = ⊥

no_way_back : (ms : List Mark) → may_end (stage_from Wrong ms) ≡ false
unfolding stage_from
no_way_back [] = refl
no_way_back (S t ∷ ms) = no_way_back ms
no_way_back (D t u ∷ ms) = no_way_back ms
no_way_back (T r c ∷ ms) = no_way_back ms

lost : {P : Type 0} (ms : List Mark) → may_end (stage_from Wrong ms) ≡ true → P
lost ms e = absurd (true≢false (sym e ∙ no_way_back ms))

-- a programme may follow anything
follows : (b : Before) {t : Time} {ms : List Mark} {xs : List Announcement} → Announces nothing ms t xs → Announces b ms t xs
follows b (starts w) = starts w
follows b (lasts w) = lasts w

-- a time is the next start
next_single : {b : Before} {a t : Time} {ms : List Mark} {xs : List Announcement} → Announces b (S a ∷ ms) t xs → t ≡ a
next_single (starts w) = refl
next_single finishes = refl

next_double : {b : Before} {a z t : Time} {ms : List Mark} {xs : List Announcement} → Announces b (D a z ∷ ms) t xs → t ≡ a
next_double (lasts w) = refl

-- and what begins a programme may come first, but for a last finish
single_first : {a t : Time} {ms : List Mark} {xs : List Announcement} → Announces double (S a ∷ ms) t xs → Announces nothing (S a ∷ ms) t xs
single_first (starts w) = starts w

double_first : {b : Before} {a z t : Time} {ms : List Mark} {xs : List Announcement} → Announces b (D a z ∷ ms) t xs → Announces nothing (D a z ∷ ms) t xs
double_first (lasts w) = lasts w

-- how marks can begin
abbrev after_time : List Mark → Bool → Bool
after_time [] last = last
after_time (S t ∷ ms) last = false
after_time (D t u ∷ ms) last = false
after_time (T r c ∷ ms) last = true

abbrev can_begin : Before → List Mark → Bool
can_begin nothing [] = false
can_begin single [] = false
can_begin double [] = true
can_begin nothing (S t ∷ ms) = after_time ms false
can_begin single (S t ∷ ms) = after_time ms true
can_begin double (S t ∷ ms) = after_time ms false
can_begin nothing (D t u ∷ ms) = after_time ms false
can_begin single (D t u ∷ ms) = after_time ms false
can_begin double (D t u ∷ ms) = after_time ms false
can_begin nothing (T r c ∷ ms) = false
can_begin single (T r c ∷ ms) = true
can_begin double (T r c ∷ ms) = true

begins : (b : Before) {t : Time} {ms : List Mark} {xs : List Announcement} → Announces b ms t xs → can_begin b ms ≡ true
begins nothing (starts w) = refl
begins single (starts w) = refl
begins double (starts w) = refl
begins nothing (lasts w) = refl
begins single (lasts w) = refl
begins double (lasts w) = refl
begins single (part_single w) = refl
begins double (part_double w) = refl
begins single finishes = refl
begins double ends = refl

never : {P : Type 0} {b : Before} {t : Time} {ms : List Mark} {xs : List Announcement} → Announces b ms t xs → can_begin b ms ≡ false → P
never w e = absurd (true≢false (sym (begins _ w) ∙ e))

sound : (ms : List Mark) (s : Stage) → may_end (stage_from s ms) ≡ true → Means s ms (announced_from s ms)
unfolding stage_from announced_from
sound [] First e = absurd (true≢false (sym e))
sound [] (Single a true) e = (a, finishes)
sound [] (Single a false) e = absurd (true≢false (sym e))
sound [] (Titled a r c) e = absurd (true≢false (sym e))
sound [] (Double a z) e = absurd (true≢false (sym e))
sound [] Ended e = (no_time, ends)
sound [] Wrong e = absurd (true≢false (sym e))
sound (S t ∷ ms) Wrong e = lost ms e
sound (S t ∷ ms) First e = sound ms (Single t false) e
sound (S t ∷ ms) (Single a f) e = lost ms e
sound (S t ∷ ms) (Titled a r c) e =
    let w = sound ms (Single t true) e in
    (t, announced_from (Single t true) ms, rw (next_single w.1) at w.1, refl)
sound (S t ∷ ms) (Double a z) e = lost ms e
sound (S t ∷ ms) Ended e = let w = sound ms (Single t false) e in (w.0, follows double w.1)
sound (D t u ∷ ms) Wrong e = lost ms e
sound (D t u ∷ ms) First e = sound ms (Double t u) e
sound (D t u ∷ ms) (Single a f) e = lost ms e
sound (D t u ∷ ms) (Titled a r c) e =
    let w = sound ms (Double t u) e in
    (t, announced_from (Double t u) ms, follows single (rw (next_double w.1) at w.1), refl)
sound (D t u ∷ ms) (Double a z) e = lost ms e
sound (D t u ∷ ms) Ended e = let w = sound ms (Double t u) e in (w.0, follows double w.1)
sound (T r c ∷ ms) Wrong e = lost ms e
sound (T r c ∷ ms) First e = lost ms e
sound (T r c ∷ ms) (Single a f) e = let w = sound ms (Titled a r c) e in (a, rw w.3 (starts w.2))
sound (T q d ∷ ms) (Titled a r c) e = let w = sound ms (Titled a r c) e in (w.0, w.1, part_single w.2, w.3)
sound (T r c ∷ ms) (Double a z) e = (a, lasts (sound ms Ended e).1)
sound (T r c ∷ ms) Ended e = let w = sound ms Ended e in (w.0, part_double w.1)

pub taken_read : (ms : List Mark) → may_end (stage_from First ms) ≡ true → (t : Time) × Announces nothing ms t (announced_from First ms)
taken_read ms e = sound ms First e

complete : (ms : List Mark) (s : Stage) (xs : List Announcement) → Means s ms xs → (may_end (stage_from s ms) ≡ true) × (xs ≡ announced_from s ms)
unfolding stage_from announced_from
complete [] First xs (t, w) = never w refl
complete [] (Single a true) xs (t, finishes) = (refl, refl)
complete [] (Single a false) xs (t, w) = never w refl
complete [] (Titled a r c) xs (t, ys, w, q) = never w refl
complete [] (Double a z) xs (t, w) = never w refl
complete [] Ended xs (t, ends) = (refl, refl)
complete [] Wrong xs w = elim w [ ]
complete (S b ∷ ms) First xs w = complete ms (Single b false) xs w
complete (S b ∷ ms) (Single a true) xs (t, w) = never w refl
complete (S b ∷ ms) (Single a false) xs (t, w) = never w refl
complete (S b ∷ ms) (Titled a r c) xs (t, ys, w, q) =
    let more = complete ms (Single b true) ys (t, w) in
    (more.0, q ∙ rw (next_single w, more.1) refl)
complete (S b ∷ ms) (Double a z) xs (t, w) = never w refl
complete (S b ∷ ms) Ended xs (t, w) = complete ms (Single b false) xs (t, single_first w)
complete (S b ∷ ms) Wrong xs w = elim w [ ]
complete (D b z ∷ ms) First xs w = complete ms (Double b z) xs w
complete (D b z ∷ ms) (Single a true) xs (t, w) = never w refl
complete (D b z ∷ ms) (Single a false) xs (t, w) = never w refl
complete (D b z ∷ ms) (Titled a r c) xs (t, ys, w, q) =
    let more = complete ms (Double b z) ys (t, double_first w) in
    (more.0, q ∙ rw (next_double w, more.1) refl)
complete (D b z ∷ ms) (Double a y) xs (t, w) = never w refl
complete (D b z ∷ ms) Ended xs (t, w) = complete ms (Double b z) xs (t, double_first w)
complete (D b z ∷ ms) Wrong xs w = elim w [ ]
complete (T r c ∷ ms) First xs (t, w) = never w refl
complete (T r c ∷ ms) (Single a true) xs (t, starts w) = complete ms (Titled a r c) xs (_, _, w, refl)
complete (T r c ∷ ms) (Single a false) xs (t, starts w) = complete ms (Titled a r c) xs (_, _, w, refl)
complete (T p d ∷ ms) (Titled a r c) xs (t, ys, part_single w, q) = complete ms (Titled a r c) xs (t, ys, w, q)
complete (T r c ∷ ms) (Double a z) xs (t, lasts w) = let more = complete ms Ended _ (_, w) in (more.0, rw more.1 refl)
complete (T r c ∷ ms) Ended xs (t, part_double w) = complete ms Ended xs (t, w)
complete (T r c ∷ ms) Wrong xs w = elim w [ ]

pub read_taken : (ms : List Mark) (t : Time) (xs : List Announcement) → Announces nothing ms t xs →
    (may_end (stage_from First ms) ≡ true) × (xs ≡ announced_from First ms)
read_taken ms t xs w = complete ms First xs (t, w)
