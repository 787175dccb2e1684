-- Times and titles taken one at a time. What they must read as is said in Times.antt; the laws say that this is the same.
use Rattle.std.specs.Prelude.{ℕ, Bool, true, false, Option, Some, None, List, [], ◌∷◌, ◌++◌}
use Rattle.announced.specs.declared.Time.{Time}
use Rattle.announced.specs.declared.Announcement.{Announcement}
use Rattle.announced.specs.declared.Stage.{Stage}
use Rattle.announced.specs.declared.Stage.TheVariants.{First, Single, Titled, Double, Ended, Wrong}
use Rattle.announced.specs.Times.{Mark, S, D, T, announced}

-- ── the stage after a time or a title ──────────────────────────────────────────────────────────────────────────────
abbrev pub after_single : Stage → Time → Stage
after_single First t = Single t false
after_single (Single a f) t = Wrong
after_single (Titled a r c) t = Single t true
after_single (Double a z) t = Wrong
after_single Ended t = Single t false
after_single Wrong t = Wrong

abbrev pub after_double : Stage → Time → Time → Stage
after_double First t u = Double t u
after_double (Single a f) t u = Wrong
after_double (Titled a r c) t u = Double t u
after_double (Double a z) t u = Wrong
after_double Ended t u = Double t u
after_double Wrong t u = Wrong

abbrev pub after_title : Stage → ℕ → ℕ → Stage
after_title First row column = Wrong
after_title (Single a f) row column = Titled a row column
after_title (Titled a r c) row column = Titled a r c
after_title (Double a z) row column = Ended
after_title Ended row column = Ended
after_title Wrong row column = Wrong

-- ── what is announced then ─────────────────────────────────────────────────────────────────────────────────────────
-- a next start ends a programme with a single time
abbrev pub by_time : Stage → Time → List Announcement
by_time First t = []
by_time (Single a f) t = []
by_time (Titled a r c) t = announced r c a t ∷ []
by_time (Double a z) t = []
by_time Ended t = []
by_time Wrong t = []

-- a title makes a programme of a double time
abbrev pub by_title : Stage → ℕ → ℕ → List Announcement
by_title First row column = []
by_title (Single a f) row column = []
by_title (Titled a r c) row column = []
by_title (Double a z) row column = announced row column a z ∷ []
by_title Ended row column = []
by_title Wrong row column = []

-- ── the page's end ─────────────────────────────────────────────────────────────────────────────────────────────────
abbrev pub may_end : Stage → Bool
may_end First = false
may_end (Single a f) = f
may_end (Titled a r c) = false
may_end (Double a z) = false
may_end Ended = true
may_end Wrong = false

-- ── all of them ────────────────────────────────────────────────────────────────────────────────────────────────────
abbrev pub stage_after : Stage → Mark → Stage
stage_after s (S t) = after_single s t
stage_after s (D t u) = after_double s t u
stage_after s (T row column) = after_title s row column

abbrev pub announced_by : Stage → Mark → List Announcement
announced_by s (S t) = by_time s t
announced_by s (D t u) = by_time s t
announced_by s (T row column) = by_title s row column

unfoldable pub stage_from : Stage → List Mark → Stage
stage_from s [] = s
stage_from s (m ∷ ms) = stage_from (stage_after s m) ms

unfoldable pub announced_from : Stage → List Mark → List Announcement
announced_from s [] = []
announced_from s (m ∷ ms) = announced_by s m ++ announced_from (stage_after s m) ms

-- ── as it is told ──────────────────────────────────────────────────────────────────────────────────────────────────
-- one announcement or none
abbrev pub told_of : List Announcement → Option Announcement
told_of [] = None
told_of (x ∷ xs) = Some x
