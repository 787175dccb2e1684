-- A page taken one code at a time, as the reader takes it.
use Rattle.std.specs.Prelude.{ℕ, suc, ◌+◌, Bool, true, cond, not, ◌&&◌, List, [], ◌∷◌, eqb, take}
use Rattle.answer.specs.Lists.{filled}
use Rattle.codes.specs.Codes.{is_mark}
use Rattle.formats.specs.Taken.{is_text}
use Rattle.figures.specs.declared.Found.{Found}
use Rattle.rows.specs.declared.Row.{Row}
use Rattle.rows.specs.Title.{begins_pair}
use Rattle.rows.specs.Taken.{kind_here, found_here, title_here, row_after, row_start}
use Rattle.announced.specs.Taken as times
use Rattle.originals.specs.Taken as given
use Rattle.table.specs.declared.Table.{Table}
use Rattle.table.specs.Table.{most, after_format, titled_at, with_code}
use Rattle.preview.specs.declared.Page.{Page}
use Rattle.preview.specs.Page.{programmes_by}
use Rattle.preview.specs.Taken.{blank}

-- with a title that ends here, or a format, or neither
unfoldable pub with_given_out : Table → ℕ → ℕ → Bool → Bool → Found → Table
with_given_out s row column titled text f = cond titled (titled_at s row (2 + column)) (cond text s (after_format s f))

unfoldable pub with_end : Table → ℕ → Row → Bool → Bool → Table
with_end s row x end pair = with_given_out s row x.column (title_here x end pair) (is_text (kind_here x end)) (found_here x end)

-- ── a row ──────────────────────────────────────────────────────────────────────────────────────────────────────────
-- the codes from column p on, and then `<`
unfoldable pub taken_from : ℕ → Table → Row → ℕ → List ℕ → Table
taken_from row s x p [] = with_end s row x true true
taken_from row s x p (c ∷ cs) =
    taken_from row (with_code (with_end s row x (is_mark c) (begins_pair (c ∷ cs))) c) (row_after x c p (begins_pair (c ∷ cs))) (suc p) cs

unfoldable pub row_taken : ℕ → Table → List ℕ → Table
row_taken row s codes = taken_from row s row_start 0 codes

-- ── the page ───────────────────────────────────────────────────────────────────────────────────────────────────────
-- what was taken reads as programmes
unfoldable pub may_read : Table → Bool
may_read t =
    not t.wrong
    && (times.may_end t.stage && (given.may_end t.carried && eqb t.announcements.count t.originals.count))

-- and these are they
unfoldable pub page_by : Table → Page
page_by t =
    let n = t.announcements.count in
    record { count = n; programmes = filled most blank (programmes_by (take n t.announcements.places) (take n t.originals.places)) }
