-- R11 to R13: what the data must read as, and what is carried on (EN 300 231 clauses 7.3.1.4 c) to o), 7.3.1.5 rules 5 to 8; document 02,
-- #108).
use Rattle.std.specs.Prelude.{ℕ, Bool, true, false, ◌&&◌, Some, None, is_some, unwrap_or, ◌≡◌, List, [], ◌∷◌, ◌++◌}
use Rattle.figures.specs.declared.Offset.{Offset}
use Rattle.figures.specs.declared.Offset.TheVariants.{Plus}
use Rattle.figures.specs.declared.Value.{Value}
use Rattle.figures.specs.declared.Value.TheVariants as value
use Rattle.figures.specs.Permitted.{value_of}
use Rattle.rows.specs.Row.{Content, format, title}
use Rattle.originals.specs.declared.Date.{Date}
use Rattle.originals.specs.declared.InForce.{InForce}
use Rattle.originals.specs.declared.Original.{Original}

-- 'N network, A date, O offset, Y type, 2 original time'
pub data Datum : Type 0 where
  N : ℕ → Datum
  A : ℕ → ℕ → ℕ → Datum
  O : Offset → Datum
  Y : ℕ → Datum
  Two : ℕ → ℕ → Datum

abbrev pub data_of : Value → List Datum
data_of value.Text = []
data_of value.Wrong = []
data_of (value.Single h m) = []
data_of (value.Double h m i n) = []
data_of (value.Original h m) = Two h m ∷ []
data_of (value.Date d m y) = A d m y ∷ []
data_of (value.Network n) = N n ∷ []
data_of (value.Offset o) = O o ∷ []
data_of (value.Pty n) = Y n ∷ []
data_of (value.Word n) = []

-- 'data on their own, in page order (.. protection words left out)'
unfoldable pub data_in : List Content → List Datum
data_in [] = []
data_in (format a fs ∷ xs) = data_of (value_of a fs) ++ data_in xs
data_in (title row column ∷ xs) = data_in xs

-- ── what is carried on ─────────────────────────────────────────────────────────────────────────────────────────────
-- 'no offset yet is 0, no type is 0'
abbrev pub nothing : InForce
nothing = record { network = None; date = None; offset = Plus 0; pty = 0 }

abbrev pub date_by : ℕ → ℕ → ℕ → Date
date_by d m y = record { day = d; month = m; year = y }

-- 'the last network, date and offset given before it on the page'
unfoldable pub with_network : ℕ → InForce → InForce
with_network n f = record { network = Some n; date = f.date; offset = f.offset; pty = f.pty }

unfoldable pub with_date : ℕ → ℕ → ℕ → InForce → InForce
with_date d m y f = record { network = f.network; date = Some (date_by d m y); offset = f.offset; pty = f.pty }

unfoldable pub with_offset : Offset → InForce → InForce
with_offset o f = record { network = f.network; date = f.date; offset = o; pty = f.pty }

-- 'and the last type given since the original time before it'
unfoldable pub with_type : ℕ → InForce → InForce
with_type n f = record { network = f.network; date = f.date; offset = f.offset; pty = n }

-- R12: what an original time has; what is not in force yet counts as 0
unfoldable pub original_by : InForce → ℕ → ℕ → Original
original_by f h m =
    let date = unwrap_or f.date (date_by 0 0 0) in
    record {
      hour = h;
      minute = m;
      network = unwrap_or f.network 0;
      day = date.day;
      month = date.month;
      year = date.year;
      offset = f.offset;
      pty = f.pty;
    }

-- R13: 'before the first original time stand a network and a date'
abbrev pub is_complete : InForce → Bool
is_complete f = is_some f.network && is_some f.date

-- ── what they must read as ─────────────────────────────────────────────────────────────────────────────────────────
-- '( (N | A | O)*  ( Y (A | O | Y)* )?  2 )+': these data, after what is in force and a type or none since the original time before them,
-- give these original times
pub data Gives : Bool → InForce → List Datum → List Original → Type 0 where
  -- 'after a type no network comes before the next original time'
  network : {f : InForce} {n : ℕ} {ds : List Datum} {os : List Original} → Gives false (with_network n f) ds os → Gives false f (N n ∷ ds) os
  date : {typed : Bool} {f : InForce} {d m y : ℕ} {ds : List Datum} {os : List Original} →
      Gives typed (with_date d m y f) ds os → Gives typed f (A d m y ∷ ds) os
  offset : {typed : Bool} {f : InForce} {o : Offset} {ds : List Datum} {os : List Original} →
      Gives typed (with_offset o f) ds os → Gives typed f (O o ∷ ds) os
  type : {typed : Bool} {f : InForce} {n : ℕ} {ds : List Datum} {os : List Original} → Gives true (with_type n f) ds os → Gives typed f (Y n ∷ ds) os
  -- 'each value comes before an original time': the last one ends the data
  last : {typed : Bool} {f : InForce} {h m : ℕ} → is_complete f ≡ true → Gives typed f (Two h m ∷ []) (original_by f h m ∷ [])
  next : {typed : Bool} {f : InForce} {h m : ℕ} {ds : List Datum} {os : List Original} → is_complete f ≡ true → Gives false (with_type 0 f) ds os →
      Gives typed f (Two h m ∷ ds) (original_by f h m ∷ os)
