-- The table that the contents of a page are entered into (EN 300 231 clause 7.3.1.5; document 02, #108), as the reader keeps it.
use Rattle.std.specs.Prelude.{ℕ, suc, ◌+◌, ◌%◌, Bool, true, false, cond, ◌||◌, Option, Some, None, List, [], ◌∷◌, ltb, eqb, set, replicate}
use Rattle.figures.specs.declared.Offset.TheVariants.{Plus}
use Rattle.figures.specs.declared.Value.{Value}
use Rattle.figures.specs.declared.Value.TheVariants as value
use Rattle.figures.specs.declared.Found.{Found}
use Rattle.figures.specs.Permitted.{words_of}
use Rattle.announced.specs.declared.Announcement.{Announcement}
use Rattle.announced.specs.declared.Stage.TheVariants.{First}
use Rattle.announced.specs.Times.{no_time, announced, marks_of}
use Rattle.announced.specs.Taken.{after_title, by_title, stage_from, announced_from, told_of}
use Rattle.originals.specs.declared.Original.{Original}
use Rattle.originals.specs.Data.{data_of}
use Rattle.originals.specs.Taken.{data_start, data_from, originals_from, given_of}
use Rattle.table.specs.declared.Words.{Words}
use Rattle.table.specs.declared.Words.TheVariants.{Nothing, Same, Different}
use Rattle.table.specs.declared.Entries.{Entries}
use Rattle.table.specs.declared.Table.{Table}

-- no page has more programmes: a row has one title
abbrev pub most : ℕ
most = 24

-- ── what is kept ───────────────────────────────────────────────────────────────────────────────────────────────────
-- more than 24 count as 25
abbrev pub one_more : ℕ → ℕ
one_more n = cond (ltb n 25) (suc n) n

-- one more, where there is one
abbrev pub entered : {A : Type 0} → Entries A → Option A → Entries A
entered a None = a
entered a (Some x) = record { count = one_more a.count; places = set a.places a.count x }

abbrev pub no_announcement : Announcement
no_announcement = announced 0 0 no_time no_time

abbrev pub no_announcements : Entries Announcement
no_announcements = record { count = 0; places = replicate most no_announcement }

abbrev pub no_original : Original
no_original = record {
  hour = 0;
  minute = 0;
  network = 0;
  day = 0;
  month = 0;
  year = 0;
  offset = Plus 0;
  pty = 0;
}

abbrev pub no_originals : Entries Original
no_originals = record { count = 0; places = replicate most no_original }

-- the words so far, and one more
abbrev pub word_after : Words → ℕ → Words
word_after Nothing n = Same n
word_after (Same m) n = cond (eqb m n) (Same m) Different
word_after Different n = Different

abbrev pub words_after : Words → List ℕ → Words
words_after w [] = w
words_after w (n ∷ ns) = words_after (word_after w n) ns

-- they are there, and each is the sum
abbrev pub agreed : Words → ℕ → Bool
agreed Nothing sum = false
agreed (Same n) sum = eqb n sum
agreed Different sum = false

abbrev pub is_wrong : Value → Bool
is_wrong value.Text = false
is_wrong value.Wrong = true
is_wrong (value.Single h m) = false
is_wrong (value.Double h m i n) = false
is_wrong (value.Original h m) = false
is_wrong (value.Date d m y) = false
is_wrong (value.Network n) = false
is_wrong (value.Offset o) = false
is_wrong (value.Pty n) = false
is_wrong (value.Word n) = false

-- ── the table ──────────────────────────────────────────────────────────────────────────────────────────────────────
abbrev pub table_start : Table
table_start = record {
  stage = First;
  announcements = no_announcements;
  carried = data_start;
  originals = no_originals;
  sum = 0;
  words = Nothing;
  wrong = false;
  high = false;
}

-- after a format
unfoldable pub after_format : Table → Found → Table
after_format s f = record {
  stage = stage_from s.stage (marks_of f.value);
  announcements = entered s.announcements (told_of (announced_from s.stage (marks_of f.value)));
  carried = data_from s.carried (data_of f.value);
  originals = entered s.originals (given_of (originals_from s.carried (data_of f.value)));
  sum = (s.sum + f.sum) % 256;
  words = words_after s.words (words_of f.value);
  wrong = s.wrong || is_wrong f.value;
  high = s.high;
}

-- after a title
unfoldable pub titled_at : Table → ℕ → ℕ → Table
titled_at s row column = record {
  stage = after_title s.stage row column;
  announcements = entered s.announcements (told_of (by_title s.stage row column));
  carried = s.carried;
  originals = s.originals;
  sum = s.sum;
  words = s.words;
  wrong = s.wrong;
  high = s.high;
}

-- after a code, which may be none of the seven-bit codes
unfoldable pub with_code : Table → ℕ → Table
with_code s c = record {
  stage = s.stage;
  announcements = s.announcements;
  carried = s.carried;
  originals = s.originals;
  sum = s.sum;
  words = s.words;
  wrong = s.wrong;
  high = s.high || ltb 127 c;
}
