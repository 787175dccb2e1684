-- The data groups of preselection, EN 300 231 clause 7.3.2.3 (document 02, #103): what eighteen bits are, and what a group is sent as.
use Rattle.std.specs.Prelude.{ℕ, ◌+◌, ◌-◌, ◌*◌, ◌/◌, ◌%◌, ◌^◌, Bool, cond, not, ◌&&◌, leb, eqb}
use Rattle.group.specs.declared.Offset.{Offset}
use Rattle.group.specs.declared.Offset.TheVariants.{East, West}
use Rattle.group.specs.declared.Group.{Group}
use Rattle.group.specs.declared.Group.TheVariants as group

-- ── the triplet ────────────────────────────────────────────────────────────────────────────────────────────────────
-- a) '6 bits: data word A; 5 bits: mode description; 7 bits: data word B', the first sent lowest: D1 to D6, D7 to D11, D12 to D18
abbrev pub word_a : ℕ → ℕ
word_a v = v % 2 ^ 6

abbrev pub mode : ℕ → ℕ
mode v = v / 2 ^ 6 % 2 ^ 5

abbrev pub word_b : ℕ → ℕ
word_b v = v / 2 ^ 11 % 2 ^ 7

abbrev pub joined : ℕ → ℕ → ℕ → ℕ
joined a m b = a + 2 ^ 6 * m + 2 ^ 11 * b

-- ── the parts of the data words ────────────────────────────────────────────────────────────────────────────────────
-- 'the 2 most-significant bits set to 1' of data word A
abbrev pub two_set : ℕ → Bool
two_set a = leb 48 a

-- 'decimal values 41 to 63 indicate rows 1 to 23 and decimal value 40 indicates row 24'
abbrev pub is_row : ℕ → Bool
is_row a = leb 40 a

abbrev pub row_of : ℕ → ℕ
row_of a = cond (eqb a 40) 24 (a - 40)

abbrev pub address_of : ℕ → ℕ
address_of row = cond (eqb row 24) 40 (40 + row)

-- 'decimal values 0 to 39'
abbrev pub is_column : ℕ → Bool
is_column a = leb a 39

-- the most significant bit of data word B, and the six below it
abbrev pub top_bit : ℕ → Bool
top_bit b = leb 64 b

abbrev pub six_bits : ℕ → ℕ
six_bits b = b % 2 ^ 6

abbrev pub flagged : ℕ → Bool → ℕ
flagged low flag = cond flag (low + 64) low

-- '4 least-significant bits: units', the tens above them: 'values are as sent (tens times ten plus units)'
abbrev pub decimal : ℕ → ℕ
decimal b = b / 16 * 10 + b % 16

abbrev pub figures : ℕ → ℕ
figures n = n / 10 * 16 + n % 10

-- '6 least-significant bits: Local Time Offset in .. quarter-hour units. Most-significant bit: sign of offset, 1 is negative (i.e. West
-- of Greenwich)'; 'minus 0 quarter hours is 0'
abbrev pub offset_of : ℕ → Offset
offset_of b = cond (top_bit b && not (eqb (six_bits b) 0)) (West (six_bits b)) (East (six_bits b))

abbrev pub offset_bits : Offset → ℕ
offset_bits (East q) = q
offset_bits (West q) = q + 64

-- ── the groups, by data words A and B ──────────────────────────────────────────────────────────────────────────────
-- 'a group is what the clause's table says, every fixed bit included; any other triplet is passed over'
abbrev pub or_other : Bool → Group → Group
or_other t g = cond t g group.Other

-- c) country of origin, programme source
abbrev pub source_by : ℕ → ℕ → Group
source_by a b = or_other (two_set a) (group.Source (a - 48) b)

-- d) month, day
abbrev pub date_by : ℕ → ℕ → Group
date_by a b = or_other (two_set a && not (top_bit b)) (group.Date (a - 48) (decimal b))

-- e) cursor row, local time offset
abbrev pub offset_by : ℕ → ℕ → Group
offset_by a b = or_other (is_row a) (group.Offset (row_of a) (offset_of b))

-- f) cursor row, hours, controlled access flag
abbrev pub start_by : ℕ → ℕ → Group
start_by a b = or_other (is_row a) (group.Start (row_of a) (decimal (six_bits b)) (top_bit b))

-- g) cursor column, minutes
abbrev pub minutes_by : ℕ → ℕ → Group
minutes_by a b = or_other (is_column a) (group.Minutes a (decimal b))

-- h) cursor row, hours, and whether they are a duration's
abbrev pub finish_by : ℕ → ℕ → Group
finish_by a b = or_other (is_row a) (group.Finish (row_of a) (decimal (six_bits b)) (top_bit b))

-- i) the code for the series: 'set to 110000'
abbrev pub series_by : ℕ → ℕ → Group
series_by a b = or_other (eqb a 0b110000) (group.Series b)

-- j) 'set to 111111'; data word B 'may be ignored'
abbrev pub end_by : ℕ → Group
end_by a = or_other (eqb a 0b111111) group.Terminator

-- 'this function is invoked when the mode description bits are set to ..'
abbrev pub group_by : ℕ → ℕ → ℕ → Group
group_by m a b =
    cond (eqb m 0b01000) (source_by a b)
    (cond (eqb m 0b01001) (date_by a b)
    (cond (eqb m 0b01100) (offset_by a b)
    (cond (eqb m 0b01010) (start_by a b)
    (cond (eqb m 0b00110) (minutes_by a b)
    (cond (eqb m 0b01011) (finish_by a b)
    (cond (eqb m 0b01101) (series_by a b)
    (cond (eqb m 0b11111) (end_by a) group.Other)))))))

unfoldable pub group_of : ℕ → Group
group_of v = group_by (mode v) (word_a v) (word_b v)

-- ── what a group is sent as ────────────────────────────────────────────────────────────────────────────────────────
-- the same table the other way; a terminator has 'all eighteen bits 1', and 0, which is no group, stands for what is none
unfoldable pub bits_of : Group → ℕ
bits_of group.Other = 0
bits_of (group.Source country source) = joined (48 + country) 0b01000 source
bits_of (group.Date month day) = joined (48 + month) 0b01001 (figures day)
bits_of (group.Offset row o) = joined (address_of row) 0b01100 (offset_bits o)
bits_of (group.Start row hour controlled) = joined (address_of row) 0b01010 (flagged (figures hour) controlled)
bits_of (group.Minutes column minute) = joined column 0b00110 (figures minute)
bits_of (group.Finish row hour duration) = joined (address_of row) 0b01011 (flagged (figures hour) duration)
bits_of (group.Series code) = joined 48 0b01101 code
bits_of group.Terminator = joined 63 0b11111 127
