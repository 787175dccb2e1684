-- Packet 8/30 format 2 (document 01, 'Packet layout' and the table of refusals; 02, #102): what the reader gives, and what the writer leaves.
use Rattle.std.specs.Prelude.{ℕ, ◌^◌, Bool, true, false, cond, not, ◌&&◌, ◌||◌, List, [], ◌∷◌, leb, eqb, length, get_or, set, Result, Ok, Err}
use Rattle.answer.specs.Answer.{Answer, refused, given, Row, first_of}
use Rattle.answer.specs.Lists.{some, count}
use Rattle.hamming.specs.Byte.{good, away, nibble_of}
use Rattle.hamming.specs.declared.Nibble.{Nibble}
use Rattle.hamming.specs.declared.Nibble.TheVariants.{Damaged, Clean, Mended}
use Rattle.label.specs.declared.Label.{Label}
use Rattle.label.specs.declared.Received.{Received}
use Rattle.label.specs.declared.Refusal.{Refusal}
use Rattle.label.specs.declared.Refusal.TheVariants.{Length, AddressDamaged, OtherPacket, DesignationDamaged, OtherDesignation, LabelDamaged}
use Rattle.label.specs.declared.WriteRefusal.{WriteRefusal}
use Rattle.label.specs.declared.WriteRefusal.TheVariants.{WrongLength, TooWide}
use Rattle.label.specs.Layout.{Field, fields, positions, field_of, label_by, field_by, sent_in}

-- ── the bytes ──────────────────────────────────────────────────────────────────────────────────────────────────────
-- 'bytes 9 to 21: thirteen Hamming bytes'
abbrev pub label_bytes : List ℕ
label_bytes = 9 ∷ 10 ∷ 11 ∷ 12 ∷ 13 ∷ 14 ∷ 15 ∷ 16 ∷ 17 ∷ 18 ∷ 19 ∷ 20 ∷ 21 ∷ []

-- the sixteen bytes that are read and written: address, designation and label
abbrev pub hamming_bytes : List ℕ
hamming_bytes = 0 ∷ 1 ∷ 2 ∷ label_bytes

abbrev pub nibble_at : List ℕ → ℕ → Nibble
nibble_at p i = nibble_of (get_or p i 0)

abbrev pub damaged : Nibble → Bool
damaged Damaged = true
damaged (Clean v) = false
damaged (Mended v) = false

abbrev pub damaged_at : List ℕ → ℕ → Bool
damaged_at p i = damaged (nibble_at p i)

-- a damaged byte has no value, and 16 stands for it
abbrev pub value_of : Nibble → ℕ
value_of Damaged = 16
value_of (Clean v) = v
value_of (Mended v) = v

abbrev pub value_at : List ℕ → ℕ → ℕ
value_at p i = value_of (nibble_at p i)

-- 'mended is at distance exactly 1'
abbrev pub mended_at : List ℕ → ℕ → Bool
mended_at p i = eqb (away (get_or p i 0)) 1

-- 'designation, 2 or 3 for format 2'
abbrev pub format2 : ℕ → Bool
format2 d = eqb d 2 || eqb d 3

-- ── the reader ─────────────────────────────────────────────────────────────────────────────────────────────────────
-- 'reader: 1 to 6'
abbrev pub reader_rows : List ℕ → List Row
reader_rows p =
    (not (eqb (length p) 42), 1)  -- length not 42
    ∷ (damaged_at p 0 || damaged_at p 1, 2)  -- byte 0 or 1 damaged
    ∷ (not (eqb (value_at p 0) 0 && eqb (value_at p 1) 15), 3)  -- not 8/30
    ∷ (damaged_at p 2, 4)  -- byte 2 damaged
    ∷ (not (format2 (value_at p 2)), 5)  -- designation not 2 or 3
    ∷ (some (damaged_at p) label_bytes, 6)  -- one of bytes 9 to 21 damaged
    ∷ []

-- 'the reader gives all fields and the designation'
abbrev pub label_in : List ℕ → Label
label_in p = label_by (field_by (value_at p))

unfoldable pub reading_of : List ℕ → Answer Label
reading_of p = first_of (reader_rows p) (label_in p)

-- 'how many of its sixteen bytes (0 to 2, 9 to 21) were mended'
unfoldable pub mended_in : List ℕ → ℕ
mended_in p = count (mended_at p) hamming_bytes

-- 'the label and how many of its sixteen bytes .. were mended'; 'a refused packet gets its number alone'
unfoldable pub reception_of : List ℕ → Answer Received
reception_of p = first_of (reader_rows p) (record { label = label_in p; mended = mended_in p })

-- the paper's numbers
abbrev pub refusal_number : Refusal → ℕ
refusal_number Length = 1
refusal_number AddressDamaged = 2
refusal_number OtherPacket = 3
refusal_number DesignationDamaged = 4
refusal_number OtherDesignation = 5
refusal_number LabelDamaged = 6

abbrev pub reading_answer : Result Received Refusal → Answer Received
reading_answer (Err r) = refused (refusal_number r)
reading_answer (Ok r) = given r

-- ── the writer ─────────────────────────────────────────────────────────────────────────────────────────────────────
abbrev pub too_wide : Label → Field → Bool
too_wide l f = leb (2 ^ length (positions f)) (field_of f l)

-- 'a field wider than its bits, or designation not 2 or 3'
abbrev pub unfit : Label → Bool
unfit l = some (too_wide l) fields || not (format2 l.designation)

-- 'writer: 1, 16'
abbrev pub writer_rows : Label → List ℕ → List Row
writer_rows l p = (not (eqb (length p) 42), 1) ∷ (unfit l, 16) ∷ []

-- the value that is sent in a byte: 'magazine 8, packet 30 is the values 0 and 15', and the label's bits in the others
abbrev pub value_for : Label → ℕ → ℕ
value_for l i = cond (eqb i 0) 0 (cond (eqb i 1) 15 (sent_in l i))

unfoldable pub byte_for : Label → ℕ → ℕ
byte_for l i = good (value_for l i)

-- a list with the elements at the listed places made anew
abbrev pub put : (ℕ → ℕ) → List ℕ → List ℕ → List ℕ
put f [] p = p
put f (i ∷ is) p = put f is (set p i (f i))

-- a packet put right: each of its sixteen bytes is the good byte of its value
abbrev pub put_right : List ℕ → List ℕ
put_right p = put (λ i. good (value_at p i)) hamming_bytes p

-- 'writes bytes 0 to 2 and 9 to 21, and touches no other byte'
unfoldable pub writing_of : Label → List ℕ → Answer (List ℕ)
writing_of l p = first_of (writer_rows l p) (put (byte_for l) hamming_bytes p)

-- the paper's numbers, and 0 for what is written
abbrev pub write_refusal_number : WriteRefusal → ℕ
write_refusal_number WrongLength = 1
write_refusal_number TooWide = 16

abbrev pub written_number : Result (Unit {0}) WriteRefusal → ℕ
written_number (Err r) = write_refusal_number r
written_number (Ok done) = 0
