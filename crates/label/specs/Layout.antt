-- Where each bit of a label stands: tables 7 and 8 of EN 300 231, clause 8.2.1. Byte 13 there is byte 9 here (document 01, 'Packet layout').
use Rattle.std.specs.Prelude.{ℕ, zero, suc, ◌+◌, ◌*◌, ◌/◌, ◌%◌, ◌^◌, cond, ◌&&◌, List, [], ◌∷◌, ◌++◌, map, eqb, length}
use Rattle.hamming.specs.Byte.{D}
use Rattle.label.specs.declared.Label.{Label}

pub data Field : Type 0 where
  designation : Field
  lci : Field
  luf : Field
  prf : Field
  pcs : Field
  mi : Field
  spare : Field
  cni : Field
  pil : Field
  pty : Field

abbrev pub fields : List Field
fields = designation ∷ lci ∷ luf ∷ prf ∷ pcs ∷ mi ∷ spare ∷ cni ∷ pil ∷ pty ∷ []

-- a byte of the packet, 0 to 41, and the number of its data bit, 1 to 4
abbrev pub Position : Type 0
Position = ℕ × ℕ

-- the positions of a field's bits, bit 1 first, which 'is its highest'. In bytes 9 to 21 that is first sent first, so that D1 is
-- the highest bit of a nibble; in the designation, as in the address, D1 is the lowest.
abbrev pub positions : Field → List Position
positions designation = (2, 4) ∷ (2, 3) ∷ (2, 2) ∷ (2, 1) ∷ []
positions lci = (9, 1) ∷ (9, 2) ∷ []
positions luf = (9, 3) ∷ []
positions prf = (9, 4) ∷ []
positions pcs = (10, 1) ∷ (10, 2) ∷ []
positions mi = (10, 3) ∷ []
positions spare = (10, 4) ∷ []
positions cni =
    (11, 1) ∷ (11, 2) ∷ (11, 3) ∷ (11, 4)
    ∷ (17, 3) ∷ (17, 4) ∷ (18, 1) ∷ (18, 2)
    ∷ (12, 1) ∷ (12, 2) ∷ (18, 3) ∷ (18, 4)
    ∷ (19, 1) ∷ (19, 2) ∷ (19, 3) ∷ (19, 4) ∷ []
positions pil =
    (12, 3) ∷ (12, 4) ∷ (13, 1) ∷ (13, 2) ∷ (13, 3)
    ∷ (13, 4) ∷ (14, 1) ∷ (14, 2) ∷ (14, 3)
    ∷ (14, 4) ∷ (15, 1) ∷ (15, 2) ∷ (15, 3) ∷ (15, 4)
    ∷ (16, 1) ∷ (16, 2) ∷ (16, 3) ∷ (16, 4) ∷ (17, 1) ∷ (17, 2) ∷ []
positions pty = (20, 1) ∷ (20, 2) ∷ (20, 3) ∷ (20, 4) ∷ (21, 1) ∷ (21, 2) ∷ (21, 3) ∷ (21, 4) ∷ []

abbrev pub field_of : Field → Label → ℕ
field_of designation l = l.designation
field_of lci l = l.lci
field_of luf l = l.luf
field_of prf l = l.prf
field_of pcs l = l.pcs
field_of mi l = l.mi
field_of spare l = l.spare
field_of cni l = l.cni
field_of pil l = l.pil
field_of pty l = l.pty

abbrev pub label_by : (Field → ℕ) → Label
label_by f = record {
  designation = f designation;
  lci = f lci;
  luf = f luf;
  prf = f prf;
  pcs = f pcs;
  mi = f mi;
  spare = f spare;
  cni = f cni;
  pil = f pil;
  pty = f pty;
}

-- ── read: from the values of the bytes to a field ──────────────────────────────────────────────────────────────────
-- the number whose bits, after those of n, are these, the highest first
abbrev pub number_from : ℕ → List ℕ → ℕ
number_from n [] = n
number_from n (b ∷ bs) = number_from (n * 2 + b) bs

-- the bit at a position, where v gives the value of each byte
abbrev pub bit_at : (ℕ → ℕ) → Position → ℕ
bit_at v s = D s.1 (v s.0)

abbrev pub field_by : (ℕ → ℕ) → Field → ℕ
field_by v f = number_from 0 (map (bit_at v) (positions f))

-- ── written: from a label to the values of the bytes ───────────────────────────────────────────────────────────────
-- the k lowest bits of n, the highest first
abbrev pub bits : ℕ → ℕ → List ℕ
bits zero n = []
bits (suc k) n = n / 2 ^ k % 2 ∷ bits k n

abbrev pub field_bits : Label → Field → List ℕ
field_bits l f = bits (length (positions f)) (field_of f l)

abbrev pub zip : List Position → List ℕ → List (Position × ℕ)
zip [] bs = []
zip (s ∷ ss) [] = []
zip (s ∷ ss) (b ∷ bs) = (s, b) ∷ zip ss bs

-- every bit of some fields with its position
abbrev pub bits_of : Label → List Field → List (Position × ℕ)
bits_of l [] = []
bits_of l (f ∷ fs) = zip (positions f) (field_bits l f) ++ bits_of l fs

abbrev pub lookup : Position → List (Position × ℕ) → ℕ
lookup s [] = 0
lookup s (e ∷ es) = cond (eqb s.0 e.0.0 && eqb s.1 e.0.1) e.1 (lookup s es)

-- the bit that a label puts at a position
abbrev pub sent_at : Label → Position → ℕ
sent_at l s = lookup s (bits_of l fields)

-- the value whose data bits are these, 'with D1 lowest'
abbrev pub four : ℕ → ℕ → ℕ → ℕ → ℕ
four d₁ d₂ d₃ d₄ = d₁ + d₂ * 2 + d₃ * 4 + d₄ * 8

abbrev pub sent_in : Label → ℕ → ℕ
sent_in l i = four (sent_at l (i, 1)) (sent_at l (i, 2)) (sent_at l (i, 3)) (sent_at l (i, 4))
