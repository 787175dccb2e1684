-- The answers of the crates below as plain numbers and bytes.
use Rattle.std.specs.Prelude.{ℕ, ◌+◌, ◌*◌, ◌/◌, ◌%◌, List, [], ◌∷◌, ◌++◌, get_or}
use Rattle.answer.specs.Answer.{Answer, refused, given, and_then}
use Rattle.answer.specs.Bytes.{number_of}
use Rattle.calendar.specs.declared.Window.{Window}
use Rattle.hamming.specs.declared.Nibble.{Nibble}
use Rattle.hamming.specs.declared.Nibble.TheVariants.{Damaged, Clean, Mended}
use Rattle.label.specs.declared.Label.{Label}
use Rattle.label.specs.declared.Received.{Received}
use Rattle.label.specs.declared.pil.Service.{Service}
use Rattle.label.specs.declared.pil.Service.TheVariants.{Programme, TimerControl, InhibitTerminate, Interruption, Continuation, NoSpecificValue}
use Rattle.label.specs.Packet.{reception_of, writing_of}
use Rattle.fields.specs.Fields.{room_of}
use Rattle.triplet.specs.declared.Triplet.{Triplet}
use Rattle.triplet.specs.declared.Triplet.TheVariants as triplet

-- the value of a clean byte, 32 more for a mended one, and 16 for a damaged one
abbrev pub nibble_number : Nibble → ℕ
nibble_number Damaged = 16
nibble_number (Clean v) = v
nibble_number (Mended v) = 32 + v

-- a byte, or 256 times the number of a refusal
abbrev pub byte_or : Answer ℕ → ℕ
byte_or (refused n) = n * 256
byte_or (given b) = b

-- a label as thirteen bytes: designation, LCI, LUF, PRF, PCS, MI, spare, CNI (2), PIL (3), PTY, the high byte of a number first
abbrev pub field_bytes : Label → List ℕ
field_bytes l =
    l.designation ∷ l.lci ∷ l.luf ∷ l.prf ∷ l.pcs ∷ l.mi ∷ l.spare
    ∷ l.cni / 256 % 256 ∷ l.cni % 256 ∷ l.pil / 65536 % 256 ∷ l.pil / 256 % 256 ∷ l.pil % 256 ∷ l.pty ∷ []

-- and what is received as fourteen: the label's, then the count of mended bytes
abbrev pub received_bytes : Received → List ℕ
received_bytes r = field_bytes r.label ++ (r.mended ∷ [])

abbrev pub label_of : List ℕ → Label
label_of f = record {
  designation = get_or f 0 0;
  lci = get_or f 1 0;
  luf = get_or f 2 0;
  prf = get_or f 3 0;
  pcs = get_or f 4 0;
  mi = get_or f 5 0;
  spare = get_or f 6 0;
  cni = number_of (get_or f 7 0 ∷ get_or f 8 0 ∷ []);
  pil = number_of (get_or f 9 0 ∷ get_or f 10 0 ∷ get_or f 11 0 ∷ []);
  pty = get_or f 12 0;
}

-- what a packet is received as, in fourteen bytes of a lent buffer
unfoldable pub read_into : List ℕ → List ℕ → Answer (List ℕ)
read_into p out = and_then (room_of 14 out) (λ o. and_then (reception_of p) (λ r. given (received_bytes r)))

-- the packet that thirteen bytes make of a lent one
unfoldable pub write_from : List ℕ → List ℕ → Answer (List ℕ)
write_from f p = and_then (room_of 13 f) (λ g. writing_of (label_of g) p)

abbrev pub service_number : Service → ℕ
service_number Programme = 0
service_number TimerControl = 1
service_number InhibitTerminate = 2
service_number Interruption = 3
service_number Continuation = 4
service_number NoSpecificValue = 5

-- a window as one number, or the number of a refusal
abbrev pub window_or : Answer Window → ℕ
window_or (refused n) = n
window_or (given w) = w.opens * 4294967296 + w.closes

-- the value of a clean word, 524288 more for a mended one, and 262144 for a damaged one
abbrev pub triplet_number : Triplet → ℕ
triplet_number triplet.Damaged = 262144
triplet_number (triplet.Clean v) = v
triplet_number (triplet.Mended v) = 524288 + v
