-- What a sheet tells of the aerials (document 02, #102): one definition over the bytes of the input.
use Rattle.std.specs.Prelude.{ℕ, ◌+◌, Bool, true, false, cond, not, List, [], ◌∷◌, eqb, drop, get_or}
use Rattle.answer.specs.Answer.{Answer, refused, given}
use Rattle.answer.specs.Lists.{count}
use Rattle.label.specs.declared.Received.{Received}
use Rattle.label.specs.Packet.{reception_of}
use Rattle.items.specs.Items.{Item, timer, packet, items_of}
use Rattle.report.specs.declared.Tuner.{Tuner}
use Rattle.report.specs.Report.{report}

-- ── what came from a tuner ─────────────────────────────────────────────────────────────────────────────────────────
-- '47 bytes each: time 4, tuner 1, packet 42'
abbrev pub tuner_in : List ℕ → ℕ
tuner_in item = get_or item 4 0

abbrev pub reception_in : List ℕ → Answer Received
reception_in item = reception_of (drop 5 item)

-- what the reader says of each packet that came from a tuner, whatever the desk would say of tuner or time
unfoldable pub receptions : ℕ → List Item → List (Answer Received)
receptions k [] = []
receptions k (timer i ∷ is) = receptions k is
receptions k (packet i ∷ is) = cond (eqb (tuner_in i) k) (reception_in i ∷ receptions k is) (receptions k is)

-- 'packets read clean'
abbrev pub is_clean : Answer Received → Bool
is_clean (refused n) = false
is_clean (given r) = eqb r.mended 0

-- 'packets read with mended bytes'
abbrev pub is_mended : Answer Received → Bool
is_mended (refused n) = false
is_mended (given r) = not (eqb r.mended 0)

-- 'mended bytes in all'
abbrev pub mended_bytes : Answer Received → ℕ
mended_bytes (refused n) = 0
mended_bytes (given r) = r.mended

abbrev pub mended_in_all : List (Answer Received) → ℕ
mended_in_all [] = 0
mended_in_all (a ∷ rs) = mended_bytes a + mended_in_all rs

-- 'packets refused by the reader (1 to 6)'
abbrev pub is_refused : Answer Received → Bool
is_refused (refused n) = true
is_refused (given r) = false

-- all four, of one tuner
unfoldable pub heard_from : ℕ → List Item → Tuner
heard_from k is =
    let rs = receptions k is in
    record { clean = count is_clean rs; mended = count is_mended rs; bytes = mended_in_all rs; refused = count is_refused rs }

-- ── what is printed ────────────────────────────────────────────────────────────────────────────────────────────────
-- 'one definition over the input's bytes': what came from each tuner among its items
unfoldable pub aerial_of : List ℕ → List ℕ
aerial_of xs = let c = items_of xs in report (λ k. heard_from k c.items) c.whole
