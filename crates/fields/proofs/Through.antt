-- What is answered through lent bytes: a refusal where they are more or fewer, else the answer of the call below.
use Prim.Native.Nat.{ℕ, ◌≤◌}
use mathlib.Core.Path.{◌≡◌, refl, ap, ◌∙◌}
use mathlib.Core.List.{List, ◌∷◌}
use native.Mathlib.Omega.{arith}
use lib.ListN.{length, get_or}
use Rattle.answer.specs.Answer.{Answer, refused, given, number, after, and_then}
use Rattle.label.proofs.Rows.{other_length, that_length}
use Rattle.programmes.specs.declared.Programme.{Programme}
use Rattle.programmes.specs.declared.Page.{Page}
use Rattle.programmes.specs.Page.{reading_of, page_of}
use Rattle.programmes.proofs.Most.{at_most_103}
use Rattle.programmes.specs.Timer.{pil_of}
use Rattle.programmes.specs.Written.{Wrote, writing_of, programmes_of}
use Rattle.fields.specs.Fields.{programmes_to, programmes_in, page_from, packets_told, bytes_left}
use Rattle.fields.specs.Fields.{programme_at, wrong_room, room_of, plain, bytes_of, page_bytes, page_into, pil_number, pil_from}

-- an answer that is another, as its number and as what it leaves of a buffer
pub as_both : (was : List ℕ) {a b : Answer (List ℕ)} → a ≡ b → (number a ≡ number b) × (after was a ≡ after was b)
as_both was e = (ap number e, ap (after was) e)

module _ {B : Type 0} (n : ℕ) (f : List ℕ) (g : List ℕ → Answer B) where
  pub through : length f ≡ n → g f ≡ and_then (room_of n f) g
  through h = rw (that_length f h)

  pub stopped : (length f ≡ n → ⊥) → refused wrong_room ≡ and_then (room_of n f) g
  stopped h = rw (other_length f h)

-- ── a page read ────────────────────────────────────────────────────────────────────────────────────────────────────
abbrev in_bytes : Answer (List Programme) → Answer (List ℕ)
in_bytes a = and_then a (λ qs. given (page_bytes qs))

pub read_stopped : (p out : List ℕ) → (length out ≡ 1649 → ⊥) → refused wrong_room ≡ page_into p out
unfolding page_into
read_stopped p out h = stopped 1649 out (λ o. in_bytes (reading_of p)) h

read_through : (p out : List ℕ) → length out ≡ 1649 → in_bytes (reading_of p) ≡ page_into p out
unfolding page_into
read_through p out h = through 1649 out (λ o. in_bytes (reading_of p)) h

-- the page that is given, of the programmes
abbrev paged : Answer (List Programme) → Answer Page
paged a = and_then a (λ qs. given (page_of qs))

-- and its bytes
abbrev stored : Answer Page → Answer (List ℕ)
stored a = and_then a (λ (page : Page). given (page.count ∷ bytes_of page.programmes))

stored_same : (a : Answer (List Programme)) → stored (paged a) ≡ in_bytes a
unfolding page_of page_bytes
stored_same (refused n) = refl
stored_same (given qs) = refl

pub read_told : (p out : List ℕ) {a : Answer Page} → length out ≡ 1649 → a ≡ paged (reading_of p) →
    (number (stored a) ≡ number (page_into p out)) × (after out (stored a) ≡ after out (page_into p out))
read_told p out h e = as_both out (ap stored e ∙ stored_same (reading_of p) ∙ read_through p out h)

pub read_few : (p : List ℕ) {page : Page} → given page ≡ paged (reading_of p) → page.count ≤ 103
unfolding page_of
read_few p {page} e = go (reading_of p) refl e
  where
    go : (a : Answer (List Programme)) → reading_of p ≡ a → given page ≡ paged a → page.count ≤ 103
    go (refused n) f g = absurd (let z : ◌≡◌ {A = ℕ} 0 1 = cc in omega arith)
    go (given qs) f g = let c : page.count ≡ length qs = ap (λ a. (after page a).count) g in omega (arith, at_most_103 p qs f)

-- ── a page written ─────────────────────────────────────────────────────────────────────────────────────────────────
abbrev Same : ℕ → List ℕ → List ℕ → Answer Wrote → Type 0
Same n was last a = (n ≡ plain 256 (packets_told a)) × (last ≡ after was (bytes_left a))

same_as : (was : List ℕ) {n : ℕ} {last : List ℕ} {a b : Answer Wrote} → a ≡ b → Same n was last a → Same n was last b
same_as was {n} {last} e s = rw e at s

pub write_stopped : (f buf : List ℕ) → (length f ≡ 1650 → ⊥) →
    (65280 ≡ plain 256 (packets_told (page_from f buf))) × (buf ≡ after buf (bytes_left (page_from f buf)))
unfolding page_from
write_stopped f buf h = same_as buf (stopped 1650 f (λ g. writing_of (get_or g 0 0) (programmes_in g) buf) h) (refl, refl)

-- what the writer left of a buffer and answered, it did for the fields
pub written : (f buf : List ℕ) {page : Page} {last : List ℕ} {r : Answer ℕ} → length f ≡ 1650 →
    (page.count ≡ get_or f 1 0) × (page.programmes ≡ programmes_to f 103) →
    (r ≡ packets_told (writing_of (get_or f 0 0) (programmes_of page) buf)) × (last ≡ after buf (bytes_left (writing_of (get_or f 0 0) (programmes_of page) buf))) →
    (plain 256 r ≡ plain 256 (packets_told (page_from f buf))) × (last ≡ after buf (bytes_left (page_from f buf)))
unfolding page_from
written f buf {page} h p w =
    let qs : programmes_of page ≡ programmes_in f = rw (p.0, p.1) refl in
    let e : writing_of (get_or f 0 0) (programmes_of page) buf ≡ page_from f buf =
    ap (λ (ps : List Programme). writing_of (get_or f 0 0) ps buf) qs ∙ through 1650 f (λ g. writing_of (get_or g 0 0) (programmes_in g) buf) h in
    same_as buf e (ap (plain 256) w.0, w.1)

-- ── a PIL ──────────────────────────────────────────────────────────────────────────────────────────────────────────
abbrev pil_in : List ℕ → ℕ
pil_in f = pil_number (pil_of (programme_at f 0))

pub pil_stopped : (f : List ℕ) → (length f ≡ 16 → ⊥) → refused wrong_room ≡ pil_from f
unfolding pil_from
pil_stopped f h = stopped 16 f (λ g. given (pil_in g)) h

pub pil_through : (f : List ℕ) {n : ℕ} → length f ≡ 16 → n ≡ pil_in f → n ≡ plain 16777216 (pil_from f)
unfolding pil_from
pil_through f h e = e ∙ ap (plain 16777216) (through 16 f (λ g. given (pil_in g)) h)
