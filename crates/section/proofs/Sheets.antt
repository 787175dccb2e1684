-- A sheet that begins with a timers section holds its timers.
use Prim.Native.Nat.{ℕ, zero, suc, ◌+◌, ◌*◌, ◌/◌, ◌%◌, ◌^◌, ◌≤◌, ◌<◌}
use mathlib.Core.Path.{◌≡◌, refl, ◌∙◌}
use mathlib.Core.List.{List, [], ◌∷◌, ◌++◌, append_assoc, map}
use native.Mathlib.Nat.{zero-add}
use native.Mathlib.Omega.{arith}
use borrow.Author.Tests.{le-ltb}
use lib.ListN.{length, take, drop, get_or, length-append}
use Rattle.answer.specs.Bytes.{number_from, number_of}
use Rattle.items.specs.Items.{Item, timer, onto, item, next, on_packet_count, timers_from, items_of}
use Rattle.booked.specs.declared.Booked.{Booked}
use Rattle.section.specs.Section.{bytes_in, entry_of, entries_of, section_of}
use Rattle.section.proofs.Entered.{nine}

-- an entry is the next nine bytes
parts : (tuner : ℕ) (b : Booked) (xs : List ℕ) → item (take 9 (entry_of tuner b ++ xs)) (drop 9 (entry_of tuner b ++ xs)) ≡ item (entry_of tuner b) xs
unfolding entry_of
parts tuner b xs = refl

next_entry : (tuner : ℕ) (b : Booked) (xs : List ℕ) → next 9 (entry_of tuner b ++ xs) ≡ item (entry_of tuner b) xs
next_entry tuner b xs =
    let all = entry_of tuner b ++ xs in
    let long : 9 ≤ length all = omega (arith, length-append (entry_of tuner b) xs, nine tuner b) in
    rw (le-ltb (length all) 9 long) (parts tuner b xs)

next_count : (n : ℕ) (xs : List ℕ) → next 1 (n ∷ xs) ≡ item (n ∷ []) xs
next_count n xs = rw (le-ltb (length (n ∷ xs)) 1 (omega arith)) refl

abbrev item_by : ℕ → Booked → Item
item_by tuner b = timer (entry_of tuner b)

entries : (bs : List Booked) (tuner : ℕ) (rest : List ℕ) →
    timers_from (length bs) (entries_of tuner bs ++ rest) ≡ onto (map (item_by tuner) bs) (on_packet_count (next 2 rest))
unfolding timers_from entries_of
entries [] tuner rest = refl
entries (b ∷ bs) tuner rest =
    rw (append_assoc (entry_of tuner b) (entries_of tuner bs) rest, next_entry tuner b (entries_of tuner bs ++ rest), entries bs tuner rest) refl

pub timers : (tuner : ℕ) (bs : List Booked) (rest : List ℕ) →
    items_of (section_of tuner bs ++ rest) ≡ onto (map (λ b. timer (entry_of tuner b)) bs) (on_packet_count (next 2 rest))
unfolding items_of section_of
timers tuner bs rest = rw (next_count (length bs) (entries_of tuner bs ++ rest), zero-add (length bs)) (entries bs tuner rest)

number_more : (xs : List ℕ) (m b : ℕ) → number_from m (xs ++ (b ∷ [])) ≡ number_from m xs * 256 + b
number_more [] m b = refl
number_more (x ∷ xs) m b = number_more xs (m * 256 + x) b

number_back : (k n : ℕ) → n < 256 ^ k → number_of (bytes_in k n) ≡ n
number_back zero n h = omega arith
number_back (suc k) n h =
    let higher : number_of (bytes_in k (n / 256)) ≡ n / 256 = number_back k (n / 256) (omega arith) in
    number_more (bytes_in k (n / 256)) 0 (n % 256) ∙ omega (arith, higher)

pub fields : (tuner : ℕ) (b : Booked) → b.cni < 65536 → b.pil < 16777216 → b.length < 65536 → let e = entry_of tuner b in
    (number_of (take 2 e) ≡ b.cni) × (number_of (take 3 (drop 2 e)) ≡ b.pil) × (get_or e 5 0 ≡ b.year) × (get_or e 6 0 ≡ tuner)
    × (number_of (take 2 (drop 7 e)) ≡ b.length)
unfolding entry_of
fields tuner b c p l = (number_back 2 b.cni c, number_back 3 b.pil p, refl, refl, number_back 2 b.length l)
