-- A timer's numbers, and a packet's, by the places of their bytes.
use Prim.Native.Nat.{ℕ}
use mathlib.Core.Path.{◌≡◌}
use mathlib.Core.List.{List}
use native.Mathlib.Omega.{arith}
use Prim.Native.Nat.{◌≤◌}
use lib.ListN.{length, take, drop, get_or, length-drop}
use lib.Seq.{take_all}
use Rattle.answer.specs.Bytes.{number_of}
use Rattle.desk.specs.declared.Desk.{Desk}
use Rattle.desk.specs.Calls.{packet_of}
use Rattle.items.proofs.Numbers.{places, first, number}
use Rattle.sheet.specs.Sheet.{booking_in, packet_in}

pub booking : (l : List ℕ) (c p n : ℕ) → 9 ≤ length l → c ≡ number_of (places 0 2 l) → p ≡ number_of (places 2 3 l) → n ≡ number_of (places 7 2 l) →
    record { cni = c; pil = p; year = get_or l 5 0; tuner = get_or l 6 0; length = n } ≡ booking_in (take 9 l)
booking l c p n h e f g = rw (first 9 l h, e, f, g)

pub packet_bytes : (l : List ℕ) (t : ℕ) (d : Desk) → length l ≡ 47 → t ≡ number_of (places 0 4 l) →
    packet_of (get_or l 4 0) t (take 42 (drop 5 l)) d ≡ packet_in (take 47 l) d
packet_bytes l t d h e =
    rw (take_all 47 l (omega arith), take_all 42 (drop 5 l) (omega (arith, length-drop 5 l)), number 4 l (omega arith), e)
