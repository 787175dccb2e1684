-- What no label can match: a service code is real in no year, and what is not real has no window.
use Prim.Native.Nat.{ℕ, ◌≤◌}
use mathlib.Core.Path.{◌≡◌}
use mathlib.Core.Bool.{true, false, and-false, or-true}
use native.Mathlib.Omega.{arith}
use borrow.Author.Tests.{eqb-true, ne_eqb}
use lib.Dec.{eqb}
use Rattle.answer.specs.Answer.{refused}
use Rattle.answer.proofs.Cases.{by_test}
use Rattle.label.specs.declared.pil.Service.TheVariants.{Programme}
use Rattle.label.specs.Pil.{minute_of, no_specific_value, service_of}
use Rattle.calendar.specs.Calendar.{real_in, window_in}
use Rattle.calendar.proofs.Windows.{real_in_parts}
use Rattle.matching.specs.Matching.{open_at, matches}
use Rattle.places.specs.declared.Stamped.{Stamped}
use Rattle.matching.specs.declared.Booking.{Booking}
use Rattle.matching.proofs.Sights.{match_named, named_other}

-- a code has minute 63
pub real_programme : (pil year : ℕ) → real_in pil year ≡ true → service_of pil ≡ Programme
unfolding service_of
real_programme pil year r =
    let m : minute_of pil ≤ 59 = (real_in_parts pil year r).2 in
    let u : eqb (minute_of pil) 63 ≡ false = ne_eqb (minute_of pil) 63 (λ e. omega arith) in
    let n : eqb pil no_specific_value ≡ false = ne_eqb pil no_specific_value (λ e. omega arith) in
    rw (n, u, and-false)

module _ (s : ℕ) (b : Booking) where
  unreal_shut : real_in b.pil b.year ≡ false → open_at s b ≡ false
  unfolding open_at window_in
  unreal_shut e = rw (e, or-true)

  module _ (l : Stamped) where
    shut_matches_nothing : open_at s b ≡ false → matches s b l ≡ false
    shut_matches_nothing e = rw (match_named, e, and-false)

    pub unreal_matches_nothing : real_in b.pil b.year ≡ false → matches s b l ≡ false
    unreal_matches_nothing e = shut_matches_nothing (unreal_shut e)

    pub refused_matches_nothing : (n : ℕ) → window_in b.pil b.year ≡ refused n → matches s b l ≡ false
    unfolding open_at
    refused_matches_nothing n e = shut_matches_nothing (rw e)

    pub codes_match_nothing : (service_of l.pil ≡ Programme → ⊥) → matches s b l ≡ false
    codes_match_nothing h =
        by_test (eqb l.pil b.pil)
        (λ e. by_test (real_in b.pil b.year)
        (λ r. absurd (h (rw (eqb-true l.pil b.pil e) (real_programme b.pil b.year r))))
        unreal_matches_nothing)
        (λ e. rw (match_named, named_other s b l e))
