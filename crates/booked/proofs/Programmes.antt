-- Each programme of a page has a date that exists, an original time or 2500, times of a day, and a network of 16 bits.
use Prim.Native.Nat.{ℕ}
use mathlib.Core.List.{List, [], ◌∷◌}
use Rattle.answer.specs.Answer.{given}
use Rattle.announced.specs.declared.Announcement.{Announcement}
use Rattle.originals.specs.declared.Original.{Original}
use Rattle.preview.specs.declared.Programme.{Programme}
use Rattle.preview.specs.Page.{Reading, Reads, programmes_by, Answers, read}
use Rattle.booked.specs.Laws.{Member, here, later}
use Rattle.booked.proofs.Standing.{rows_small}
use Rattle.booked.proofs.Data.{Dated, Timely, Narrow, GoodOriginals, originals_good}
use Rattle.booked.proofs.Times.{OfDay, GoodAnnounced, announced_good}

pub record Good (q : Programme) : Type 0 where
  pub dated : Dated q.day q.month q.year
  pub original : Timely q.original.hour q.original.minute
  pub network : Narrow q.network
  pub start : OfDay q.start
  pub finish : OfDay q.finish

paired_good : (xs : List Announcement) (os : List Original) (q : Programme) → GoodAnnounced xs → GoodOriginals os → Member q (programmes_by xs os) → Good q
paired_good (a ∷ xs) (o ∷ os) q g h here = record { dated = h.0.0; original = h.0.1; network = h.0.2; start = g.0; finish = g.1 }
paired_good (a ∷ xs) (o ∷ os) q g h (later w) = paired_good xs os q g.2 h.1 w
paired_good [] os q g h w = elim w [ ]
paired_good (a ∷ xs) [] q g h w = elim w [ ]

reading_good : (page : List ℕ) (r : Reading) (q : Programme) → Reads page r → Member q (programmes_by r.announced r.originals) → Good q
reading_good page r q w m =
    paired_good r.announced r.originals q
    (announced_good w.next r.contents r.announced w.figures w.times)
    (originals_good r.contents r.originals w.figures (rows_small 0 r.contents w.contain) w.data_read)
    m

pub programme_good : (page : List ℕ) (qs : List Programme) (q : Programme) → Answers page (given qs) → Member q qs → Good q
programme_good page qs q (read r l w e) m = reading_good page r q w m
