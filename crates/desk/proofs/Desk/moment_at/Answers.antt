-- The desk with the timers that `all_next` leaves, and its count of them.
use Rattle.desk.specs.Moments.{moment}
use Rattle.desk.proofs.Desk.moment_at.Goals as goal

pub returns : goal.returns
unfolding moment
returns c = rw c.all_next-next.ensures
