-- The laws of every sequence of calls from a fresh desk.
use Prim.Native.Nat.{◌-◌}
use Rattle.desk.specs.Moments.{walk, walked_to}
use Rattle.desk.proofs.Settle.{settled_counted}
use Rattle.history.specs.Run.{reached}
use Rattle.history.specs.Laws.{Laws}
use Rattle.history.proofs.Refused.{accepted_alone}
use Rattle.history.proofs.Waits.{cut, wait_before}
use Rattle.history.proofs.Walked.{walked_least, walked_unique}
use Rattle.history.proofs.Short.{walked_short}
use Rattle.history.proofs.Keeps.{sound_walk, sound_reached, clock_within}
use Rattle.history.proofs.OneCopy.{one_copy, no_two}
use Rattle.history.proofs.Stays.{stays, starts}
use Rattle.history.proofs.Chain.{each_moment}
use Rattle.history.proofs.Prepared.{after_60, since, prepares, break}
use Rattle.history.proofs.Clock.{by_the_clock, no_gap, taken_over_lem, clock_ends_prepared}
use Rattle.history.proofs.Silent.{silent_home, never_hears}
use Rattle.history.proofs.Updates.{update_does, update_asks, repeat_waits, refused_leaves, update_elsewhere, update_only, update_takes, update_twin, update_moves, update_leaves}

pub laws : Laws
unfolding walked_to
laws =
    record {
      accepted_alone = accepted_alone;
      cut = λ cs us t later each from end. cut us t each end (reached cs) (sound_reached cs).settled from later;
      wait_before = λ cs u tuner t bytes. wait_before u tuner t bytes (reached cs) (sound_reached cs).settled;
      one_copy = λ cs n. one_copy _ (sound_walk n (reached cs) (sound_reached cs));
      no_two = λ cs n. no_two _ (sound_walk n (reached cs) (sound_reached cs));
      live_kept = λ cs n. settled_counted _ (sound_walk n (reached cs) (sound_reached cs)).settled;
      walked_least = walked_least;
      walked_unique = walked_unique;
      walked_short = λ cs t. walked_short (t - (reached cs).clock) (reached cs) (sound_reached cs);
      sound = λ cs n. sound_walk n (reached cs) (sound_reached cs);
      clock_within = clock_within;
      stays = λ cs. stays (reached cs) (sound_reached cs);
      starts = starts;
      after_60 = λ cs n. after_60 (walk n (reached cs)) (sound_walk n (reached cs) (sound_reached cs));
      since = since;
      prepares = prepares;
      break = break;
      each_moment = each_moment;
      by_the_clock = λ cs n. by_the_clock _ (sound_walk n (reached cs) (sound_reached cs)).settled;
      silent_home = λ cs. silent_home (reached cs) (sound_reached cs);
      never_hears = λ cs n tuner. never_hears tuner cs n;
      no_gap = λ cs n. no_gap _ (sound_walk n (reached cs) (sound_reached cs)).settled;
      taken_over_lem = λ s q ls b. taken_over_lem s ls b q;
      clock_ends_prepared = λ s v ls b. clock_ends_prepared s ls b v;
      update_does = update_does;
      update_asks = update_asks;
      repeat_waits = repeat_waits;
      refused_leaves = refused_leaves;
      update_elsewhere = update_elsewhere;
      update_only = λ cs. update_only (reached cs) (sound_reached cs);
      update_takes = update_takes;
      update_twin = update_twin;
      update_moves = λ cs c slot b a. update_moves c (reached cs) slot b a (sound_reached cs).settled;
      update_leaves = λ cs c slot place mi b a n. update_leaves c (reached cs) slot b a (sound_reached cs).settled n place mi;
    }
