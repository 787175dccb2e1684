-- The laws of the match.
use Rattle.answer.proofs.Answers.{equation}
use Rattle.matching.specs.Matching.{open_at, ended_at, matches, sight_of}
use Rattle.matching.specs.Laws.{Laws}
use Rattle.matching.proofs.Codes.{codes_match_nothing, unreal_matches_nothing, refused_matches_nothing}

pub laws : Laws
laws = record {
  codes_match_nothing = codes_match_nothing;
  unreal_matches_nothing = unreal_matches_nothing;
  refused_matches_nothing = refused_matches_nothing;
  open_at_unique = λ s b. equation (open_at s b);
  ended_at_unique = λ s b. equation (ended_at s b);
  matches_unique = λ s b l. equation (matches s b l);
  sight_of_unique = λ s ls b. equation (sight_of s ls b);
}
