-- The laws of specs/Laws.antt.
use Rattle.sm_seats.specs.Laws.{SeatsCorrespond, FewSeatsFit, BestsCorrespond}
use Rattle.sm_seats.proofs.LimitLaws.{market_within}
use Rattle.sm_seats.proofs.CorrespondenceLaws.{sound_entries, is_seating}
use Rattle.sm_seats.proofs.SeatingLaws.{proposers_best, reviewers_best}
use Rattle.sm_seats.proofs.BestLaws.{seats_proposers_best, seats_reviewers_best}

-- by `CorrespondenceLaws`
pub seats_correspond : SeatsCorrespond
seats_correspond w i = is_seating (sound_entries i)

-- by `LimitLaws`
pub few_seats_fit : FewSeatsFit
few_seats_fit w i few = market_within (sound_entries i) i.limits.proposers few

-- by `SeatingLaws`, and back by `BestLaws`
pub bests_correspond : BestsCorrespond
bests_correspond w s m h st = ((proposers_best h, seats_proposers_best h st), (reviewers_best h, seats_reviewers_best h st))
