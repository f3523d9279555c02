-- What a market keeps beside its lists.
use Rattle.std.specs.Prelude.{ℕ, List}
use Rattle.sm_market.specs.Lists.{Lists, IsMarket}
use Rattle.sm_market.specs.Limits.{IsWithinLimits}
use Rattle.sm_market.specs.Crosses.{AreCrosses}

-- what is kept of a market: its lists, and the cross positions of the proposers' and of the reviewers' places
pub record IsKept (l : Lists) (of_proposers of_reviewers : List (List ℕ)) : Type 0 where
  pub market : IsMarket l
  pub limits : IsWithinLimits l
  pub proposers : AreCrosses l.proposers l.reviewers of_proposers
  pub reviewers : AreCrosses l.reviewers l.proposers of_reviewers
