-- How large a market may be.
use Rattle.sm_market.specs.Lists.{Lists}
pub use Rattle.sm_lists.specs.Limits.{AreWithinLimits}

-- both sides are within the limits
pub record IsWithinLimits (l : Lists) : Type 0 where
  pub proposers : AreWithinLimits l.proposers
  pub reviewers : AreWithinLimits l.reviewers
