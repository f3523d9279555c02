-- The first blocking pair.
use Rattle.std.specs.Prelude.{ℕ, ◌<◌}
use Rattle.sm_market.specs.Lists.{Lists}
use Rattle.sm_market.specs.Matching.{Places}
use Rattle.sm_market.specs.Stable.{Blocks}

-- no pair blocks
pub record IsUnblocked (l : Lists) (m : Places) : Type 0 where
  pub unblocked : (p i : ℕ) → ¬ Blocks l m p i

-- p is the first proposer of a blocking pair, and i the first place of its list that makes one
pub record IsFirstBlocking (l : Lists) (m : Places) (p i : ℕ) : Type 0 where
  pub blocks : Blocks l m p i
  pub earlier_proposers : (q j : ℕ) → q < p → ¬ Blocks l m q j
  pub earlier_places : (j : ℕ) → j < i → ¬ Blocks l m p j
