-- That reduced lists lose no stable pair.
use Rattle.std.specs.Prelude.{◌≡◌, ℕ, Some, Contains}
use Rattle.sm_market.specs.Lists.{Lists, row, entry}
use Rattle.sm_market.specs.Matching.{Places, held}
use Rattle.sm_market.specs.Stable.{IsStable}

-- both agents of each pair of each stable matching find each other on their reduced lists
-- (Gusfield and Irving 1989, section 1.2.4)
pub record KeepsStablePairs (l reduced : Lists) : Type 0 where
  pub proposers : (n : Places) → IsStable l n → (p i : ℕ) → held n.proposers p ≡ Some i → Contains (row reduced.proposers p) (entry l.proposers p i)
  pub reviewers : (n : Places) → IsStable l n → (r k : ℕ) → held n.reviewers r ≡ Some k → Contains (row reduced.reviewers r) (entry l.reviewers r k)
