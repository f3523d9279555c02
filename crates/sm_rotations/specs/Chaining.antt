-- A chain that isn't at its end.
use Rattle.std.specs.Prelude.{◌≡◌, ℕ, ◌<◌, List, length}
use Rattle.sm_market.specs.Lists.{Lists}
use Rattle.sm_market.specs.Matching.{Places}
use Rattle.sm_theory.specs.Rotations.{IsLowestExposed}
use Rattle.sm_theory.specs.Chains.{rotation_at, stage}

-- each rotation is exposed at its turn and begins with the lowest-numbered proposer of all that are exposed there, and
-- the rotations lead to m
pub record LeadsTo (l : Lists) (first : Places) (rotations : List (List (ℕ × ℕ))) (m : Places) : Type 0 where
  pub lowest : (k : ℕ) → k < length rotations → IsLowestExposed l (stage l first rotations k) (rotation_at rotations k)
  pub at_end : m ≡ stage l first rotations (length rotations)
