-- How far the successors of the proposers were looked for.
use Rattle.std.specs.Prelude.{◌≡◌, ℕ, ◌<◌, List, length, slice_index}
use Rattle.sm_market.specs.Lists.{Lists, row}
use Rattle.sm_market.specs.Matching.{Places, standing}
use Rattle.sm_theory.specs.Rotations.{WouldTake}

-- how far the successor of each proposer was looked for: nobody on its list behind its partner and before that place would
-- take it
pub record IsSearchAt (l : Lists) (m : Places) (from : List ℕ) : Type 0 where
  pub one_each : length from ≡ length l.proposers
  pub passed : (p i : ℕ) → standing l.proposers m.proposers p < i → i < length (row l.proposers p) → i < slice_index from p → ¬ WouldTake l m p i
