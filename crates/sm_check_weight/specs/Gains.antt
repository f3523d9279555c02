-- The gains of rotations by their moves.
use Rattle.std.specs.Prelude.{ℕ, ◌<◌, ◌^◌, List, length, ℤ}
use Rattle.sm_theory.specs.Sizes.{AreSmall}
use Rattle.sm_check_net.specs.declared.moves.Move.{Move}
use Rattle.sm_check_net.specs.Moves.{row_of_moves, HaveWeights}

-- the places of the moves of each rotation have small weights, and none has too many moves for a sum
pub record CanBeWeighed (weights : List (List ℤ)) (rows : List (List Move)) : Type 0 where
  pub small : AreSmall weights
  pub have : (k : ℕ) → k < length rows → HaveWeights weights (row_of_moves rows k)
  pub few : (k : ℕ) → k < length rows → length (row_of_moves rows k) < 2 ^ 24
