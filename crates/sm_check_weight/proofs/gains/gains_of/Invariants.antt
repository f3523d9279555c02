use Rattle.std.proofs.Common.{◌≡◌, ℕ, List, map, take}
use Rattle.sm_market.specs.Lists.{Lists}
use Rattle.sm_theory.specs.Sizes.{weights_in}
use Rattle.sm_theory.specs.Weights.{gain_of}
use Rattle.sm_check_net.specs.Moves.{moves_in, AreMovesByRotation}
use Rattle.sm_check_weight.proofs.gains.gains_of.Given as goal

-- the gains of the rotations so far
abbrev pub invariant-loop-k : goal.invariant-loop-k
invariant-loop-k l = (lists : Lists) (rotations : List (List (ℕ × ℕ))) → AreMovesByRotation lists rotations (moves_in l.moves)
    → l.gains.items ≡ map (gain_of lists (weights_in l.weights)) (take l.k rotations)
