-- The laws of nets of gains, needs and bonds. Each is the contract of a function of `laws`.
use Rattle.std.specs.Prelude.{◌≡◌, ℕ, ◌+◌, ◌<◌, List, length, map, ℤ}
use Rattle.sm_market.specs.Lists.{Lists}
use Rattle.sm_market.specs.Matching.{Places}
use Rattle.sm_theory.specs.Weights.{gain_of}
use Rattle.sm_theory.specs.Sizes.{AreWeights}
use Rattle.sm_theory.specs.Vectors.{AreLevels}
use Rattle.sm_theory.specs.Net.{HasEdge}
use Rattle.sm_theory.specs.Conditions.{net_of}
use Rattle.sm_check_net.specs.declared.moves.Move.{Move}
use Rattle.sm_check_net.specs.Moves.{AreMovesByRotation, AreOnLists, HaveWeights}
use Rattle.sm_check_net.specs.Spans.{bonds_of, HaveLevels}
use Rattle.sm_check_net.specs.CheckedNets.{NetParts, net_of_parts, HasParts, AreNumbersBelow}

-- by the moves of the rotations of a chain, the gains, the needs and the bonds make the net of gains, predecessors and conditions
abbrev pub NetIsOf : Type 0
NetIsOf = (l : Lists) (levels : List (List ℕ)) (weights : List (List ℤ)) (forced forbidden : List (ℕ × ℕ)) (first : Places) (rotations : List (List (ℕ × ℕ))) (needs : List (List ℕ)) (rows : List (List Move)) (parts : NetParts)
    → AreMovesByRotation l rotations rows
    → HasParts parts (map (gain_of l weights) rotations) needs (bonds_of levels first.proposers rows forced forbidden)
    → net_of_parts parts ≡ net_of l levels weights forced forbidden first rotations needs

-- the edges of the net of gains, predecessors and conditions lead between its nodes
abbrev pub EdgesAreOnNodes : Type 0
EdgesAreOnNodes = (l : Lists) (levels : List (List ℕ)) (weights : List (List ℤ)) (forced forbidden : List (ℕ × ℕ)) (first : Places) (rotations : List (List (ℕ × ℕ))) (needs : List (List ℕ))
    → length needs ≡ length rotations → AreNumbersBelow (length rotations) needs
    → (i j : ℕ) → HasEdge (net_of l levels weights forced forbidden first rotations needs) i j → (i < length rotations + 2) × (j < length rotations + 2)

-- where there are weights for all places of the lists, moves on them have weights; and so with levels
abbrev pub MovesHaveWeights : Type 0
MovesHaveWeights = (l : Lists) (weights : List (List ℤ)) (moves : List Move) → AreWeights l weights → AreOnLists l moves → HaveWeights weights moves

-- where there are levels for all places of the lists, moves on them have levels
abbrev pub MovesHaveLevels : Type 0
MovesHaveLevels = (l : Lists) (levels : List (List ℕ)) (moves : List Move) → AreLevels l levels → AreOnLists l moves → HaveLevels levels moves
