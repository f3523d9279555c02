-- How rotations move their proposers, by places.
use Rattle.std.specs.Prelude.{◌≡◌, ◌≢◌, ℕ, ◌<◌, List, [], Vec, length, map, slice_index_or, ℤ, ◌-ℤ◌}
use Rattle.std.specs.declared.alloc.Global.{Global}
use Rattle.sm_market.specs.Lists.{Lists, row, place_of}
use Rattle.sm_theory.specs.Rotations.{proposer_at, reviewer_at, target_at}
use Rattle.sm_theory.specs.Chains.{rotation_at}
use Rattle.sm_theory.specs.Weights.{total, weight_at}
use Rattle.sm_theory.specs.Sizes.{place_weights}
use Rattle.sm_check_net.specs.declared.moves.Move.{Move}

-- move i of these
abbrev pub move_at : List Move → ℕ → Move
move_at moves i = slice_index_or moves i (record { proposer = 0; from = 0; to = 0 })

-- how a rotation moves the proposer of a pair (Gusfield and Irving 1989, section 2.5)
pub record IsMoveOf (l : Lists) (rotation : List (ℕ × ℕ)) (i : ℕ) (step : Move) : Type 0 where
  pub proposer : step.proposer ≡ proposer_at rotation i
  pub from : step.from ≡ place_of l.proposers (proposer_at rotation i) (reviewer_at rotation i)
  pub to : step.to ≡ place_of l.proposers (proposer_at rotation i) (target_at rotation i)

-- a move leads from a place of a proposer's list to one of that list
pub record IsOnList (l : Lists) (step : Move) : Type 0 where
  pub proposer : step.proposer < length l.proposers
  pub from : step.from < length (row l.proposers step.proposer)
  pub to : step.to < length (row l.proposers step.proposer)

-- each of these moves is on the lists
abbrev pub AreOnLists : Lists → List Move → Type 0
AreOnLists l moves = (i : ℕ) → i < length moves → IsOnList l (move_at moves i)

-- how a rotation moves all its proposers, which differ
pub record AreRotationMoves (l : Lists) (rotation : List (ℕ × ℕ)) (moves : List Move) : Type 0 where
  pub one_each : length moves ≡ length rotation
  pub each : (i : ℕ) → i < length rotation → IsMoveOf l rotation i (move_at moves i)
  pub distinct : (i j : ℕ) → i < j → j < length rotation → proposer_at rotation i ≢ proposer_at rotation j

-- moves that are held in vectors
abbrev pub moves_in : List (Vec Move Global) → List (List Move)
moves_in vectors = map (λ v. v.items) vectors

-- the moves of rotation k
abbrev pub row_of_moves : List (List Move) → ℕ → List Move
row_of_moves rows k = slice_index_or rows k []

-- the moves of each rotation
pub record AreMovesByRotation (l : Lists) (rotations : List (List (ℕ × ℕ))) (rows : List (List Move)) : Type 0 where
  pub one_each : length rows ≡ length rotations
  pub each : (k : ℕ) → k < length rotations → AreRotationMoves l (rotation_at rotations k) (row_of_moves rows k)

-- the places of the moves have weights
pub record HaveWeights (weights : List (List ℤ)) (moves : List Move) : Type 0 where
  pub proposers : (i : ℕ) → i < length moves → (move_at moves i).proposer < length weights
  pub from : (i : ℕ) → i < length moves → (move_at moves i).from < length (place_weights weights (move_at moves i).proposer)
  pub to : (i : ℕ) → i < length moves → (move_at moves i).to < length (place_weights weights (move_at moves i).proposer)

-- the weight of the place to which a move leads less that of the place from which it leads, and the sum over all moves
abbrev pub move_gain : List (List ℤ) → Move → ℤ
move_gain weights step = weight_at weights step.proposer step.to -ℤ weight_at weights step.proposer step.from

-- what all these moves gain together
abbrev pub moves_gain : List (List ℤ) → List Move → ℤ
moves_gain weights moves = total (λ i. move_gain weights (move_at moves i)) (length moves)
