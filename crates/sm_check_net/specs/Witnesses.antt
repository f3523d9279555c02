-- The moves and the net of three proposers who go round in a cycle.
use Rattle.std.specs.Prelude.{◌≡◌, ℕ, true, false, List, [], ◌∷◌, ◌++◌, pos, negsuc, map}
use Rattle.sm_theory.specs.Witnesses.{three_cycle, three_cycle_first, three_cycle_chain}
use Rattle.sm_theory.specs.WitnessesFlows.{three_cycle_levels, three_cycle_weights, three_cycle_needs, middle}
use Rattle.sm_theory.specs.WitnessesLines.{line, three_cycle_lines}
use Rattle.sm_theory.specs.declared.flow_lines.FlowLine.{FlowLine}
use Rattle.sm_check_net.specs.declared.moves.Move.{Move}
use Rattle.sm_check_net.specs.Moves.{AreMovesByRotation, moves_gain}
use Rattle.sm_check_net.specs.Spans.{bonds_of}
use Rattle.sm_check_net.specs.SetPlaces.{worst_by}
use Rattle.sm_check_net.specs.CheckedNets.{NetParts}
use Rattle.sm_check_net.specs.Repeats.{IsRepeated}
use Rattle.sm_check_net.specs.Residual.{residual_steps}
use Rattle.sm_check_net.specs.Second.{inner_steps}

-- a move of a proposer from one place to another
abbrev pub step : (proposer from to : ℕ) → Move
step proposer from to = record { proposer = proposer; from = from; to = to }

-- the first rotation moves each to its second place, and the second one to its third
abbrev pub three_cycle_moves : List (List Move)
three_cycle_moves = (step 0 0 1 ∷ step 1 0 1 ∷ step 2 0 1 ∷ []) ∷ (step 0 1 2 ∷ step 1 1 2 ∷ step 2 1 2 ∷ []) ∷ []

-- the gains 4 and -14 of the two rotations with what each needs, without bonds
abbrev pub three_cycle_parts : NetParts
three_cycle_parts = record { gains = pos 4 ∷ negsuc 13 ∷ []; needs = three_cycle_needs; bonds = [] }

-- the gains are 4 and -14; the level in the middle is entered by the first rotation and left by the second; and with the first
-- rotation proposer 0 is at its second place, with both at its third
abbrev pub WorkedMoves : Type 0
WorkedMoves = AreMovesByRotation three_cycle three_cycle_chain three_cycle_moves
    × (map (moves_gain three_cycle_weights) three_cycle_moves ≡ three_cycle_parts.gains)
    × (bonds_of three_cycle_levels three_cycle_first.proposers three_cycle_moves middle [] ≡ (0, 1) ∷ (2, 3) ∷ [])
    × (bonds_of three_cycle_levels three_cycle_first.proposers three_cycle_moves [] middle ≡ (1, 2) ∷ [])
    × (worst_by 0 three_cycle_moves (true ∷ false ∷ []) 2 0 ≡ 1)
    × (worst_by 0 three_cycle_moves (true ∷ true ∷ []) 2 0 ≡ 2)

-- the second rotation needs the first, the three lines can be gone against, and the source has room left to the second rotation;
-- the edges of the second net are those that neither end at the source nor begin at the sink
abbrev pub WorkedSteps : Type 0
WorkedSteps = (residual_steps three_cycle_parts three_cycle_lines ≡ (2, 1) ∷ (2, 0) ∷ (3, 1) ∷ (1, 2) ∷ (0, 2) ∷ [])
    × (inner_steps three_cycle_parts three_cycle_lines ≡ (2, 1) ∷ (1, 2) ∷ (0, 2) ∷ [])

-- of four lines the last has the ends of the first
abbrev pub four_lines : List FlowLine
four_lines = three_cycle_lines ++ line 0 2 1 ∷ []

-- the last of four lines is repeated, and the second is not
abbrev pub LastIsRepeated : Type 0
LastIsRepeated = IsRepeated four_lines 3 × (¬ IsRepeated four_lines 1)
