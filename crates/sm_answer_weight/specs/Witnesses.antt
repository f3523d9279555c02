-- Worked answers: three proposers who go round in a cycle, of whom the first weighs 4 with its second choice and -10 with its third
-- one; and the net of residents who turn.
use Rattle.std.specs.Prelude.{◌≡◌, ℕ, Bool, true, false, List, [], ◌∷◌, map, pos, negsuc}
use Rattle.sm_agents.specs.Written.{Written, plain_written}
use Rattle.sm_instance.specs.Witnesses.{agent}
use Rattle.sm_agents.specs.declared.kinds.Kind.TheVariants.{Marriage}
use Rattle.sm_agents.specs.declared.kinds.Measure.TheVariants.{Given}
use Rattle.sm_report.specs.Heads.{HeadData}
use Rattle.sm_report.specs.Lines.{LineData}
use Rattle.sm_report.specs.Texts.{SOURCE, SINK}
use Rattle.sm_report.specs.Witnesses.{first_seat_of}
use Rattle.sm_seats.specs.Seating.{seating_of}
use Rattle.sm_seats.specs.Witnesses.{turning_hospitals, turning_rotation, firsts}
use Rattle.sm_seats.specs.ShownNet.{entry_node, exit_node, net_shown}
use Rattle.sm_theory.specs.Witnesses.{three_cycle_first, three_cycle_chain}
use Rattle.sm_theory.specs.WitnessesFlows.{three_cycle_needs}
use Rattle.sm_theory.specs.WitnessesLines.{three_cycle_lines}
use Rattle.sm_answer_weight.specs.WeightAnswer.{WeightParts, weight_lines}

-- these proposers and the three reviewers
abbrev pub three_proposers : Written
three_proposers = plain_written Marriage
    (agent 49 1 (0 ∷ 1 ∷ 2 ∷ []) ∷ agent 50 1 (1 ∷ 2 ∷ 0 ∷ []) ∷ agent 51 1 (2 ∷ 0 ∷ 1 ∷ []) ∷ [])
    (agent 97 1 (1 ∷ 2 ∷ 0 ∷ []) ∷ agent 98 1 (2 ∷ 0 ∷ 1 ∷ []) ∷ agent 99 1 (0 ∷ 1 ∷ 2 ∷ []) ∷ [])
    ((0, 1, pos 4) ∷ (0, 2, negsuc 9) ∷ []) [] []

-- their first matching, both rotations, what these need, and the flow, with both rotations taken
abbrev pub three_parts : WeightParts
three_parts = record { first = three_cycle_first; rotations = three_cycle_chain; needs = three_cycle_needs; flow = three_cycle_lines; second = []; taken = true ∷ true ∷ [] }

-- Both rotations are taken: the first costs 4, the second brings -14. The flow of 4 goes from the source by the second and the
-- first to the sink.
abbrev pub worked_answer : List LineData
worked_answer =
    LineData.Answer (HeadData.Weight Given) ∷
    LineData.First 0 (first_seat_of 0) ∷
    LineData.First 1 (first_seat_of 1) ∷
    LineData.First 2 (first_seat_of 2) ∷
    LineData.Rotation 1 ((0, first_seat_of 0) ∷ (1, first_seat_of 1) ∷ (2, first_seat_of 2) ∷ []) ∷
    LineData.Needs 1 [] ∷
    LineData.Gain 1 (pos 4) ∷
    LineData.Rotation 2 ((0, first_seat_of 1) ∷ (1, first_seat_of 2) ∷ (2, first_seat_of 0) ∷ []) ∷
    LineData.Needs 2 (1 ∷ []) ∷
    LineData.Gain 2 (negsuc 13) ∷
    LineData.Flow SOURCE 2 4 ∷
    LineData.Flow 1 SINK 4 ∷
    LineData.Flow 2 1 4 ∷
    LineData.Taken (1 ∷ 2 ∷ []) ∷
    LineData.Value 4 ∷
    LineData.Cut 4 ∷
    LineData.Total (negsuc 9) ∷
    LineData.Pair 0 2 ∷
    LineData.Pair 1 0 ∷
    LineData.Pair 2 1 ∷
    LineData.End ∷
    []

-- the lines of these parts are this answer
abbrev pub WorkedAnswer : Type 0
WorkedAnswer = weight_lines Given three_proposers three_parts ≡ worked_answer

-- the same proposers with other weights: 4 and a second weight of 1 for the first with its second choice, and 0 and a second weight of
-- -2 for the second with its third one
abbrev pub three_of_two : Written
three_of_two = record three_proposers { weights = (0, 1, pos 4) ∷ (1, 0, pos 0) ∷ []; seconds = pos 1 ∷ negsuc 1 ∷ [] }

-- one flows on each edge in the second net of their flow, whose edges without a bound are the residual steps
abbrev pub parts_of_two : WeightParts
parts_of_two = record three_parts {
  second = record { from = 0; to = 2; amount = 1 } ∷ record { from = 1; to = 3; amount = 1 } ∷ record { from = 2; to = 1; amount = 1 } ∷ [];
}

-- By first sums none and both of the rotations are lightest, with the sum 0. Both are taken, since their second sum is -2.
abbrev pub answer_of_two : List LineData
answer_of_two =
    LineData.Answer (HeadData.Weight Given) ∷
    LineData.First 0 (first_seat_of 0) ∷
    LineData.First 1 (first_seat_of 1) ∷
    LineData.First 2 (first_seat_of 2) ∷
    LineData.Rotation 1 ((0, first_seat_of 0) ∷ (1, first_seat_of 1) ∷ (2, first_seat_of 2) ∷ []) ∷
    LineData.Needs 1 [] ∷
    LineData.Gain 1 (pos 4) ∷
    LineData.SecondGain 1 (pos 1) ∷
    LineData.Rotation 2 ((0, first_seat_of 1) ∷ (1, first_seat_of 2) ∷ (2, first_seat_of 0) ∷ []) ∷
    LineData.Needs 2 (1 ∷ []) ∷
    LineData.Gain 2 (negsuc 3) ∷
    LineData.SecondGain 2 (negsuc 2) ∷
    LineData.Flow SOURCE 2 4 ∷
    LineData.Flow 1 SINK 4 ∷
    LineData.Flow 2 1 4 ∷
    LineData.SecondFlow SOURCE 2 1 ∷
    LineData.SecondFlow 1 SINK 1 ∷
    LineData.SecondFlow 2 1 1 ∷
    LineData.Taken (1 ∷ 2 ∷ []) ∷
    LineData.Value 4 ∷
    LineData.Cut 4 ∷
    LineData.Total (pos 0) ∷
    LineData.SecondValue 1 ∷
    LineData.SecondCut 1 ∷
    LineData.SecondTotal (negsuc 1) ∷
    LineData.Pair 0 2 ∷
    LineData.Pair 1 0 ∷
    LineData.Pair 2 1 ∷
    LineData.End ∷
    []

-- the lines of these parts are this answer
abbrev pub WorkedOfTwo : Type 0
WorkedOfTwo = weight_lines Given three_of_two parts_of_two ≡ answer_of_two

-- the rotation in which the resident r0 goes from one seat of h to its other one, r1 from h to k, and r2 from k to h
abbrev pub turning_rotations : List (List (ℕ × ℕ))
turning_rotations = turning_rotation ∷ []

-- whether unbounded edges lead from each node of its net to each one: from the source, from the rotation, and from the sink
abbrev pub turning_edges : Written → List (List Bool)
turning_edges w =
    let net = net_shown Given w firsts turning_rotations ([] ∷ []) in
    map (λ i. map (net.unbounded i) (0 ∷ 1 ∷ 2 ∷ [])) (0 ∷ 1 ∷ 2 ∷ [])

-- Between two seats of h nobody enters h or leaves it. So to force the pair of r0 and h asks for nothing. With r1 and h forced the
-- rotation isn't taken, and with r2 and k forbidden it is.
abbrev pub TurningNet : Type 0
TurningNet = let s = seating_of turning_hospitals in
    (map (entry_node s firsts turning_rotations) ((0, 0) ∷ (1, 0) ∷ (1, 1) ∷ (2, 0) ∷ (2, 1) ∷ []) ≡ 0 ∷ 0 ∷ 1 ∷ 1 ∷ 0 ∷ [])
    × (map (exit_node s turning_rotations) ((0, 0) ∷ (1, 0) ∷ (1, 1) ∷ (2, 0) ∷ (2, 1) ∷ []) ≡ 2 ∷ 1 ∷ 2 ∷ 2 ∷ 1 ∷ [])
    × (turning_edges (record turning_hospitals { forced = (0, 0) ∷ [] })
    ≡ (false ∷ false ∷ false ∷ []) ∷ (false ∷ false ∷ false ∷ []) ∷ (false ∷ false ∷ false ∷ []) ∷ [])
    × (turning_edges (record turning_hospitals { forced = (1, 0) ∷ [] })
    ≡ (false ∷ false ∷ false ∷ []) ∷ (false ∷ false ∷ true ∷ []) ∷ (false ∷ false ∷ false ∷ []) ∷ [])
    × (turning_edges (record turning_hospitals { forbidden = (2, 1) ∷ [] })
    ≡ (false ∷ true ∷ false ∷ []) ∷ (false ∷ false ∷ false ∷ []) ∷ (false ∷ false ∷ false ∷ []) ∷ [])
