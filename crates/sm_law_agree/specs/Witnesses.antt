-- Right answers that are known by hand, so that no law is about nothing.
use Rattle.std.specs.Prelude.{ℕ, List, [], ◌∷◌, Option, None, Some, codes, pos, negsuc}
use Rattle.sm_agents.specs.Written.{AgentData, Written, plain_written}
use Rattle.sm_agents.specs.Sound.{IsInstance}
use Rattle.sm_instance.specs.Witnesses.{agent}
use Rattle.sm_agents.specs.declared.kinds.Kind.TheVariants.{Marriage}
use Rattle.sm_agents.specs.declared.kinds.Measure.TheVariants.{Given}
use Rattle.sm_agents.specs.declared.kinds.Side.TheVariants.{Proposers, Reviewers}
use Rattle.sm_theory.specs.declared.choice.Choice.TheVariants.{Better, Worse}
use Rattle.sm_seats.specs.SeatEntries.{AreFewSeats}
use Rattle.sm_report.specs.declared.lines.Seat.{Seat}
use Rattle.sm_report.specs.Heads.{HeadData}
use Rattle.sm_report.specs.Lines.{LineData}
use Rattle.sm_report.specs.Witnesses.{first_seat_of}
use Rattle.sm_answer_solve.specs.Solution.{IsSolution}
use Rattle.sm_answer_rotations.specs.Reduction.{IsReduction}
use Rattle.sm_answer_rotations.specs.RotationAnswer.{IsRotationAnswer}
use Rattle.sm_answer_list.specs.ListAnswer.{IsListAnswer}
use Rattle.sm_answer_pairs.specs.RegretAnswer.{IsRegretAnswer}
use Rattle.sm_answer_pairs.specs.PairsAnswer.{IsPairsAnswer}
use Rattle.sm_answer_weight.specs.WeightAnswer.{IsWeightAnswer}
use Rattle.sm_answer_weight.specs.Witnesses.{worked_answer, answer_of_two}
use Rattle.sm_answer_given.specs.Chosen.{IsChosenAnswer}
use Rattle.sm_answer_roommates.specs.RoomAnswer.{IsMatched, IsUnmatchable}

-- an agent on the line of its declaration
abbrev pub placed : ℕ → AgentData → AgentData
placed line agent = record agent { line = line }

-- a proposer m and a reviewer w, who list each other
abbrev pub one_pair : Written
one_pair = plain_written Marriage
    (placed 2 (agent 109 1 (0 ∷ [])) ∷ [])
    (placed 3 (agent 119 1 (0 ∷ [])) ∷ [])
    [] [] []

-- their only stable matching
abbrev pub together : List (Option ℕ)
together = Some 0 ∷ []

-- w's only seat, and the reduced lists
abbrev pub only_seat : Seat
only_seat = record { reviewer = 0; number = 1 }

-- the right answer of `reduced`
abbrev pub reduced_answer : List LineData
reduced_answer =
    LineData.Answer HeadData.Reduced ∷
    LineData.First 0 only_seat ∷
    LineData.Last 0 only_seat ∷
    LineData.ProposerList 0 (only_seat ∷ []) ∷
    LineData.ReviewerList only_seat (0 ∷ []) ∷
    LineData.End ∷
    []

-- it is given twice
abbrev pub given_twice : List (List ℕ)
given_twice = codes "left m w" ∷ codes "right m w" ∷ codes "end" ∷ []

-- the right answers of `meet` and of `join`, but for the head
abbrev pub given_answer : HeadData → List LineData
given_answer head = LineData.Answer head ∷ LineData.LeftPair 0 0 ∷ LineData.RightPair 0 0 ∷ LineData.Pair 0 0 ∷ LineData.End ∷ []

-- the right answers of each command
abbrev pub OnePair : Type 0
OnePair = IsInstance one_pair
    × IsSolution Proposers one_pair (LineData.Answer (HeadData.Solve (Some Proposers)) ∷ LineData.Pair 0 0 ∷ LineData.End ∷ [])
    × IsSolution Reviewers one_pair (LineData.Answer (HeadData.Solve (Some Reviewers)) ∷ LineData.Pair 0 0 ∷ LineData.End ∷ [])
    × IsReduction one_pair reduced_answer
    × IsListAnswer None 1 one_pair (LineData.Answer (HeadData.List None 1) ∷ LineData.Vector (1 ∷ []) ∷ LineData.End ∷ [])
    × IsRegretAnswer one_pair (LineData.Answer HeadData.Regret ∷ LineData.Regret 1 ∷ LineData.Pair 0 0 ∷ LineData.End ∷ [])
    × IsChosenAnswer Better given_twice one_pair (given_answer HeadData.Meet)
    × IsChosenAnswer Worse given_twice one_pair (given_answer HeadData.Join)
    × IsPairsAnswer one_pair (LineData.Answer HeadData.Pairs ∷ LineData.AllPair 0 0 ∷ LineData.End ∷ [])

-- four persons in a circle, each of whom lists the next and then the one before, and one more, who lists one of them
abbrev pub circle : List AgentData
circle = agent 97 1 (1 ∷ 3 ∷ []) ∷ agent 98 1 (2 ∷ 0 ∷ []) ∷ agent 99 1 (3 ∷ 1 ∷ []) ∷ agent 100 1 (0 ∷ 2 ∷ []) ∷ agent 101 1 (2 ∷ []) ∷ []

-- three in a circle, of whom a fourth is the last, and one more, who lists one of them and itself
abbrev pub odd_circle : List AgentData
odd_circle = agent 97 1 (1 ∷ 2 ∷ 3 ∷ []) ∷ agent 98 1 (2 ∷ 0 ∷ 3 ∷ []) ∷ agent 99 1 (0 ∷ 1 ∷ 3 ∷ []) ∷ agent 100 1 (0 ∷ 1 ∷ 2 ∷ []) ∷ agent 101 1 (0 ∷ 4 ∷ []) ∷ []

-- the couples of the one, and the parties of the other
abbrev pub Circles : Type 0
Circles = IsMatched circle (LineData.Answer (HeadData.Solve None) ∷ LineData.Pair 0 1 ∷ LineData.Pair 2 3 ∷ LineData.End ∷ [])
    × IsUnmatchable odd_circle (LineData.Answer (HeadData.Solve None) ∷ LineData.Nothing ∷ LineData.Party (0 ∷ 1 ∷ 2 ∷ []) ∷ LineData.Party (3 ∷ []) ∷ LineData.Party (4 ∷ []) ∷ LineData.End ∷ [])

-- three proposers, each of whom likes another reviewer best, and three reviewers, each of whom likes another proposer best
abbrev pub three_by_three : Written
three_by_three = plain_written Marriage
    (placed 2 (agent 109 1 (0 ∷ 1 ∷ 2 ∷ [])) ∷ placed 3 (agent 110 1 (1 ∷ 2 ∷ 0 ∷ [])) ∷ placed 4 (agent 111 1 (2 ∷ 0 ∷ 1 ∷ [])) ∷ [])
    (placed 5 (agent 97 1 (1 ∷ 2 ∷ 0 ∷ [])) ∷ placed 6 (agent 98 1 (2 ∷ 0 ∷ 1 ∷ [])) ∷ placed 7 (agent 99 1 (0 ∷ 1 ∷ 2 ∷ [])) ∷ [])
    [] [] []

-- the right answer of `rotations`: the first seat of each, and two rotations, of which the second needs the first
abbrev pub two_rotations : List LineData
two_rotations =
    LineData.Answer HeadData.Rotations ∷
    LineData.First 0 (first_seat_of 0) ∷
    LineData.First 1 (first_seat_of 1) ∷
    LineData.First 2 (first_seat_of 2) ∷
    LineData.Rotation 1 ((0, first_seat_of 0) ∷ (1, first_seat_of 1) ∷ (2, first_seat_of 2) ∷ []) ∷
    LineData.Needs 1 [] ∷
    LineData.Rotation 2 ((0, first_seat_of 1) ∷ (1, first_seat_of 2) ∷ (2, first_seat_of 0) ∷ []) ∷
    LineData.Needs 2 (1 ∷ []) ∷
    LineData.End ∷
    []

-- a right answer of `rotations`
abbrev pub ThreeByThree : Type 0
ThreeByThree = IsInstance three_by_three × AreFewSeats three_by_three × IsRotationAnswer three_by_three two_rotations

-- the same, of whom the first proposer weighs 4 with its second choice and -10 with its third one
abbrev pub weighed_three : Written
weighed_three = plain_written Marriage
    (three_by_three.proposers)
    (three_by_three.reviewers)
    ((0, 1, pos 4) ∷ (0, 2, negsuc 9) ∷ []) [] []

-- a right answer of `weight`
abbrev pub WeighedThree : Type 0
WeighedThree = IsInstance weighed_three × AreFewSeats weighed_three × IsWeightAnswer Given weighed_three worked_answer

-- the same with other weights: 4 and a second weight of 1 for the first proposer with its second choice, and 0 and a second weight of -2
-- for the second one with its third
abbrev pub weighed_by_two : Written
weighed_by_two = record weighed_three { weights = (0, 1, pos 4) ∷ (1, 0, pos 0) ∷ []; seconds = pos 1 ∷ negsuc 1 ∷ [] }

-- a right answer of `weight` in two levels
abbrev pub WeighedByTwo : Type 0
WeighedByTwo = IsInstance weighed_by_two × AreFewSeats weighed_by_two × IsWeightAnswer Given weighed_by_two answer_of_two
