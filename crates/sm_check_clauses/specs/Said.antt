-- What the lines of an answer say, keyword by keyword.
use Rattle.std.specs.Prelude.{ℕ, not, Bool, true, false, List, map, Option, None, Some, filter_map, slice_index_or, pred, ℤ, IsTrue}
use Rattle.std.specs.List.{list_all}
use Rattle.sm_agents.specs.Written.{Written}
use Rattle.sm_report.specs.Lines.{LineData}
use Rattle.sm_theory.specs.declared.flow_lines.FlowLine.{FlowLine}
use Rattle.sm_check_forms.specs.Seats.{seat_number, seat_numbers, all_numbered}

-- pairs of a proposer and a reviewer, or of two persons
abbrev pub pair_in : LineData → Option (ℕ × ℕ)
pair_in (LineData.Pair p r) = Some (p, r)
pair_in _ = None

-- all of them, in the order of the lines
abbrev pub pairs_in : List LineData → List (ℕ × ℕ)
pairs_in lines = filter_map pair_in lines

-- the left pair that a line says
abbrev pub left_in : LineData → Option (ℕ × ℕ)
left_in (LineData.LeftPair p r) = Some (p, r)
left_in _ = None

-- all left pairs
abbrev pub lefts_in : List LineData → List (ℕ × ℕ)
lefts_in lines = filter_map left_in lines

-- the right pair that a line says
abbrev pub right_in : LineData → Option (ℕ × ℕ)
right_in (LineData.RightPair p r) = Some (p, r)
right_in _ = None

-- all right pairs
abbrev pub rights_in : List LineData → List (ℕ × ℕ)
rights_in lines = filter_map right_in lines

-- pairs of a proposer and a seat; seats are spoken of by their numbers in the market
abbrev pub first_in : Written → LineData → Option (ℕ × ℕ)
first_in w (LineData.First p seat) = Some (p, seat_number w seat)
first_in w _ = None

-- all pairs of the first seats
abbrev pub firsts_in : Written → List LineData → List (ℕ × ℕ)
firsts_in w lines = filter_map (first_in w) lines

-- the pair of the last seats that a line says
abbrev pub last_in : Written → LineData → Option (ℕ × ℕ)
last_in w (LineData.Last p seat) = Some (p, seat_number w seat)
last_in w _ = None

-- all pairs of the last seats
abbrev pub lasts_in : Written → List LineData → List (ℕ × ℕ)
lasts_in w lines = filter_map (last_in w) lines

-- agents with their lists
abbrev pub proposer_list_in : Written → LineData → Option (ℕ × List ℕ)
proposer_list_in w (LineData.ProposerList p seats) = Some (p, seat_numbers w seats)
proposer_list_in w _ = None

-- all lists of proposers
abbrev pub proposer_lists_in : Written → List LineData → List (ℕ × List ℕ)
proposer_lists_in w lines = filter_map (proposer_list_in w) lines

-- the seat's list that a line says, with the seat by its number
abbrev pub reviewer_list_in : Written → LineData → Option (ℕ × List ℕ)
reviewer_list_in w (LineData.ReviewerList seat proposers) = Some (seat_number w seat, proposers)
reviewer_list_in w _ = None

-- all lists of seats
abbrev pub reviewer_lists_in : Written → List LineData → List (ℕ × List ℕ)
reviewer_lists_in w lines = filter_map (reviewer_list_in w) lines

-- rotations, and what they need, by numbers from 0
abbrev pub rotation_in : Written → LineData → Option (List (ℕ × ℕ))
rotation_in w (LineData.Rotation i pairs) = Some (all_numbered w pairs)
rotation_in w _ = None

-- all rotations
abbrev pub rotations_in : Written → List LineData → List (List (ℕ × ℕ))
rotations_in w lines = filter_map (rotation_in w) lines

-- what a line says that a rotation needs
abbrev pub needs_in : LineData → Option (List ℕ)
needs_in (LineData.Needs i needed) = Some (map pred needed)
needs_in _ = None

-- what all rotations are said to need
abbrev pub all_needs_in : List LineData → List (List ℕ)
all_needs_in lines = filter_map needs_in lines

-- weights
abbrev pub gain_in : LineData → Option ℤ
gain_in (LineData.Gain i gain) = Some gain
gain_in _ = None

-- and second weights
abbrev pub second_gain_in : LineData → Option ℤ
second_gain_in (LineData.SecondGain i gain) = Some gain
second_gain_in _ = None

-- the line of a flow
abbrev pub flow_in : LineData → Option FlowLine
flow_in (LineData.Flow from to amount) = Some (record { from = from; to = to; amount = amount })
flow_in _ = None

-- all lines of the flow
abbrev pub flows_in : List LineData → List FlowLine
flows_in lines = filter_map flow_in lines

-- the line of a second flow
abbrev pub second_flow_in : LineData → Option FlowLine
second_flow_in (LineData.SecondFlow from to amount) = Some (record { from = from; to = to; amount = amount })
second_flow_in _ = None

-- the numbers of the rotations that are taken
abbrev pub taken_in : LineData → Option (List ℕ)
taken_in (LineData.Taken taken) = Some taken
taken_in _ = None

-- the value of the flow
abbrev pub value_in : LineData → Option ℕ
value_in (LineData.Value value) = Some value
value_in _ = None

-- the value of the second flow
abbrev pub second_value_in : LineData → Option ℕ
second_value_in (LineData.SecondValue value) = Some value
second_value_in _ = None

-- the value of the cut
abbrev pub cut_in : LineData → Option ℕ
cut_in (LineData.Cut value) = Some value
cut_in _ = None

-- the value of the second cut
abbrev pub second_cut_in : LineData → Option ℕ
second_cut_in (LineData.SecondCut value) = Some value
second_cut_in _ = None

-- the weight of the matching
abbrev pub total_in : LineData → Option ℤ
total_in (LineData.Total weight) = Some weight
total_in _ = None

-- its second sum
abbrev pub second_total_in : LineData → Option ℤ
second_total_in (LineData.SecondTotal weight) = Some weight
second_total_in _ = None

-- vectors, regrets and parties
abbrev pub vector_in : LineData → Option (List ℕ)
vector_in (LineData.Vector v) = Some v
vector_in _ = None

-- all vectors
abbrev pub vectors_in : List LineData → List (List ℕ)
vectors_in lines = filter_map vector_in lines

-- the regret that a line says
abbrev pub regret_in : LineData → Option ℕ
regret_in (LineData.Regret regret) = Some regret
regret_in _ = None

-- the party that a line says
abbrev pub party_in : LineData → Option (List ℕ)
party_in (LineData.Party persons) = Some persons
party_in _ = None

-- all parties
abbrev pub parties_in : List LineData → List (List ℕ)
parties_in lines = filter_map party_in lines

-- what the first line of a kind says, where there is one
abbrev pub first_said : {X : Type 0} → X → (LineData → Option X) → List LineData → X
first_said x said lines = slice_index_or (filter_map said lines) 0 x

-- The lines that end an answer, or a group of lines.

-- a line is the closing one
abbrev pub is_end : LineData → Bool
is_end LineData.End = true
is_end _ = false

-- the same as a statement
abbrev pub IsEnd : LineData → Type 0
IsEnd line = IsTrue (is_end line)

-- the lines of an answer up to the first seats, up to the last ones, and up to the rotations
abbrev pub is_up_to_firsts : LineData → Bool
is_up_to_firsts (LineData.Answer head) = true
is_up_to_firsts (LineData.First p seat) = true
is_up_to_firsts _ = false

-- a line stands up to the last seats
abbrev pub is_up_to_lasts : LineData → Bool
is_up_to_lasts (LineData.Last p seat) = true
is_up_to_lasts line = is_up_to_firsts line

-- a line stands up to the rotations, with what they need and gain
abbrev pub is_up_to_rotations : LineData → Bool
is_up_to_rotations (LineData.Rotation i pairs) = true
is_up_to_rotations (LineData.Needs i needed) = true
is_up_to_rotations (LineData.Gain i gain) = true
is_up_to_rotations (LineData.SecondGain i gain) = true
is_up_to_rotations line = is_up_to_firsts line

-- a line is the first one behind those above it that are up to something
pub record IsFirstBehind (is_up_to : LineData → Bool) (above : List LineData) (line : LineData) : Type 0 where
  pub all_above : IsTrue (list_all is_up_to above)
  pub behind : IsTrue (not (is_up_to line))
