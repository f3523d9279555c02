-- The clauses on gains, flows, cuts and the lightest matching.
use Rattle.std.specs.Prelude.{◌≡◌, ℕ, suc, ◌+◌, ◌≤◌, ◌==◌, nat_le, Bool, if◌then◌else◌, List, [], map, length, Option, ℤ, IfSome, filter_map, Contains}
use Rattle.std.specs.List.{range_with_len, list_any}
use Rattle.sm_agents.specs.Written.{Written}
use Rattle.sm_instance.specs.Allowed.{IsAllowed}
use Rattle.sm_instance.specs.Ranks.{pair_weight, weight_of, pair_second, second_of}
use Rattle.sm_agents.specs.declared.kinds.Measure.{Measure}
use Rattle.sm_theory.specs.Chains.{rotation_at}
use Rattle.sm_theory.specs.ClosedSets.{IsClosed, matching_of}
use Rattle.sm_theory.specs.Net.{Net, cut_of}
use Rattle.sm_theory.specs.Flows.{IsResidualReach}
use Rattle.sm_theory.specs.FlowLines.{amount_on, amount_from, IsNewEdge, IsWithinRoom, IsConserved}
use Rattle.sm_theory.specs.declared.flow_lines.FlowLine.{FlowLine}
use Rattle.sm_seats.specs.SeatMarket.{seat_market}
use Rattle.sm_seats.specs.Seating.{seating_of, written_of}
use Rattle.sm_seats.specs.Levels.{has_two_levels}
use Rattle.sm_seats.specs.ShownNet.{gain_by, net_shown, second_net_shown}
use Rattle.sm_report.specs.Lines.{LineData}
use Rattle.sm_report.specs.Texts.{SINK}
use Rattle.sm_check_clauses.specs.declared.verdicts.Reason.{Reason}
use Rattle.sm_check_clauses.specs.declared.verdicts.Reason.TheVariants as reason
use Rattle.sm_check_clauses.specs.Said.{rotations_in, all_needs_in, flow_in, second_flow_in, gain_in, second_gain_in, taken_in, value_in, second_value_in, cut_in, second_cut_in, total_in, second_total_in, pairs_in, first_said, IsEnd}
use Rattle.sm_check_clauses.specs.SeatMatchings.{FirstsHold, first_of}
use Rattle.sm_check_clauses.specs.Chain.{ChainHolds, last_rotation}
use Rattle.sm_check_clauses.specs.Pairs.{WantedHold}

-- how many rotations are written, and their net with the conditions of the instance
abbrev pub size_in : Written → List LineData → ℕ
size_in w lines = length (rotations_in w lines)

-- the net of gains, needs and conditions that the lines give
abbrev pub net_in : Written → Measure → List LineData → Net
net_in w by lines = net_shown by w (first_of w lines) (rotations_in w lines) (all_needs_in lines)

-- the node of an end that a line of flow names: the number of a rotation, or the sink; no node where there is no such rotation
abbrev pub node_of : ℕ → ℕ → ℕ
node_of size end = if end == SINK then suc size else (if nat_le end size then end else suc (suc size))

-- a line of flow with its ends as nodes of the net
abbrev pub on_nodes : ℕ → FlowLine → FlowLine
on_nodes size flow = record { from = node_of size flow.from; to = node_of size flow.to; amount = flow.amount }

-- the set of the rotations with these numbers, which count from 1
abbrev pub set_of_numbers : ℕ → List ℕ → List Bool
set_of_numbers size taken = map (λ k. list_any (λ n. n == k + 1) taken) (range_with_len 0 size)

-- the set that is taken, and its matching
abbrev pub taken_set : Written → List LineData → List Bool
taken_set w lines = set_of_numbers (size_in w lines) (first_said [] taken_in lines)

-- the matching of a set of the written rotations, on the proposers' written lists
abbrev pub matching_of_set : Written → List LineData → List Bool → List (Option ℕ)
matching_of_set w lines set =
    written_of (seating_of w) (matching_of (seat_market w) (first_of w lines) (rotations_in w lines) set).proposers

-- the matching of the set that is taken
abbrev pub taken_matching : Written → List LineData → List (Option ℕ)
taken_matching w lines = matching_of_set w lines (taken_set w lines)

-- numbers of rotations that are there, whose set is closed and has an allowed matching
pub record IsAllowedSet (w : Written) (lines : List LineData) (taken : List ℕ) : Type 0 where
  pub there : (i : ℕ) → Contains taken i → i ≤ size_in w lines
  pub closed : IsClosed (seat_market w) (rotations_in w lines) (set_of_numbers (size_in w lines) taken)
  pub allowed : IsAllowed w (matching_of_set w lines (set_of_numbers (size_in w lines) taken))

-- One level of weights: the keywords of its lines, what pairs and matchings weigh in it, and its net
pub record Level : Type 0 where
  pub gain : LineData → Option ℤ
  pub flow : LineData → Option FlowLine
  pub value : LineData → Option ℕ
  pub cut : LineData → Option ℕ
  pub total : LineData → Option ℤ
  pub weigh : ℕ → Option ℕ → ℤ
  pub weight : List (Option ℕ) → ℤ
  pub net : Net

-- the first level of an answer of `weight`
abbrev pub first_level : Written → Measure → List LineData → Level
first_level w by lines = record {
  gain = gain_in;
  flow = flow_in;
  value = value_in;
  cut = cut_in;
  total = total_in;
  weigh = pair_weight by w;
  weight = weight_of by w;
  net = net_in w by lines;
}

-- the flow of a level on the nodes of its net
abbrev pub flow_of : Written → Level → List LineData → List FlowLine
flow_of w level lines = map (on_nodes (size_in w lines)) (filter_map level.flow lines)

-- the second level: the keywords and weights are others, and the net is the second net of the first flow as it is written
abbrev pub second_level : Written → Measure → List LineData → Level
second_level w by lines = record {
  gain = second_gain_in;
  flow = second_flow_in;
  value = second_value_in;
  cut = second_cut_in;
  total = second_total_in;
  weigh = pair_second w;
  weight = second_of by w;
  net = second_net_shown by w (first_of w lines) (rotations_in w lines) (all_needs_in lines)
      (amount_on (flow_of w (first_level w by lines) lines));
}

-- the last level of an answer
abbrev pub last_level : Written → Measure → List LineData → Level
last_level w by lines = if has_two_levels by w then second_level w by lines else first_level w by lines

-- its gains, flow, value, cut and total
abbrev pub LevelHolds : Written → Level → List LineData → LineData → Reason → Type 0
LevelHolds w level above line reason.WrongGain =
    IfSome (level.gain line)
    (λ gain. gain ≡ gain_by level.weigh (seating_of w) (rotation_at (rotations_in w above) (last_rotation w above)))
LevelHolds w level above line reason.NoEdge =
    IfSome (level.flow line) (λ flow. IsNewEdge level.net (flow_of w level above) (on_nodes (size_in w above) flow))
LevelHolds w level above line reason.OverRoom =
    IfSome (level.flow line) (λ flow. IsWithinRoom level.net (on_nodes (size_in w above) flow))
LevelHolds w level above line reason.NotConserved =
    IfSome (taken_in line) (λ _. IsConserved (size_in w above) (flow_of w level above))
LevelHolds w level above line reason.WrongValue =
    IfSome (level.value line) (λ value. value ≡ amount_from (flow_of w level above) 0)
LevelHolds w level above line reason.WrongCut = IfSome (level.cut line) (λ cut. cut ≡ cut_of level.net (taken_set w above))
LevelHolds w level above line reason.CutDiffers = IfSome (level.cut line) (λ cut. cut ≡ first_said 0 level.value above)
LevelHolds w level above line reason.WrongTotal =
    IfSome (level.total line) (λ total. total ≡ level.weight (taken_matching w above))
LevelHolds w level above line _ = Unit {0}

-- the set that is taken, which is the reach in the net of the last level
abbrev pub TakenHolds : Written → Level → List LineData → LineData → Reason → Type 0
TakenHolds w level above line reason.NotClosed = IfSome (taken_in line) (IsAllowedSet w above)
TakenHolds w level above line reason.NotLeast =
    IsEnd line → IsResidualReach level.net (amount_on (flow_of w level above)) (taken_set w above)
TakenHolds w level above line _ = Unit {0}

-- `weight`: the clauses of the first level, in two levels the same ones of the second, and of the set those of the last
abbrev pub WeightHolds : Written → Measure → List LineData → LineData → Reason → Type 0
WeightHolds w by above line why =
    FirstsHold w above line why
    × ChainHolds w above line why
    × LevelHolds w (first_level w by above) above line why
    × LevelHolds w (last_level w by above) above line why
    × TakenHolds w (last_level w by above) above line why
    × WantedHold w (taken_matching w above) (pairs_in above) line why
