-- The answer of `weight`.
use Rattle.std.specs.Prelude.{◌≡◌, ℕ, suc, ◌+◌, ◌==◌, if◌then◌else◌, Bool, true, false, List, [], ◌∷◌, ◌++◌, length, map, filter, Option}
use Rattle.std.specs.List.{All, flat_map, range_with_len}
use Rattle.sm_answer.specs.Lines.{lines_from}
use Rattle.sm_agents.specs.Written.{Written}
use Rattle.sm_instance.specs.Lightest.{IsLightestByBoth}
use Rattle.sm_instance.specs.Ranks.{weight_of, second_of}
use Rattle.sm_instance.specs.declared.inputs.Input.TheVariants.{Two}
use Rattle.sm_agents.specs.declared.kinds.Measure.{Measure}
use Rattle.sm_market.specs.Matching.{Places}
use Rattle.sm_report.specs.Heads.{HeadData}
use Rattle.sm_report.specs.Lines.{LineData}
use Rattle.sm_report.specs.Sound.{IsLineOf}
use Rattle.sm_report.specs.Texts.{SINK}
use Rattle.sm_theory.specs.Chains.{IsPrintedChain, AreNeeds}
use Rattle.sm_theory.specs.ClosedSets.{is_member}
use Rattle.sm_theory.specs.Net.{Net, cut_of}
use Rattle.sm_theory.specs.Flows.{IsFlow, flow_value, IsResidualReach}
use Rattle.sm_seats.specs.SeatMarket.{seat_market}
use Rattle.sm_seats.specs.Seating.{seating_of}
use Rattle.sm_seats.specs.Levels.{has_two_levels}
use Rattle.sm_seats.specs.ShownNet.{gain_shown, second_gain_shown, net_shown, second_net_shown}
use Rattle.sm_theory.specs.declared.flow_lines.FlowLine.{FlowLine}
use Rattle.sm_theory.specs.FlowLines.{amount_on, AreFlowLines}
use Rattle.sm_answer.specs.MatchingLines.{pair_line}
use Rattle.sm_answer_rotations.specs.RotationLines.{ShownRotations, first_seat_line, rotation_lines, shown_of}
use Rattle.sm_answer_rotations.specs.RotationAnswer.{matching_shown}

-- a flow by its lines, whose value is the cut of a set: so no flow has a greater value, and no cut a smaller one
-- (Ford and Fulkerson 1956)
pub record FillsCut (net : Net) (flow : List FlowLine) (taken : List Bool) : Type 0 where
  pub lines : AreFlowLines net flow
  pub is_flow : IsFlow net (amount_on flow)
  pub full : flow_value net (amount_on flow) ≡ cut_of net taken

-- a flow that fills the cut of its residual reach
pub record IsCertificate (net : Net) (flow : List FlowLine) (taken : List Bool) : Type 0 where
  pub fills : FillsCut net flow taken
  pub reach : IsResidualReach net (amount_on flow) taken

-- in two levels a flow fills the cut of the set, and a second flow, in the second net of the first, fills the second cut and reaches
-- just the set (Picard and Queyranne 1980); in one level the flow does so by itself, and there is no second one
abbrev pub AreCertificates : (two : Bool) → (net other : Net) → (flow second : List FlowLine) → (taken : List Bool) → Type 0
AreCertificates true net other flow second taken = FillsCut net flow taken × IsCertificate other second taken
AreCertificates false net other flow second taken = IsCertificate net flow taken × (second ≡ [])

-- What an answer is read from: the first matching of the seats, the chain of rotations from it on, what each of them needs, the
-- lines of a flow, those of a second one, and the set of rotations that is taken. Here rotations and seats are numbered from 0.
pub record WeightParts : Type 0 where
  pub first : Places
  pub rotations : List (List (ℕ × ℕ))
  pub needs : List (List ℕ)
  pub flow : List FlowLine
  pub second : List FlowLine
  pub taken : List Bool

-- the first matching, the rotations and the needs as they are shown
abbrev pub shown_in : Written → WeightParts → ShownRotations
shown_in w parts = shown_of (seating_of w) parts.first parts.rotations parts.needs

-- the net of the gains, the needs and the conditions
abbrev pub net_in : Measure → Written → WeightParts → Net
net_in by w parts = net_shown by w parts.first parts.rotations parts.needs

-- the second net of the flow
abbrev pub second_net_in : Measure → Written → WeightParts → Net
second_net_in by w parts = second_net_shown by w parts.first parts.rotations parts.needs (amount_on parts.flow)

-- the matching of the set that is taken
abbrev pub matching_in : Written → WeightParts → List (Option ℕ)
matching_in w parts = matching_shown w (shown_in w parts) parts.taken

-- what stands in answers of two levels alone
abbrev pub in_two : Bool → List LineData → List LineData
in_two two lines = if two then lines else []

-- the lines of a rotation: its pairs, its needs, its gain and, in two levels, its second gain
abbrev pub gained_lines : Measure → Written → WeightParts → ℕ → List LineData
gained_lines by w parts k =
    rotation_lines (shown_in w parts) k ++ LineData.Gain (k + 1) (gain_shown by w parts.rotations k)
    ∷ in_two (has_two_levels by w) (LineData.SecondGain (k + 1) (second_gain_shown w parts.rotations k) ∷ [])

-- a node as lines name it: the source is 0, rotations are numbered from 1, and the sink has the last number of 32 bits
abbrev pub shown_node : (sink node : ℕ) → ℕ
shown_node sink node = if node == sink then SINK else node

-- a line of a flow, with the nodes as lines name them
abbrev pub flow_line : (sink : ℕ) → FlowLine → LineData
flow_line sink line = LineData.Flow (shown_node sink line.from) (shown_node sink line.to) line.amount

-- a line of a second flow
abbrev pub second_flow_line : (sink : ℕ) → FlowLine → LineData
second_flow_line sink line = LineData.SecondFlow (shown_node sink line.from) (shown_node sink line.to) line.amount

-- the numbers of the members of a set among the first n rotations, from 1
abbrev pub member_numbers : List Bool → ℕ → List ℕ
member_numbers set n = map suc (filter (is_member set) (range_with_len 0 n))

-- the value of the second flow, the second cut of the set, and the second sum of its matching
abbrev pub second_figures : Measure → Written → WeightParts → List LineData
second_figures by w parts =
    LineData.SecondValue (flow_value (second_net_in by w parts) (amount_on parts.second)) ∷
    LineData.SecondCut (cut_of (second_net_in by w parts) parts.taken) ∷
    LineData.SecondTotal (second_of by w (matching_in w parts)) ∷ []

-- all lines
abbrev pub weight_lines : Measure → Written → WeightParts → List LineData
weight_lines by w parts =
    let shown = shown_in w parts in
    LineData.Answer (HeadData.Weight by) ∷
    (lines_from (first_seat_line shown) 0 (length shown.firsts)
    ++ (flat_map (gained_lines by w parts) (range_with_len 0 (length parts.rotations))
    ++ (map (flow_line (suc (length parts.rotations))) parts.flow
    ++ (in_two (has_two_levels by w) (map (second_flow_line (suc (length parts.rotations))) parts.second)
    ++ (LineData.Taken (member_numbers parts.taken (length parts.taken)) ∷
    LineData.Value (flow_value (net_in by w parts) (amount_on parts.flow)) ∷
    LineData.Cut (cut_of (net_in by w parts) parts.taken) ∷
    LineData.Total (weight_of by w (matching_in w parts)) ∷
    (in_two (has_two_levels by w) (second_figures by w parts)
    ++ (lines_from (pair_line w (matching_in w parts)) 0 (length w.proposers)
    ++ LineData.End ∷ [])))))))

-- The lines are the seats in the proposers' best matching, the printed chain of rotations from it on with what each of them
-- needs and gains, a flow in the net, in two levels a second flow in its second net, the residual reach of the last of them, and the
-- pairs of the reach's matching, which is the lightest that is allowed. All are lines of the instance: where unbounded edges lead in a
-- circle a flow may go round it with any amount, also with one that has no 64 bits.
pub record IsWeightAnswer (by : Measure) (w : Written) (answer : List LineData) : Type 0 where
  pub parts : WeightParts
  pub printed : IsPrintedChain (seat_market w) parts.first parts.rotations
  pub needed : AreNeeds (seat_market w) parts.rotations parts.needs
  pub certificates : AreCertificates (has_two_levels by w) (net_in by w parts) (second_net_in by w parts) parts.flow parts.second parts.taken
  pub lightest : IsLightestByBoth by w (matching_in w parts)
  pub shows : answer ≡ weight_lines by w parts
  pub sound : All (IsLineOf (Two w)) answer
