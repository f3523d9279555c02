-- What is kept of the lines of an answer of `weight`.
use Rattle.std.specs.Prelude.{◌≡◌, ℕ, ◌+◌, ◌<◌, ◌≤◌, ◌++◌, ◌∷◌, [], not, Bool, true, false, List, length, map, take, Option, None, Some, IfSome, IsSome, filter_map, slice_index_or}
use Rattle.std.specs.List.{list_all, slice_get}
use Rattle.sm_agents.specs.Written.{Written}
use Rattle.sm_instance.specs.Matching.{IsMatching}
use Rattle.sm_agents.specs.declared.kinds.Measure.{Measure}
use Rattle.sm_market.specs.Lists.{Lists}
use Rattle.sm_market.specs.Matching.{Places}
use Rattle.sm_theory.specs.Chains.{AreNeedsOf}
use Rattle.sm_theory.specs.ClosedSets.{IsClosed, matching_of}
use Rattle.sm_theory.specs.Net.{Net}
use Rattle.sm_theory.specs.FlowLines.{AreOnNodes}
use Rattle.sm_theory.specs.declared.flow_lines.FlowLine.{FlowLine}
use Rattle.sm_check_net.specs.CheckedNets.{NetParts, net_of_parts, NeedsAreOf}
use Rattle.sm_check_net.specs.Repeats.{AreRepeats}
use Rattle.sm_seats.specs.SeatMarket.{seat_market}
use Rattle.sm_seats.specs.Seating.{seating_of, written_of, levels_of}
use Rattle.sm_seats.specs.Correspondence.{IsSeating, weights_of}
use Rattle.sm_lists.specs.Rows.{rows_of}
use Rattle.sm_theory.specs.Sizes.{weights_in, AreWeights}
use Rattle.sm_report.specs.Lines.{LineData, line_of}
use Rattle.sm_check_forms.specs.Layouts.{is_empty}
use Rattle.sm_check_clauses.specs.declared.verdicts.Reason.{Reason}
use Rattle.sm_check_clauses.specs.declared.chain_walk.ChainWalk.{ChainWalk}
use Rattle.sm_check_clauses.specs.Said.{rotations_in, all_needs_in, flow_in, second_flow_in, taken_in, value_in, second_value_in, pairs_in, first_said, is_up_to_rotations}
use Rattle.sm_check_clauses.specs.SeatMatchings.{first_of}
use Rattle.sm_check_clauses.specs.Flows.{size_in, net_in, on_nodes, set_of_numbers, first_level, second_level, last_level, taken_matching, LevelHolds, TakenHolds}
use Rattle.sm_check_clauses.specs.Pairs.{WantedHold}
use Rattle.sm_check_clauses.specs.Walks.{IsWalkOf, IsChainKept}
use Rattle.sm_check_answers.specs.Stood.{AreStood}
use Rattle.sm_check_weight.specs.declared.claims.Claim.{Claim}
use Rattle.sm_check_weight.specs.declared.judging.WeightJudge.{WeightJudge}
use Rattle.sm_check_weight.specs.declared.judging.Tables.{Tables}
use Rattle.sm_theory.specs.Vectors.{AreLevels}
use Rattle.sm_check_weight.specs.declared.flow_lines.Flow.{Flow}
use Rattle.sm_check_weight.specs.declared.said.SaidFlow.{SaidFlow}
use Rattle.sm_check_net.specs.Second.{AreOnEdges}
use Rattle.sm_check_net.specs.declared.net.CheckedNet.{CheckedNet}
use Rattle.sm_seats.specs.Levels.{has_two_levels, seconds_by}
use Rattle.sm_check_weight.specs.declared.taken.Taken.{Taken}

-- the clauses on what stands behind the rotations
abbrev pub ClaimHolds : Written → Measure → List LineData → LineData → Reason → Type 0
ClaimHolds w by above line why =
    LevelHolds w (first_level w by above) above line why
    × LevelHolds w (last_level w by above) above line why
    × TakenHolds w (last_level w by above) above line why
    × WantedHold w (taken_matching w above) (pairs_in above) line why

-- the rotations of the lines above were eliminated, and none is exposed any more
pub record IsWholeWalk (w : Written) (above : List LineData) (walk : ChainWalk) : Type 0 where
  pub is_walk : IsWalkOf w above walk
  pub whole : walk.is_whole ≡ true

-- so it is with some lines
pub record HasWholeWalk (w : Written) (walk : ChainWalk) : Type 0 where
  pub above : List LineData
  pub walk_of : IsWholeWalk w above walk

-- and these are needs of its rotations
pub record HasNeededWalk (w : Written) (walk : ChainWalk) (parts : NetParts) : Type 0 where
  pub above : List LineData
  pub walk_of : IsWholeWalk w above walk
  pub needs : NeedsAreOf (seat_market w) (rotations_in w above) parts

-- and this is a closed set of them
pub record HasClosedSet (w : Written) (walk : ChainWalk) (set : List Bool) : Type 0 where
  pub above : List LineData
  pub walk_of : IsWholeWalk w above walk
  pub closed : IsClosed (seat_market w) (rotations_in w above) set

-- a set by the numbers of its rotations, and its matching
pub record IsSetOf (w : Written) (first : Places) (rotations : List (List (ℕ × ℕ))) (numbers : List ℕ) (taken : Taken) : Type 0 where
  pub set : taken.set.items ≡ set_of_numbers (length rotations) numbers
  pub matching : taken.matching.places.items
      ≡ written_of (seating_of w) (matching_of (seat_market w) first rotations (set_of_numbers (length rotations) numbers)).proposers
  pub is_matching : IsMatching w taken.matching.places.items

-- the lines of a flow, on the nodes of its net
abbrev pub flow_on : Written → (LineData → Option FlowLine) → List LineData → List FlowLine
flow_on w said lines = map (on_nodes (size_in w lines)) (filter_map said lines)

-- a flow of an answer on the nodes of a net of so many rotations, of which the lines above are judged
pub record IsFlowOf (size : ℕ) (said : LineData → Option FlowLine) (lines above : List LineData) (flow : Flow) : Type 0 where
  pub all : flow.lines.items ≡ map (on_nodes size) (filter_map said lines)
  pub repeats : AreRepeats flow.lines.items flow.repeats.items
  pub count : flow.count ≡ length (filter_map said above)
  pub front : take flow.count flow.lines.items ≡ map (on_nodes size) (filter_map said above)
  pub nodes : AreOnNodes (size + 2) (map (on_nodes size) (filter_map said above))

-- and the value of it that is said first
pub record IsSaidOf (size : ℕ) (flow_said : LineData → Option FlowLine) (value_said : LineData → Option ℕ) (lines above : List LineData) (said : SaidFlow) : Type 0 where
  pub flow : IsFlowOf size flow_said lines above said.flow
  pub value : said.value ≡ slice_get (filter_map value_said above) 0

-- the lines of a flow that were judged are there, on nodes of a net
pub record IsFlowOn (net : Net) (flow : Flow) : Type 0 where
  pub long : flow.count ≤ length flow.lines.items
  pub nodes : AreOnNodes (net.size + 2) (take flow.count flow.lines.items)

-- the second net of the lines above, where there is one, and there is none in one level
pub record IsSecondNet (w : Written) (by : Measure) (above : List LineData) (net : Option CheckedNet) : Type 0 where
  pub same : IfSome net (λ net. net_of_parts net ≡ (second_level w by above).net)
  pub none : has_two_levels by w ≡ false → net ≡ None

-- a line follows those above it among the lines of an answer
pub record IsNextLine (lines above : List LineData) (line : LineData) : Type 0 where
  pub below : List LineData
  pub is : lines ≡ above ++ line ∷ below

-- what the rotations above need, each of those up to itself
abbrev pub AreNeedsSoFar : Lists → List (List (ℕ × ℕ)) → List (List ℕ) → Type 0
AreNeedsSoFar l rotations needs =
    (j : ℕ) → j < length needs → AreNeedsOf l (take (j + 1) rotations) j (slice_index_or needs j [])

-- of the lines above: the net, the flow, all lines of which are on edges of the net, with the value that is said first, in two levels the
-- same of the second flow, with its net, the set that is taken first, or the empty one, and the proposers that stand in pairs
pub record IsClaimOf (w : Written) (by : Measure) (lines above : List LineData) (claim : Claim) : Type 0 where
  pub net : net_of_parts claim.net ≡ net_in w by above
  pub needs : NeedsAreOf (seat_market w) (rotations_in w above) claim.net
  pub first : IsSaidOf (size_in w above) flow_in value_in lines above claim.first
  pub edges : AreOnEdges (net_in w by above) (flow_on w flow_in above)
  pub second_net : IsSecondNet w by above claim.second_net
  pub second : has_two_levels by w ≡ true → IsSaidOf (size_in w above) second_flow_in second_value_in lines above claim.second
  pub taken : IsSetOf w (first_of w above) (rotations_in w above) (first_said [] taken_in above) claim.taken
  pub said : claim.taken.is_said ≡ not (is_empty (filter_map taken_in above))
  pub stood : AreStood w (pairs_in above) claim.stood.stood.items

-- it is of some lines, behind which this one stands
pub record HasClaim (w : Written) (by : Measure) (line : LineData) (walk : ChainWalk) (claim : Claim) : Type 0 where
  pub lines : List LineData
  pub above : List LineData
  pub kept : IsClaimOf w by lines above claim
  pub walk_of : IsWholeWalk w above walk
  pub next : IsNextLine lines above line

-- in two levels the second net is made at each line that is none of the flow
abbrev pub HasSecond : Written → Measure → LineData → Claim → Type 0
HasSecond w by line claim = has_two_levels by w ≡ true → flow_in line ≡ None → IsSome claim.second_net

-- while the rotations are written nothing is claimed behind them
abbrev pub IsClaimAt : Written → Measure → (lines above : List LineData) → Option Claim → Type 0
IsClaimAt w by lines above None = list_all is_up_to_rotations above ≡ true
IsClaimAt w by lines above (Some claim) = IsClaimOf w by lines above claim × (list_all is_up_to_rotations above ≡ false)

-- the levels and the weights of the places, the second weights, and whether the answer has two levels
pub record AreTables (w : Written) (by : Measure) (tables : Tables) : Type 0 where
  pub levels : rows_of tables.levels.items ≡ levels_of (seating_of w)
  pub rising : AreLevels (seat_market w) (rows_of tables.levels.items)
  pub weights : weights_in tables.weights.items ≡ weights_of by w (seating_of w)
  pub small : AreWeights (seat_market w) (weights_in tables.weights.items)
  pub seconds : weights_in tables.seconds.items ≡ seconds_by by w (seating_of w)
  pub second_small : AreWeights (seat_market w) (weights_in tables.seconds.items)
  pub two_levels : tables.two_levels ≡ has_two_levels by w

-- the lines above have all rotations, each with what it needs
pub record HasWholePoset (w : Written) (above : List LineData) (walk : ChainWalk) : Type 0 where
  pub walk_of : IsWholeWalk w above walk
  pub one_each : length (all_needs_in above) ≡ length (rotations_in w above)
  pub needs : AreNeedsSoFar (seat_market w) (rotations_in w above) (all_needs_in above)

-- what is kept of the lines above line k of an answer: what was made of the instance beforehand, the rotations, what they need,
-- and what is claimed behind them
pub record IsJudgeOf (w : Written) (by : Measure) (lines : List LineData) (k : ℕ) (judge : WeightJudge) : Type 0 where
  pub instance_is : judge.weighed.now.instance.now ≡ w
  pub by_is : judge.weighed.now.by ≡ by
  pub seats : judge.weighed.now.seats.now ≡ seating_of w
  pub seating : IsSeating w (seating_of w)
  pub lines_are : map line_of judge.lines.now ≡ lines
  pub tables : AreTables w by judge.tables
  pub chain_of : judge.chain.instance.now ≡ w
  pub chain : IsChainKept w judge.chain.market.now judge.chain.firsts.now (take k lines) judge.chain.pairs judge.chain.walk
  pub needs : AreNeedsSoFar (seat_market w) (rotations_in w (take k lines)) (all_needs_in (take k lines))
  pub claim : IsClaimAt w by lines (take k lines) judge.claim
