-- What a yes on an answer means.
use Rattle.std.specs.Prelude.{◌≡◌, ◌≢◌, ℕ, ◌+◌, ◌<◌, ◌≤◌, ◌↔◌, List, [], ◌∷◌, length, filter_map, take, ◌==◌, if◌then◌else◌, count_by, Option, None, Some, slice_index, slice_index_or, Contains, Bool, true}
use Rattle.std.specs.List.{slice_get}
use Rattle.sm_agents.specs.Written.{Written, AgentData, lists_of}
use Rattle.sm_instance.specs.Stable.{IsStable, IsBestOf}
use Rattle.sm_instance.specs.Allowed.{IsAllowed}
use Rattle.sm_instance.specs.Ranks.{IsBefore, regret_of, weight_of, second_of, order_of}
use Rattle.sm_agents.specs.declared.kinds.Measure.{Measure}
use Rattle.sm_agents.specs.Sound.{IsInstance}
use Rattle.sm_agents.specs.declared.kinds.Side.{Side}
use Rattle.sm_instance.specs.declared.inputs.Input.{Input}
use Rattle.sm_instance.specs.declared.inputs.Input.TheVariants.{Two, Room}
use Rattle.sm_market.specs.Lists.{place_of}
use Rattle.sm_market.specs.Matching.{Places, held}
use Rattle.sm_market.specs.Stable.{IsProposersBest, IsReviewersBest}
use Rattle.sm_market.specs.Reduced.{reduced_lists_of}
use Rattle.sm_theory.specs.Chains.{IsPrintedChain, AreNeedsOf}
use Rattle.sm_theory.specs.Net.{Net, cut_of}
use Rattle.sm_theory.specs.Flows.{IsFlow, flow_value, IsResidualReach}
use Rattle.sm_theory.specs.FlowLines.{amount_on}
use Rattle.sm_theory.specs.declared.flow_lines.FlowLine.{FlowLine}
use Rattle.sm_theory.specs.Listings.{IsBehind, end_of}
use Rattle.sm_theory.specs.Partitions.{IsStablePartition, successor_in}
use Rattle.sm_theory.specs.Rooms.{mate_of, IsRoomStable}
use Rattle.sm_theory.specs.declared.choice.Choice.{Choice}
use Rattle.sm_theory.specs.declared.choice.Choice.TheVariants.{Better, Worse}
use Rattle.sm_seats.specs.SeatMarket.{seat_market}
use Rattle.sm_seats.specs.Vectors.{IsAllowedRankVector}
use Rattle.sm_seats.specs.Levels.{has_two_levels}
use Rattle.sm_lists.specs.Pairs.{pair_at}
use Rattle.sm_holding.specs.Chosen.{chosen_places}
use Rattle.sm_report.specs.Heads.{HeadData}
use Rattle.sm_report.specs.Lines.{LineData}
use Rattle.sm_check_clauses.specs.declared.verdicts.Verdict.TheVariants as verdict
use Rattle.sm_check_clauses.specs.Verdicts.{IsVerdict}
use Rattle.sm_check_forms.specs.Forms.{AreAnswer}
use Rattle.sm_check_clauses.specs.Said.{pairs_in, firsts_in, lasts_in, proposer_lists_in, reviewer_lists_in, rotations_in, all_needs_in, lefts_in, rights_in, regret_in, total_in, second_total_in, vectors_in, parties_in}
use Rattle.sm_check_clauses.specs.Chain.{HasOneEach, owners, IsRowOf}
use Rattle.sm_check_clauses.specs.Rooming.{members_of, HasOddParty}
use Rattle.sm_check_clauses.specs.Judging.{Holds}
use Rattle.sm_check_clauses.specs.Flows.{Level, flow_of, first_level, second_level, last_level, taken_set}
use Rattle.sm_instance.specs.Lightest.{IsLightestByBoth}

-- an answer with this head that gets a yes
pub record GetsYes (input : Input) (head : HeadData) (lines : List LineData) : Type 0 where
  pub texts : List (List ℕ)
  pub answer : AreAnswer input texts lines
  pub head_is : slice_get lines 0 ≡ Some (LineData.Answer head)
  pub yes : IsVerdict (Holds input lines) 1 verdict.Yes

-- rank vectors of allowed stable matchings, which rise from the cursor, and no more than the limit. Nothing is said of what is
-- missing.
pub record AreListed (w : Written) (after : Option (List ℕ)) (limit : ℕ) (vectors : List (List ℕ)) : Type 0 where
  pub limited : length vectors ≤ limit
  pub each : (k : ℕ) → k < length vectors → IsAllowedRankVector w (slice_index_or vectors k [])
  pub begins : 0 < length vectors → IsBehind (IsBefore (order_of w)) after (slice_index_or vectors 0 [])
  pub rises : (k : ℕ) → k + 1 < length vectors → IsBefore (order_of w) (slice_index_or vectors k []) (slice_index_or vectors (k + 1) [])

-- a list that is broken off has as many vectors as the limit, and the last one is repeated
abbrev pub IsBrokenOff : Option (List ℕ) → ℕ → List LineData → Type 0
IsBrokenOff after limit lines = (k : ℕ) (v : List ℕ) → slice_get lines k ≡ Some (LineData.More v)
    → let above = vectors_in (take k lines) in (length above ≡ limit) × (end_of after above ≡ Some v)

-- a yes on `list`
abbrev pub ListYes : Type 0
ListYes = (w : Written) (after : Option (List ℕ)) (limit : ℕ) (lines : List LineData)
    → GetsYes (Two w) (HeadData.List after limit) lines → AreListed w after limit (vectors_in lines) × IsBrokenOff after limit lines

-- no two pairs begin with one agent
abbrev pub AreApart : List (ℕ × ℕ) → Type 0
AreApart pairs = (i j : ℕ) → i < j → j < length pairs → (pair_at pairs i).0 ≢ (pair_at pairs j).0

-- over the proposers' lists the pairs are those of a matching: each of them stands, once, and no other does
pub record ArePairsOf (rows : List (List ℕ)) (places : List (Option ℕ)) (pairs : List (ℕ × ℕ)) : Type 0 where
  pub each : (p r : ℕ) → Contains pairs (p, r) ↔ (held places p ≡ Some (place_of rows p r))
  pub once : AreApart pairs

-- a side's best stable matching
pub record IsSideBest (w : Written) (side : Side) (pairs : List (ℕ × ℕ)) : Type 0 where
  pub places : List (Option ℕ)
  pub best : IsBestOf side w places
  pub written : ArePairsOf (lists_of w.proposers) places pairs

-- a yes on `solve`
abbrev pub SolveYes : Type 0
SolveYes = (w : Written) (side : Side) (lines : List LineData)
    → GetsYes (Two w) (HeadData.Solve (Some side)) lines → IsSideBest w side (pairs_in lines)

-- an allowed stable matching and its regret. Nothing is said of whether it is the least.
pub record HasRegret (w : Written) (regrets : List ℕ) (pairs : List (ℕ × ℕ)) : Type 0 where
  pub places : List (Option ℕ)
  pub stable : IsStable w places
  pub allowed : IsAllowed w places
  pub regret : regrets ≡ regret_of w places ∷ []
  pub written : ArePairsOf (lists_of w.proposers) places pairs

-- a yes on `regret`
abbrev pub RegretYes : Type 0
RegretYes = (w : Written) (lines : List LineData)
    → GetsYes (Two w) HeadData.Regret lines → HasRegret w (filter_map regret_in lines) (pairs_in lines)

-- two stable matchings, and the better or the worse of them for each proposer
pub record IsChosen (choice : Choice) (w : Written) (lefts rights pairs : List (ℕ × ℕ)) : Type 0 where
  pub left : List (Option ℕ)
  pub right : List (Option ℕ)
  pub left_stable : IsStable w left
  pub right_stable : IsStable w right
  pub left_written : ArePairsOf (lists_of w.proposers) left lefts
  pub right_written : ArePairsOf (lists_of w.proposers) right rights
  pub written : ArePairsOf (lists_of w.proposers) (chosen_places choice w left right) pairs

-- a yes on `meet`, and one on `join`
abbrev pub MeetYes : Type 0
MeetYes = (w : Written) (lines : List LineData)
    → GetsYes (Two w) HeadData.Meet lines → IsChosen Better w (lefts_in lines) (rights_in lines) (pairs_in lines)

-- what a yes on `join` means
abbrev pub JoinYes : Type 0
JoinYes = (w : Written) (lines : List LineData)
    → GetsYes (Two w) HeadData.Join lines → IsChosen Worse w (lefts_in lines) (rights_in lines) (pairs_in lines)

-- a stable matching of roommates: each couple stands once, its lower-numbered person first
pub record IsCoupled (persons : List AgentData) (pairs : List (ℕ × ℕ)) : Type 0 where
  pub mates : List (Option ℕ)
  pub stable : IsRoomStable (lists_of persons) mates
  pub each : (x y : ℕ) → Contains pairs (x, y) ↔ ((x < y) × (mate_of mates x ≡ Some y))
  pub once : AreApart pairs

-- a yes on `solve` over roommates, where a matching is written
abbrev pub CouplesYes : Type 0
CouplesYes = (persons : List AgentData) (lines : List LineData) → GetsYes (Room persons) (HeadData.Solve None) lines
    → slice_get lines 1 ≢ Some LineData.Nothing → IsCoupled persons (pairs_in lines)

-- parties of roommates for which there is no stable matching: they are those of a stable partition, where each person stands once,
-- before its successor, and one of them is odd and has three or more members
pub record AreExcludingParties (persons : List AgentData) (parties : List (List ℕ)) : Type 0 where
  pub next : List ℕ
  pub partition : IsStablePartition (lists_of persons) next
  pub once : (x : ℕ) → x < length persons → count_by (λ y. y == x) (members_of parties) ≡ 1
  pub along : (party : List ℕ) → Contains parties party → (j : ℕ) → j < length party
      → successor_in next (slice_index party j) ≡ slice_index party (if j + 1 == length party then 0 else j + 1)
  pub odd : HasOddParty parties
  pub none : (mates : List (Option ℕ)) → ¬ IsRoomStable (lists_of persons) mates

-- and where there is said to be none
abbrev pub NoneYes : Type 0
NoneYes = (persons : List AgentData) (lines : List LineData) → GetsYes (Room persons) (HeadData.Solve None) lines
    → slice_get lines 1 ≡ Some LineData.Nothing → AreExcludingParties persons (parties_in lines)

-- the lists are those of all agents, each of them once
pub record AreAllLists (rows : List (List ℕ)) (lists : List (ℕ × List ℕ)) : Type 0 where
  pub each : (list : ℕ × List ℕ) → Contains lists list → IsRowOf rows list
  pub once : HasOneEach (length rows) (owners lists)

-- in the market of seats the best matching of each side, and the reduced lists between the two
pub record IsReduced (w : Written) (lines : List LineData) : Type 0 where
  pub first : Places
  pub last : Places
  pub first_best : IsProposersBest (seat_market w) first
  pub last_best : IsReviewersBest (seat_market w) last
  pub first_written : ArePairsOf (seat_market w).proposers first.proposers (firsts_in w lines)
  pub last_written : ArePairsOf (seat_market w).proposers last.proposers (lasts_in w lines)
  pub proposer_lists : AreAllLists (reduced_lists_of (seat_market w) first last).proposers (proposer_lists_in w lines)
  pub reviewer_lists : AreAllLists (reduced_lists_of (seat_market w) first last).reviewers (reviewer_lists_in w lines)

-- a yes on `reduced`
abbrev pub ReducedYes : Type 0
ReducedYes = (w : Written) (lines : List LineData) → GetsYes (Two w) HeadData.Reduced lines → IsReduced w lines

-- in the market of seats the proposers' best matching, the chain of rotations from it as it is printed, and what each of the
-- rotations needs
pub record IsChainWritten (w : Written) (lines : List LineData) : Type 0 where
  pub first : Places
  pub first_written : ArePairsOf (seat_market w).proposers first.proposers (firsts_in w lines)
  pub chain : IsPrintedChain (seat_market w) first (rotations_in w lines)
  pub one_each : length (all_needs_in lines) ≡ length (rotations_in w lines)
  pub needs : (j : ℕ) → j < length (rotations_in w lines)
      → AreNeedsOf (seat_market w) (rotations_in w lines) j (slice_index_or (all_needs_in lines) j [])

-- a yes on `rotations`
abbrev pub RotationsYes : Type 0
RotationsYes = (w : Written) (lines : List LineData) → IsInstance w → GetsYes (Two w) HeadData.Rotations lines → IsChainWritten w lines

-- a flow within the rooms of a net that is conserved at each rotation, and whose value is the cut of a set
pub record IsFullFlow (net : Net) (lines : List FlowLine) (set : List Bool) : Type 0 where
  pub is_flow : IsFlow net (amount_on lines)
  pub full : flow_value net (amount_on lines) ≡ cut_of net set

-- what is written of a level's flow: it fills the cut of the set that is taken, and its value and the cut are written, each once
pub record IsFullLevel (w : Written) (level : Level) (lines : List LineData) : Type 0 where
  pub flow : IsFullFlow level.net (flow_of w level lines) (taken_set w lines)
  pub value : filter_map level.value lines ≡ flow_value level.net (amount_on (flow_of w level lines)) ∷ []
  pub cut : filter_map level.cut lines ≡ cut_of level.net (taken_set w lines) ∷ []

-- the set that is taken is the reach of a level's flow: the nodes that it can still lead to from the source
abbrev pub IsReachOf : Written → Level → List LineData → Type 0
IsReachOf w level lines = IsResidualReach level.net (amount_on (flow_of w level lines)) (taken_set w lines)

-- the chain with what its rotations need, as in an answer of `rotations`; and an allowed stable matching than which none is lighter by
-- both sums, the best for the proposers of those that have its sums, with these; the flow that is written fills the cut of the set that
-- is taken, and in two levels the second flow does so in its second net; and this set is the reach of the last of these flows
pub record HasLightestWeight (by : Measure) (w : Written) (lines : List LineData) : Type 0 where
  pub chain : IsChainWritten w lines
  pub places : List (Option ℕ)
  pub lightest : IsLightestByBoth by w places
  pub total : filter_map total_in lines ≡ weight_of by w places ∷ []
  pub second_total : has_two_levels by w ≡ true → filter_map second_total_in lines ≡ second_of by w places ∷ []
  pub flow : IsFullLevel w (first_level w by lines) lines
  pub second_flow : has_two_levels by w ≡ true → IsFullLevel w (second_level w by lines) lines
  pub reach : IsReachOf w (last_level w by lines) lines
  pub written : ArePairsOf (lists_of w.proposers) places (pairs_in lines)

-- a yes on `weight`
abbrev pub WeightYes : Type 0
WeightYes = (w : Written) (by : Measure) (lines : List LineData) → IsInstance w
    → GetsYes (Two w) (HeadData.Weight by) lines → HasLightestWeight by w lines
