-- The lines of the answer of `weight` as they are given.
use Rattle.std.specs.Prelude.{ℕ, ◌+◌, ◌-◌, ◌*◌, ◌==◌, nat_lt, if◌then◌else◌, Bool, List, [], ◌∷◌, ◌++◌, length, drop, map, slice_index_or, Some, ℤ, pos}
use Rattle.std.specs.List.{flat_map, range_with_len}
use Rattle.sm_answer.specs.Lines.{lines_from}
use Rattle.sm_agents.specs.declared.kinds.Side.TheVariants.{Proposers}
use Rattle.sm_market.specs.Matching.{Places}
use Rattle.sm_report.specs.Heads.{HeadData}
use Rattle.sm_report.specs.Lines.{LineData}
use Rattle.sm_seats.specs.Seating.{Seating}
use Rattle.sm_theory.specs.declared.flow_lines.FlowLine.{FlowLine}
use Rattle.sm_answer_rotations.specs.Reduction.{seat_line}
use Rattle.sm_answer_rotations.specs.PairLines.{seated_pair_line}
use Rattle.sm_answer_rotations.specs.RotationLines.{needs_line, rotation_line}
use Rattle.sm_answer_weight.specs.WeightAnswer.{in_two, flow_line, second_flow_line, member_numbers}
use Rattle.sm_answer_weight.specs.declared.lightest_parts.Lightest.{Lightest}
use Rattle.sm_answer_weight.specs.declared.gained_lines.RotationPart.{RotationPart}
use Rattle.sm_answer_weight.specs.declared.gained_lines.RotationPart.TheVariants.{Pairs, Needs, Gain, SecondGain}
use Rattle.sm_theory.specs.declared.flow_lines.FlowLevel.{FlowLevel}
use Rattle.sm_theory.specs.declared.flow_lines.FlowLevel.TheVariants.{First, Second}

-- the gain of a rotation
abbrev pub gain_line : List ℤ → ℕ → LineData
gain_line gains k = LineData.Gain (k + 1) (slice_index_or gains k (pos 0))

-- its second gain
abbrev pub second_gain_line : List ℤ → ℕ → LineData
second_gain_line gains k = LineData.SecondGain (k + 1) (slice_index_or gains k (pos 0))

-- what the lines of rotations are made from: the rotations, what each needs and gains, and the second gains, which are given in two
-- levels alone
pub record GainedRows : Type 0 where
  pub rotations : List (List (ℕ × ℕ))
  pub needs : List (List ℕ)
  pub gains : List ℤ
  pub second_gains : List ℤ
  pub two : Bool

-- a rotation, what it needs and what it gains
abbrev pub row_lines : Seating → GainedRows → ℕ → List LineData
row_lines s rows k =
    rotation_line s rows.rotations k ∷ needs_line rows.needs k ∷ gain_line rows.gains k
    ∷ in_two rows.two (second_gain_line rows.second_gains k ∷ [])

-- those of the rotations from one on
abbrev pub lines_of_gained : Seating → GainedRows → ℕ → List LineData
lines_of_gained s rows k = flat_map (row_lines s rows) (range_with_len k (length rows.rotations - k))

-- without those of the first that are given already; or its second gain and those of the later ones
abbrev pub gained_left : RotationPart → Seating → GainedRows → ℕ → List LineData
gained_left Pairs s rows k = lines_of_gained s rows k
gained_left Needs s rows k = drop 1 (lines_of_gained s rows k)
gained_left Gain s rows k = drop 2 (lines_of_gained s rows k)
gained_left SecondGain s rows k =
    if nat_lt k (length rows.rotations) then second_gain_line rows.second_gains k ∷ lines_of_gained s rows (k + 1) else []

-- how many are given of a rotation before a part
abbrev pub given_before : RotationPart → ℕ
given_before Pairs = 0
given_before Needs = 1
given_before Gain = 2
given_before SecondGain = 3

-- at most so many are left of n rotations
abbrev pub most_gained : RotationPart → ℕ → ℕ
most_gained part n = 4 * n - given_before part

-- one of the flows
abbrev pub flow_in : FlowLevel → Lightest → List FlowLine
flow_in First found = found.in_market.flow.items
flow_in Second found = found.in_market.flow2.items

-- the line of one of the flows
abbrev pub edge_line : FlowLevel → (sink : ℕ) → FlowLine → LineData
edge_line First = flow_line
edge_line Second = second_flow_line

-- what is said of the set that is taken: the first four alone in one level
abbrev pub figure_line : Lightest → ℕ → LineData
figure_line found i =
    if i == 0 then LineData.Taken (member_numbers found.in_market.set.members.items (length found.in_market.set.members.items))
    else (if i == 1 then LineData.Value found.in_market.cut
    else (if i == 2 then LineData.Cut found.in_market.cut
    else (if i == 3 then LineData.Total found.total
    else (if i == 4 then LineData.SecondValue found.in_market.cut2
    else (if i == 5 then LineData.SecondCut found.in_market.cut2
    else LineData.SecondTotal found.second_total)))))

-- how many lines these are
abbrev pub figure_count : Lightest → ℕ
figure_count found = if found.two_levels then 7 else 4

-- the rows of what is found
abbrev pub rows_found : Lightest → List (List (ℕ × ℕ)) → List (List ℕ) → GainedRows
rows_found found rotations needs = record {
  rotations = rotations;
  needs = needs;
  gains = found.in_market.gains.items;
  second_gains = found.in_market.gains2.items;
  two = found.two_levels;
}

-- the whole answer
abbrev pub weight_given : Seating → Lightest → Places → List (List (ℕ × ℕ)) → List (List ℕ) → (sink : ℕ) → List LineData
weight_given s found first rotations needs sink =
    (LineData.Answer (HeadData.Weight found.by) ∷ [])
    ++ (lines_from (seat_line Proposers s first) 0 (length s.market.proposers - 0)
    ++ (gained_left Pairs s (rows_found found rotations needs) 0
    ++ (map (edge_line First sink) (drop 0 (flow_in First found))
    ++ (map (edge_line Second sink) (drop 0 (flow_in Second found))
    ++ (lines_from (λ i. Some (figure_line found i)) 0 (figure_count found - 0)
    ++ (lines_from (seated_pair_line s found.matching.places) 0 (length s.market.proposers - 0)
    ++ (LineData.End ∷ [])))))))
