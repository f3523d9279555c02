-- The second net of the lines of an answer.
use Rattle.std.proofs.Common.{◌≡◌, ℕ, zero, suc, ◌+◌, ◌<◌, ◌∙◌, inl, inr, arith, sym, ap, true, List, [], length, map, not, ℤ, pos, eq-eqb, ne_eqb}
use Rattle.std.specs.Prelude.{◌==◌, ◌&&◌, if◌then◌else◌}
use Rattle.std.proofs.lemmas.Bool.{false≢true}
use Rattle.std.proofs.lemmas.List.{get_or-map, get_or_past, length-map}
use Rattle.sm_lists.proofs.Counting.{eq_or_ne, lt_or_le}
use Rattle.sm_agents.specs.Written.{Written}
use Rattle.sm_agents.specs.declared.kinds.Measure.{Measure}
use Rattle.sm_instance.specs.Ranks.{pair_second}
use Rattle.sm_market.specs.Lists.{Lists}
use Rattle.sm_market.specs.Matching.{Places}
use Rattle.sm_theory.specs.Chains.{rotation_at}
use Rattle.sm_theory.specs.Weights.{gain_of}
use Rattle.sm_theory.specs.Net.{Net, sink_of, HasEdge, IsUnbounded}
use Rattle.sm_theory.specs.FlowLines.{amount_on, line_at, AreOnNodes}
use Rattle.sm_theory.specs.Conditions.{rise_of}
use Rattle.sm_theory.specs.Flows.{is_residual_step}
use Rattle.sm_theory.specs.SecondNets.{second_net}
use Rattle.sm_theory.specs.declared.flow_lines.FlowLine.{FlowLine}
use Rattle.sm_theory.proofs.Flow.Steps.{step_kind}
use Rattle.sm_theory.proofs.Net.Tests.{and_parts}
use Rattle.sm_seats.specs.SeatMarket.{seat_market}
use Rattle.sm_seats.specs.Seating.{seating_of}
use Rattle.sm_seats.specs.Levels.{has_two_levels, seconds_by}
use Rattle.sm_seats.specs.ShownNet.{gain_by, net_shown, second_net_shown}
use Rattle.sm_seats.proofs.GainLemmas.{IsOnLists, second_gain_at_is}
use Rattle.sm_report.specs.Lines.{LineData}
use Rattle.sm_check_net.specs.CheckedNets.{NetParts, net_of_parts, gain_at, AreNumbersBelow}
use Rattle.sm_check_net.proofs.EdgeLemmas.{rooms_on_nodes}
use Rattle.sm_check_net.proofs.ResidualLemmas.{has_part}
use Rattle.sm_check_clauses.specs.Flows.{net_in, second_level}
use Rattle.sm_check_clauses.specs.Said.{rotations_in, flow_in}
use Rattle.sm_check_weight.specs.Kept.{flow_on}
use Rattle.sm_check_weight.proofs.ShownEdges.{shown_edges_on_nodes}

-- the ends of an amount of lines on nodes are nodes
amount_on_nodes : (n : ℕ) (lines : List FlowLine) → AreOnNodes n lines → (i j : ℕ) → 0 < amount_on lines i j → (i < n) × (j < n)
amount_on_nodes n lines on i j some =
    let w = has_part (λ (x : FlowLine). if x.from == i && x.to == j then x.amount else 0) lines (record { from = 0; to = 0; amount = 0 }) some in
    ends (line_at lines w.at) w.some (on w.at w.below)
  where
    ends : (l : FlowLine) → 0 < (if l.from == i && l.to == j then l.amount else 0) → (l.from < n) × (l.to < n) → (i < n) × (j < n)
    ends l some below = elim (eq_or_ne l.from i) [
      | inl a ↦ elim (eq_or_ne l.to j) [
        | inl b ↦ (omega (arith, a, below.0), omega (arith, b, below.1))
        | inr b ↦ absurd (let bad : 0 < 0 = rw (eq-eqb l.from i a, ne_eqb l.to j b) at some in omega arith)
      ]
      | inr a ↦ absurd (let bad : 0 < 0 = rw (ne_eqb l.from i a) at some in omega arith)
    ]

-- the edges of the second net of a flow on nodes lead between its nodes
pub second_edges_on_nodes : (by : Measure) (w : Written) (first : Places) (rotations : List (List (ℕ × ℕ))) (needs : List (List ℕ)) (lines : List FlowLine)
    → length needs ≡ length rotations → AreNumbersBelow (length rotations) needs → AreOnNodes (length rotations + 2) lines → (i j : ℕ)
    → HasEdge (second_net_shown by w first rotations needs (amount_on lines)) i j → (i < length rotations + 2) × (j < length rotations + 2)
second_edges_on_nodes by w first rotations needs lines long below on i j edge = elim edge [
  | inl u ↦ by_step i j u
  | inr room ↦ rooms_on_nodes (second_net_shown by w first rotations needs (amount_on lines))
      (λ k past. ap (λ rotation. rise_of (gain_by (pair_second w) (seating_of w) rotation)) (get_or_past rotations k [] past)) i j room
]
  where
    net : Net
    net = net_shown by w first rotations needs

    by_step : (i j : ℕ) → IsUnbounded (second_net_shown by w first rotations needs (amount_on lines)) i j → (i < length rotations + 2) × (j < length rotations + 2)
    by_step i zero u = absurd (false≢true u)
    by_step i (suc j) u =
        let s = (and_parts (not (suc j == 0)) (is_residual_step net (amount_on lines) i (suc j)) (and_parts (not (i == sink_of net)) (not (suc j == 0) && is_residual_step net (amount_on lines) i (suc j)) u).1).1 in
        elim (step_kind net (amount_on lines) i (suc j) s) [
          | inl unbounded ↦ shown_edges_on_nodes by w first rotations needs long below i (suc j) (inl unbounded)
          | inr more ↦ elim more [
            | inl less ↦ shown_edges_on_nodes by w first rotations needs long below i (suc j) (inr (omega (arith, less)))
            | inr some ↦ let back = amount_on_nodes (length rotations + 2) lines on (suc j) i some in (back.1, back.0)
          ]
        ]

-- gains that are made one after another are those of the rotations
gains_at : (l : Lists) (seconds : List (List ℤ)) (rotations : List (List (ℕ × ℕ))) (k : ℕ) → gain_at (map (gain_of l seconds) rotations) k ≡ gain_of l seconds (rotation_at rotations k)
gains_at l seconds rotations k = elim (lt_or_le k (length rotations)) [
  | inl less ↦ get_or-map (gain_of l seconds) rotations k [] (pos 0) less
  | inr past ↦ get_or_past (map (gain_of l seconds) rotations) k (pos 0) (rw (length-map rotations (gain_of l seconds)) past) ∙ ap (gain_of l seconds) (sym (get_or_past rotations k [] past))
]

-- the net that is made of the first one, the lines of the flow and the second gains
pub second_is : (w : Written) (by : Measure) (above : List LineData) (first second : NetParts) (lines : List FlowLine) (gains : List ℤ) → net_of_parts first ≡ net_in w by above → lines ≡ flow_on w flow_in above
    → has_two_levels by w ≡ true → ((k : ℕ) → k < length (rotations_in w above) → IsOnLists (seat_market w) (rotation_at (rotations_in w above) k))
    → gains ≡ map (gain_of (seat_market w) (seconds_by by w (seating_of w))) (rotations_in w above) → net_of_parts second ≡ second_net (net_of_parts first) (amount_on lines) (gain_at gains) → net_of_parts second ≡ (second_level w by above).net
second_is w by above first second lines gains n f two on g made =
    made
    ∙ ap (λ (net : Net). second_net net (amount_on lines) (gain_at gains)) n
    ∙ ap (λ (fs : List FlowLine). second_net (net_in w by above) (amount_on fs) (gain_at gains)) f
    ∙ ap (λ (gs : List ℤ). second_net (net_in w by above) (amount_on (flow_on w flow_in above)) (gain_at gs)) g
    ∙ (λ t. second_net (net_in w by above) (amount_on (flow_on w flow_in above)) (λ k. gains_at (seat_market w) (seconds_by by w (seating_of w)) (rotations_in w above) k t))
    ∙ sym (λ t. second_net (net_in w by above) (amount_on (flow_on w flow_in above)) (λ k. second_gain_at_is by w (seating_of w) two (rotations_in w above) on k t))
