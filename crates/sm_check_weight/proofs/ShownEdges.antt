-- The edges of the net that is shown lead between its nodes.
use Rattle.std.proofs.Common.{◌≡◌, ℕ, zero, suc, ◌+◌, ◌<◌, ◌≤◌, inl, inr, arith, ap, Bool, true, false, not, List, [], length, get_or, eqb-true}
use Rattle.std.specs.Prelude.{◌==◌, ◌&&◌, ◌||◌, if◌then◌else◌}
use Rattle.std.specs.List.{list_any, position_or_len}
use Rattle.std.proofs.lemmas.Bool.{false≢true, and_from, or_left}
use Rattle.std.proofs.lemmas.List.{get_or_past}
use Rattle.std.proofs.lemmas.List.Sums.{prefix_len-le-length}
use Rattle.sm_agents.specs.Written.{Written}
use Rattle.sm_agents.specs.declared.kinds.Measure.{Measure}
use Rattle.sm_instance.specs.Ranks.{pair_weight}
use Rattle.sm_market.specs.Matching.{Places, held}
use Rattle.sm_theory.specs.Net.{HasEdge, IsUnbounded}
use Rattle.sm_theory.specs.Conditions.{leads_to_need, rise_of, net_of}
use Rattle.sm_theory.proofs.Net.Tests.{and_parts, or_parts, some_passes}
use Rattle.sm_check_net.specs.CheckedNets.{AreNumbersBelow}
use Rattle.sm_check_net.proofs.EdgeLemmas.{rooms_on_nodes, edges_are_on_nodes}
use Rattle.sm_seats.specs.SeatMarket.{seat_market}
use Rattle.sm_seats.specs.Seating.{Seating, seating_of, levels_of}
use Rattle.sm_seats.specs.ShownNet.{is_at_seat_of, enters, leaves, entry_node, exit_node, forces, forbids, gain_by, net_shown}

module _ (s : Seating) (first : Places) (rotations : List (List (ℕ × ℕ))) where
  entry_below : (pair : ℕ × ℕ) → entry_node s first rotations pair < length rotations + 2
  entry_below pair = go (is_at_seat_of s pair.0 pair.1 (held first.proposers pair.0))
    where
      go : (b : Bool) → (if b then 0 else suc (position_or_len (enters s pair.0 pair.1) rotations)) < length rotations + 2
      go true = omega arith
      go false = let most : position_or_len (enters s pair.0 pair.1) rotations ≤ length rotations = prefix_len-le-length _ rotations in omega arith

  exit_below : (pair : ℕ × ℕ) → exit_node s rotations pair < length rotations + 2
  exit_below pair = let most : position_or_len (leaves s pair.0 pair.1) rotations ≤ length rotations = prefix_len-le-length _ rotations in omega arith

  forced_below : (pair : ℕ × ℕ) (i j : ℕ) → forces s first rotations pair i j ≡ true → (i < length rotations + 2) × (j < length rotations + 2)
  forced_below pair i j h = elim (or_parts (i == 0 && j == entry_node s first rotations pair) _ h) [
    | inl a ↦ let both = and_parts (i == 0) (j == entry_node s first rotations pair) a in (omega (arith, eqb-true i 0 both.0), omega (arith, eqb-true j _ both.1, entry_below pair))
    | inr b ↦
        let both = and_parts (i == exit_node s rotations pair) (j == suc (length rotations)) b in
        (omega (arith, eqb-true i _ both.0, exit_below pair), omega (arith, eqb-true j _ both.1))
  ]

  forbidden_below : (pair : ℕ × ℕ) (i j : ℕ) → forbids s first rotations pair i j ≡ true → (i < length rotations + 2) × (j < length rotations + 2)
  forbidden_below pair i j h =
      let both = and_parts (i == entry_node s first rotations pair) _ h in
      (omega (arith, eqb-true i _ both.0, entry_below pair), omega (arith, eqb-true j _ both.1, exit_below pair))

-- the edges of the net
pub shown_edges_on_nodes : (by : Measure) (w : Written) (first : Places) (rotations : List (List (ℕ × ℕ))) (needs : List (List ℕ)) → length needs ≡ length rotations → AreNumbersBelow (length rotations) needs → (i j : ℕ)
    → HasEdge (net_shown by w first rotations needs) i j → (i < length rotations + 2) × (j < length rotations + 2)
shown_edges_on_nodes by w first rotations needs long below i j edge = elim edge [
  | inl u ↦ by_unbounded i j u
  | inr room ↦ rooms_on_nodes (net_shown by w first rotations needs)
      (λ k past. ap (λ rotation. rise_of (gain_by (pair_weight by w) (seating_of w) rotation)) (get_or_past rotations k [] past)) i j room
]
  where
    -- the needs are those of the net by levels, here without conditions and weights
    plain : (i j : ℕ) → HasEdge (net_of (seat_market w) (levels_of (seating_of w)) [] [] [] first rotations needs) i j → (i < length rotations + 2) × (j < length rotations + 2)
    plain = edges_are_on_nodes (seat_market w) (levels_of (seating_of w)) [] [] [] first rotations needs long below

    by_unbounded : (i j : ℕ) → IsUnbounded (net_shown by w first rotations needs) i j → (i < length rotations + 2) × (j < length rotations + 2)
    by_unbounded i zero u = absurd (false≢true u)
    by_unbounded i (suc j) u =
        let s = seating_of w in
        let out = and_parts (not (i == suc j)) _ u in
        let through = and_parts (not (i == 0 && suc j == suc (length rotations))) _ out.1 in
        elim (or_parts (leads_to_need needs i (suc j)) _ through.1) [
          | inl need ↦ plain i (suc j) (inl (and_from _ _ out.0 (and_from _ _ through.0 (or_left (leads_to_need needs i (suc j)) (false || false) need))))
          | inr more ↦ elim (or_parts (list_any (λ pair. forces s first rotations pair i (suc j)) w.forced) _ more) [
            | inl f ↦ let x = some_passes (λ pair. forces s first rotations pair i (suc j)) w.forced (0, 0) f in forced_below s first rotations (get_or w.forced x.at (0, 0)) i (suc j) x.holds
            | inr f ↦ let x = some_passes (λ pair. forbids s first rotations pair i (suc j)) w.forbidden (0, 0) f in forbidden_below s first rotations (get_or w.forbidden x.at (0, 0)) i (suc j) x.holds
          ]
        ]
