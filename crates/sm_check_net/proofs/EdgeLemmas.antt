-- The edges of the net of gains, predecessors and conditions lead between its nodes.
use Rattle.std.proofs.Common.{◌≡◌, ℕ, zero, suc, ◌+◌, ◌<◌, ◌≤◌, inl, inr, arith, ap, Bool, true, false, not, List, [], length, get_or, eqb-true, eq-eqb, ne_eqb, le-ltb}
use Rattle.std.specs.Prelude.{◌==◌, ◌&&◌, if◌then◌else◌}
use Rattle.std.specs.List.{list_any, position_or_len}
use Rattle.std.proofs.lemmas.Bool.{false≢true}
use Rattle.std.proofs.lemmas.List.{get_or_past}
use Rattle.std.proofs.lemmas.List.Sums.{prefix_len-le-length}
use Rattle.sm_lists.specs.Rows.{row}
use Rattle.sm_lists.proofs.Counting.{eq_or_ne, lt_or_le}
use Rattle.sm_market.specs.Lists.{Lists}
use Rattle.sm_market.specs.Matching.{Places, held}
use Rattle.sm_theory.specs.Weights.{gain_of}
use Rattle.sm_theory.specs.Net.{Net, room_of, IsUnbounded}
use Rattle.sm_theory.specs.Conditions.{has_level, moves_to, moves_off, entry_node, exit_node, forces, forbids, leads_to_need, rise_of, net_of}
use Rattle.sm_theory.proofs.Net.Tests.{and_parts, or_parts, some_passes}
use Rattle.sm_check_net.specs.CheckedNets.{AreNumbersBelow}
use Rattle.sm_check_net.specs.Laws.{EdgesAreOnNodes}

module _ (l : Lists) (levels : List (List ℕ)) (first : Places) (rotations : List (List (ℕ × ℕ))) where
  entry_below : (p level : ℕ) → entry_node l levels first rotations p level < length rotations + 2
  entry_below p level = go (has_level levels p level (held first.proposers p))
    where
      go : (b : Bool) → (if b then 0 else suc (position_or_len (moves_to l levels p level) rotations)) < length rotations + 2
      go true = omega arith
      go false = let most : position_or_len (moves_to l levels p level) rotations ≤ length rotations = prefix_len-le-length _ rotations in omega arith

  exit_below : (p level : ℕ) → exit_node l levels rotations p level < length rotations + 2
  exit_below p level = let most : position_or_len (moves_off l levels p level) rotations ≤ length rotations = prefix_len-le-length _ rotations in omega arith

  forced_below : (c : ℕ × ℕ) (i j : ℕ) → forces l levels first rotations c i j ≡ true → (i < length rotations + 2) × (j < length rotations + 2)
  forced_below c i j h = elim (or_parts (i == 0 && j == entry_node l levels first rotations c.0 c.1) _ h) [
    | inl a ↦ let both = and_parts (i == 0) (j == entry_node l levels first rotations c.0 c.1) a in (omega (arith, eqb-true i 0 both.0), omega (arith, eqb-true j _ both.1, entry_below c.0 c.1))
    | inr b ↦
        let both = and_parts (i == exit_node l levels rotations c.0 c.1) (j == suc (length rotations)) b in
        (omega (arith, eqb-true i _ both.0, exit_below c.0 c.1), omega (arith, eqb-true j _ both.1))
  ]

  forbidden_below : (c : ℕ × ℕ) (i j : ℕ) → forbids l levels first rotations c i j ≡ true → (i < length rotations + 2) × (j < length rotations + 2)
  forbidden_below c i j h =
      let both = and_parts (i == entry_node l levels first rotations c.0 c.1) _ h in
      (omega (arith, eqb-true i _ both.0, entry_below c.0 c.1), omega (arith, eqb-true j _ both.1, exit_below c.0 c.1))

need_below : (n : ℕ) (needs : List (List ℕ)) → length needs ≡ n → AreNumbersBelow n needs → (i j : ℕ) → leads_to_need needs i j ≡ true → (i < n + 2) × (j < n + 2)
need_below n needs long below zero j h = absurd (false≢true h)
need_below n needs long below (suc k) zero h = absurd (false≢true h)
need_below n needs long below (suc k) (suc x) h =
    let w = some_passes (λ y. y == x) (row needs k) 0 h in
    let e : get_or (row needs k) w.at 0 ≡ x = eqb-true _ x w.holds in
    (there w.at w.below, omega (arith, e, below.below k w.at w.below))
  where
    there : (a : ℕ) → a < length (row needs k) → suc k < n + 2
    there a less = elim (lt_or_le k (length needs)) [
      | inl h ↦ omega (arith, long)
      | inr past ↦ let none : row needs k ≡ [] = get_or_past needs k [] past in absurd (omega (arith, ap length none, less))
    ]

-- a room leads between nodes, where there is none behind the last rotation
pub rooms_on_nodes : (net : Net) → ((k : ℕ) → net.size ≤ k → net.drain k ≡ 0) → (i j : ℕ) → 0 < room_of net i j → (i < net.size + 2) × (j < net.size + 2)
rooms_on_nodes net dry zero zero some = absurd (omega arith)
rooms_on_nodes net dry (suc i) zero some = absurd (omega arith)
rooms_on_nodes net dry zero (suc k) some = elim (lt_or_le k net.size) [
  | inl less ↦ (omega arith, omega arith)
  | inr past ↦ absurd (let none : 0 < 0 = rw (le-ltb k net.size past) at some in omega arith)
]
rooms_on_nodes net dry (suc i) (suc k) some = elim (eq_or_ne k net.size) [
  | inr ne ↦ absurd (let none : 0 < 0 = rw (ne_eqb k net.size ne) at some in omega arith)
  | inl e ↦ elim (lt_or_le i net.size) [
    | inl less ↦ (omega arith, omega (arith, e))
    | inr past ↦ absurd (let left : 0 < net.drain i = rw (eq-eqb k net.size e) at some in omega (arith, dry i past, left))
  ]
]

-- the law that these edges lead between nodes
pub edges_are_on_nodes : EdgesAreOnNodes
edges_are_on_nodes l levels weights forced forbidden first rotations needs long below i j edge = elim edge [
  | inl u ↦ by_unbounded i j u
  | inr room ↦ rooms_on_nodes (net_of l levels weights forced forbidden first rotations needs)
      (λ k past. ap (λ rotation. rise_of (gain_of l weights rotation)) (get_or_past rotations k [] past)) i j room
]
  where
    by_unbounded : (i j : ℕ) → IsUnbounded (net_of l levels weights forced forbidden first rotations needs) i j → (i < length rotations + 2) × (j < length rotations + 2)
    by_unbounded i zero u = absurd (false≢true u)
    by_unbounded i (suc j) u =
        let out = and_parts (not (i == suc j)) _ u in
        let through = and_parts (not (i == 0 && suc j == suc (length rotations))) _ out.1 in
        elim (or_parts (leads_to_need needs i (suc j)) _ through.1) [
          | inl need ↦ need_below (length rotations) needs long below i (suc j) need
          | inr more ↦ elim (or_parts (list_any (λ c. forces l levels first rotations c i (suc j)) forced) _ more) [
            | inl f ↦ let w = some_passes (λ c. forces l levels first rotations c i (suc j)) forced (0, 0) f in forced_below l levels first rotations (get_or forced w.at (0, 0)) i (suc j) w.holds
            | inr f ↦ let w = some_passes (λ c. forbids l levels first rotations c i (suc j)) forbidden (0, 0) f in forbidden_below l levels first rotations (get_or forbidden w.at (0, 0)) i (suc j) w.holds
          ]
        ]
