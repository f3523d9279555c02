-- Flows in a net, and what their residual steps reach.
use Rattle.std.specs.Prelude.{◌≡◌, ℕ, suc, ◌<◌, ◌≤◌, ◌↔◌, nat_lt, ◌&&◌, ◌||◌, Bool, true, List, length}
use Rattle.sm_theory.specs.ClosedSets.{IsMember}
use Rattle.sm_lists.specs.Sums.{sum_to}
use Rattle.sm_theory.specs.Net.{Net, sink_of, room_of, is_unbounded, IsUnbounded, IsReachable}

-- an amount on each edge, within its room, such that as much comes to each inner node as leaves it
-- (Ford and Fulkerson 1956)
pub record IsFlow (net : Net) (flow : ℕ → ℕ → ℕ) : Type 0 where
  pub within : (i j : ℕ) → ¬ IsUnbounded net i j → flow i j ≤ room_of net i j
  pub conserved : (k : ℕ) → k < net.size → sum_to (λ i. flow i (suc k)) (suc (sink_of net)) ≡ sum_to (flow (suc k)) (suc (sink_of net))

-- what leaves the source
abbrev pub flow_value : Net → (ℕ → ℕ → ℕ) → ℕ
flow_value net flow = sum_to (flow 0) (suc (sink_of net))

-- a step to a node of the net along an edge with room left, or against an edge with a positive amount
-- (Ford and Fulkerson 1956)
abbrev pub is_residual_step : Net → (flow : ℕ → ℕ → ℕ) → ℕ → ℕ → Bool
is_residual_step net flow i j = nat_lt j (suc (sink_of net)) && (is_unbounded net i j || (nat_lt (flow i j) (room_of net i j) || nat_lt 0 (flow j i)))

-- the step from i to j is one
abbrev pub IsResidualStep : Net → (flow : ℕ → ℕ → ℕ) → ℕ → ℕ → Type 0
IsResidualStep net flow i j = is_residual_step net flow i j ≡ true

-- the set of the rotations to which a path of residual steps leads from the source
pub record IsResidualReach (net : Net) (flow : ℕ → ℕ → ℕ) (set : List Bool) : Type 0 where
  pub one_each : length set ≡ net.size
  pub exact : (k : ℕ) → k < net.size → IsMember set k ↔ IsReachable (IsResidualStep net flow) 0 (suc k)
