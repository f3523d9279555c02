-- What is reached over steps that are given by their pairs of nodes.
use Rattle.std.specs.Prelude.{◌≡◌, ℕ, ◌<◌, ◌≤◌, ◌↔◌, true, List, length, slice_index}
use Rattle.std.specs.List.{Contains}
use Rattle.sm_theory.specs.Net.{IsReachable}
use Rattle.sm_check_net.specs.Pairs.{has_pair}
use Rattle.sm_lists.specs.Pairs.{pair_at}
use Rattle.sm_check_decide.specs.Trails.{Trail}

-- one of the steps leads from the one node to the other
abbrev pub IsStepOf : List (ℕ × ℕ) → ℕ → ℕ → Type 0
IsStepOf steps i j = has_pair steps i j ≡ true

-- the steps lead to nodes among so many
abbrev pub LeadTo : (nodes : ℕ) → List (ℕ × ℕ) → Type 0
LeadTo nodes steps = (k : ℕ) → k < length steps → (pair_at steps k).1 < nodes

-- a trail goes on by nodes to which steps lead from this one, until it has all of these
pub record TrailGoesOn (steps : List (ℕ × ℕ)) (from : ℕ) (before after : Trail) : Type 0 where
  pub same_bound : after.bound ≡ before.bound
  pub longer : length before.items ≤ length after.items
  pub kept : (k : ℕ) → k < length before.items → slice_index after.items k ≡ slice_index before.items k
  pub new : (k : ℕ) → length before.items ≤ k → k < length after.items → IsStepOf steps from (slice_index after.items k)
  pub all : (j : ℕ) → IsStepOf steps from j → Contains after.items j
  pub within : length after.items ≤ after.bound

-- a trail has the nodes that are reached from node 0
pub record IsReachedTrail (nodes : ℕ) (steps : List (ℕ × ℕ)) (trail : Trail) : Type 0 where
  pub bound : trail.bound ≡ nodes
  pub exact : (v : ℕ) → Contains trail.items v ↔ IsReachable (IsStepOf steps) 0 v
