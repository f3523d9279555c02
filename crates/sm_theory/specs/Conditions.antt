-- The net whose cuts are the closed sets of allowed matchings: gains, predecessors and conditions.
use Rattle.std.specs.Prelude.{◌≡◌, ℕ, zero, suc, ◌<◌, nat_lt, ◌==◌, if◌then◌else◌, Bool, false, not, ◌&&◌, ◌||◌, List, Option, None, Some, length, slice_index, ℤ, pos, negsuc, ◌≤ℤ◌}
use Rattle.std.specs.List.{position_or_len, list_any}
use Rattle.sm_market.specs.Lists.{Lists, row, place_of, IsMarket}
use Rattle.sm_market.specs.Matching.{Places, held}
use Rattle.sm_market.specs.Stable.{IsStable}
use Rattle.sm_theory.specs.Rotations.{reviewer_at, target_at, pair_of}
use Rattle.sm_theory.specs.Chains.{rotation_at, IsCompleteChain, AreNeedsOf}
use Rattle.sm_theory.specs.Vectors.{AreLevels, IsAllowed}
use Rattle.sm_theory.specs.Weights.{weight_of, gain_of}
use Rattle.sm_theory.specs.Net.{Net}

-- the level of a place of p
abbrev pub level_at : List (List ℕ) → ℕ → ℕ → ℕ
level_at levels p i = slice_index (row levels p) i

-- a place, if there is one, is of the level
abbrev pub has_level : List (List ℕ) → ℕ → ℕ → Option ℕ → Bool
has_level levels p level None = false
has_level levels p level (Some i) = level_at levels p i == level

-- a rotation moves p to a place of the level
abbrev pub moves_to : Lists → List (List ℕ) → ℕ → ℕ → List (ℕ × ℕ) → Bool
moves_to l levels p level rotation =
    let i = pair_of rotation p in
    nat_lt i (length rotation) && level_at levels p (place_of l.proposers p (target_at rotation i)) == level

-- and from a place of the level to one of another
abbrev pub moves_off : Lists → List (List ℕ) → ℕ → ℕ → List (ℕ × ℕ) → Bool
moves_off l levels p level rotation =
    let i = pair_of rotation p in
    nat_lt i (length rotation) && (level_at levels p (place_of l.proposers p (reviewer_at rotation i)) == level && not (level_at levels p (place_of l.proposers p (target_at rotation i)) == level))

-- the node at which p comes to the level: the source, where it begins there; else the first rotation that takes it
-- there; the sink, where it never comes there
abbrev pub entry_node : Lists → List (List ℕ) → Places → List (List (ℕ × ℕ)) → ℕ → ℕ → ℕ
entry_node l levels first rotations p level =
    if has_level levels p level (held first.proposers p) then 0 else suc (position_or_len (moves_to l levels p level) rotations)

-- the node at which p leaves the level: the rotation that takes it from there, or the sink, where it never leaves
abbrev pub exit_node : Lists → List (List ℕ) → List (List (ℕ × ℕ)) → ℕ → ℕ → ℕ
exit_node l levels rotations p level = suc (position_or_len (moves_off l levels p level) rotations)

-- the unbounded edges of a forced pair of a proposer and a level: from the source to its entry, and from its exit to the
-- sink
abbrev pub forces : Lists → List (List ℕ) → Places → List (List (ℕ × ℕ)) → ℕ × ℕ → ℕ → ℕ → Bool
forces l levels first rotations c i j =
    (i == 0 && j == entry_node l levels first rotations c.0 c.1) || (i == exit_node l levels rotations c.0 c.1 && j == suc (length rotations))

-- the unbounded edge of a forbidden pair: from its entry to its exit
abbrev pub forbids : Lists → List (List ℕ) → Places → List (List (ℕ × ℕ)) → ℕ × ℕ → ℕ → ℕ → Bool
forbids l levels first rotations c i j = i == entry_node l levels first rotations c.0 c.1 && j == exit_node l levels rotations c.0 c.1

-- the unbounded edges from each rotation to its predecessors
abbrev pub leads_to_need : List (List ℕ) → ℕ → ℕ → Bool
leads_to_need needs zero j = false
leads_to_need needs (suc k) zero = false
leads_to_need needs (suc k) (suc j) = list_any (λ i. i == j) (row needs k)

-- the size of a number where it is positive, and where it is negative
abbrev pub rise_of : ℤ → ℕ
rise_of (pos n) = n
rise_of (negsuc n) = 0

-- the size of a number where it is negative, and 0 elsewhere
abbrev pub fall_of : ℤ → ℕ
fall_of (pos n) = 0
fall_of (negsuc n) = suc n

-- a pair allows nothing by itself where its edge would lead from the source to the sink: a forced one that no stable
-- matching holds, or a forbidden one that all hold
abbrev pub allows_nothing : Lists → List (List ℕ) → (forced forbidden : List (ℕ × ℕ)) → Places → List (List (ℕ × ℕ)) → Bool
allows_nothing l levels forced forbidden first rotations =
    list_any (λ c. forces l levels first rotations c 0 (suc (length rotations))) forced
    || list_any (λ c. forbids l levels first rotations c 0 (suc (length rotations))) forbidden

-- the net of the gains, the predecessors and the conditions, which are pairs of a proposer and a level. No edge leads from
-- the source to the sink
-- (Irving, Leather and Gusfield 1987; Gusfield and Irving 1989, chapter 3)
abbrev pub net_of : Lists → List (List ℕ) → List (List ℤ) → (forced forbidden : List (ℕ × ℕ)) → Places → List (List (ℕ × ℕ)) → List (List ℕ) → Net
net_of l levels weights forced forbidden first rotations needs = record {
  size = length rotations;
  supply = λ k. fall_of (gain_of l weights (rotation_at rotations k));
  drain = λ k. rise_of (gain_of l weights (rotation_at rotations k));
  unbounded = λ i j. not (i == j) && (not (i == 0 && j == suc (length rotations))
      && (leads_to_need needs i j || (list_any (λ c. forces l levels first rotations c i j) forced || list_any (λ c. forbids l levels first rotations c i j) forbidden)));
}

-- what the net is made from: a market with levels, a complete chain, and the predecessors of each rotation
pub record IsNetGround (l : Lists) (levels : List (List ℕ)) (first : Places) (rotations : List (List (ℕ × ℕ))) (needs : List (List ℕ)) : Type 0 where
  pub market : IsMarket l
  pub rising : AreLevels l levels
  pub chain : IsCompleteChain l first rotations
  pub one_each : length needs ≡ length rotations
  pub each : (j : ℕ) → j < length rotations → AreNeedsOf l rotations j (row needs j)

-- an allowed stable matching than which none is lighter
pub record IsLightestAllowed (l : Lists) (levels : List (List ℕ)) (weights : List (List ℤ)) (forced forbidden : List (ℕ × ℕ)) (m : Places) : Type 0 where
  pub stable : IsStable l m
  pub allowed : IsAllowed levels forced forbidden m
  pub lightest : (n : Places) → IsStable l n → IsAllowed levels forced forbidden n → weight_of l weights m ≤ℤ weight_of l weights n
