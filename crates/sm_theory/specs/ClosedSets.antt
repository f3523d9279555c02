-- Closed sets of the rotations of a chain, and their matchings. A set has one item for each rotation.
use Rattle.std.specs.Prelude.{◌≡◌, ℕ, ◌<◌, Bool, true, false, ◌&&◌, List, map, filter, fold, length, slice_index_or, max}
use Rattle.std.specs.List.{range_with_len}
use Rattle.std.specs.Option.{option_map}
use Rattle.sm_market.specs.Lists.{Lists, place_of}
use Rattle.sm_market.specs.Matching.{Places, held}
use Rattle.sm_market.specs.Stable.{IsStable}
use Rattle.sm_theory.specs.Lattice.{agents, with_proposers}
use Rattle.sm_theory.specs.Rotations.{is_moved, reviewer_after}
use Rattle.sm_theory.specs.Chains.{rotation_at, IsNeededBy}

-- whether rotation k is in a set
abbrev pub is_member : List Bool → ℕ → Bool
is_member set k = slice_index_or set k false

-- rotation k is in a set
abbrev pub IsMember : List Bool → ℕ → Type 0
IsMember set k = is_member set k ≡ true

-- with each member a closed set has all predecessors of it (Gusfield and Irving 1989, section 2.5)
pub record IsClosed (l : Lists) (rotations : List (List (ℕ × ℕ))) (set : List Bool) : Type 0 where
  pub one_each : length set ≡ length rotations
  pub closed : (i j : ℕ) → i < length rotations → j < length rotations → IsMember set j → IsNeededBy l (rotation_at rotations i) (rotation_at rotations j) → IsMember set i

-- the worst for p among the place i and the places to which members of the set among the first n rotations move p
abbrev pub worst_place : Lists → List (List (ℕ × ℕ)) → List Bool → (p i n : ℕ) → ℕ
worst_place l rotations set p i n =
    fold max i (map (λ k. place_of l.proposers p (reviewer_after (rotation_at rotations k) p))
    (filter (λ k. is_member set k && is_moved (rotation_at rotations k) p) (range_with_len 0 n)))

-- the matching of a set: a proposer that is unmatched at first stays so, and each other one has the reviewer that it
-- likes least among its first and those to which members move it (Gusfield and Irving 1989, theorem 2.5.7)
abbrev pub matching_of : Lists → Places → List (List (ℕ × ℕ)) → List Bool → Places
matching_of l first rotations set =
    with_proposers l (map (λ p. option_map (λ i. worst_place l rotations set p i (length rotations)) (held first.proposers p)) (agents l.proposers))

-- closed sets and stable matchings correspond one to one (Irving and Leather 1986; Gusfield and Irving 1989,
-- theorem 2.5.7)
pub record Correspondence (l : Lists) (first : Places) (rotations : List (List (ℕ × ℕ))) : Type 0 where
  pub stable : (set : List Bool) → IsClosed l rotations set → IsStable l (matching_of l first rotations set)
  pub all : (m : Places) → IsStable l m → (set : List Bool) × IsClosed l rotations set × (matching_of l first rotations set ≡ m)
  pub different : (set other : List Bool) → IsClosed l rotations set → IsClosed l rotations other
      → matching_of l first rotations set ≡ matching_of l first rotations other → set ≡ other

-- a rotation of the chain is outside the set and all its predecessors are inside
pub record IsReady (l : Lists) (rotations : List (List (ℕ × ℕ))) (set : List Bool) (k : ℕ) : Type 0 where
  pub outside : ¬ IsMember set k
  pub prepared : (i : ℕ) → i < length rotations → IsNeededBy l (rotation_at rotations i) (rotation_at rotations k) → IsMember set i

-- two rotations are the same cycle: they have the same pairs
pub record IsSameCycle (rotation other : List (ℕ × ℕ)) : Type 0 where
  pub there : (i : ℕ) → i < length rotation → (j : ℕ) × (j < length other) × (slice_index_or other j (0, 0) ≡ slice_index_or rotation i (0, 0))
  pub back : (j : ℕ) → j < length other → (i : ℕ) × (i < length rotation) × (slice_index_or rotation i (0, 0) ≡ slice_index_or other j (0, 0))
