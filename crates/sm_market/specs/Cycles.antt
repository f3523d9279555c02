-- Cycles of pairs of a proposer and a reviewer, along which the proposers of a matching move. A rotation is such a cycle.
use Rattle.std.specs.Prelude.{◌≡◌, ◌≢◌, ℕ, ◌+◌, ◌<◌, ◌==◌, nat_lt, if◌then◌else◌, List, Option, Some, map, length, slice_index_or}
use Rattle.std.specs.List.{position_or_len}
use Rattle.sm_market.specs.Lists.{Lists, row, place_of, agents}
use Rattle.sm_market.specs.Matching.{Places, held}

-- proposer and reviewer of a pair of a cycle, and the number of the pair that follows it round the cycle
abbrev pub proposer_at : List (ℕ × ℕ) → ℕ → ℕ
proposer_at cycle i = (slice_index_or cycle i (0, 0)).0

-- the reviewer of pair i of a cycle
abbrev pub reviewer_at : List (ℕ × ℕ) → ℕ → ℕ
reviewer_at cycle i = (slice_index_or cycle i (0, 0)).1

-- the number of the pair behind pair i, going round
abbrev pub next_in : List (ℕ × ℕ) → ℕ → ℕ
next_in cycle i = if i + 1 == length cycle then 0 else i + 1

-- the reviewer to which a cycle moves the proposer of its pair i
abbrev pub target_at : List (ℕ × ℕ) → ℕ → ℕ
target_at cycle i = reviewer_at cycle (next_in cycle i)

-- the number of the pair in which a cycle has p, or how many pairs it has
abbrev pub pair_of : List (ℕ × ℕ) → ℕ → ℕ
pair_of cycle p = position_or_len (λ pair. pair.0 == p) cycle

-- the place to which a cycle moves p, or else the one that p holds
abbrev pub place_after : Lists → List (Option ℕ) → List (ℕ × ℕ) → ℕ → Option ℕ
place_after l places cycle p =
    let i = pair_of cycle p in
    if nat_lt i (length cycle) then Some (place_of l.proposers p (target_at cycle i)) else held places p

-- the places of all proposers once each one of the cycle has moved
abbrev pub places_after : Lists → List (Option ℕ) → List (ℕ × ℕ) → List (Option ℕ)
places_after l places cycle = map (place_after l places cycle) (agents l.proposers)

-- the proposers of a matching can move along a cycle: they differ, each has the reviewer of its pair, and each and the
-- reviewer of the next pair list each other
pub record CanTurn (l : Lists) (m : Places) (cycle : List (ℕ × ℕ)) : Type 0 where
  pub distinct : (i j : ℕ) → i < j → j < length cycle → proposer_at cycle i ≢ proposer_at cycle j
  pub paired : (i : ℕ) → i < length cycle → held m.proposers (proposer_at cycle i) ≡ Some (place_of l.proposers (proposer_at cycle i) (reviewer_at cycle i))
  pub listed : (i : ℕ) → i < length cycle → place_of l.proposers (proposer_at cycle i) (target_at cycle i) < length (row l.proposers (proposer_at cycle i))
