-- What a `Poset` keeps beside the market and the chain.
use Rattle.std.specs.Prelude.{◌≡◌, ℕ, ◌<◌, ◌≤◌, ◌++◌, ◌∷◌, [], List, length, slice_index, slice_index_or}
use Rattle.sm_market.specs.Lists.{Lists, row, place_of}
use Rattle.sm_theory.specs.Rotations.{pair_of, target_at}
use Rattle.sm_theory.specs.Chains.{AreNeedsOf}
use Rattle.sm_poset.specs.Posets.{RotationPoset, IsPoset}
use Rattle.sm_poset.specs.Moves.{IsMove, AreMoves}

-- for each of the first n rotations a proposer that it moves, and the place to which it moves that one
pub record AreLeaders (l : Lists) (rotations : List (List (ℕ × ℕ))) (n : ℕ) (leaders : List (ℕ × ℕ)) : Type 0 where
  pub one_each : length leaders ≡ n
  pub in_range : (k : ℕ) → k < n → (slice_index_or leaders k (0, 0)).0 < length l.proposers
  pub leads : (k : ℕ) → k < n → IsMove l rotations (slice_index_or leaders k (0, 0)).0 k (slice_index_or leaders k (0, 0)).1

-- what is kept of a poset
pub record IsKept (poset : RotationPoset) (needs : List (List ℕ)) (moves : List (List (ℕ × ℕ))) (leaders : List (ℕ × ℕ)) : Type 0 where
  pub chain : IsPoset poset
  pub needs_each : length needs ≡ length poset.rotations
  pub needs_are : (j : ℕ) → j < length poset.rotations → AreNeedsOf poset.lists poset.rotations j (row needs j)
  pub moves_are : AreMoves poset.lists poset.rotations (length poset.rotations) moves
  pub leaders_are : AreLeaders poset.lists poset.rotations (length poset.rotations) leaders

-- a place on the list of each proposer that lists somebody
pub record ArePlacesOf (l : Lists) (at : List ℕ) : Type 0 where
  pub one_each : length at ≡ length l.proposers
  pub on_list : (p : ℕ) → 0 < length (row l.proposers p) → slice_index at p < length (row l.proposers p)

-- the moves of p once the proposers of the first i pairs of a rotation have got one more: that of rotation k, to the place of
-- the reviewer of the next pair
pub record AreMovesAfter (l : Lists) (k : ℕ) (rotation : List (ℕ × ℕ)) (i p : ℕ) (before after : List (ℕ × ℕ)) : Type 0 where
  pub one_more : let pair = pair_of rotation p in pair < i → after ≡ before ++ (k, place_of l.proposers p (target_at rotation pair)) ∷ []
  pub same : i ≤ pair_of rotation p → after ≡ before
