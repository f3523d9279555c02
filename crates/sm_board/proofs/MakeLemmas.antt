-- Rows that are made one after the other.
use Rattle.std.proofs.Common.{◌≡◌, ℕ, ◌<◌, refl, List, Bool, length, map, is_some, slice_index}
use Rattle.sm_market.specs.Lists.{row, agents}
use Rattle.sm_market.specs.Matching.{held}
use Rattle.sm_theory.specs.Chains.{AreNeedsOf}
use Rattle.sm_theory.specs.Vectors.{AreLevels}
use Rattle.sm_poset.specs.Moves.{AreMoves}
use Rattle.sm_poset.specs.Posets.{RotationPoset, IsPoset}
use Rattle.sm_board.specs.Board.{firsts}
use Rattle.sm_board.specs.BoardOf.{places_at, IsBoardFor}

-- a board that has all the parts of a poset's board is that board
pub board_for : {poset : RotationPoset} {levels : List (List ℕ)} (needs : List (List ℕ)) (moves : List (List (ℕ × ℕ))) (movers leaves made : List (List ℕ)) (matched : List Bool) → IsPoset poset → AreLevels poset.lists levels
    → length needs ≡ length poset.rotations → ((j : ℕ) → j < length poset.rotations → AreNeedsOf poset.lists poset.rotations j (row needs j))
    → AreMoves poset.lists poset.rotations (length poset.rotations) moves
    → movers ≡ map (λ rotation. firsts rotation) poset.rotations
    → leaves ≡ map (λ ms. firsts ms) moves
    → made ≡ map (λ p. map (λ i. slice_index (row levels p) i) (places_at poset.lists poset.first.places moves p)) (agents poset.lists.proposers)
    → matched ≡ map (λ p. is_some (held poset.first.places.proposers p)) (agents poset.lists.proposers)
    → IsBoardFor poset levels (record { needs = needs; movers = movers; leaves = leaves; levels = made; matched = matched })
board_for {poset} {levels} needs moves movers leaves made matched w rising needs_each needs_are moves_are e1 e2 e3 e4 = record {
  needs = needs;
  moves = moves;
  ground = record {
    market = w.market;
    rising = rising;
    chain = w.printed.chain;
    needs_each = needs_each;
    needs_are = needs_are;
    moves_are = moves_are;
  };
  is = rw (e1, e2, e3, e4) refl;
}
