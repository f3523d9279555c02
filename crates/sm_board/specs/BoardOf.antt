-- The board of a market with levels and of its complete chain; gates for bounds and conditions; and what the least allowed set
-- means for matchings.
use Rattle.std.specs.Prelude.{◌≡◌, ◌≢◌, ℕ, ◌<◌, ◌≤◌, ◌↔◌, Bool, true, false, List, ◌∷◌, length, map, is_some, slice_index, slice_index_or}
use Rattle.sm_market.specs.Lists.{Lists, row, agents, IsMarket}
use Rattle.sm_market.specs.Matching.{Places, held, standing}
use Rattle.sm_market.specs.Stable.{IsStable}
use Rattle.sm_theory.specs.Chains.{IsCompleteChain, AreNeedsOf}
use Rattle.sm_theory.specs.ClosedSets.{IsClosed, matching_of}
use Rattle.sm_theory.specs.Vectors.{AreLevels, level_of, IsAllowed, IsWithin, HasLevel, AreInRange}
use Rattle.sm_poset.specs.Moves.{AreMoves, moves_at}
use Rattle.sm_poset.specs.Posets.{RotationPoset}
use Rattle.sm_board.specs.Board.{firsts, is_shut, Board, IsBoard, stay, level, stay_level, IsClosedIn, Gates, IsOpen, Fits, IsLeast}

-- the places of p's stays: its first, and then where each of its moves leads
abbrev pub places_at : Lists → Places → List (List (ℕ × ℕ)) → ℕ → List ℕ
places_at l first moves p = standing l.proposers first.proposers p ∷ map (λ m. m.1) (moves_at moves p)

-- the board of a market with levels, by its first matching, its rotations, and their predecessors and moves
abbrev pub board_of : Lists → List (List ℕ) → Places → List (List (ℕ × ℕ)) → List (List ℕ) → List (List (ℕ × ℕ)) → Board
board_of l levels first rotations needs moves = record {
  needs = needs;
  movers = map (λ rotation. firsts rotation) rotations;
  leaves = map (λ ms. firsts ms) moves;
  levels = map (λ p. map (λ i. slice_index (row levels p) i) (places_at l first moves p)) (agents l.proposers);
  matched = map (λ p. is_some (held first.proposers p)) (agents l.proposers);
}

-- what a board is made from
pub record IsGround (l : Lists) (levels : List (List ℕ)) (first : Places) (rotations : List (List (ℕ × ℕ)))
    (needs : List (List ℕ)) (moves : List (List (ℕ × ℕ))) : Type 0 where
  pub market : IsMarket l
  pub rising : AreLevels l levels
  pub chain : IsCompleteChain l first rotations
  pub needs_each : length needs ≡ length rotations
  pub needs_are : (j : ℕ) → j < length rotations → AreNeedsOf l rotations j (row needs j)
  pub moves_are : AreMoves l rotations (length rotations) moves

-- the board of a poset with levels
pub record IsBoardFor (poset : RotationPoset) (levels : List (List ℕ)) (b : Board) : Type 0 where
  pub needs : List (List ℕ)
  pub moves : List (List (ℕ × ℕ))
  pub ground : IsGround poset.lists levels poset.first.places poset.rotations needs moves
  pub is : b ≡ board_of poset.lists levels poset.first.places poset.rotations needs moves

-- stay a of p is within the bounds and meets the conditions on p
pub record IsAllowedStay (b : Board) (low high : List ℕ) (forced forbidden : List (ℕ × ℕ))
    (p a : ℕ) : Type 0 where
  pub above : slice_index low p ≤ stay_level b p a
  pub below : stay_level b p a ≤ slice_index high p
  pub holds : (c : ℕ) → c < length forced → (slice_index_or forced c (0, 0)).0 ≡ p
      → (slice_index_or b.matched p false ≡ true)
      × (stay_level b p a ≡ (slice_index_or forced c (0, 0)).1)
  pub avoids : (c : ℕ) → c < length forbidden → (slice_index_or forbidden c (0, 0)).0 ≡ p
      → slice_index_or b.matched p false ≡ true
      → stay_level b p a ≢ (slice_index_or forbidden c (0, 0)).1

-- gates that leave open exactly these stays
abbrev pub AreGates : Board → (low high : List ℕ) → (forced forbidden : List (ℕ × ℕ)) → Gates → Type 0
AreGates b low high forced forbidden g = (p a : ℕ) → p < length b.leaves → a < length (row b.levels p)
    → IsOpen g p a ↔ IsAllowedStay b low high forced forbidden p a

-- a stable matching within the bounds and allowed, than which no proposer has a better one
pub record IsLeastWithin (l : Lists) (levels : List (List ℕ)) (low high : List ℕ)
    (forced forbidden : List (ℕ × ℕ)) (m : Places) : Type 0 where
  pub stable : IsStable l m
  pub within : IsWithin l levels low high m
  pub allowed : IsAllowed levels forced forbidden m
  pub best : (n : Places) → IsStable l n → IsWithin l levels low high n
      → IsAllowed levels forced forbidden n → (p : ℕ)
      → standing l.proposers m.proposers p ≤ standing l.proposers n.proposers p

-- a stable matching that is allowed, than which no proposer has a better one
pub record IsBestAllowed (l : Lists) (levels : List (List ℕ)) (forced forbidden : List (ℕ × ℕ)) (m : Places) : Type 0 where
  pub stable : IsStable l m
  pub allowed : IsAllowed levels forced forbidden m
  pub best : (n : Places) → IsStable l n → IsAllowed levels forced forbidden n → (p : ℕ)
      → standing l.proposers m.proposers p ≤ standing l.proposers n.proposers p

-- the board of a ground is one
abbrev pub BoardIsBoard : Type 0
BoardIsBoard = (l : Lists) (levels : List (List ℕ)) (first : Places) (rotations : List (List (ℕ
    × ℕ))) (needs : List (List ℕ)) (moves : List (List (ℕ × ℕ)))
    → IsGround l levels first rotations needs moves
    → IsBoard (board_of l levels first rotations needs moves)

-- its closed sets are those of the chain, and the levels are those of their matchings
abbrev pub BoardShowsSets : Type 0
BoardShowsSets = (l : Lists) (levels : List (List ℕ)) (first : Places) (rotations : List (List (ℕ
    × ℕ))) (needs : List (List ℕ)) (moves : List (List (ℕ × ℕ))) (C : List Bool)
    → IsGround l levels first rotations needs moves
    → let b = board_of l levels first rotations needs moves in
    (IsClosedIn b C ↔ IsClosed l rotations C)
    × (IsClosed l rotations C → (p : ℕ) → p < length l.proposers
    → (standing l.proposers (matching_of l first rotations C).proposers p ≡ slice_index (places_at l first moves p) (stay b C p))
    × (level_of l levels (matching_of l first rotations C) p ≡ level b C p))
    × (IsClosed l rotations C → (p L : ℕ) → HasLevel levels (matching_of l first rotations C) p L
    ↔ (slice_index_or b.matched p false ≡ true) × (level b C p ≡ L))

-- what fits the gates is what is within the bounds and allowed
abbrev pub GatesMeanConditions : Type 0
GatesMeanConditions = (l : Lists) (levels : List (List ℕ)) (first : Places) (rotations : List (List (ℕ
    × ℕ))) (needs : List (List ℕ)) (moves : List (List (ℕ × ℕ)))
    (low high : List ℕ) (forced forbidden : List (ℕ × ℕ)) (g : Gates) (C : List Bool)
    → IsGround l levels first rotations needs moves → AreInRange (length l.proposers) forced
    → let b = board_of l levels first rotations needs moves in
    AreGates b low high forced forbidden g
    → Fits b g C ↔ IsClosed l rotations C
    × IsWithin l levels low high (matching_of l first rotations C)
    × IsAllowed levels forced forbidden (matching_of l first rotations C)

-- the least set that fits is that of the best matching within the bounds that is allowed, and where none fits there is none
-- (as the least regret is found by Gusfield 1987, for bounds and conditions of any kind)
abbrev pub LeastIsBest : Type 0
LeastIsBest = (l : Lists) (levels : List (List ℕ)) (first : Places) (rotations : List (List (ℕ
    × ℕ))) (needs : List (List ℕ)) (moves : List (List (ℕ × ℕ)))
    (low high : List ℕ) (forced forbidden : List (ℕ × ℕ)) (g : Gates)
    → IsGround l levels first rotations needs moves → AreInRange (length l.proposers) forced
    → let b = board_of l levels first rotations needs moves in
    AreGates b low high forced forbidden g
    → ((C : List Bool) → IsLeast (Fits b g) C
    → IsLeastWithin l levels low high forced forbidden (matching_of l first rotations C))
    × (((C : List Bool) → ¬ Fits b g C) → (m : Places) → IsStable l m → IsWithin l levels low high m
    → ¬ IsAllowed levels forced forbidden m)

-- gates are right where behind the last open stay nothing is allowed, and before it what isn't shut and only that
abbrev pub GatesFromTests : Type 0
GatesFromTests = (b : Board) (low high : List ℕ) (forced forbidden : List (ℕ × ℕ)) (g : Gates)
    → ((p a : ℕ) → p < length b.leaves → a < length (row b.levels p) → slice_index g.until p ≤ a
    → ¬ IsAllowedStay b low high forced forbidden p a)
    → ((p a : ℕ) → p < length b.leaves → a < length (row b.levels p) → a < slice_index g.until p
    → (is_shut g p a ≡ false) ↔ IsAllowedStay b low high forced forbidden p a)
    → AreGates b low high forced forbidden g
