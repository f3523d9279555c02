-- The board of the market with four stable matchings, with one level forbidden, so that the laws are not about nothing.
use Rattle.std.specs.Prelude.{◌≡◌, ℕ, true, false, List, [], ◌∷◌}
use Rattle.sm_theory.specs.WitnessesListing.{two_pairs, two_pairs_first, two_pairs_chain, two_pairs_ranks, both_best}
use Rattle.sm_board.specs.Board.{Board, Gates, Fits, IsLeast, IsFirstChange}
use Rattle.sm_board.specs.BoardOf.{board_of, IsGround, AreGates, IsLeastWithin}
use Rattle.sm_board.specs.Growing.{IsLogOf, AreAskers}
use Rattle.sm_board.specs.Walks.{IsRaised, IsNotRaised, IsVectorWalk, HasFirstVector, IsNextUp}

-- neither rotation needs the other, and each moves two proposers to their second place
abbrev pub two_needs : List (List ℕ)
two_needs = [] ∷ [] ∷ []

-- the moves of the four proposers, each by one rotation to its second place
abbrev pub two_moves : List (List (ℕ × ℕ))
two_moves = ((0, 1) ∷ []) ∷ ((0, 1) ∷ []) ∷ ((1, 1) ∷ []) ∷ ((1, 1) ∷ []) ∷ []

-- the board of this market
abbrev pub two_board : Board
two_board = record {
  needs = two_needs;
  movers = (0 ∷ 1 ∷ []) ∷ (2 ∷ 3 ∷ []) ∷ [];
  leaves = (0 ∷ []) ∷ (0 ∷ []) ∷ (1 ∷ []) ∷ (1 ∷ []) ∷ [];
  levels = (1 ∷ 2 ∷ []) ∷ (1 ∷ 2 ∷ []) ∷ (1 ∷ 2 ∷ []) ∷ (1 ∷ 2 ∷ []) ∷ [];
  matched = true ∷ true ∷ true ∷ true ∷ [];
}

-- level 2 is forbidden for proposer 0
abbrev pub two_forbidden : List (ℕ × ℕ)
two_forbidden = (0, 2) ∷ []

-- so proposer 0 may have its first stay alone
abbrev pub two_gates : Gates
two_gates = record { until = 1 ∷ 2 ∷ 2 ∷ 2 ∷ []; shut = [] }

-- the walk begins at the empty set, whose vector is the first; the second rotation alone is the next one up at position 2
abbrev pub TwoWalk : Type 0
TwoWalk = IsVectorWalk two_board two_gates (0 ∷ 1 ∷ 2 ∷ 3 ∷ []) both_best 4 (λ _. false ∷ false ∷ [])
    × HasFirstVector two_board two_gates (0 ∷ 1 ∷ 2 ∷ 3 ∷ []) (false ∷ false ∷ [])
    × IsNextUp two_board two_gates (0 ∷ 1 ∷ 2 ∷ 3 ∷ []) both_best 2 (false ∷ true ∷ [])

-- the second rotation entered for the first stay of proposer 2, which stands at the first position whose level it changes
abbrev pub TwoLog : Type 0
TwoLog = IsLogOf two_board (1 ∷ []) (false ∷ true ∷ [])
    × AreAskers two_board (1 ∷ []) (2 ∷ []) (0 ∷ [])
    × IsFirstChange two_board (0 ∷ 1 ∷ 2 ∷ 3 ∷ []) 1 2

-- the empty set is the least, and the first matching the best one allowed; proposer 2 can be raised with no change at the two positions before, and proposer 0 can't
abbrev pub TwoBoard : Type 0
TwoBoard = IsGround two_pairs two_pairs_ranks two_pairs_first two_pairs_chain two_needs two_moves
    × (board_of two_pairs two_pairs_ranks two_pairs_first two_pairs_chain two_needs two_moves ≡ two_board)
    × AreGates two_board [] (9 ∷ 9 ∷ 9 ∷ 9 ∷ []) [] two_forbidden two_gates
    × IsLeast (Fits two_board two_gates) (false ∷ false ∷ [])
    × IsRaised two_board two_gates (0 ∷ 1 ∷ 2 ∷ 3 ∷ []) (false ∷ false ∷ []) 2 2 2 (false ∷ true ∷ [])
    × IsNotRaised two_board two_gates (0 ∷ 1 ∷ 2 ∷ 3 ∷ []) (false ∷ false ∷ []) 0 2 0
    × IsLeastWithin two_pairs two_pairs_ranks [] (9 ∷ 9 ∷ 9 ∷ 9 ∷ []) [] two_forbidden two_pairs_first
    × TwoWalk × TwoLog
