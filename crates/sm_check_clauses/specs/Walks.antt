-- A chain of rotations that an answer writes, as far as it was read.
use Rattle.std.specs.Prelude.{◌≡◌, ℕ, true, false, List, length, Option, Some, None}
use Rattle.std.specs.List.{list_all, sum_by}
use Rattle.sm_agents.specs.Written.{Written}
use Rattle.sm_market.specs.Lists.{Lists, IsMarket}
use Rattle.sm_market.specs.Matching.{Places}
use Rattle.sm_market.specs.Pairing.{IsPairingOf}
use Rattle.sm_market.specs.Stable.{IsStable, IsProposersBest}
use Rattle.sm_theory.specs.Rotations.{IsNothingExposed}
use Rattle.sm_theory.specs.Chains.{stage}
use Rattle.sm_check_decide.specs.Exposure.{IsSearchOf}
use Rattle.sm_check_decide.specs.Noting.{IsNotesFor, AreNoted}
use Rattle.sm_check_net.specs.declared.moves.Move.{Move}
use Rattle.sm_check_net.specs.Moves.{moves_in, row_of_moves, AreMovesByRotation, AreOnLists}
use Rattle.sm_seats.specs.SeatMarket.{seat_market}
use Rattle.sm_seats.specs.Counted.{first_seats_of}
use Rattle.sm_report.specs.Lines.{LineData}
use Rattle.sm_check_clauses.specs.Said.{firsts_in, rotations_in, is_up_to_firsts, is_up_to_rotations}
use Rattle.sm_check_clauses.specs.SeatMatchings.{first_of, AreSeatPairs}
use Rattle.sm_check_clauses.specs.declared.seat_pairs.SeatPairs.{SeatPairs}
use Rattle.sm_check_clauses.specs.declared.chain_walk.ChainWalk.{ChainWalk}

-- how each of some rotations moves its proposers on these lists
pub record AreChainMoves (l : Lists) (rotations : List (List (ℕ × ℕ))) (rows : List (List Move)) : Type 0 where
  pub moves : AreMovesByRotation l rotations rows
  pub on_lists : (k : ℕ) → AreOnLists l (row_of_moves rows k)

-- rotations were eliminated one after the other from the proposers' best matching: how each moves its proposers, the matching
-- that is reached, how far it was searched for exposed rotations, and the notes of what was eliminated, which have room for a
-- rotation for each entry
pub record IsChainWalk (l : Lists) (first : Places) (rotations : List (List (ℕ × ℕ))) (walk : ChainWalk) : Type 0 where
  pub market : IsMarket l
  pub best : IsProposersBest l first
  pub first_made : IsPairingOf l walk.first
  pub first_is : walk.first.places ≡ first
  pub moves : AreChainMoves l rotations (moves_in walk.moves.items)
  pub made : IsPairingOf l walk.matching
  pub reached : walk.matching.places ≡ stage l first rotations (length rotations)
  pub stable : IsStable l walk.matching.places
  pub search : IsSearchOf l walk.matching.places walk.search
  pub notes : IsNotesFor l walk.notes
  pub most : walk.notes.most ≡ sum_by (λ list. length list) l.proposers
  pub noted : AreNoted l first rotations walk.notes

-- of the lines of an answer up to its rotations; or behind them, where nothing is exposed any more
pub record IsWalkOf (w : Written) (above : List LineData) (walk : ChainWalk) : Type 0 where
  pub is_walk : IsChainWalk (seat_market w) (first_of w above) (rotations_in w above) walk
  pub going : walk.is_whole ≡ false → list_all is_up_to_rotations above ≡ true
  pub whole : walk.is_whole ≡ true → IsNothingExposed (seat_market w) walk.matching.places

-- of the lines of an answer up to its first seats
pub record AreFirstsKept (w : Written) (above : List LineData) (pairs : SeatPairs) : Type 0 where
  pub up_to : list_all is_up_to_firsts above ≡ true
  pub kept : AreSeatPairs (seat_market w) (firsts_in w above) pairs

-- of the lines of an answer of `rotations`: the first seats, and then the rotations
abbrev pub IsChainAt : Written → List LineData → SeatPairs → Option ChainWalk → Type 0
IsChainAt w above pairs None = AreFirstsKept w above pairs
IsChainAt w above pairs (Some walk) = IsWalkOf w above walk

-- what is kept of the chain over the market of seats of an instance
pub record IsChainKept (w : Written) (market : Lists) (firsts : List ℕ) (above : List LineData) (pairs : SeatPairs) (walk : Option ChainWalk) : Type 0 where
  pub market_is : market ≡ seat_market w
  pub firsts_are : firsts ≡ first_seats_of w
  pub at : IsChainAt w above pairs walk
