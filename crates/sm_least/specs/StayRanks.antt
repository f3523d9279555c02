-- Ranks of places with those of stays.
use Rattle.std.specs.Prelude.{◌≡◌, ℕ, List}
use Rattle.sm_market.specs.Lists.{Lists}
use Rattle.sm_market.specs.Vectors.{rows_of}
use Rattle.sm_theory.specs.Regrets.{AreRanks}
use Rattle.sm_board.specs.Board.{Board}
use Rattle.sm_least.specs.Regrets.{ranks_along}
use Rattle.sm_least.specs.declared.ranks.StayRanks.{StayRanks}

-- a rank for each place of each proposer, equal for places of one level, and the ranks along the stays of a board
pub record AreStayRanks (l : Lists) (levels : List (List ℕ)) (b : Board) (r : StayRanks) : Type 0 where
  pub places : AreRanks l levels (rows_of r.places.now)
  pub stays : r.stays ≡ ranks_along b levels (rows_of r.places.now)
