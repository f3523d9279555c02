-- What is kept of the lines of an answer of `solve`.
use Rattle.std.specs.Prelude.{◌≡◌, List}
use Rattle.sm_agents.specs.Written.{Written}
use Rattle.sm_seats.specs.Seating.{Seating, seating_of}
use Rattle.sm_holding.specs.declared.holding.Holding.{Holding}
use Rattle.sm_report.specs.Lines.{LineData}
use Rattle.sm_holding.specs.PairsKept.{ArePairsHeld}
use Rattle.sm_check_clauses.specs.Said.{pairs_in}

-- the pairs so far, beside the seats of the instance
pub record IsSolveKept (w : Written) (s : Seating) (above : List LineData) (holding : Holding) : Type 0 where
  pub seats : s ≡ seating_of w
  pub pairs : ArePairsHeld w (pairs_in above) holding
