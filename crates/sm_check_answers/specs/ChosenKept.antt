-- What is kept of the lines of an answer of `meet` or `join`.
use Rattle.std.specs.Prelude.{◌≡◌, ℕ, Bool, List, Option}
use Rattle.sm_agents.specs.Written.{Written}
use Rattle.sm_report.specs.Lines.{LineData}
use Rattle.sm_theory.specs.declared.choice.Choice.{Choice}
use Rattle.sm_holding.specs.declared.holding.Holding.{Holding}
use Rattle.sm_holding.specs.Chosen.{chosen_places}
use Rattle.sm_holding.specs.PairsKept.{ArePairsHeld}
use Rattle.sm_check_clauses.specs.Said.{pairs_in, lefts_in, rights_in}
use Rattle.sm_check_answers.specs.Stood.{AreStood}

-- of the lines of an answer of `meet` or `join`: the two matchings, the one that is chosen of them, and who stands in its pairs
pub record AreChosenKept (choice : Choice) (w : Written) (above : List LineData) (left right : Holding) (wanted : List (Option ℕ)) (stood : List Bool) : Type 0 where
  pub lefts : ArePairsHeld w (lefts_in above) left
  pub rights : ArePairsHeld w (rights_in above) right
  pub chosen : wanted ≡ chosen_places choice w left.matching.places.items right.matching.places.items
  pub pairs : AreStood w (pairs_in above) stood
