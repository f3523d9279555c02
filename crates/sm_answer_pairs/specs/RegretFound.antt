-- The least regret by the seats of an instance.
use Rattle.std.specs.Prelude.{◌-◌, ◌++◌, ◌∷◌, [], List, length}
use Rattle.sm_answer.specs.Lines.{lines_from}
use Rattle.sm_agents.specs.Written.{Written}
use Rattle.sm_market.specs.Pairing.{IsPairingOf}
use Rattle.sm_report.specs.Heads.{HeadData}
use Rattle.sm_report.specs.Lines.{LineData}
use Rattle.sm_seats.specs.Seating.{Seating, levels_of}
use Rattle.sm_seats.specs.Correspondence.{leveled, worse_ranks_of}
use Rattle.sm_theory.specs.Regrets.{IsLeastRegret}
use Rattle.sm_answer_rotations.specs.PairLines.{seated_pair_line}
use Rattle.sm_answer_pairs.specs.declared.least_regret.LeastRegret.{LeastRegret}

-- a matching of the seats that has the least regret among the allowed ones
pub record IsLeastRegretOfSeats (w : Written) (s : Seating) (found : LeastRegret) : Type 0 where
  pub made : IsPairingOf s.market found.matching
  pub least : IsLeastRegret s.market (levels_of s) (worse_ranks_of w s) (leveled w w.forced) (leveled w w.forbidden) found.matching.places found.regret

-- the lines as they are given
abbrev pub regret_given : Seating → LeastRegret → List LineData
regret_given s found =
    (LineData.Answer HeadData.Regret ∷ []) ++ ((LineData.Regret found.regret ∷ []) ++ (lines_from (seated_pair_line s found.matching.places) 0 (length s.market.proposers - 0) ++ (LineData.End ∷ [])))
