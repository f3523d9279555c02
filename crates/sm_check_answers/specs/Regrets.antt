-- The clauses on regrets at the end of an answer, and what is kept above it.
use Rattle.std.specs.Prelude.{◌≡◌, ℕ, List, Option, filter_map}
use Rattle.std.specs.List.{slice_get}
use Rattle.sm_agents.specs.Written.{Written}
use Rattle.sm_instance.specs.Stable.{IsStable}
use Rattle.sm_instance.specs.Allowed.{IsAllowed}
use Rattle.sm_instance.specs.Ranks.{regret_of}
use Rattle.sm_holding.specs.declared.holding.Holding.{Holding}
use Rattle.sm_report.specs.Lines.{LineData}
use Rattle.sm_check_clauses.specs.declared.verdicts.Reason.{Reason}
use Rattle.sm_check_clauses.specs.declared.verdicts.Reason.TheVariants as reason
use Rattle.sm_check_clauses.specs.Said.{pairs_in, regret_in}
use Rattle.sm_holding.specs.PairsKept.{ArePairsHeld}

-- at the end, of the matching
abbrev pub EndOfRegret : Written → (regret : ℕ) → List (Option ℕ) → Reason → Type 0
EndOfRegret w regret places reason.Blocked = IsStable w places
EndOfRegret w regret places reason.NotAllowed = IsAllowed w places
EndOfRegret w regret places reason.WrongRegret = regret ≡ regret_of w places
EndOfRegret w regret places _ = Unit {0}

-- of the lines of an answer: the matching of its pairs, and the regret that it says first
pub record AreRegretsKept (w : Written) (above : List LineData) (holding : Holding) (regret : Option ℕ) : Type 0 where
  pub pairs : ArePairsHeld w (pairs_in above) holding
  pub said : regret ≡ slice_get (filter_map regret_in above) 0
