-- The clauses on rotations and those on what is claimed behind them.
use Rattle.std.proofs.Common.{◌<◌, arith, List, Option, None, Some}
use Rattle.sm_agents.specs.Written.{Written}
use Rattle.sm_agents.specs.declared.kinds.Measure.{Measure}
use Rattle.sm_report.specs.Lines.{LineData}
use Rattle.sm_check_clauses.specs.declared.verdicts.Reason.{Reason}
use Rattle.sm_check_clauses.specs.declared.verdicts.Reason.TheVariants as reason
use Rattle.sm_check_clauses.specs.Chain.{RotationsHold}
use Rattle.sm_check_clauses.specs.Flows.{WeightHolds}
use Rattle.sm_check_clauses.specs.Verdicts.{Finds, IsFirstThere, number_of_reason}
use Rattle.sm_check_weight.specs.Kept.{ClaimHolds}

module _ (w : Written) (by : Measure) (above : List LineData) (x : LineData) where
  to_weight : (why : Reason) → RotationsHold w above x why → ClaimHolds w by above x why → WeightHolds w by above x why
  to_weight why r c = (r.0, r.1, c.0, c.1, c.2, c.3)

  -- where no clause on rotations fails, what is found of the others is found
  pub weight_found : (r : Option Reason) → Finds (RotationsHold w above x) None → Finds (ClaimHolds w by above x) r → Finds (WeightHolds w by above x) r
  weight_found None all f = λ why. to_weight why (all why) (f why)
  weight_found (Some why) all f = record {
    clauses_before = λ other l. to_weight other (all other) (f.clauses_before other l);
    fails = λ h. f.fails (h.2, h.3, h.4, h.5);
  }

  -- by the reasons of rotations nothing is asked of what is claimed
  pub early : (why : Reason) → number_of_reason why < 8 → ClaimHolds w by above x why
  early reason.NotAMatching l = (tt, tt, tt, tt)
  early reason.Blocked l = (tt, tt, tt, tt)
  early reason.NotBest l = (tt, tt, tt, tt)
  early reason.WrongList l = (tt, tt, tt, tt)
  early reason.NotExposed l = (tt, tt, tt, tt)
  early reason.RotationMissing l = (tt, tt, tt, tt)
  early reason.WrongNeeds l = (tt, tt, tt, tt)
  early _ l = absurd (omega (arith, l))

  chain_reason : (why : Reason) → ¬ RotationsHold w above x why → number_of_reason why < 8
  chain_reason reason.NotAMatching none = omega arith
  chain_reason reason.Blocked none = omega arith
  chain_reason reason.NotBest none = omega arith
  chain_reason reason.NotExposed none = omega arith
  chain_reason reason.RotationMissing none = omega arith
  chain_reason reason.WrongNeeds none = omega arith
  chain_reason _ none = absurd (none (tt, tt))

  -- a clause on rotations that fails is the first of all that does
  pub chain_found : (why : Reason) → IsFirstThere (RotationsHold w above x) why → IsFirstThere (WeightHolds w by above x) why
  chain_found why f = record {
    clauses_before = λ other l. to_weight other (f.clauses_before other l) (early other (let n = chain_reason why f.fails in omega (arith, l, n)));
    fails = λ h. f.fails (h.0, h.1);
  }
