use Rattle.sm_theory.proofs.Chains.NoneBelow.{none_below_all}
use Rattle.sm_theory.proofs.laws.none_below_all.Goals as goal

pub returns : goal.returns
returns c = none_below_all
