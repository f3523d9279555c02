use Rattle.sm_theory.proofs.Chains.Rotations.{dichotomy_law}
use Rattle.sm_theory.proofs.laws.dichotomy.Goals as goal

pub returns : goal.returns
returns c = dichotomy_law
