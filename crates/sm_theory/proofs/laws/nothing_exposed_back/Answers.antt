use Rattle.sm_theory.proofs.Chains.Rotations.{nothing_exposed_back}
use Rattle.sm_theory.proofs.laws.nothing_exposed_back.Goals as goal

pub returns : goal.returns
returns c = nothing_exposed_back
