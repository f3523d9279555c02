use Rattle.sm_theory.proofs.Chains.Rotations.{nothing_exposed}
use Rattle.sm_theory.proofs.laws.nothing_exposed.Goals as goal

pub returns : goal.returns
returns c = nothing_exposed
