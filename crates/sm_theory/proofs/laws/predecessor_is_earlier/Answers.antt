use Rattle.sm_theory.proofs.Chains.Rotations.{predecessor_is_earlier}
use Rattle.sm_theory.proofs.laws.predecessor_is_earlier.Goals as goal

pub returns : goal.returns
returns c = predecessor_is_earlier
