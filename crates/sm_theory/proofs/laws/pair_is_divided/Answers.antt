use Rattle.sm_theory.proofs.Chains.Lattice.{pair_is_divided}
use Rattle.sm_theory.proofs.laws.pair_is_divided.Goals as goal

pub returns : goal.returns
returns c = pair_is_divided
