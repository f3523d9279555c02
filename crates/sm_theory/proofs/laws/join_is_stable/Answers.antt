use Rattle.sm_theory.proofs.Chains.Lattice.{join_is_stable}
use Rattle.sm_theory.proofs.laws.join_is_stable.Goals as goal

pub returns : goal.returns
returns c = join_is_stable
