use Rattle.sm_theory.proofs.Chains.Lattice.{meet_is_stable}
use Rattle.sm_theory.proofs.laws.meet_is_stable.Goals as goal

pub returns : goal.returns
returns c = meet_is_stable
