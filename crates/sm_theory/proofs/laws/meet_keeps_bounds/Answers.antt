use Rattle.sm_theory.proofs.Chains.Lattice.{meet_keeps_bounds}
use Rattle.sm_theory.proofs.laws.meet_keeps_bounds.Goals as goal

pub returns : goal.returns
returns c = meet_keeps_bounds
