use Rattle.sm_theory.proofs.Chains.Rotations.{exposed_where_ready}
use Rattle.sm_theory.proofs.laws.exposed_where_ready.Goals as goal

pub returns : goal.returns
returns c = exposed_where_ready
