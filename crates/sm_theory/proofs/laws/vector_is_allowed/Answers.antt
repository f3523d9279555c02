use Rattle.sm_theory.proofs.Medians.OfSets.{vector_is_allowed}
use Rattle.sm_theory.proofs.laws.vector_is_allowed.Goals as goal

pub returns : goal.returns
returns c = vector_is_allowed
