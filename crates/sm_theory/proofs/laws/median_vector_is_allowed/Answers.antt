use Rattle.sm_theory.proofs.Medians.OfVectors.{median_vector_is_allowed}
use Rattle.sm_theory.proofs.laws.median_vector_is_allowed.Goals as goal

pub returns : goal.returns
returns c = median_vector_is_allowed
