use Rattle.sm_theory.proofs.Medians.OfSets.{median_is_within}
use Rattle.sm_theory.proofs.laws.median_is_within.Goals as goal

pub returns : goal.returns
returns c = median_is_within
