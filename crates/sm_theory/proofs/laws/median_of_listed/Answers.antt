use Rattle.sm_theory.proofs.Medians.OfSets.{median_of_listed}
use Rattle.sm_theory.proofs.laws.median_of_listed.Goals as goal

pub returns : goal.returns
returns c = median_of_listed
