use Rattle.sm_theory.proofs.Medians.OfSets.{one_median}
use Rattle.sm_theory.proofs.laws.one_median.Goals as goal

pub returns : goal.returns
returns c = one_median
