use Rattle.sm_theory.proofs.Chains.Rotations.{best_is_unique}
use Rattle.sm_theory.proofs.laws.best_is_unique.Goals as goal

pub returns : goal.returns
returns c = best_is_unique
