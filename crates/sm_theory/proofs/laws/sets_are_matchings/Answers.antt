use Rattle.sm_theory.proofs.Chains.Rotations.{sets_are_matchings}
use Rattle.sm_theory.proofs.laws.sets_are_matchings.Goals as goal

pub returns : goal.returns
returns c = sets_are_matchings
