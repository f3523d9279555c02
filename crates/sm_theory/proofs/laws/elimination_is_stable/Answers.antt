use Rattle.sm_theory.proofs.Chains.Rotations.{elimination_is_stable}
use Rattle.sm_theory.proofs.laws.elimination_is_stable.Goals as goal

pub returns : goal.returns
returns c = elimination_is_stable
