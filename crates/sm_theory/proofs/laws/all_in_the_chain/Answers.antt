use Rattle.sm_theory.proofs.Chains.Rotations.{all_in_the_chain}
use Rattle.sm_theory.proofs.laws.all_in_the_chain.Goals as goal

pub returns : goal.returns
returns c = all_in_the_chain
