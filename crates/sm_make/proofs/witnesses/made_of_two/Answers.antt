use Rattle.sm_make.proofs.WitnessLemmas.{made_of_two}
use Rattle.sm_make.proofs.witnesses.made_of_two.Goals as goal

pub returns : goal.returns
returns c = made_of_two
