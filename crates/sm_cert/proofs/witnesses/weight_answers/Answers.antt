use Rattle.sm_cert.proofs.WeightLemmas.{weight_answers}
use Rattle.sm_cert.proofs.witnesses.weight_answers.Goals as goal

pub returns : goal.returns
returns c = weight_answers
