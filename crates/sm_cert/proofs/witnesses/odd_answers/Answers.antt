use Rattle.sm_cert.proofs.WitnessLemmas.{odd_answers}
use Rattle.sm_cert.proofs.witnesses.odd_answers.Goals as goal

pub returns : goal.returns
returns c = odd_answers
