use Rattle.sm_cert.proofs.WitnessLemmas.{first_isnt_best}
use Rattle.sm_cert.proofs.witnesses.first_isnt_best.Goals as goal

pub returns : goal.returns
returns c = first_isnt_best
