use Rattle.sm_cert.proofs.JudgedLaws.{one_judgement}
use Rattle.sm_cert.proofs.laws.one_judgement.Goals as goal

pub returns : goal.returns
returns c = one_judgement
