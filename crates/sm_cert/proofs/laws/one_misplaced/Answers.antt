use Rattle.sm_cert.proofs.JudgedLaws.{one_misplaced}
use Rattle.sm_cert.proofs.laws.one_misplaced.Goals as goal

pub returns : goal.returns
returns c = one_misplaced
