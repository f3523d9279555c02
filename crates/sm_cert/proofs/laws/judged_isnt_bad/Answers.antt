use Rattle.sm_cert.proofs.JudgedLaws.{judged_isnt_bad}
use Rattle.sm_cert.proofs.laws.judged_isnt_bad.Goals as goal

pub returns : goal.returns
returns c = judged_isnt_bad
