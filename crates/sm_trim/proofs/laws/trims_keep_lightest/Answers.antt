use Rattle.sm_trim.proofs.AnswerLaws.{trims_keep_lightest}
use Rattle.sm_trim.proofs.laws.trims_keep_lightest.Goals as goal

pub returns : goal.returns
returns c = trims_keep_lightest
