use Rattle.sm_law_agree.proofs.PartiesAgree.{parties_agree}
use Rattle.sm_law_agree.proofs.laws.parties_agree.Goals as goal

pub returns : goal.returns
returns c = parties_agree
