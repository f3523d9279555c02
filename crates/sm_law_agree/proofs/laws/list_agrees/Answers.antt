use Rattle.sm_law_agree.proofs.ListAgree.{list_agrees}
use Rattle.sm_law_agree.proofs.laws.list_agrees.Goals as goal

pub returns : goal.returns
returns c = list_agrees
