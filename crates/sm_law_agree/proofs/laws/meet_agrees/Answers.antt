use Rattle.sm_law_agree.proofs.ChosenAgree.{meet_agrees}
use Rattle.sm_law_agree.proofs.laws.meet_agrees.Goals as goal

pub returns : goal.returns
returns c = meet_agrees
