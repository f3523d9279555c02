use Rattle.sm_law_yes.proofs.ExactlyRight.{meet_exactly}
use Rattle.sm_law_yes.proofs.laws.meet_exactly.Goals as goal

pub returns : goal.returns
returns c = meet_exactly c.meet_yes.ensures c.meet_agrees.ensures
