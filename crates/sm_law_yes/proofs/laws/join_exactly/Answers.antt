use Rattle.sm_law_yes.proofs.ExactlyRight.{join_exactly}
use Rattle.sm_law_yes.proofs.laws.join_exactly.Goals as goal

pub returns : goal.returns
returns c = join_exactly c.join_yes.ensures c.join_agrees.ensures
