use Rattle.sm_law_yes.proofs.ExactlyRight.{reduced_exactly}
use Rattle.sm_law_yes.proofs.laws.reduced_exactly.Goals as goal

pub returns : goal.returns
returns c = reduced_exactly c.reduced_yes.ensures c.reduced_agrees.ensures
