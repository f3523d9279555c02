use Rattle.sm_law_yes.proofs.ExactlyRight.{solve_exactly}
use Rattle.sm_law_yes.proofs.laws.solve_exactly.Goals as goal

pub returns : goal.returns
returns c = solve_exactly c.solve_yes.ensures c.solve_agrees.ensures
